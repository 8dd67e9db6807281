-- A table lookup as a tree of reads, apart from any storage, and what comes of it over one.
use Rattle.std.specs.Prelude.{◌≡◌, ℕ, ◌≤◌, Bool, true, false, List, [], ◌∷◌, ◌++◌, length, Some, None, Ok, Err, Option, Result, nat_lt}
use Rattle.std.specs.List.{AllByRecursion}
use Rattle.arch.specs.declared.condition.Condition.{Condition}
use Rattle.arch.specs.declared.condition.Condition.TheVariants.{Addressing}

infixl 20 ◌>>=◌
infixl 20 ◌>>◌
-- a lookup answers, meets a condition, or reads the doubleword at an address and goes on by its value
pub data Walk (A : Type 0) : Type 0 where
  answers : A → Walk A
  raises : Condition → Walk A
  reads : ℕ → (ℕ → Walk A) → Walk A

abbrev pub ◌>>=◌ : {A B : Type 0} → Walk A → (A → Walk B) → Walk B
◌>>=◌ (answers a) k = k a
◌>>=◌ (raises c) k = raises c
◌>>=◌ (reads at next) k = reads at (λ v. next v >>= k)

abbrev pub ◌>>◌ : {A B : Type 0} → Walk A → Walk B → Walk B
◌>>◌ w next = w >>= (λ _. next)

-- the value of one doubleword
abbrev pub read : ℕ → Walk ℕ
read at = reads at answers

-- a condition that is met where the test says so
abbrev pub check : Condition → Bool → Walk (Unit {0})
check c true = raises c
check c false = answers tt

-- what came of a walk, and the addresses that it asked for, in order
pub record Traced (A : Type 0) : Type 0 where
  pub result : Result A Condition
  pub trace : List ℕ

abbrev pub given : {A : Type 0} → A → Traced A
given a = record { result = Ok a; trace = [] }

abbrev pub refused : {A : Type 0} → Condition → Traced A
refused c = record { result = Err c; trace = [] }

-- an address asked for before the rest
abbrev pub asking : {A : Type 0} → ℕ → Traced A → Traced A
asking at s = record { result = s.result; trace = at ∷ s.trace }

-- A walk over the doublewords of a storage. An address that reaches the limit is not asked for; an absent
-- doubleword is.
abbrev pub reading : {A : Type 0} → ℕ → Bool → Option ℕ → (ℕ → Traced A) → Traced A
reading at false v next = refused Addressing
reading at true None next = asking at (refused Addressing)
reading at true (Some v) next = asking at (next v)

abbrev pub over : {A : Type 0} → ℕ → (ℕ → Option ℕ) → Walk A → Traced A
over limit word (answers a) = given a
over limit word (raises c) = refused c
over limit word (reads at next) = reading at (nat_lt at limit) (word at) (λ v. over limit word (next v))

-- one after the other: the second goes on from the answer of the first
abbrev pub onward : {A B : Type 0} → List ℕ → Result A Condition → (A → Traced B) → Traced B
onward trace (Ok a) k = record { result = (k a).result; trace = trace ++ (k a).trace }
onward trace (Err c) k = record { result = Err c; trace = trace }

abbrev pub then : {A B : Type 0} → Traced A → (A → Traced B) → Traced B
then s k = onward s.trace s.result k

-- What a step of a lookup gave: that result, and those addresses, at most so many, at the end of the trace.
pub record Gives {A : Type 0} (most : ℕ) (t : Traced A) (before after : List ℕ) (r : Result A Condition) : Type 0 where
  pub result : r ≡ t.result
  pub trace : after ≡ before ++ t.trace
  pub few : length t.trace ≤ most

-- The same of a walk over the doublewords of a storage.
pub record Walks {A : Type 0} (most limit : ℕ) (word : ℕ → Option ℕ) (w : Walk A) (before after : List ℕ) (r : Result A Condition) : Type 0 where
  pub gives : Gives most (over limit word w) before after r

-- two storages have the same doublewords at each of these addresses
abbrev pub Agree : (ℕ → Option ℕ) → (ℕ → Option ℕ) → List ℕ → Type 0
Agree one other list = AllByRecursion (λ a. one a ≡ other a) list

-- A lookup sees no more than it lists: over any storage with the same doublewords there it comes to the same
-- result and the same list.
abbrev pub SeesOnlyItsTrace : {A : Type 0} → ((ℕ → Option ℕ) → Traced A) → Type 0
SeesOnlyItsTrace fresh = (word other : ℕ → Option ℕ) → Agree word other (fresh word).trace → fresh other ≡ fresh word
