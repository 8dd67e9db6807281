-- A storage of zeros but for a few doublewords, and what a lookup over it comes to.
use Rattle.std.specs.Prelude.{◌≡◌, ℕ, ◌-◌, ◌^◌, cond, List, [], ◌∷◌, Some, Ok, Err, Option, ◌==◌}
use Rattle.arch.specs.Walks.{Traced}
use Rattle.arch.specs.declared.condition.Condition.{Condition}

-- the doubleword in which bit n alone is one
abbrev pub only : ℕ → ℕ
only n = 2 ^ (63 - n)

-- the doubleword in which bit n alone is zero
abbrev pub all_but : ℕ → ℕ
all_but n = 0xffffffffffffffff - only n

-- a storage whose doublewords, all present, are zero but for these, by address and value
abbrev pub zeros_but : List (ℕ × ℕ) → ℕ → Option ℕ
zeros_but [] a = Some 0
zeros_but (w ∷ ws) a = cond (w.0 == a) (Some w.1) (zeros_but ws a)

-- a lookup that is completed, and one in which a condition is recognized, after these reads
abbrev pub completed : {A : Type 0} → A → List ℕ → Traced A
completed a reads = record { result = Ok a; trace = reads }

abbrev pub recognized : {A : Type 0} → Condition → List ℕ → Traced A
recognized c reads = record { result = Err c; trace = reads }

-- bits are numbered from 0, from left to right
pub record BitNumbers : Type 0 where
  pub bit_0 : only 0 ≡ 0x8000000000000000
  pub bit_31 : only 31 ≡ 0x0000000100000000
  pub bit_32 : only 32 ≡ 0x0000000080000000
  pub bit_63 : only 63 ≡ 0x0000000000000001
