-- Conditions in order: the first that applies is what a lookup or a translation comes to.
use Rattle.std.specs.Prelude.{◌≡◌, ℕ, Bool, cond, not, ◌||◌, List, [], ◌∷◌, is_some, Some, None, Ok, Err, Option, Result, nat_lt}
use Rattle.std.specs.Option.{unwrap_or}
use Rattle.arch.specs.declared.condition.Condition.{Condition}

-- a row of a table of conditions
pub record Row : Type 0 where
  pub condition : Condition
  pub applies : Bool

abbrev pub row : Condition → Bool → Row
row c b = record { condition = c; applies = b }

-- the condition of the first row that applies
abbrev pub first_of : List Row → Option Condition
first_of [] = None
first_of (r ∷ rs) = cond r.applies (Some r.condition) (first_of rs)

-- the answer where no condition applies, else that condition
abbrev pub verdict : {A : Type 0} → Option Condition → A → Result A Condition
verdict None a = Ok a
verdict (Some c) a = Err c

-- what is met comes to the answer exactly where no row applies, else to the first that does
abbrev pub Ordered : {A : Type 0} → List Row → A → Result A Condition → Type 0
Ordered rows a r = r ≡ verdict (first_of rows) a

-- the value of a doubleword, 0 where it is absent: a row that reads it stands after the one that tests
-- whether it is there
abbrev pub value : (ℕ → Option ℕ) → ℕ → ℕ
value word at = unwrap_or (word at) 0

-- an address that reaches the limit, or whose doubleword is absent
abbrev pub missing : ℕ → (ℕ → Option ℕ) → ℕ → Bool
missing limit word at = not (nat_lt at limit) || not (is_some (word at))
