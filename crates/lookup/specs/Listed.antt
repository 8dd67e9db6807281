-- What an ask over places of a list leaves there.
use Rattle.std.specs.Prelude.{◌≡◌, ℕ, ◌+◌, ◌≤◌, List, ◌++◌, length, take, drop, Result}
use Rattle.arch.specs.declared.condition.Condition.{Condition}
use Rattle.arch.specs.Walks.{Traced}

-- It gave that result, and wrote those addresses, at most so many, to the places from the first unused one on, which are
-- then used; every other place is as it was.
pub record WritesList {A : Type 0} (most : ℕ) (t : Traced A) (before : List ℕ) (from : ℕ) (after : List ℕ) (to : ℕ) (r : Result A Condition) : Type 0 where
  pub result : r ≡ t.result
  pub places : after ≡ take from before ++ (t.trace ++ drop (from + length t.trace) before)
  pub used : to ≡ from + length t.trace
  pub few : length t.trace ≤ most
