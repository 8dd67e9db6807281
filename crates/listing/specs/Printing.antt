-- What a listing says of the outcomes of calls.
use Rattle.std.specs.Prelude.{ℕ, ◌+◌, false, List, [], ◌∷◌, ◌++◌, Ok, Err, codes, decimal, Result}
use Rattle.std.specs.Fmt.{digits}
use Rattle.arch.specs.declared.condition.Condition.{Condition}
use Rattle.lines.specs.Refusals.{numbered, refusal_line}
use Rattle.machine.specs.declared.request.Outcome.{Outcome}
use Rattle.machine.specs.declared.request.Outcome.TheVariants as outcome

-- of a translation that asked for this many doublewords
abbrev pub translation_line : ℕ → Result ℕ Condition → ℕ → List ℕ
translation_line n (Ok real) count = numbered n (codes "R" ∷ digits 16 false real ∷ decimal count ∷ [])
translation_line n (Err met) count = refusal_line n met count

-- of the call on line n; a load or a new prefix that is done goes without saying, and no line of a text makes a fetch
-- or a store
abbrev pub outcome_line : ℕ → Outcome → List ℕ
outcome_line n (outcome.Loaded (Ok done)) = []
outcome_line n (outcome.Loaded (Err met)) = refusal_line n met 0
outcome_line n (outcome.Translated counted) = translation_line n counted.result counted.count
outcome_line n (outcome.Put (Ok done)) = numbered n (codes "W" ∷ [])
outcome_line n (outcome.Put (Err met)) = refusal_line n met 0
outcome_line n outcome.Purged = numbered n (codes "Z" ∷ [])
outcome_line n (outcome.Fetched counted) = []
outcome_line n (outcome.Stored counted) = []

-- of calls on one line after another, the first of them on line n
abbrev pub listing_of : ℕ → List Outcome → List ℕ
listing_of n [] = []
listing_of n (o ∷ os) = outcome_line n o ++ listing_of (n + 1) os
