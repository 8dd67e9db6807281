-- What the functions that write leave in the buffer that is lent, and which run is refused.
use Rattle.std.specs.Prelude.{◌≡◌, ℕ, ◌+◌, ◌-◌, ◌^◌, ◌≤◌, ◌⊎◌, List, ◌++◌, length, min, take, drop, MatchBool, nat_lt}
use Rattle.arch.specs.declared.condition.Condition.{Condition}
use Rattle.arch.specs.declared.condition.Condition.TheVariants.{TooMuch, BadText}
use Rattle.runtext.specs.declared.Counts.{Counts}
use Rattle.runtext.specs.declared.Refusal.{Refusal}
use Rattle.runtext.specs.declared.line.Line.{Line}
use Rattle.runtext.specs.declared.places.Places.{Places}
use Rattle.runtext.specs.declared.text.Text.{Text}
use Rattle.runtext.specs.Lines.{kind_of, Sound}
use Rattle.runtext.specs.Passes.{SamePlaces, Left}
use Rattle.runtext.specs.Runs.{Run, Within, spell, counts, run_in, Spellable, Spells}
use Rattle.runtext.specs.Verdicts.{Full, Refused}

-- these bytes stand from `at` to `end`, and the others are as they were
pub record Laid (at : ℕ) (bytes before after : List ℕ) (end : ℕ) : Type 0 where
  pub ends : end ≡ at + length bytes
  pub text : after ≡ take at before ++ (bytes ++ drop end before)

-- a text after these bytes were added: it is longer by so many, and where its buffer has room for them, they stand there after what it had
pub record Adds (bytes : List ℕ) (before after : Text) : Type 0 where
  pub size : after.length ≡ min (before.length + length bytes) (2 ^ 64 - 1)
  pub same : after.buffer.ghost_name ≡ before.buffer.ghost_name
  pub room : length after.buffer.now ≡ length before.buffer.now
  pub laid : before.length + length bytes ≤ length before.buffer.now → Laid before.length bytes before.buffer.now after.buffer.now after.length

-- why this line may not come after those found
abbrev pub Faulty : Counts → Counts → Line → Condition → Type 0
Faulty p found l c = ((c ≡ TooMuch) × Full p found (kind_of l)) ⊎ ((c ≡ BadText) × (Full p found (kind_of l) → ⊥) × (Sound l → ⊥))

-- the refusal of a text that has to go into a buffer of this many bytes, given places for a run: for want of bytes first, on line 1, and then as reading refuses it
abbrev pub RefusedIn : ℕ → Counts → List ℕ → Refusal → Type 0
RefusedIn room p text e = MatchBool (nat_lt room (length text)) ((e.condition ≡ TooMuch) × (e.line ≡ 1)) (Refused p text e)

-- the refusal of a run by the writer: that of the text that it spells, given a place for each of its records
-- So a text that is too long, for the buffer or for the limit, is refused before all else, on line 1. Any other is refused on the first line that no run has after those before it, and there for the limit of its sort before what the line holds.
abbrev pub Unwritten : ℕ → Run → Refusal → Type 0
Unwritten room r e = RefusedIn room (counts r) (spell r) e

-- the buffer after a run was written into it: its first n bytes are the run's text, and the others are as they were
pub record Written (r : Run) (before after : List ℕ) (n : ℕ) : Type 0 where
  pub spellable : Spellable r
  pub long : n ≡ length (spell r)
  pub within : n ≤ length after
  pub text : take n after ≡ spell r
  pub rest : drop n after ≡ drop n before

-- there is a place for each record of a run
abbrev pub HasPlaces : Counts → Run → Type 0
HasPlaces p r = Within (counts r) p

-- the round trip of a run: wherever there are places for it, this text says it, and it alone
abbrev pub ReadsBack : Run → List ℕ → Type 0
ReadsBack r text = (p : Counts) → HasPlaces p r → Spells p text r × ((q : Run) → Spells p text q → q ≡ r)

-- the buffer after a text was read and written out again: its first n bytes are that text, and the others are as they were
pub record Reopened (text before after : List ℕ) (n : ℕ) : Type 0 where
  pub long : n ≡ length text
  pub within : n ≤ length after
  pub same : take n after ≡ text
  pub rest : drop n after ≡ drop n before

-- the places after a run was written out and read again: the first n of them have that run, and the others are as they were
pub record Restored (r : Run) (p p' : Places) (n : Counts) : Type 0 where
  pub counted : n ≡ counts r
  pub same : run_in p' n ≡ r
  pub lent : SamePlaces p p'
  pub left : Left n p p'
