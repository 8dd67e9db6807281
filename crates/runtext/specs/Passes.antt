-- What the passes over a text take from it, and what they leave in the places that are lent.
use Rattle.std.specs.Prelude.{◌≡◌, ℕ, ◌+◌, List, ◌++◌, drop, Option, slice_set}
use Rattle.std.specs.Borrow.{Bor}
use Rattle.arch.specs.declared.call.Call.{Call}
use Rattle.arch.specs.declared.record.BlockKey.{BlockKey}
use Rattle.arch.specs.declared.record.Word.{Word}
use Rattle.runtext.specs.declared.Counts.{Counts}
use Rattle.runtext.specs.declared.line.Line.{Line}
use Rattle.runtext.specs.declared.line.Line.TheVariants as line
use Rattle.runtext.specs.declared.places.Places.{Places}
use Rattle.runtext.specs.Lines.{kind_of, spell_line, Sound}
use Rattle.runtext.specs.Reading.{Reads}
use Rattle.runtext.specs.Runs.{Run, counts, lent, run_in, Spells}
use Rattle.runtext.specs.Verdicts.{Goes}

-- these lines and one more
abbrev pub one_more : Counts → Line → Counts
one_more found (line.Doubleword w) = record { words = found.words + 1; keys = found.keys; calls = found.calls }
one_more found (line.Key k) = record { words = found.words; keys = found.keys + 1; calls = found.calls }
one_more found (line.Call c) = record { words = found.words; keys = found.keys; calls = found.calls + 1 }

-- a line that a text begins with and that may come after these lines, and what follows it
abbrev pub Steps : Counts → Counts → List ℕ → Option (Line × List ℕ) → Type 0
Steps p found rest o = Reads o (λ x. Sound x.0 × Goes p found (kind_of x.0)) (λ x. spell_line x.0 ++ x.1) rest

abbrev pub seen : Line × Bor (List ℕ) → Line × List ℕ
seen x = (x.0, x.1.now)

-- the same places are lent, whatever is in them
pub record SamePlaces (p p' : Places) : Type 0 where
  pub words : p'.words.ghost_name ≡ p.words.ghost_name
  pub keys : p'.keys.ghost_name ≡ p.keys.ghost_name
  pub calls : p'.calls.ghost_name ≡ p.calls.ghost_name
  pub many : lent p' ≡ lent p

-- these lists are in the places
pub record Has (p : Places) (ws : List Word) (ks : List BlockKey) (cs : List Call) : Type 0 where
  pub words : p.words.now ≡ ws
  pub keys : p.keys.now ≡ ks
  pub calls : p.calls.now ≡ cs

-- what is in the places after a line was put into its own
abbrev pub PutIn : Line → Counts → Places → Places → Type 0
PutIn (line.Doubleword w) found p p' = Has p' (slice_set p.words.now found.words w) p.keys.now p.calls.now
PutIn (line.Key k) found p p' = Has p' p.words.now (slice_set p.keys.now found.keys k) p.calls.now
PutIn (line.Call c) found p p' = Has p' p.words.now p.keys.now (slice_set p.calls.now found.calls c)

-- the places past these many are as they were
pub record Left (n : Counts) (p p' : Places) : Type 0 where
  pub words : drop n.words p'.words.now ≡ drop n.words p.words.now
  pub keys : drop n.keys p'.keys.now ≡ drop n.keys p.keys.now
  pub calls : drop n.calls p'.calls.now ≡ drop n.calls p.calls.now

-- the places after a text was read into them: n of them have the one run that the text says, and the others are as they were
pub record Filled (text : List ℕ) (p p' : Places) (n : Counts) : Type 0 where
  pub spells : Spells (lent p) text (run_in p' n)
  pub counted : n ≡ counts (run_in p' n)
  pub only : (q : Run) → Spells (lent p) text q → q ≡ run_in p' n
  pub same : SamePlaces p p'
  pub left : Left n p p'
