-- A run, the text that it spells, and the limits of one.
use Rattle.std.specs.Prelude.{◌≡◌, ℕ, ◌≤◌, List, [], ◌∷◌, ◌++◌, map, length, take, codes}
use Rattle.arch.specs.declared.call.Call.{Call}
use Rattle.arch.specs.declared.record.BlockKey.{BlockKey}
use Rattle.arch.specs.declared.record.Word.{Word}
use Rattle.std.specs.List.{flat_map, AllByRecursion}
use Rattle.runtext.specs.declared.Counts.{Counts}
use Rattle.runtext.specs.declared.line.Line.{Line}
use Rattle.runtext.specs.declared.run.Lines.{Lines}
use Rattle.runtext.specs.declared.places.Places.{Places}
use Rattle.std.specs.Slice.Iter.{iter_rest}
use Rattle.runtext.specs.declared.line.Line.TheVariants as line
use Rattle.runtext.specs.Lines.{tab, line_end, spell_line, Sound}

pub record Run : Type 0 where
  pub words : List Word
  pub keys : List BlockKey
  pub calls : List Call

-- the lines after the first
abbrev pub lines : Run → List Line
lines r = map line.Doubleword r.words ++ (map line.Key r.keys ++ map line.Call r.calls)

-- the lines that are left of a run
abbrev pub lines_left : Lines → List Line
lines_left l = lines (record { words = iter_rest l.words; keys = iter_rest l.keys; calls = iter_rest l.calls })

-- the first line
abbrev pub header : List ℕ
header = codes "RUN" ++ (tab ∷ codes "1") ++ (line_end ∷ [])

unfoldable pub spell : Run → List ℕ
spell r = header ++ flat_map spell_line (lines r)

abbrev pub word_limit : ℕ
word_limit = 1024

abbrev pub key_limit : ℕ
key_limit = 256

abbrev pub byte_limit : ℕ
byte_limit = 65536

-- a run that has a text
pub record Spellable (r : Run) : Type 0 where
  pub sound : AllByRecursion Sound (lines r)
  pub words : length r.words ≤ word_limit
  pub keys : length r.keys ≤ key_limit
  pub short : length (spell r) ≤ byte_limit

-- how many of each sort a run has
abbrev pub counts : Run → Counts
counts r = record { words = length r.words; keys = length r.keys; calls = length r.calls }

-- how many places of each sort are lent
abbrev pub lent : Places → Counts
lent p = record { words = length p.words.now; keys = length p.keys.now; calls = length p.calls.now }

-- a run that has a text, and no more of a sort than there are places
pub record Readable (p : Counts) (r : Run) : Type 0 where
  pub spellable : Spellable r
  pub words : length r.words ≤ p.words
  pub keys : length r.keys ≤ p.keys
  pub calls : length r.calls ≤ p.calls

-- there are so many places of each sort
pub record Within (n p : Counts) : Type 0 where
  pub words : n.words ≤ p.words
  pub keys : n.keys ≤ p.keys
  pub calls : n.calls ≤ p.calls

-- the run in the first places
abbrev pub run_in : Places → Counts → Run
run_in p n = record { words = take n.words p.words.now; keys = take n.keys p.keys.now; calls = take n.calls p.calls.now }

-- the run r is what this text says, and has places
abbrev pub Spells : Counts → List ℕ → Run → Type 0
Spells p text r = Readable p r × (spell r ≡ text)

-- some run with these places has this text, and none has
abbrev pub Spelt : Counts → List ℕ → Type 0
Spelt p text = (q : Run) × Spells p text q

abbrev pub Unspelt : Counts → List ℕ → Type 0
Unspelt p text = (q : Run) → Spells p text q → ⊥

-- so many bytes are enough for the text of a run
abbrev pub HasRoom : ℕ → Run → Type 0
HasRoom room r = length (spell r) ≤ room
