-- Which text is refused, on which line and why.
use Rattle.std.specs.Prelude.{◌≡◌, ℕ, ◌+◌, ◌<◌, ◌≤◌, min, cond, ◌||◌, ◌⊎◌, List, [], ◌∷◌, ◌++◌, length, MatchBool, ◌==◌, ◌≢◌, nat_lt}
use Rattle.arch.specs.declared.condition.Condition.{Condition}
use Rattle.arch.specs.declared.condition.Condition.TheVariants.{TooMuch, BadText}
use Rattle.runtext.specs.declared.Counts.{Counts}
use Rattle.runtext.specs.declared.Refusal.{Refusal}
use Rattle.runtext.specs.declared.line.Kind.{Kind}
use Rattle.runtext.specs.declared.line.Kind.TheVariants as kind
use Rattle.runtext.specs.Lines.{tab, line_end, letter}
use Rattle.runtext.specs.Reading.{Lacks}
use Rattle.runtext.specs.Runs.{Run, lines, spell, counts, Readable, word_limit, key_limit, byte_limit}

-- after these lines no place is left for one of this kind
abbrev pub Full : Counts → Counts → Kind → Type 0
Full p found kind.Doubleword = min word_limit p.words ≤ found.words
Full p found kind.Key = min key_limit p.keys ≤ found.keys
Full p found (kind.Call v) = p.calls ≤ found.calls

-- after these lines one of this kind comes too late
abbrev pub Late : Counts → Kind → Type 0
Late found kind.Doubleword = 0 < found.keys + found.calls
Late found kind.Key = 0 < found.calls
Late found (kind.Call v) = ⊥

-- after these lines one of this kind may come
abbrev pub Goes : Counts → Counts → Kind → Type 0
Goes p found k = (Full p found k → ⊥) × (Late found k → ⊥)

-- the bytes before the first tab or line end
abbrev pub first_field : List ℕ → List ℕ
first_field [] = []
first_field (b ∷ bs) = cond (b == tab || b == line_end) [] (b ∷ first_field bs)

-- the first line, with its end if it has one
abbrev pub first_line : List ℕ → List ℕ
first_line [] = []
first_line (b ∷ bs) = b ∷ cond (b == line_end) [] (first_line bs)

-- this first field names a kind for which no place is left
abbrev pub Overfull : Counts → Counts → List ℕ → Type 0
Overfull p found field = (k : Kind) × (letter k ∷ [] ≡ field) × Full p found k

-- why a line with this first field is refused
abbrev pub Blames : Counts → Counts → List ℕ → Condition → Type 0
Blames p found field c = ((c ≡ TooMuch) × Overfull p found field) ⊎ ((c ≡ BadText) × (Overfull p found field → ⊥))

abbrev pub no_lines : Counts
no_lines = record { words = 0; keys = 0; calls = 0 }

-- what stands before line n: nothing, or the text of a run
abbrev pub Before : Counts → List ℕ → Counts → ℕ → Type 0
Before p front found n =
    ((front ≡ []) × (found ≡ no_lines) × (n ≡ 1))
    ⊎ ((r : Run) × Readable p r × (spell r ≡ front) × (found ≡ counts r) × (n ≡ length (lines r) + 2))

-- the first bad line: what stands before it is nothing or the text of a run, with it no run has that text, and no run's text begins so either, unless the line lacks its end
pub record BadLine (p : Counts) (text : List ℕ) (e : Refusal) : Type 0 where
  pub front : List ℕ
  pub rest : List ℕ
  pub found : Counts
  pub split : front ++ rest ≡ text
  pub before : Before p front found e.line
  pub breaks : (r : Run) → Readable p r → spell r ≢ front ++ first_line rest
  pub begins : (r : Run) (more : List ℕ) → Readable p r → (Lacks line_end (first_line rest) → ⊥) → spell r ≢ front ++ (first_line rest ++ more)
  pub blames : Blames p found (first_field rest) e.condition

-- P holds of no refusal but this one
abbrev pub Only : (Refusal → Type 0) → Refusal → Type 0
Only P e = (d : Refusal) → P d → d ≡ e

-- the refusal of a text
abbrev pub Refused : Counts → List ℕ → Refusal → Type 0
Refused p text e = MatchBool (nat_lt byte_limit (length text)) ((e.condition ≡ TooMuch) × (e.line ≡ 1)) (BadLine p text e)
