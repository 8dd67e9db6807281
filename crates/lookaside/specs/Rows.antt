-- Rows of words, and what is found in them.
use Rattle.std.specs.Prelude.{◌≡◌, ◌≢◌, ℕ, ◌<◌, ◌%◌, Bool, false, cond, ◌&&◌, List, length, slice_index_or, Some, None, Option, ◌==◌, bit_xor, find}
use Rattle.std.specs.List.{Contains}
use Rattle.std.specs.Option.{option_map, option_and_then}
use Rattle.lookup.specs.declared.words.Words.{Words}
use Rattle.lookaside.specs.declared.row.Entry.{Entry}
use Rattle.lookaside.specs.declared.row.Row.{Row}

abbrev pub empty_row : Row
empty_row = record { entry = None }

abbrev pub full_row : Words → Words → Row
full_row k a = record { entry = Some (record { key = k; answer = a }) }

-- an empty row matches no key
abbrev pub matches_entry : Words → Option Entry → Bool
matches_entry k None = false
matches_entry k (Some e) = e.key.first == k.first && e.key.second == k.second

abbrev pub matches : Words → Row → Bool
matches k r = matches_entry k r.entry

-- the answer of one row, whatever its key
abbrev pub answer_of : Row → Option Words
answer_of r = option_map (λ e. e.answer) r.entry

-- the answer of one row, where it matches
abbrev pub row_answer : Row → Words → Option Words
row_answer r k = cond (matches k r) (answer_of r) None

-- the answer of the first row that matches, from row 0 up
abbrev pub first_answer : List Row → Words → Option Words
first_answer rows k = option_and_then answer_of (find (matches k) rows)

-- the first row with an answer for a key, and that answer: no row before it has one for this key
pub record FirstRow (rows : List Row) (k a : Words) : Type 0 where
  pub row : ℕ
  pub within : row < length rows
  pub pair : slice_index_or rows row empty_row ≡ full_row k a
  pub none_before : (i : ℕ) (b : Words) → i < row → slice_index_or rows i empty_row ≢ full_row k b

-- some row holds this pair of words
abbrev pub HasPair : List Row → Words → Words → Type 0
HasPair rows k a = Contains rows (full_row k a)

-- the rows of each table
abbrev pub round_robin_rows : ℕ
round_robin_rows = 32

abbrev pub direct_rows : ℕ
direct_rows = 64

-- the direct row of a key: the last six bits of the exclusive-or of its words
abbrev pub direct_row : Words → ℕ
direct_row k = bit_xor k.first k.second % direct_rows
