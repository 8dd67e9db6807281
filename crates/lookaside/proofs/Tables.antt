-- What the rows of a table hold and what is found in them, first row, written row and empty rows.
use Rattle.std.proofs.Common.{◌≡◌, ℕ, zero, suc, ◌<◌, Bool, true, false, List, [], ◌∷◌, length, replicate, slice_index_or, slice_set, is_some, Some, None, Option, refl, ap, arith}
use Rattle.std.proofs.lemmas.Bool.Decides.{nat_tests}
use Rattle.std.proofs.lemmas.List.Elements.{All-contains, All-replicate}
use Rattle.lookup.specs.declared.words.Words.{Words}
use Rattle.std.specs.Option.{option_map}
use Rattle.lookaside.specs.declared.row.Entry.{Entry}
use Rattle.lookaside.specs.declared.row.Row.{Row}
use Rattle.lookaside.specs.Found.{full}
use Rattle.lookaside.specs.Rows.{empty_row, full_row, matches, matches_entry, first_answer, FirstRow, HasPair}

pub no_pairs : (n : ℕ) {rows : List Row} → rows ≡ replicate n empty_row → (k a : Words) → HasPair rows k a → ⊥
no_pairs n {rows} same k a has =
    let empty = ap (λ (r : Row). r.entry) (All-contains (λ r. r ≡ empty_row) (replicate n empty_row) (full_row k a) (All-replicate (λ r. r ≡ empty_row) n empty_row refl) (rw same at has)) in
    absurd cc

-- what is never some answer is none
pub none_found : (found : Option Words) → ((a : Words) → found ≡ Some a → ⊥) → found ≡ None
none_found None never = refl
none_found (Some a) never = absurd (never a refl)

-- a row that matches has an answer
entry_answers : (o : Option Entry) (k : Words) → matches_entry k o ≡ true → is_some (option_map (λ e. e.answer) o) ≡ true
entry_answers None k e = absurd cc
entry_answers (Some o) k e = refl

-- the pair written at a row is the first found, where none was
pub first_noted : (rows : List Row) (i : ℕ) (k a : Words) → i < length rows → first_answer rows k ≡ None → first_answer (slice_set rows i (full_row k a)) k ≡ Some a
first_noted [] i k a within none = absurd (omega arith)
first_noted (r ∷ rows) zero k a within none = grind (arith, nat_tests)
first_noted (r ∷ rows) (suc i) k a within none =
    let answers = entry_answers r.entry k in
    let rest = first_noted rows i k a in
    grind (arith, nat_tests, answers, rest)

-- a row that does not match holds no pair for the key
missed : (r : Row) (k b : Words) → matches k r ≡ false → r ≡ full_row k b → ⊥
missed r k b misses here =
    let hits : matches k (full_row k b) ≡ true = grind (arith, nat_tests) in
    let hits_here : matches k r ≡ true = rw here hits in
    absurd cc

later_first : (r : Row) (rows : List Row) (k a : Words) → matches k r ≡ false → FirstRow rows k a → FirstRow (r ∷ rows) k a
later_first r rows k a misses f = record { row = suc f.row; within = omega (arith, f.within); pair = f.pair; none_before = before }
  where
    before : (i : ℕ) (b : Words) → i < suc f.row → slice_index_or (r ∷ rows) i empty_row ≡ full_row k b → ⊥
    before zero b within here = missed r k b misses here
    before (suc i) b within here = f.none_before i b (omega (arith, within)) here

-- an answer found is that of the first row that has one for the key
pub first_row : (rows : List Row) (k a : Words) → first_answer rows k ≡ Some a → FirstRow rows k a
first_row [] k a e = absurd cc
first_row (r ∷ rows) k a e = by (matches k r) refl (first_row rows k a)
  where
    by : (m : Bool) → matches k r ≡ m → (first_answer rows k ≡ Some a → FirstRow rows k a) → FirstRow (r ∷ rows) k a
    by true hits hyp = record { row = 0; within = omega arith; pair = full r k a hits (grind (arith, nat_tests)); none_before = λ i b before here. absurd (omega (arith, before)) }
    by false misses hyp = later_first r rows k a misses (hyp (grind (arith, nat_tests)))

-- where nothing is found, no row has an answer for the key
pub no_row : (rows : List Row) (k : Words) → first_answer rows k ≡ None → (a : Words) → HasPair rows k a → ⊥
no_row [] k e a (i, within, here) = absurd (omega (arith, within))
no_row (r ∷ rows) k e a (zero, within, here) =
    let answers = entry_answers r.entry k in
    missed r k a (grind (arith, nat_tests, answers)) here
no_row (r ∷ rows) k e a (suc i, within, here) =
    let answers = entry_answers r.entry k in
    no_row rows k (grind (arith, nat_tests, answers)) a (i, omega (arith, within), here)
