-- A pair of words that a table finds stands in one of its rows. The checker takes a law's proof from specs/.
use Rattle.std.specs.Prelude.{◌≡◌, ℕ, zero, suc, ◌==◌, true, ◌&&◌, List, [], ◌∷◌, Some, None, Option, slice_index_or}
use Rattle.std.proofs.Common.{ap, arith}
use Rattle.std.proofs.lemmas.Bool.Decides.{nat_tests}
use Rattle.std.specs.Option.{option_map}
use Rattle.lookup.specs.declared.words.Words.{Words}
use Rattle.lookaside.specs.declared.row.Entry.{Entry}
use Rattle.lookaside.specs.declared.row.Row.{Row}
use Rattle.lookaside.specs.Rows.{empty_row, full_row, matches, matches_entry, answer_of, first_answer, row_answer, HasPair}

same_words : (k j : Words) → (k.first == j.first && k.second == j.second) ≡ true → k ≡ j
same_words k j e = grind (arith, nat_tests)

-- a row that matches a key and has an answer
full_entry : (o : Option Entry) (k a : Words) → matches_entry k o ≡ true → option_map (λ e. e.answer) o ≡ Some a → o ≡ Some (record { key = k; answer = a })
full_entry None k a e f = absurd cc
full_entry (Some o) k a e f = let key = same_words o.key k e in let answer : o.answer ≡ a = cc in ap (λ p. Some p) (λ i. record { key = key i; answer = answer i })

pub full : (r : Row) (k a : Words) → matches k r ≡ true → answer_of r ≡ Some a → r ≡ full_row k a
full r k a e f = λ i. record { entry = full_entry r.entry k a e f i }

row_found : (r : Row) (k a : Words) → row_answer r k ≡ Some a → r ≡ full_row k a
row_found r k a e = let known = full r k a in grind (arith, nat_tests, known)

later : (r : Row) (rows : List Row) (k a : Words) → HasPair rows k a → HasPair (r ∷ rows) k a
later r rows k a (i, within, here) = (suc i, omega arith, here)

-- a row at any place, past the last an empty one
pub at_found : (rows : List Row) (i : ℕ) (k a : Words) → row_answer (slice_index_or rows i empty_row) k ≡ Some a → HasPair rows k a
at_found [] i k a f = absurd cc
at_found (r ∷ rows) zero k a f = (0, omega arith, row_found r k a f)
at_found (r ∷ rows) (suc i) k a f = later r rows k a (at_found rows i k a f)

-- the first of several
pub first_found : (rows : List Row) (k a : Words) → first_answer rows k ≡ Some a → HasPair rows k a
first_found [] k a f = absurd cc
first_found (r ∷ rows) k a f =
    let known = full r k a in
    let here : r ≡ full_row k a → HasPair (r ∷ rows) k a = λ e. (0, omega arith, e) in
    let rest = λ (g : first_answer rows k ≡ Some a). later r rows k a (first_found rows k a g) in
    grind (arith, nat_tests, known, here, rest)
