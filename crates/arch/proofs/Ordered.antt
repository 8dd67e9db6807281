-- Steps in order: the rows of a step, then those of the next.
use Rattle.std.proofs.Common.{◌≡◌, ℕ, Bool, true, false, cond, not, ◌||◌, ltb, List, [], ◌∷◌, ◌++◌, is_some, Some, None, Option, unwrap_or, refl, ap, ◌∙◌}
use Rattle.arch.specs.declared.condition.Condition.{Condition}
use Rattle.arch.specs.declared.condition.Condition.TheVariants.{Addressing}
use Rattle.arch.specs.Order.{Row, row, first_of, verdict, Ordered, value, missing}
use Rattle.arch.specs.Walks.{Walk, answers, reads, ◌>>=◌, read, check, Traced, reading, over, onward, then, given}
use Rattle.arch.proofs.Walks.{over_then}

-- the rows of two steps
pub ordered_then : {A B : Type 0} (s : Traced A) (k : A → Traced B) (rows more : List Row) (a : A) (b : B) → Ordered rows a s.result → Ordered more b (k a).result → Ordered (rows ++ more) b (then s k).result
ordered_then {A} {B} s k rows more a b p q = ap (λ o. (onward s.trace o k).result) p ∙ by rows
  where
    test : (r : Row) (t : Bool) (o n : Option Condition) → (onward s.trace (verdict o a) k).result ≡ verdict n b → (onward s.trace (verdict (cond t (Some r.condition) o) a) k).result ≡ verdict (cond t (Some r.condition) n) b
    test r true o n h = refl
    test r false o n h = h

    by : (rs : List Row) → (onward s.trace (verdict (first_of rs) a) k).result ≡ verdict (first_of (rs ++ more)) b
    by [] = q
    by (r ∷ rs) = test r r.applies (first_of rs) (first_of (rs ++ more)) (by rs)

module _ (limit : ℕ) (word : ℕ → Option ℕ) where
  pub ordered_on : {A B : Type 0} (w : Walk A) (k : A → Walk B) (rows more : List Row) (a : A) (b : B) → Ordered rows a (over limit word w).result → Ordered more b (over limit word (k a)).result → Ordered (rows ++ more) b (over limit word (w >>= k)).result
  ordered_on w k rows more a b p q = ap (λ s. s.result) (over_then limit word w k) ∙ ordered_then (over limit word w) (λ x. over limit word (k x)) rows more a b p q

  pub ordered_check : (c : Condition) (t : Bool) → Ordered (row c t ∷ []) tt (over limit word (check c t)).result
  ordered_check c true = refl
  ordered_check c false = refl

  pub ordered_read : (at : ℕ) → Ordered (row Addressing (missing limit word at) ∷ []) (value word at) (over limit word (read at)).result
  ordered_read at = by (ltb at limit) (word at)
    where
      by : (t : Bool) (o : Option ℕ) → (reading at t o given).result ≡ verdict (first_of (row Addressing (not t || not (is_some o)) ∷ [])) (unwrap_or o 0)
      by false None = refl
      by false (Some v) = refl
      by true None = refl
      by true (Some v) = refl

-- the same of a walk, with what it is over and its rows in sight
pub record InOrder {A : Type 0} (limit : ℕ) (word : ℕ → Option ℕ) (w : Walk A) (rows : List Row) (a : A) : Type 0 where
  pub ordered : Ordered rows a (over limit word w).result

module _ {limit : ℕ} {word : ℕ → Option ℕ} where
  pub answered : {A : Type 0} {a : A} → InOrder limit word (answers a) [] a
  answered = record { ordered = refl }

  pub check_first : {B : Type 0} {c : Condition} {t : Bool} {w : Walk B} {rows : List Row} {b : B} → InOrder limit word w rows b → InOrder limit word (check c t >>= (λ _. w)) (row c t ∷ rows) b
  check_first {B} {c} {t} {w} {rows} {b} p = record { ordered = ordered_on limit word (check c t) (λ _. w) (row c t ∷ []) rows tt b (ordered_check limit word c t) p.ordered }

  pub last_check : (c : Condition) (t : Bool) → InOrder limit word (check c t) (row c t ∷ []) tt
  last_check c t = record { ordered = ordered_check limit word c t }

  pub read_first : {B : Type 0} {at : ℕ} {k : ℕ → Walk B} {rows : List Row} {b : B} → InOrder limit word (k (value word at)) rows b → InOrder limit word (reads at k) (row Addressing (missing limit word at) ∷ rows) b
  read_first {B} {at} {k} {rows} {b} p = record { ordered = ordered_on limit word (read at) k (row Addressing (missing limit word at) ∷ []) rows (value word at) b (ordered_read limit word at) p.ordered }

  pub part_first : {A B : Type 0} {w : Walk A} (k : A → Walk B) {rows more : List Row} {a : A} {b : B} → InOrder limit word w rows a → InOrder limit word (k a) more b → InOrder limit word (w >>= k) (rows ++ more) b
  part_first {A} {B} {w} k {rows} {more} {a} {b} p q = record { ordered = ordered_on limit word w k rows more a b p.ordered q.ordered }
