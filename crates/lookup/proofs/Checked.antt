-- Single steps of a walk.
use Rattle.std.proofs.Common.{◌≡◌, ℕ, Bool, true, false, List, Ok, Option, Result, sym, ap, ◌∙◌, subst, append-nil, arith}
use Rattle.arch.specs.declared.condition.Condition.{Condition}
use Rattle.arch.specs.Walks.{Walks, answers, read, check}
use Rattle.lookup.specs.Checks.{checked}

-- a tested condition, its test by another term for the same: it reads nothing
pub check_step : {limit : ℕ} {word : ℕ → Option ℕ} {trace : List ℕ} {r : Result (Unit {0}) Condition} (c : Condition) (t : Bool) {b : Bool} → r ≡ checked c t → t ≡ b → Walks 0 limit word (check c b) trace trace r
check_step {limit} {word} {trace} {r} c t {b} e same = by b (e ∙ ap (checked c) same)
  where
    by : (b : Bool) → r ≡ checked c b → Walks 0 limit word (check c b) trace trace r
    by true e = record { gives = record { result = e; trace = sym (append-nil _); few = omega arith } }
    by false e = record { gives = record { result = e; trace = sym (append-nil _); few = omega arith } }

-- a read at another term for the same address
pub read_at : {limit : ℕ} {word : ℕ → Option ℕ} {before after : List ℕ} {r : Result ℕ Condition} {at same : ℕ} → at ≡ same → Walks 1 limit word (read at) before after r → Walks 1 limit word (read same) before after r
read_at {limit} {word} {before} {after} {r} e w = subst (λ a. Walks 1 limit word (read a) before after r) e w

-- an answer as a step of a walk: it reads nothing
pub answer_step : {A : Type 0} {limit : ℕ} {word : ℕ → Option ℕ} {trace : List ℕ} {a b : A} → a ≡ b → Walks 0 limit word (answers b) trace trace (Ok a)
answer_step e = record { gives = record { result = ap Ok e; trace = sym (append-nil _); few = omega arith } }
