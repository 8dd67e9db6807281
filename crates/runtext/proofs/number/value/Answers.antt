use Rattle.std.proofs.Common.{◌≡◌, ℕ, ◌+◌, ◌*◌, ◌<◌, ◌≤◌, List, [], ◌∷◌, ◌++◌, length, get_or, sym, ap, ◌∙◌, ⊎_elim, arith}
use Rattle.std.proofs.lemmas.List.{take_all, take_more}
use Rattle.std.proofs.lemmas.Bool.{cases_eq}
use Rattle.runtext.specs.Numerals.{hexit}
use Rattle.runtext.proofs.Numerals.{numeral_hexit, numeral_positive, digits_more, under_more, under_all}
use Rattle.runtext.proofs.number.value.Goals as goal

-- what one digit more makes of the number so far
record More (field : List ℕ) (i n d : ℕ) : Type 0 where
  small : d < 16
  spelt : hexit d ≡ get_or field i 0
  positive : 0 < n * 16 + d

more : (c : goal.After-from) → More c.args.digits.now c.loop-b.b-index c.loop-b.n c.from.result
more c =
    let is : c.from.result ≡ c.in_ok-digit.field-0 = c.from.ensures in
    let told = c.in_ok-digit.ensures in
    let spelt : hexit c.from.result ≡ get_or c.args.digits.now c.loop-b.b-index 0 = ap hexit is ∙ told.1 in
    record {
      small = omega (arith, told.0);
      spelt = spelt;
      positive = ⊎_elim
          (λ first. ⊎_elim
          (λ z. absurd (c.requires.lead (sym (ap (λ i. get_or c.args.digits.now i 0) first) ∙ sym spelt ∙ ap hexit z)))
          (λ nz. omega arith)
          (cases_eq c.from.result 0))
          (λ later. omega (arith, c.loop-b.invariant.2 (omega arith)))
          (cases_eq c.loop-b.b-index 0);
    }

pub overflow_mul-n : goal.overflow_mul-n
overflow_mul-n c = record { fits = omega (arith, under_all _ _ (under_more c.loop-b.n 0 c.loop-b.b-index c.loop-b.invariant.1 (omega arith)) (omega arith)) }

pub returns-in_err-digit : goal.returns-in_err-digit
returns-in_err-digit c = rw c.from_residual.ensures (λ n h e.
    let d = numeral_hexit n c.loop-b.b-index (omega (arith, ap length e)) in
    c.in_err-digit.ensures d.0 d.1 (d.2 ∙ ap (λ l. get_or l c.loop-b.b-index 0) e))

pub overflow_add-n : goal.overflow_add-n
overflow_add-n c = record { fits = under_all _ (c.loop-b.b-index + 1) (under_more c.loop-b.n c.from.result c.loop-b.b-index c.loop-b.invariant.1 (more c).small) (omega arith) }

pub loop-b-preserved : goal.loop-b-preserved
loop-b-preserved c =
    let m = more c in
    let bs = c.args.digits.now in
    let i = c.loop-b.b-index in (
      digits_more c.loop-b.n c.from.result m.small m.positive ∙ (λ k. c.loop-b.invariant.0 k ++ m.spelt k ∷ []) ∙ sym (take_more bs i 0 c.loop-b-test.true),
      under_more c.loop-b.n c.from.result i c.loop-b.invariant.1 m.small,
      λ _. m.positive,
    )

pub returns : goal.returns
returns c =
    let bs = c.args.digits.now in
    let whole : length bs ≤ c.loop-b.b-index = omega arith in (
      under_all c.loop-b.n c.loop-b.b-index c.loop-b.invariant.1 (omega arith),
      numeral_positive c.loop-b.n (under_all c.loop-b.n c.loop-b.b-index c.loop-b.invariant.1 (omega arith)) (c.loop-b.invariant.2 (omega arith)) ∙ c.loop-b.invariant.0 ∙ take_all c.loop-b.b-index bs whole,
    )
