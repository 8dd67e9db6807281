use Rattle.std.proofs.Common.{rules, ◌≡◌, [], ◌∷◌, length, get_or, sym, ap, ◌∙◌, arith}
use Rattle.runtext.specs.Numerals.{numeral}
use Rattle.runtext.proofs.Numerals.{numeral_some, numeral_short, numeral_lead, numeral_zero, lone}
use Rattle.runtext.proofs.number.number.Goals as goal

pub returns-then-field-gt-DIGITS : goal.returns-then-field-gt-DIGITS
returns-then-field-gt-DIGITS c = λ n h e. omega (arith, numeral_short n h, ap length e)

pub returns-in-empty : goal.returns-in-empty
returns-in-empty c = λ n h e. omega (arith, numeral_some n, ap length e)

pub returns-in-48 : goal.returns-in-48
returns-in-48 c =
    let is : get_or c.args.field.now 0 0 ≡ 48 = search rules in
    (omega arith, numeral_zero ∙ sym (lone c.args.field.now (omega arith) ∙ ap (λ b. b ∷ []) is))

pub returns-in-48-2 : goal.returns-in-48-2
returns-in-48-2 c =
    let is : get_or c.args.field.now 0 0 ≡ 48 = search rules in
    λ n h e. omega (arith, ap length (sym e ∙ ap numeral (numeral_lead n h (ap (λ l. get_or l 0 0) e ∙ is)) ∙ numeral_zero))
