use Rattle.std.proofs.Common.{◌≡◌, sym, ap, ◌∙◌, arith}
use Rattle.runtext.specs.Numerals.{hexit}
use Rattle.runtext.proofs.Adding.{adds_more}
use Rattle.runtext.proofs.Numerals.{numeral_digit, numeral_last}
use Rattle.runtext.proofs.text.Text.+number.Goals as goal
use Rattle.runtext.proofs.text.Text.+number.Goals.{then-n-ge16, else-n-ge16}

pub returns : goal.returns
returns t c =
    elim c.if-n-ge16.branch [
      | then-n-ge16 w ↦ rw (numeral_last c.args.n (omega arith) (omega arith), sym c.digit_of.ensures) (adds_more w.number.ensures (rw w.self-is at c.byte.ensures))
      | else-n-ge16 w ↦
          let whole : c.digit_of.result ≡ hexit c.args.n = c.digit_of.ensures ∙ ap hexit (omega arith) in
          rw (numeral_digit c.args.n (omega arith), sym whole) (rw w.self-is at c.byte.ensures)
    ]
