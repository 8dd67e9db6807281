use Rattle.std.proofs.Common.{◌/◌, ◌%◌, length, ap, arith}
use Rattle.std.proofs.lemmas.List.{length_push}
use Rattle.runtext.specs.Numerals.{hexit, numeral}
use Rattle.runtext.proofs.Numerals.{numeral_digit, numeral_last, numeral_short}
use Rattle.runtext.proofs.size.+number_size.Goals as goal

pub returns-then-n-lt16 : goal.returns-then-n-lt16
returns-then-n-lt16 t c = record { size = omega (arith, ap length (numeral_digit c.args.n (omega arith))); most = omega arith }

pub returns-else-n-lt16 : goal.returns-else-n-lt16
returns-else-n-lt16 t c =
    let long = ap length (numeral_last c.args.n (omega arith) (omega arith)) in
    let push = length_push (numeral (c.args.n / 16)) (hexit (c.args.n % 16)) in
    record {
      size = omega (arith, c.number_size.ensures.size);
      most = omega (arith, c.number_size.ensures.size, numeral_short c.args.n (omega arith));
    }
