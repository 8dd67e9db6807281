use Rattle.std.proofs.Common.{◌∷◌, arith, length-append}
use Rattle.runtext.specs.Numerals.{numeral}
use Rattle.runtext.proofs.size.two_size.Goals as goal

pub returns : goal.returns
returns c = record { size = omega (arith, length-append (numeral c.args.m) (9 ∷ numeral c.args.n)); most = omega arith }
