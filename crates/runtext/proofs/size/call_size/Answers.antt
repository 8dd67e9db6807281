use Rattle.std.proofs.Common.{◌∷◌, length, ap, arith, length-append}
use Rattle.runtext.specs.Lines.{two, call_fields}
use Rattle.runtext.specs.Numerals.{numeral}
use Rattle.runtext.proofs.size.call_size.Goals as goal

pub returns-in-LoadMode : goal.returns-in-LoadMode
returns-in-LoadMode c =
    let is = ap (λ a. length (call_fields a)) c.in-LoadMode.is in
    let long = length-append (numeral c.in-LoadMode.mode) (9 ∷ two c.in-LoadMode.size c.in-LoadMode.key) in
    record { size = omega arith; most = omega arith }
