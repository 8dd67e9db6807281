use Rattle.std.proofs.Common.{arith}
use Rattle.std.proofs.lemmas.List.{length_push}
use Rattle.runtext.specs.Lines.{spell_fields}
use Rattle.runtext.proofs.size.line_size.Goals as goal

pub returns : goal.returns
returns c = record { size = omega (arith, length_push (spell_fields c.args.line) 10); most = omega arith }
