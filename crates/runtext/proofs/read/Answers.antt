use Rattle.std.proofs.Common.{rules}
use Rattle.runtext.specs.Runs.{lent}
use Rattle.runtext.proofs.OneRefusal.{single}
use Rattle.runtext.proofs.read.Goals as goal

pub returns-in_err-judge-clause-single : goal.returns-in_err-judge-clause-single
returns-in_err-judge-clause-single c = single (lent c.args.places.now) c.args.text.now c.from_residual.result (search rules)
