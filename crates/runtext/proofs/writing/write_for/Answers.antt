use Rattle.std.proofs.Common.{length, rules}
use Rattle.runtext.specs.Runs.{spell}
use Rattle.runtext.proofs.Written.{single_in}
use Rattle.runtext.proofs.writing.write_for.Goals as goal

pub returns-in_err-judge-clause-single : goal.returns-in_err-judge-clause-single
returns-in_err-judge-clause-single c = single_in (length c.args.buffer.now) c.args.places (spell c.args.run.now) c.from_residual.result (search rules)
