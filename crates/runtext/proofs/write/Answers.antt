use Rattle.runtext.proofs.Written.{says_run}
use Rattle.runtext.proofs.write.Goals as goal

pub returns-clause-again : goal.returns-clause-again
returns-clause-again c = says_run c.args.run.now c.args.buffer.now c.write_for.new.buffer c.write_for.result c.write_for.ensures.written
