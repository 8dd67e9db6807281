use Rattle.std.proofs.Common.{rules}
use Rattle.machine.proofs.Starts.{stands_at_start}
use Rattle.machine.proofs.registers.Machine.new.Goals as goal

pub returns-clause-starts : goal.returns-clause-starts
returns-clause-starts g c = stands_at_start g.A.Source g.P.Source _ c.args.sources.now c.purge_both.new.self (search rules) c.purge_both.ensures
