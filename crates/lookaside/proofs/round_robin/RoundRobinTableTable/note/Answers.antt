use Rattle.std.proofs.Common.{◌<◌, length, arith}
use Rattle.lookaside.proofs.Tables.{first_noted}
use Rattle.lookaside.proofs.round_robin.RoundRobinTableTable.note.Goals as goal

pub returns-clause-found : goal.returns-clause-found
returns-clause-found c none =
    let table = c.args.self.now in
    let within : table.next < length table.rows = omega arith in
    rw (c.set.ensures) (first_noted table.rows table.next c.args.key c.args.answer within none)
