use Rattle.std.proofs.Common.{◌<◌, arith}
use Rattle.std.proofs.lemmas.Result.{err_from_is_err_and}
use Rattle.lookup.proofs.Levels.{level_on, level_out}
use Rattle.lookup.proofs.page.+descend.Goals as goal

pub returns-in_err-entry : goal.returns-in_err-entry
returns-in_err-entry g t c =
    let p = err_from_is_err_and c.from_residual.result c.from_residual.ensures.1 in
    let some : 0 < c.args.level = omega arith in
    rw (p.1, p.2) (level_out c.args.level c.args.table c.args.private c.args.page some c.in_err-entry.ensures)

pub returns : goal.returns
returns g t c =
    let some : 0 < c.args.level = omega arith in
    level_on c.args.level c.args.table c.args.private c.args.page some c.below.ensures c.in_ok-entry.ensures c.descend.ensures
