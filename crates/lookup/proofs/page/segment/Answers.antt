use Rattle.std.proofs.Common.{◌&&◌, ap}
use Rattle.arch.proofs.Walks.{walk_on}
use Rattle.lookup.proofs.Checked.{check_step}
use Rattle.lookup.proofs.page.segment.Goals as goal

pub returns : goal.returns
returns g c =
    walk_on _ c.in_ok-entry.ensures (walk_on _ (check_step _ _ c.in_ok-check.ensures (ap (λ b. b && c.args.private) c.flag.ensures)) c.page_entry.ensures)
