use Rattle.std.proofs.Common.{◌∙◌}
use Rattle.lookup.specs.Lookups.{access_fresh}
use Rattle.lookup.proofs.InOrder.{access_fresh_ordered}
use Rattle.lookup.proofs.kinds.AccessRegisterKind.walk.Goals as goal

pub returns : goal.returns
unfolding access_fresh
returns g c =
    let word = (g.S.Storage.view c.args.storage.now).word in
    record { gives = c.walk.ensures.gives; order = c.walk.ensures.gives.result ∙ access_fresh_ordered word c.args.key }
