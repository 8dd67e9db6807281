use Rattle.std.proofs.Common.{◌∙◌}
use Rattle.lookup.specs.Lookups.{page_fresh}
use Rattle.lookup.proofs.InOrder.{page_fresh_ordered}
use Rattle.lookup.proofs.kinds.PagingKind.walk.Goals as goal

pub returns : goal.returns
unfolding page_fresh
returns g c =
    let word = (g.S.Storage.view c.args.storage.now).word in
    record { gives = c.walk.ensures.gives; order = c.walk.ensures.gives.result ∙ page_fresh_ordered word c.args.key }
