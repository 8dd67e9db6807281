use Rattle.std.proofs.Common.{rules, sym, subst}
use Rattle.machine.specs.declared.request.Outcome.TheVariants as outcome
use Rattle.machine.specs.declared.request.Request.{Request}
use Rattle.machine.specs.Effects.{Performs}
use Rattle.runs.proofs.Turned.{fetched, stored}
use Rattle.runs.proofs.perform.perform.Goals as goal

pub returns-in-Fetch : goal.returns-in-Fetch
returns-in-Fetch g c =
    let a = c.args in
    subst (λ (q : Request). Performs g.S.Storage g.A.Source g.P.Source q a.machine.now a.storage.now a.sources.now (outcome.Fetched c.fetch.result) c.fetch.new.self c.fetch.new.storage c.fetch.new.sources) (sym c.in-Fetch.is)
    (fetched g.S.Storage g.A.Source g.P.Source (search rules) c.in-Fetch.register c.in-Fetch.address c.fetch.ensures.makes c.fetch.ensures.registers c.fetch.ensures.storage c.fetch.ensures.layer)

pub returns-in-Store : goal.returns-in-Store
returns-in-Store g c =
    let a = c.args in
    subst (λ (q : Request). Performs g.S.Storage g.A.Source g.P.Source q a.machine.now a.storage.now a.sources.now (outcome.Stored c.store.result) c.store.new.self c.store.new.storage c.store.new.sources) (sym c.in-Store.is)
    (stored g.S.Storage g.A.Source g.P.Source (search rules) c.in-Store.register c.in-Store.address c.in-Store.value c.store.ensures.makes c.store.ensures.registers c.store.ensures.storage c.store.ensures.refused c.store.ensures.layer)
