use Rattle.runs.proofs.Stands.{goes_on}
use Rattle.runs.proofs.perform.answer.Goals as goal

pub returns-clause-law : goal.returns-clause-law
returns-clause-law g c =
    let a = c.args in
    let did = c.perform-outcome.ensures in
    goes_on g.A.Source g.P.Source (λ s k x e. g.met.A.Source.shown_is_held s k x e) (λ s k x e. g.met.P.Source.shown_is_held s k x e)
    a.machine.now (g.S.Storage.view a.storage.now.beneath) a.sources.now a.request c.perform-outcome.result c.perform-outcome.new.machine (g.S.Storage.view c.perform-outcome.new.storage.beneath) c.perform-outcome.new.sources
    (record { came = did.outcome; registers = did.registers; view = did.storage; access = did.access; page = did.page })
