use Rattle.std.proofs.Common.{rules, sym, subst}
use Rattle.arch.specs.declared.call.Call.{Call}
use Rattle.machine.specs.declared.request.Outcome.TheVariants as outcome
use Rattle.machine.specs.declared.request.Request.TheVariants as request
use Rattle.machine.specs.Effects.{Performs}
use Rattle.runs.proofs.Turned.{translated}
use Rattle.runs.proofs.perform.line.Goals as goal

pub returns-in-Translate : goal.returns-in-Translate
returns-in-Translate g c =
    let a = c.args in
    subst (λ (q : Call). Performs g.S.Storage g.A.Source g.P.Source (request.Line q) a.machine.now a.storage.now a.sources.now (outcome.Translated c.translate.result) c.translate.new.self c.translate.new.storage c.translate.new.sources) (sym c.in-Translate.is)
    (translated g.S.Storage g.A.Source g.P.Source (search rules) c.in-Translate.register c.in-Translate.address c.in-Translate.access c.translate.ensures.makes c.translate.ensures.registers c.translate.ensures.storage c.translate.ensures.layer)
