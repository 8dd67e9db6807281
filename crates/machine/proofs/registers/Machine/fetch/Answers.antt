use Rattle.std.proofs.Common.{◌≡◌, Err, rules, length, sym, ap, ap₂, ◌∙◌}
use Rattle.arch.specs.declared.call.Access.TheVariants.{Fetch}
use Rattle.storage.specs.Prefixes.{prefixed}
use Rattle.machine.specs.Calls.{fetches, value_there}
use Rattle.machine.specs.Scene.{scene}
use Rattle.machine.proofs.Accesses.{fetched_there, ok_same}
use Rattle.machine.proofs.Fresh.{answers_fresh, fetches_same}
use Rattle.machine.proofs.InOrder.{fetch_ordered}
use Rattle.machine.proofs.registers.Machine.fetch.Goals as goal

pub returns-in-Ok-clause-value : goal.returns-in-Ok-clause-value
returns-in-Ok-clause-value g c real e =
    let a = c.args in
    let view = prefixed a.self.now.prefix (g.S.Storage.view a.storage.now.beneath) in
    let n = scene g.S.Storage g.A.Source g.P.Source a.self.now a.storage.now a.sources.now in
    let reached = c.accessed-reached.ensures in
    let came = sym reached.makes.reports.result ∙ c.in-Ok.is in
    let same : prefixed c.accessed-reached.new.self.prefix (g.S.Storage.view c.accessed-reached.new.storage.beneath) ≡ view = ap₂ (λ r b. prefixed r.prefix (g.S.Storage.view b)) reached.registers reached.storage in
    let gave = c.fetch_real-result.ensures.result ∙ ap (λ v. value_there (v.word c.in-Ok.real)) same in
    gave ∙ ap (λ x. value_there (view.word x)) (ok_same (sym came ∙ e)) ∙ fetched_there n Fetch a.operand (length a.list.now) real e

pub returns-in-Ok-clause-order : goal.returns-in-Ok-clause-order
returns-in-Ok-clause-order g c =
    let a = c.args in
    let n = scene g.S.Storage g.A.Source g.P.Source a.self.now a.storage.now a.sources.now in
    let gave : c.fetch_real-result.result ≡ ((fetches a.operand (length a.list.now)).gives n).result = search rules in
    gave ∙ fetch_ordered n a.operand (length a.list.now)

pub returns-in-Ok-clause-law : goal.returns-in-Ok-clause-law
returns-in-Ok-clause-law g c =
    let a = c.args in
    answers_fresh g.A.Source g.P.Source (λ s k x e. g.met.A.Source.shown_is_held s k x e) (λ s k x e. g.met.P.Source.shown_is_held s k x e)
    (fetches a.operand (length a.list.now)) (fetches_same a.operand (length a.list.now)) a.self.now (prefixed a.self.now.prefix (g.S.Storage.view a.storage.now.beneath)) a.sources.now c.accessed-reached.new.sources a.list.now c.accessed-reached.new.list
    (record { result = c.fetch_real-result.result; count = c.accessed-reached.result.count }) (search rules)

pub returns-in-Err-clause-law : goal.returns-in-Err-clause-law
returns-in-Err-clause-law g c =
    let a = c.args in
    answers_fresh g.A.Source g.P.Source (λ s k x e. g.met.A.Source.shown_is_held s k x e) (λ s k x e. g.met.P.Source.shown_is_held s k x e)
    (fetches a.operand (length a.list.now)) (fetches_same a.operand (length a.list.now)) a.self.now (prefixed a.self.now.prefix (g.S.Storage.view a.storage.now.beneath)) a.sources.now c.accessed-reached.new.sources a.list.now c.accessed-reached.new.list
    (record { result = Err c.in-Err.condition; count = c.accessed-reached.result.count }) (search rules)
