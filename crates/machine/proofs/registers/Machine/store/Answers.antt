use Rattle.std.proofs.Common.{◌≡◌, Err, rules, length, sym, ap, ap₂, ◌∙◌}
use Rattle.arch.specs.declared.call.Access.TheVariants.{Store}
use Rattle.storage.specs.Prefixes.{prefixed}
use Rattle.machine.specs.Calls.{stores}
use Rattle.machine.specs.Puts.{put_answer}
use Rattle.machine.specs.Scene.{scene}
use Rattle.machine.proofs.Accesses.{stored_there, ok_same}
use Rattle.machine.proofs.Fresh.{answers_fresh, stores_fresh, stores_same}
use Rattle.machine.proofs.InOrder.{store_ordered}
use Rattle.machine.proofs.registers.Machine.store.Goals as goal

pub returns-in-Ok-clause-done : goal.returns-in-Ok-clause-done
returns-in-Ok-clause-done g c real e =
    let a = c.args in
    let view = prefixed a.self.now.prefix (g.S.Storage.view a.storage.now.beneath) in
    let n = scene g.S.Storage g.A.Source g.P.Source a.self.now a.storage.now a.sources.now in
    let reached = c.accessed-reached.ensures in
    let came = sym reached.makes.reports.result ∙ c.in-Ok.is in
    let same : prefixed c.accessed-reached.new.self.prefix (g.S.Storage.view c.accessed-reached.new.storage.beneath) ≡ view = ap₂ (λ r b. prefixed r.prefix (g.S.Storage.view b)) reached.registers reached.storage in
    let gave = c.put-result.ensures.result ∙ ap (λ v. put_answer v c.in-Ok.real) same in
    gave ∙ ap (λ x. put_answer view x) (ok_same (sym came ∙ e)) ∙ stored_there n Store a.operand (length a.list.now) real e

pub returns-in-Ok-clause-order : goal.returns-in-Ok-clause-order
returns-in-Ok-clause-order g c =
    let a = c.args in
    let n = scene g.S.Storage g.A.Source g.P.Source a.self.now a.storage.now a.sources.now in
    let gave : c.put-result.result ≡ ((stores a.operand (length a.list.now)).gives n).result = search rules in
    gave ∙ store_ordered n a.operand (length a.list.now)

pub returns-in-Ok-clause-law : goal.returns-in-Ok-clause-law
returns-in-Ok-clause-law g c =
    let a = c.args in
    answers_fresh g.A.Source g.P.Source (λ s k x e. g.met.A.Source.shown_is_held s k x e) (λ s k x e. g.met.P.Source.shown_is_held s k x e)
    (stores a.operand (length a.list.now)) (stores_same a.operand (length a.list.now)) a.self.now (prefixed a.self.now.prefix (g.S.Storage.view a.storage.now.beneath)) a.sources.now c.accessed-reached.new.sources a.list.now c.accessed-reached.new.list
    (record { result = c.put-result.result; count = c.accessed-reached.result.count }) (search rules)

pub returns-in-Err-clause-law : goal.returns-in-Err-clause-law
returns-in-Err-clause-law g c =
    let a = c.args in
    answers_fresh g.A.Source g.P.Source (λ s k x e. g.met.A.Source.shown_is_held s k x e) (λ s k x e. g.met.P.Source.shown_is_held s k x e)
    (stores a.operand (length a.list.now)) (stores_same a.operand (length a.list.now)) a.self.now (prefixed a.self.now.prefix (g.S.Storage.view a.storage.now.beneath)) a.sources.now c.accessed-reached.new.sources a.list.now c.accessed-reached.new.list
    (record { result = Err c.in-Err.condition; count = c.accessed-reached.result.count }) (search rules)

pub returns-in-Ok-clause-puts : goal.returns-in-Ok-clause-puts
returns-in-Ok-clause-puts g c =
    let a = c.args in
    stores_fresh g.A.Source g.P.Source (λ s k x e. g.met.A.Source.shown_is_held s k x e) (λ s k x e. g.met.P.Source.shown_is_held s k x e)
    a.operand (length a.list.now) a.value a.self.now (prefixed a.self.now.prefix (g.S.Storage.view a.storage.now.beneath)) a.sources.now c.accessed-reached.new.sources a.list.now c.accessed-reached.new.list
    (record { result = c.put-result.result; count = c.accessed-reached.result.count }) (search rules)

pub returns-in-Err-clause-puts : goal.returns-in-Err-clause-puts
returns-in-Err-clause-puts g c =
    let a = c.args in
    stores_fresh g.A.Source g.P.Source (λ s k x e. g.met.A.Source.shown_is_held s k x e) (λ s k x e. g.met.P.Source.shown_is_held s k x e)
    a.operand (length a.list.now) a.value a.self.now (prefixed a.self.now.prefix (g.S.Storage.view a.storage.now.beneath)) a.sources.now c.accessed-reached.new.sources a.list.now c.accessed-reached.new.list
    (record { result = Err c.in-Err.condition; count = c.accessed-reached.result.count }) (search rules)
