use Rattle.std.proofs.Common.{rules, length}
use Rattle.storage.specs.Prefixes.{prefixed}
use Rattle.machine.specs.Calls.{accesses}
use Rattle.machine.specs.Scene.{scene}
use Rattle.machine.proofs.Fresh.{accesses_same, answers_fresh}
use Rattle.machine.proofs.Reported.{accessed_made}
use Rattle.machine.proofs.registers.Machine.accessed.Goals as goal

pub returns-clause-makes : goal.returns-clause-makes
returns-clause-makes g c =
    let a = c.args in
    accessed_made g.A.Source g.P.Source (scene g.S.Storage g.A.Source g.P.Source a.self.now a.storage.now a.sources.now) a.sources.now c.translate.new.sources a.access a.operand a.list.now c.translate.new.list c.translate.result
    (search rules) (search rules) (search rules) c.translate.ensures.makes

pub returns-clause-law : goal.returns-clause-law
returns-clause-law g c =
    let a = c.args in
    answers_fresh g.A.Source g.P.Source (λ s k x e. g.met.A.Source.shown_is_held s k x e) (λ s k x e. g.met.P.Source.shown_is_held s k x e)
    (accesses a.access a.operand (length a.list.now)) (accesses_same a.access a.operand (length a.list.now)) a.self.now (prefixed a.self.now.prefix (g.S.Storage.view a.storage.now.beneath)) a.sources.now c.translate.new.sources a.list.now c.translate.new.list c.translate.result
    (accessed_made g.A.Source g.P.Source (scene g.S.Storage g.A.Source g.P.Source a.self.now a.storage.now a.sources.now) a.sources.now c.translate.new.sources a.access a.operand a.list.now c.translate.new.list c.translate.result
    (search rules) (search rules) (search rules) c.translate.ensures.makes)

pub returns-then-operand-gt15-clause-law : goal.returns-then-operand-gt15-clause-law
returns-then-operand-gt15-clause-law g c =
    let a = c.args in
    answers_fresh g.A.Source g.P.Source (λ s k x e. g.met.A.Source.shown_is_held s k x e) (λ s k x e. g.met.P.Source.shown_is_held s k x e)
    (accesses a.access a.operand (length a.list.now)) (accesses_same a.access a.operand (length a.list.now)) a.self.now (prefixed a.self.now.prefix (g.S.Storage.view a.storage.now.beneath)) a.sources.now a.sources.now a.list.now a.list.now c.refused.result (search rules)

pub returns-then-operand-ne0-clause-law : goal.returns-then-operand-ne0-clause-law
returns-then-operand-ne0-clause-law g c =
    let a = c.args in
    answers_fresh g.A.Source g.P.Source (λ s k x e. g.met.A.Source.shown_is_held s k x e) (λ s k x e. g.met.P.Source.shown_is_held s k x e)
    (accesses a.access a.operand (length a.list.now)) (accesses_same a.access a.operand (length a.list.now)) a.self.now (prefixed a.self.now.prefix (g.S.Storage.view a.storage.now.beneath)) a.sources.now a.sources.now a.list.now a.list.now c.refused-then-operand-ne0.result (search rules)

pub returns-then-list-lt-PLACES-clause-law : goal.returns-then-list-lt-PLACES-clause-law
returns-then-list-lt-PLACES-clause-law g c =
    let a = c.args in
    answers_fresh g.A.Source g.P.Source (λ s k x e. g.met.A.Source.shown_is_held s k x e) (λ s k x e. g.met.P.Source.shown_is_held s k x e)
    (accesses a.access a.operand (length a.list.now)) (accesses_same a.access a.operand (length a.list.now)) a.self.now (prefixed a.self.now.prefix (g.S.Storage.view a.storage.now.beneath)) a.sources.now a.sources.now a.list.now a.list.now c.refused-then-list-lt-PLACES.result (search rules)
