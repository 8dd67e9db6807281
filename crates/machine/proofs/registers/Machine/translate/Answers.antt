use Rattle.std.proofs.Common.{rules, length, ◌∙◌}
use Rattle.storage.specs.Prefixes.{prefixed}
use Rattle.machine.specs.Calls.{translates}
use Rattle.machine.specs.Scene.{scene}
use Rattle.machine.proofs.Alike.{answers_alike}
use Rattle.machine.proofs.Fresh.{answers_fresh, translates_same}
use Rattle.machine.proofs.InOrder.{translation_ordered}
use Rattle.machine.proofs.Reported.{made}
use Rattle.machine.proofs.registers.Machine.translate.Goals as goal

pub returns : goal.returns
returns g c =
    let a = c.args in
    let places = length a.list.now in
    let reached = c.reach-real.ensures in
    let makes = made g.S.Storage g.A.Source g.P.Source a.self.now a.sources.now c.reach-real.new.sources a.access a.operand a.storage.now c.load_prefix.new.self a.list.now c.of.new.list _ c.reach-real.new.trace.items c.reach-real.result c.of.result
    (search rules) c.load_prefix.ensures.under (search rules) (search rules) c.new-trace.ensures
    (record { gives = reached.gives; asks_access = reached.access; asks_page = reached.page }) c.of.ensures in
    record {
      makes = makes;
      registers = search rules;
      storage = search rules;
      layer = search rules;
      order = makes.reports.result ∙ translation_ordered (scene g.S.Storage g.A.Source g.P.Source a.self.now a.storage.now a.sources.now) a.access a.operand places;
      law = answers_fresh g.A.Source g.P.Source (λ s k a e. g.met.A.Source.shown_is_held s k a e) (λ s k a e. g.met.P.Source.shown_is_held s k a e)
          (translates a.access a.operand places) (translates_same a.access a.operand places) a.self.now (prefixed a.self.now.prefix (g.S.Storage.view a.storage.now.beneath)) a.sources.now _ a.list.now _ _ makes;
      alike = λ n. answers_alike _ a.access a.operand places n;
    }

pub returns-then-operand-gt15-clause-law : goal.returns-then-operand-gt15-clause-law
returns-then-operand-gt15-clause-law g c =
    let a = c.args in
    answers_fresh g.A.Source g.P.Source (λ s k a e. g.met.A.Source.shown_is_held s k a e) (λ s k a e. g.met.P.Source.shown_is_held s k a e)
    (translates a.access a.operand (length a.list.now)) (translates_same a.access a.operand (length a.list.now)) a.self.now (prefixed a.self.now.prefix (g.S.Storage.view a.storage.now.beneath)) a.sources.now a.sources.now a.list.now a.list.now c.refused.result (search rules)

pub returns-then-list-lt-PLACES-clause-law : goal.returns-then-list-lt-PLACES-clause-law
returns-then-list-lt-PLACES-clause-law g c =
    let a = c.args in
    answers_fresh g.A.Source g.P.Source (λ s k a e. g.met.A.Source.shown_is_held s k a e) (λ s k a e. g.met.P.Source.shown_is_held s k a e)
    (translates a.access a.operand (length a.list.now)) (translates_same a.access a.operand (length a.list.now)) a.self.now (prefixed a.self.now.prefix (g.S.Storage.view a.storage.now.beneath)) a.sources.now a.sources.now a.list.now a.list.now c.refused-then-list-lt-PLACES.result (search rules)
