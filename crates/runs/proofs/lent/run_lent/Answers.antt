use Rattle.std.proofs.Common.{◌≡◌, ◌+◌, ◌≤◌, ◌<◌, ℕ, length, take, MatchResult, MutBor, subst₂, sym}
use Rattle.machine.specs.Law.{Ran}
use Rattle.runs.proofs.Loans.{lent_result, lent_ran}
use Rattle.runs.proofs.lent.run_lent.Goals as goal

pub returns-clause-law : goal.returns-clause-law
returns-clause-law g c = lent_result _ _ _ c.run.result c.run.ensures.law (λ ran.
    let back = lent_ran g.A.Source g.P.Source (λ m. m.now) (λ m. m.now) (λ m. m.ghost_name) (λ m. m.ghost_name) ran in
    subst₂ (λ x y. Ran g.A.Source g.P.Source (g.S.Storage.view c.args.storage.now.beneath) (record { access = c.args.access.now; page = c.args.page.now }) c.args.calls.now (take (length c.args.calls.now) c.run.new.outcomes) (g.S.Storage.view c.run.new.storage.beneath) (record { access = x; page = y }))
    (sym (c.access-1.given.1 (sym back.1.0))) (sym (c.page-1.given.1 (sym back.1.1))) back.0)
