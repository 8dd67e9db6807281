use Rattle.std.proofs.Common.{rules, sym, ◌∙◌}
use Rattle.std.proofs.lemmas.Iterator.{YieldsList-from_slice}
use Rattle.std.proofs.lemmas.Iterator.Search.{find_from_yields_List}
use borrow.Author.Tests.{tests}
use Rattle.lookaside.specs.Rows.{matches}
use Rattle.lookaside.proofs.Tables.{first_row, no_row}
use Rattle.lookaside.proofs.round_robin.RoundRobinTableTable.find.Goals as goal

pub returns-clause-result : goal.returns-clause-result
returns-clause-result c =
    let found = find_from_yields_List (matches c.args.key) _ _ c.find.result c.find.ensures.ran (YieldsList-from_slice c.args.self.now.rows cc) (λ x b q k. search (rules, tests)) in
    rw (← found) (search rules)

pub returns-clause-first : goal.returns-clause-first
returns-clause-first c a e = first_row c.args.self.now.rows c.args.key a (sym (returns-clause-result c) ∙ e)

pub returns-clause-no_row : goal.returns-clause-no_row
returns-clause-no_row c e a has = no_row c.args.self.now.rows c.args.key (sym (returns-clause-result c) ∙ e) a has
