use Rattle.std.proofs.Common.{nat_eq, rules, sym, ◌∙◌}
use Rattle.std.proofs.lemmas.Iterator.{YieldsList-from_slice}
use Rattle.std.proofs.lemmas.Iterator.Search.{position_from_yields_List}
use borrow.Author.Tests.{tests}
use Rattle.storage.proofs.Puts.{put_found, put_missing}
use Rattle.storage.proofs.sparse.set_value.Goals as goal

pub returns-in-Some : goal.returns-in-Some
returns-in-Some c =
    let place = position_from_yields_List (λ w. nat_eq w.address c.args.address) _ _ c.position.result c.position.ensures.ran (YieldsList-from_slice c.args.words.now cc) (λ x b q k. search (rules, tests)) in
    put_found c.args.words.now c.args.address c.args.value c.in-Some.at (sym c.in-Some.is ∙ place)

pub returns-in-None : goal.returns-in-None
returns-in-None c =
    let place = position_from_yields_List (λ w. nat_eq w.address c.args.address) _ _ c.position.result c.position.ensures.ran (YieldsList-from_slice c.args.words.now cc) (λ x b q k. search (rules, tests)) in
    put_missing c.args.words.now c.args.address c.args.value (sym c.in-None.is ∙ place)
