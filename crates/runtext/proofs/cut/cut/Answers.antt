use Rattle.std.proofs.Common.{sym, ◌∙◌}
use Rattle.std.proofs.lemmas.List.{take_rest}
use Rattle.runtext.proofs.Cuts.{lacks_before, lacks_all, split_at}
use Rattle.runtext.proofs.cut.cut.Goals as goal

pub returns-in-Some-clause-lacks : goal.returns-in-Some-clause-lacks
returns-in-Some-clause-lacks c = lacks_before c.args.at c.args.bytes.now c.in-Some.i (sym c.first.ensures ∙ c.in-Some.is)

pub returns-in-None-clause-lacks : goal.returns-in-None-clause-lacks
returns-in-None-clause-lacks c = lacks_all c.args.at c.args.bytes.now (sym c.first.ensures ∙ c.in-None.is)

pub returns-in-Some-clause-parts : goal.returns-in-Some-clause-parts
returns-in-Some-clause-parts c = simp take_rest (split_at c.args.at c.args.bytes.now c.in-Some.i (sym c.first.ensures ∙ c.in-Some.is))
