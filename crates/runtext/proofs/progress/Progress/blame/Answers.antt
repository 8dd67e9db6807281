use Rattle.std.proofs.Common.{refl, ◌∙◌, inr}
use Rattle.runtext.specs.Lines.{letter}
use Rattle.runtext.proofs.FirstField.{field_found}
use Rattle.runtext.proofs.progress.Progress.blame.Goals as goal

pub returns-in_default : goal.returns-in_default
returns-in_default c =
    let f = field_found _ _ _ _ _ c.cut.ensures.lacks c.cut.ensures.parts c.cut-2.ensures.lacks c.cut-2.ensures.parts in
    inr (refl, λ o. c.in_default.ensures (letter o.0) tt (o.1 ∙ f))
