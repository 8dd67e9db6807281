use Rattle.std.proofs.Common.{sym, ap, ◌∙◌}
use Rattle.std.specs.Option.{option_map}
use Rattle.runtext.specs.Lines.{letter, kind_of}
use Rattle.runtext.proofs.Lines.{letter_same, parted}
use Rattle.runtext.proofs.progress.Progress.step.Goals as goal

pub returns-in_err-letter : goal.returns-in_err-letter
returns-in_err-letter c = rw c.from_residual.ensures (λ x v e.
    let p = parted x.0 x.1 _ _ _ _ _ c.cut.ensures.lacks c.cut.ensures.parts c.cut-2.ensures.lacks c.cut-2.ensures.parts e in
    c.in_err-letter.ensures (letter (kind_of x.0)) tt p.begins)

pub returns-in_err-line : goal.returns-in_err-line
returns-in_err-line c = rw c.from_residual-in_err-line.ensures (λ x v e.
    let p = parted x.0 x.1 _ _ _ _ _ c.cut.ensures.lacks c.cut.ensures.parts c.cut-2.ensures.lacks c.cut-2.ensures.parts e in
    let k = letter_same (kind_of x.0) c.in_ok-kind.kind (cc (p.begins ∙ sym c.in_ok-letter.ensures.1) ∙ sym c.in_ok-kind.ensures.1) in
    c.in_err-line.ensures x.0 (v.0, k) (sym (cc (sym (ap (option_map (λ x. x.now)) c.in_ok-fields.was) ∙ p.follows))))

pub returns-in_err-after : goal.returns-in_err-after
returns-in_err-after c = rw c.from_residual-in_err-after.ensures (λ x v e.
    let p = parted x.0 x.1 _ _ _ _ _ c.cut.ensures.lacks c.cut.ensures.parts c.cut-2.ensures.lacks c.cut-2.ensures.parts e in
    cc (sym (ap (option_map (λ x. x.now)) c.in_err-after.was) ∙ p.ends))
