use Rattle.std.proofs.Common.{sym, ap, ◌∙◌}
use Rattle.std.specs.Option.{option_map}
use Rattle.runtext.specs.Numerals.{numeral}
use Rattle.runtext.proofs.Cuts.{number_cut}
use Rattle.runtext.proofs.line.two_numbers.Goals as goal

pub returns-in_err-m : goal.returns-in_err-m
returns-in_err-m c = rw c.from_residual.ensures (λ p v e.
    let found = number_cut c.args.bytes.now c.cut.result.0.now (option_map (λ x. x.now) c.cut.result.1) p.0 (numeral p.1) c.cut.ensures.lacks c.cut.ensures.parts e in
    c.in_err-m.ensures p.0 v.0 found.0)

pub returns-in_err-after : goal.returns-in_err-after
returns-in_err-after c = rw c.from_residual-in_err-after.ensures (λ p v e.
    let found = number_cut c.args.bytes.now c.cut.result.0.now (option_map (λ x. x.now) c.cut.result.1) p.0 (numeral p.1) c.cut.ensures.lacks c.cut.ensures.parts e in
    cc (sym (ap (option_map (λ x. x.now)) c.in_err-after.was) ∙ found.1))

pub returns-in_err-n : goal.returns-in_err-n
returns-in_err-n c = rw c.from_residual-in_err-n.ensures (λ p v e.
    let found = number_cut c.args.bytes.now c.cut.result.0.now (option_map (λ x. x.now) c.cut.result.1) p.0 (numeral p.1) c.cut.ensures.lacks c.cut.ensures.parts e in
    c.in_err-n.ensures p.1 v.1 (sym (cc (sym (ap (option_map (λ x. x.now)) c.in_ok-after.was) ∙ found.1))))
