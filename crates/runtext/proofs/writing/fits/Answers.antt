use Rattle.std.proofs.Common.{[], ◌∷◌, ◌++◌, length, ap, ◌∙◌, sym, append_assoc, append-nil, arith, length-append}
use Rattle.std.proofs.lemmas.Bool.{leb-true, le-leb, false≢true}
use Rattle.std.proofs.lemmas.Grind.{flat_map-append}
use Rattle.std.specs.List.{flat_map}
use Rattle.runtext.specs.Lines.{spell_line}
use Rattle.runtext.specs.Runs.{lines_left}
use Rattle.runtext.proofs.Outgoing.{spelt_parts}
use Rattle.runtext.proofs.writing.fits.Goals as goal

pub returns-then-size-most : goal.returns-then-size-most
returns-then-size-most c =
    let i = c.loop-line.invariant in
    let long = spelt_parts c.args.run.now c.loop-line.yielded (lines_left c.loop-line.line-iterator) i.all in
    (λ e. absurd (false≢true e), λ h. absurd (omega (arith, i.sized, long)))

pub loop-line-preserved : goal.loop-line-preserved
loop-line-preserved c =
    let l = c.in-Some.line in
    let past = c.loop-line.yielded in
    record {
      all = append_assoc past (l ∷ []) (lines_left c.next.new.self) ∙ ap (λ ls. past ++ ls) (sym c.in-Some.ensures.steps) ∙ c.loop-line.invariant.all;
      sized = omega (arith, c.loop-line.invariant.sized, c.line_size-size.ensures.size, ap length (flat_map-append spell_line past (l ∷ [])), length-append (flat_map spell_line past) (flat_map spell_line (l ∷ [])), ap length (append-nil (spell_line l)));
    }

pub returns : goal.returns
returns c =
    let i = c.loop-line.invariant in
    let long = spelt_parts c.args.run.now c.loop-line.yielded (lines_left c.loop-line.line-iterator) i.all in
    let none = ap (λ ls. length (flat_map spell_line ls)) c.in-None.ensures.steps.0 in
    (λ e. omega (arith, leb-true c.loop-line.size c.args.most e, i.sized, long, none), λ h. le-leb c.loop-line.size c.args.most (omega (arith, i.sized, long, none)))
