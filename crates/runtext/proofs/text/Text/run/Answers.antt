use Rattle.std.proofs.Common.{[], ◌∷◌, ◌++◌, sym, ap, ◌∙◌, append_assoc, append-nil}
use Rattle.std.proofs.lemmas.Grind.{flat_map-append}
use Rattle.runtext.specs.Lines.{spell_line}
use Rattle.runtext.specs.Runs.{lines_left, spell}
use Rattle.runtext.proofs.Adding.{adds_more}
use Rattle.runtext.proofs.text.Text.run.Goals as goal

pub loop-line-preserved : goal.loop-line-preserved
loop-line-preserved c =
    let l = c.in-Some.line in
    let past = c.loop-line.yielded in
    record {
      all = append_assoc past (l ∷ []) (lines_left c.next.new.self) ∙ ap (λ ls. past ++ ls) (sym c.in-Some.ensures.steps) ∙ c.loop-line.invariant.all;
      added = rw (flat_map-append spell_line past (l ∷ []), append-nil (spell_line l)) (adds_more c.loop-line.invariant.added c.line.ensures);
    }

pub returns : goal.returns
unfolding spell
returns c =
    let all = sym (append-nil c.loop-line.yielded) ∙ ap (λ ls. c.loop-line.yielded ++ ls) (sym c.in-None.ensures.steps.0) ∙ c.loop-line.invariant.all in
    adds_more c.bytes.ensures (rw (sym all) c.loop-line.invariant.added)
