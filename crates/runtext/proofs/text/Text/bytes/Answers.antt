use Rattle.std.proofs.lemmas.List.{take_more}
use Rattle.runtext.proofs.Adding.{adds_more}
use Rattle.runtext.proofs.text.Text.bytes.Goals as goal

pub loop-b-preserved : goal.loop-b-preserved
loop-b-preserved c = rw (take_more c.args.bytes.now c.loop-b.b-index 0 c.loop-b-test.true) (adds_more c.loop-b.invariant c.byte.ensures)
