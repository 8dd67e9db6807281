use Rattle.runtext.proofs.Adding.{adds_more}
use Rattle.runtext.proofs.text.Text.two.Goals as goal

pub returns : goal.returns
returns c = adds_more c.number.ensures (adds_more c.byte.ensures c.number-2.ensures)
