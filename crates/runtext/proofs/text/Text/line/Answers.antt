use Rattle.std.proofs.Common.{ap, ◌∙◌}
use Rattle.runtext.specs.Lines.{letter}
use Rattle.runtext.proofs.Adding.{adds_more, adds_byte}
use Rattle.runtext.proofs.text.Text.line.Goals as goal

pub returns : goal.returns
returns c = adds_byte (c.letter.ensures ∙ ap letter c.from.ensures) c.byte.ensures (adds_more c.byte-2.ensures (adds_more c.fields.ensures c.byte-3.ensures))
