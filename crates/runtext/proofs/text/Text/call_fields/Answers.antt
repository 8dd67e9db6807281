use Rattle.runtext.proofs.Adding.{adds_more, adds_byte}
use Rattle.runtext.proofs.text.Text.call_fields.Goals as goal

pub returns-in-LoadMode : goal.returns-in-LoadMode
returns-in-LoadMode c = rw c.in-LoadMode.is (adds_more c.number.ensures (adds_more c.byte.ensures c.two-in-LoadMode.ensures))

pub returns-in-Translate : goal.returns-in-Translate
returns-in-Translate c = rw c.in-Translate.is (adds_byte c.letter.ensures c.byte-in-Translate.ensures (adds_more c.byte-in-Translate-2.ensures c.two-in-Translate.ensures))
