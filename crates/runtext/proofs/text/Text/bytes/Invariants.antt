use Rattle.std.proofs.Common.{take}
use Rattle.runtext.specs.Writing.{Adds}
use Rattle.runtext.proofs.text.Text.bytes.Given as goal

abbrev pub invariant-loop-b : goal.invariant-loop-b
invariant-loop-b l = Adds (take l.b-index l.bytes) l.initial.self l.self
