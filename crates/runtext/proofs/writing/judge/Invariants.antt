use Rattle.std.proofs.Common.{◌≡◌}
use Rattle.runtext.specs.Runs.{Run, lines_left}
use Rattle.runtext.proofs.Outgoing.{Going}
use Rattle.runtext.proofs.writing.judge.Given as goal

abbrev pub invariant-loop-line : goal.invariant-loop-line
invariant-loop-line l = record {
  places : l.so_far.places ≡ l.fn.places;
  run : Run;
  going : Going l.fn.places l.run l.yielded (lines_left l.line-iterator) l.so_far.found run;
}
