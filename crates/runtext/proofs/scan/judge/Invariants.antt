use Rattle.std.proofs.Common.{◌≡◌, length}
use Rattle.runtext.specs.Runs.{Run}
use Rattle.runtext.proofs.Sofar.{Sofar}
use Rattle.runtext.proofs.scan.judge.Given as goal

abbrev pub invariant-loop-line : goal.invariant-loop-line
invariant-loop-line l = record {
  places : l.so_far.places ≡ l.fn.places;
  run : Run;
  read : Sofar l.fn.places l.text l.so_far.found l.rest run;
}

abbrev pub decreases-loop-line : goal.decreases-loop-line
decreases-loop-line l = length l.rest
