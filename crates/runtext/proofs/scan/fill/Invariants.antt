use Rattle.std.proofs.Common.{◌≡◌, length}
use Rattle.runtext.specs.Runs.{lent}
use Rattle.runtext.proofs.Filling.{Filling}
use Rattle.runtext.proofs.scan.fill.Given as goal

abbrev pub invariant-loop-line : goal.invariant-loop-line
invariant-loop-line l = record {
  places : l.so_far.places ≡ lent l.initial.places;
  filled : Filling l.text l.initial.places l.so_far.found l.rest l.places;
}

abbrev pub decreases-loop-line : goal.decreases-loop-line
decreases-loop-line l = length l.rest
