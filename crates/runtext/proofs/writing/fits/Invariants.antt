use Rattle.std.proofs.Common.{◌≡◌, ◌+◌, ◌++◌, length}
use Rattle.std.specs.List.{flat_map}
use Rattle.runtext.specs.Lines.{spell_line}
use Rattle.runtext.specs.Runs.{lines, lines_left}
use Rattle.runtext.proofs.writing.fits.Given as goal

abbrev pub invariant-loop-line : goal.invariant-loop-line
invariant-loop-line l = record {
  all : l.yielded ++ lines_left l.line-iterator ≡ lines l.run;
  sized : l.size ≡ 6 + length (flat_map spell_line l.yielded);
}
