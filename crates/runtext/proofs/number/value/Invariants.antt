use Rattle.std.proofs.Common.{◌≡◌, ◌^◌, ◌<◌, map, take}
use Rattle.std.specs.Int.Digits.{digits_of}
use Rattle.runtext.specs.Numerals.{hexit}
use Rattle.runtext.proofs.number.value.Given as goal

abbrev pub invariant-loop-b : goal.invariant-loop-b
invariant-loop-b l =
    (map hexit (digits_of 16 l.n) ≡ take l.b-index l.digits) × (l.n < 16 ^ l.b-index) × (0 < l.b-index → 0 < l.n)
