-- The bits of a doubleword, numbered from 0 on the left.
use Rattle.std.specs.Prelude.{ℕ, ◌+◌, ◌-◌, ◌/◌, ◌%◌, ◌^◌, Bool, ◌==◌}

-- the number that the bits from first to last make
abbrev pub bits : ℕ → ℕ → ℕ → ℕ
bits first last w = w / 2 ^ (63 - last) % 2 ^ (last + 1 - first)

-- bit n is one
abbrev pub bit : ℕ → ℕ → Bool
bit n w = bits n n w == 1
