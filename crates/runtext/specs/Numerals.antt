-- Numbers as a run text writes them, as `{:x}` does: lower-case hexadecimal, no leading zero, and 0 for zero.
use Rattle.std.specs.Prelude.{ℕ, false, List}
use Rattle.std.specs.Fmt.{digits, digit_glyph}

-- the digit of a number below 16
abbrev pub hexit : ℕ → ℕ
hexit d = digit_glyph false d

-- the digits of a number of 64 bits
abbrev pub numeral : ℕ → List ℕ
numeral n = digits 16 false n
