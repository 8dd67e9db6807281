-- A field of 64 bits and more is all that is left of the doubleword.
use Rattle.std.proofs.Common.{◌+◌, ◌-◌, ◌/◌, ◌^◌, ◌<◌, ◌≤◌, sym, ap, ◌∙◌, lt_of_lt_of_le, mod-eq_of_lt, arith, pow_mono}
use Rattle.std.proofs.lemmas.Nat.{shr_le}
use Rattle.arch.proofs.bits.field.Goals as goal

pub returns-else-width-lt64 : goal.returns-else-width-lt64
returns-else-width-lt64 c =
    let wide : 64 ≤ c.args.last + 1 - c.args.first = omega arith in
    let low : c.args.word / 2 ^ (63 - c.args.last) < 2 ^ 64 = omega (arith, shr_le c.args.word (63 - c.args.last)) in
    let small : c.args.word / 2 ^ (63 - c.args.last) < 2 ^ (c.args.last + 1 - c.args.first) = lt_of_lt_of_le low (pow_mono wide) in
    ap (λ k. c.args.word / 2 ^ k) c.saturating_sub.ensures ∙ sym (mod-eq_of_lt small)
