-- What a read adds stands after what was filled before, as it was consumed.
use Rattle.std.proofs.Common.{◌≡◌, ℕ, ◌+◌, ◌≤◌, List, ◌++◌, ap, ◌∙◌, rules, drop, drop_at, le_refl, length, length-take-le, subst, sym, take}
use Rattle.std.proofs.lemmas.List.{take-append-le}
use Rattle.std.proofs.lemmas.Slice.{take-put_mid_below}
use Rattle.std.proofs.Math.Seq.{take-add}
use Rattle.std.proofs.KnownBytes.{Consumes-trans}
use Rattle.std.specs.Io.KnownBytes.{Consumes}
use borrow.Rule.Slice.PartMut.{post_of, put_mid}
use Rattle.input.proofs.text.Goals as goal

-- what a read puts after the first a bytes goes on from them
put_mid_more : (a k n : ℕ) (xs ys : List ℕ) → a ≤ length xs → n ≤ length ys
    → take a xs ++ take n ys ≡ take (a + n) (put_mid a k xs ys)
put_mid_more a k n xs ys within fits =
    let front = take-put_mid_below a k xs ys a (le_refl a) within in
    let after = ap (take n) (drop_at (take a xs) (ys ++ post_of a k xs) a (length-take-le a xs within))
    ∙ take-append-le n ys (post_of a k xs) fits in
    sym (take-add a n (put_mid a k xs ys) ∙ ap (λ l. l ++ take n (drop a (put_mid a k xs ys))) front ∙ ap (λ l. take a xs ++ l) after)

pub loop-filled-preserved : goal.loop-filled-preserved
loop-filled-preserved g c =
    let within = c.loop-filled.invariant.0 in
    let read = c.in_ok-got.ensures in (
      search rules,
      subst (Consumes _ _) (put_mid_more _ _ _ _ _ within (search rules))
          (Consumes-trans _ _ _ _ _ c.loop-filled.invariant.1 read.bytes),
    )
