use Rattle.std.proofs.Common.{◌≡◌, ℕ, ◌+◌, ◌<◌, List, [], ◌∷◌, ◌++◌, length, take, get_or, Ok, sym, ap, ◌∙◌, append_assoc, append-nil, add-zero, arith, rules}
use Rattle.std.proofs.Output.{has_written_append, has_written_of_eq}
use Rattle.std.proofs.lemmas.List.{take_more, length-take-le}
use Rattle.machine.specs.declared.request.Outcome.{Outcome}
use Rattle.machine.specs.declared.request.Outcome.TheVariants.{Loaded}
use Rattle.listing.specs.Printing.{outcome_line, listing_of}
use Rattle.listing.proofs.print.ListingDisplay.fmt.Goals as goal

-- the lines of some calls, and then those of more
listing_append : (n : ℕ) (os more : List Outcome) → listing_of n (os ++ more) ≡ listing_of n os ++ listing_of (n + length os) more
listing_append n [] more = ap (λ k. listing_of k more) (sym (add-zero n))
listing_append n (o ∷ os) more =
    let on : n + 1 + length os ≡ n + length (o ∷ os) = omega arith in
    ap (λ bs. outcome_line n o ++ bs) (listing_append (n + 1) os more ∙ ap (λ k. listing_of (n + 1) os ++ listing_of k more) on)
    ∙ sym (append_assoc (outcome_line n o) (listing_of (n + 1) os) (listing_of (n + length (o ∷ os)) more))

-- one more outcome adds its line
one_more : (n : ℕ) (os : List Outcome) (i : ℕ) (d : Outcome) → i < length os → listing_of n (take i os) ++ outcome_line (n + i) (get_or os i d) ≡ listing_of n (take (i + 1) os)
one_more n os i d h =
    ap (λ bs. listing_of n (take i os) ++ bs) (sym (append-nil (outcome_line (n + i) (get_or os i d))) ∙ ap (λ k. listing_of (n + k) (get_or os i d ∷ [])) (sym (length-take-le i os (omega arith))))
    ∙ sym (ap (listing_of n) (take_more os i d h) ∙ listing_append n (take i os) (get_or os i d ∷ []))

pub loop-i-preserved : goal.loop-i-preserved
loop-i-preserved g c p =
    has_written_of_eq _ _ _ _ _ (one_more c.args.self.now.first_line c.args.self.now.outcomes.now c.loop-i.i (Loaded (Ok tt)) c.loop-i-test.true)
    (has_written_append _ _ _ _ _ _ (c.loop-i.invariant p) (search rules))
