-- Where a text is cut. Assumes nothing.
use Rattle.std.specs.List.{position, position_or_len}
use Rattle.std.proofs.ByRecursion.{All-from_get_or}
use Rattle.std.proofs.lemmas.List.{length-take, get_or-take, drop_more, take-append-drop}
use Rattle.std.proofs.lemmas.List.Quantifiers.{position-Some}
use Rattle.std.proofs.lemmas.List.Sums.{fails_before_first}
use Rattle.std.proofs.lemmas.Bool.{eqb-true, eqb-false, lt-ltb, cond-true, cases_lt}
use Rattle.std.proofs.Common.{◌+◌, eqb, take, drop, length, ⊎_elim, ◌≡◌, ℕ, ◌<◌, List, [], ◌∷◌, ◌++◌, Some, None, Option, sym, refl, ap, ◌∙◌, subst, arith}
use Rattle.runtext.specs.Lines.{two, Number}
use Rattle.runtext.specs.Numerals.{numeral}
use Rattle.runtext.specs.Reading.{Lacks, Cut}
use Rattle.runtext.proofs.Numerals.{numeral_all, numeral_same, hexit_least}

-- before the first place of a byte it does not stand, and where it has no place, nowhere
pub lacks_before : (c : ℕ) (bs : List ℕ) (i : ℕ) → position (λ b. eqb b c) bs ≡ Some i → Lacks c (take i bs)
lacks_before c bs i e =
    let p = position-Some (λ b. eqb b c) bs i 0 e in
    All-from_get_or (λ b. b ≡ c → ⊥) (take i bs) 0 (λ k l h.
    let k' : k < i = omega (arith, length-take i bs) in
    eqb-false _ c (p.2 k k') (sym (get_or-take i bs k 0 k') ∙ h))

pub split_at : (c : ℕ) (bs : List ℕ) (i : ℕ) → position (λ b. eqb b c) bs ≡ Some i → bs ≡ take i bs ++ (c ∷ drop (i + 1) bs)
split_at c bs i e =
    let p = position-Some (λ b. eqb b c) bs i 0 e in
    sym (take-append-drop i bs) ∙ ap (λ t. take i bs ++ t) (drop_more bs i 0 p.0) ∙ ap (λ b. take i bs ++ (b ∷ drop (i + 1) bs)) (eqb-true _ c p.1)

pub lacks_all : (c : ℕ) (bs : List ℕ) → position (λ b. eqb b c) bs ≡ None → Lacks c bs
lacks_all c bs e =
    let n = position_or_len (λ b. eqb b c) bs in
    ⊎_elim
    (λ h. absurd (cc (sym e ∙ cond-true _ _ _ (lt-ltb n (length bs) h))))
    (λ h. All-from_get_or (λ b. b ≡ c → ⊥) bs 0 (λ k l. eqb-false _ c (fails_before_first (λ b. eqb b c) bs k 0 (omega arith))))
    (cases_lt n (length bs))

-- the first place of a byte is one
pub cut_same : (c : ℕ) (p q x y : List ℕ) → Lacks c p → Lacks c q → p ++ (c ∷ x) ≡ q ++ (c ∷ y) → (p ≡ q) × (x ≡ y)
cut_same c [] [] x y lp lq e = (refl, cc e)
cut_same c [] (b ∷ q) x y lp lq e = absurd (lq.0 (sym (cc e)))
cut_same c (a ∷ p) [] x y lp lq e = absurd (lp.0 (cc e))
cut_same c (a ∷ p) (b ∷ q) x y lp lq e =
    let h : a ≡ b = cc e in
    let r = cut_same c p q x y lp.1 lq.1 (cc e) in
    ((λ i. h i ∷ r.0 i), r.1)

pub lacks_none : (c : ℕ) (p x : List ℕ) → Lacks c (p ++ (c ∷ x)) → ⊥
lacks_none c [] x h = h.0 refl
lacks_none c (a ∷ p) x h = lacks_none c p x h.1

-- what is cut at the first c, where a lacks c and c follows it
pub cut_finds : (c : ℕ) (bs front : List ℕ) (o : Option (List ℕ)) (a x : List ℕ) → Lacks c front → Cut c bs front o → Lacks c a → a ++ (c ∷ x) ≡ bs → (a ≡ front) × (o ≡ Some x)
cut_finds c bs front None a x lf cut la e = absurd (lacks_none c a x (subst (Lacks c) (sym (e ∙ cut)) lf))
cut_finds c bs front (Some after) a x lf cut la e =
    let r = cut_same c a front x after la lf (e ∙ cut) in
    (r.0, ap Some (sym r.1))

-- a numeral has digits alone
pub numeral_lacks : (c n : ℕ) → c < 48 → Lacks c (numeral n)
numeral_lacks c n small = numeral_all (λ b. b ≡ c → ⊥) (λ d l e. omega (arith, hexit_least d)) n

-- a field that is a number, and what follows it
pub number_cut : (bs front : List ℕ) (o : Option (List ℕ)) (n : ℕ) (x : List ℕ) → Lacks 9 front → Cut 9 bs front o → numeral n ++ (9 ∷ x) ≡ bs → (numeral n ≡ front) × (o ≡ Some x)
number_cut bs front o n x l d e = cut_finds 9 bs front o (numeral n) x l d (numeral_lacks 9 n (omega arith)) e

pub two_same : (k l m n : ℕ) → Number k → Number l → two k l ≡ two m n → (k ≡ m) × (l ≡ n)
two_same k l m n hk hl e =
    let r = cut_same 9 (numeral k) (numeral m) (numeral l) (numeral n) (numeral_lacks 9 k (omega arith)) (numeral_lacks 9 m (omega arith)) e in
    (numeral_same k m hk r.0, numeral_same l n hl r.1)
