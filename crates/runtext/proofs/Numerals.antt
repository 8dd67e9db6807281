-- Laws of the numerals of a run text. Assumes nothing.
use Rattle.std.proofs.Common.{◌≡◌, ℕ, zero, suc, ◌+◌, ◌*◌, ◌/◌, ◌%◌, ◌^◌, ◌<◌, ◌≤◌, Bool, true, false, cond, eqb, List, [], ◌∷◌, ◌++◌, map, length, get_or, sym, refl, ap, ◌∙◌, ⊎_elim, append_assoc, append-nil, pow-suc, add-one, arith}
use native.Mathlib.Nat.{pow-le-pow_right}
use lib.ListN.{length-map}
use Rattle.std.proofs.lemmas.Int.Digits.{digits_of_step, length-digits_of-le, first_digits_of}
use Rattle.std.proofs.lemmas.Fmt.{hex_one_digit, digits_is_IsNumeral}
use Rattle.std.specs.Str.Parse.{digits_value}
use Rattle.std.proofs.ByRecursion.{All-get_or}
use Rattle.std.proofs.lemmas.List.{get_or-map, map_push}
use Rattle.std.proofs.lemmas.Bool.{cases_eq, cases_lt, cond-true, cond-false, eq-eqb, ne_eqb}
use Rattle.std.proofs.lemmas.Bool.Decides.{nat_tests}
use Rattle.std.specs.Fmt.{digits, digits_onto}
use Rattle.std.specs.Int.Digits.{digits_of}
use Rattle.std.specs.List.{AllByRecursion}
use Rattle.runtext.specs.Lines.{Number}
use Rattle.runtext.specs.Numerals.{hexit, numeral}

pub hexit_least : (d : ℕ) → 48 ≤ hexit d
hexit_least d = grind (arith, nat_tests)

pub hexit_zero : (d : ℕ) → hexit d ≡ 48 → d ≡ 0
hexit_zero d e = grind (arith, nat_tests)

-- the digits that are put before acc, by the list of a number's digits
onto : (k n : ℕ) (acc : List ℕ) → 0 < n → n < 16 ^ k → digits_onto k 16 false n acc ≡ map hexit (digits_of 16 n) ++ acc
onto zero n acc pos h = absurd (omega arith)
onto (suc k) n acc pos h =
    let below : n < 16 * 16 ^ k = omega (arith, simp pow-suc at h) in
    let step : map hexit (digits_of 16 n) ≡ map hexit (digits_of 16 (n / 16)) ++ (hexit (n % 16) ∷ []) =
    ap (map hexit) (digits_of_step 16 n (omega arith) pos) ∙ map_push hexit (digits_of 16 (n / 16)) (n % 16) in
    ⊎_elim
    (λ z. cond-true (eqb (n / 16) 0) _ _ (eq-eqb (n / 16) 0 z) ∙ sym (ap (λ t. t ++ acc) (step ∙ ap (λ m. map hexit (digits_of 16 m) ++ (hexit (n % 16) ∷ [])) z)))
    (λ p. cond-false (eqb (n / 16) 0) _ _ (ne_eqb (n / 16) 0 p) ∙ onto k (n / 16) (hexit (n % 16) ∷ acc) (omega arith) (omega arith)
    ∙ sym (ap (λ t. t ++ acc) step ∙ append_assoc (map hexit (digits_of 16 (n / 16))) (hexit (n % 16) ∷ []) acc))
    (cases_eq (n / 16) 0)

of_either : (P : List ℕ → Type 0) (t : Bool) (xs ys : List ℕ) → P xs → P ys → P (cond t xs ys)
of_either P true xs ys p q = p
of_either P false xs ys p q = q

-- what holds of the digit of each number below 16 holds of all that are put
all_onto : (P : ℕ → Type 0) → ((d : ℕ) → d < 16 → P (hexit d)) → (k n : ℕ) (acc : List ℕ) → AllByRecursion P acc → AllByRecursion P (digits_onto k 16 false n acc)
all_onto P g zero n acc a = a
all_onto P g (suc k) n acc a =
    let more : AllByRecursion P (hexit (n % 16) ∷ acc) = (g (n % 16) (omega arith), a) in
    of_either (AllByRecursion P) (eqb (n / 16) 0) _ _ more (all_onto P g k (n / 16) (hexit (n % 16) ∷ acc) more)

grows : (k n : ℕ) (acc : List ℕ) → length acc ≤ length (digits_onto k 16 false n acc)
grows zero n acc = omega arith
grows (suc k) n acc = of_either (λ t. length acc ≤ length t) (eqb (n / 16) 0) _ _ (omega arith) (omega (arith, grows k (n / 16) (hexit (n % 16) ∷ acc)))

pow_some : (j : ℕ) → 0 < 16 ^ j
pow_some zero = omega arith
pow_some (suc j) = simp pow-suc (omega (arith, pow_some j))

-- a number of 16 ^ j or more has more than j digits
long_onto : (k j n : ℕ) (acc : List ℕ) → j < k → 16 ^ j ≤ n → j + length acc < length (digits_onto k 16 false n acc)
long_onto zero j n acc l h = absurd (omega arith)
long_onto (suc k) zero n acc l h = of_either (λ t. 0 + length acc < length t) (eqb (n / 16) 0) _ _ (omega arith) (omega (arith, grows k (n / 16) (hexit (n % 16) ∷ acc)))
long_onto (suc k) (suc j) n acc l h =
    let above : 16 * 16 ^ j ≤ n = omega (arith, simp pow-suc at h) in
    let some = pow_some j in
    omega (arith, ap length (cond-false (eqb (n / 16) 0) (hexit (n % 16) ∷ acc) (digits_onto k 16 false (n / 16) (hexit (n % 16) ∷ acc)) (ne_eqb (n / 16) 0 (λ e. omega arith))), long_onto k j (n / 16) (hexit (n % 16) ∷ acc) (omega arith) (omega arith))

pub numeral_zero : numeral 0 ≡ 48 ∷ []
numeral_zero = hex_one_digit false 0 (omega arith)

pub numeral_positive : (n : ℕ) → Number n → 0 < n → numeral n ≡ map hexit (digits_of 16 n)
unfolding digits
numeral_positive n small h = onto 64 n [] h (omega arith) ∙ append-nil (map hexit (digits_of 16 n))

-- one more digit
pub digits_more : (n d : ℕ) → d < 16 → 0 < n * 16 + d → map hexit (digits_of 16 (n * 16 + d)) ≡ map hexit (digits_of 16 n) ++ hexit d ∷ []
digits_more n d h pos =
    let q : (n * 16 + d) / 16 ≡ n = omega arith in
    let r : (n * 16 + d) % 16 ≡ d = omega arith in
    ap (map hexit) (digits_of_step 16 (n * 16 + d) (omega arith) pos ∙ (λ i. digits_of 16 (q i) ++ r i ∷ [])) ∙ map_push hexit (digits_of 16 n) d

some_onto : (k n : ℕ) → 0 < length (digits_onto (suc k) 16 false n [])
some_onto k n = of_either (λ t. 0 < length t) (eqb (n / 16) 0) _ _ (omega arith) (omega (arith, grows k (n / 16) (hexit (n % 16) ∷ [])))

pub numeral_some : (n : ℕ) → 0 < length (numeral n)
unfolding digits
numeral_some n = some_onto 63 n

-- digits alone
pub numeral_all : (P : ℕ → Type 0) → ((d : ℕ) → d < 16 → P (hexit d)) → (n : ℕ) → AllByRecursion P (numeral n)
unfolding digits
numeral_all P g n = all_onto P g 64 n [] tt

pub numeral_long : (n : ℕ) → 2 ^ 64 ≤ n → 16 < length (numeral n)
unfolding digits
numeral_long n h = omega (arith, long_onto 64 16 n [] (omega arith) (omega arith))

pub numeral_short : (n : ℕ) → Number n → length (numeral n) ≤ 16
numeral_short zero h = omega (arith, ap length numeral_zero)
numeral_short (suc n) h = omega (arith, ap length (numeral_positive (suc n) h (omega arith)), length-map (digits_of 16 (suc n)) hexit, length-digits_of-le 16 16 (suc n) (omega arith) h)

pub numeral_hexit : (n i : ℕ) → i < length (numeral n) → (d : ℕ) × (d < 16) × (hexit d ≡ get_or (numeral n) i 0)
numeral_hexit n i h = All-get_or (λ b. (d : ℕ) × (d < 16) × (hexit d ≡ b)) (numeral n) i 0 h (numeral_all _ (λ d l. (d, l, refl)) n)

pub numeral_lead : (n : ℕ) → Number n → get_or (numeral n) 0 0 ≡ 48 → n ≡ 0
numeral_lead zero h e = refl
numeral_lead (suc n) h e =
    let ds : List ℕ = digits_of 16 (suc n) in
    let is = numeral_positive (suc n) h (omega arith) in
    let p = first_digits_of 16 (suc n) (omega arith) (omega arith) in
    let l : 0 < length ds = omega (arith, numeral_some (suc n), ap length is, length-map ds hexit) in
    absurd (omega (arith, p, hexit_zero (get_or ds 0 0) (sym (get_or-map hexit ds 0 0 0 l) ∙ ap (λ t. get_or t 0 0) (sym is) ∙ e)))

-- i digits write less than 16 ^ i
pub under_more : (n d i : ℕ) → n < 16 ^ i → d < 16 → n * 16 + d < 16 ^ (i + 1)
under_more n d i h small = simp (add-one, pow-suc) (omega arith)

pub under_all : (n i : ℕ) → n < 16 ^ i → i ≤ 16 → n < 2 ^ 64
under_all n i h most = let p : 16 ^ i ≤ 16 ^ 16 = pow-le-pow_right (omega arith) most in omega arith

pub lone : (bs : List ℕ) → length bs ≡ 1 → bs ≡ get_or bs 0 0 ∷ []
lone [] h = absurd (omega arith)
lone (b ∷ []) h = refl
lone (b ∷ c ∷ bs) h = absurd (omega arith)

-- a numeral of 64 bits is that of one number
pub numeral_same : (m n : ℕ) → Number m → numeral m ≡ numeral n → m ≡ n
numeral_same m n h e =
    let value = λ (k : ℕ) (small : Number k). (digits_is_IsNumeral 16 false (omega arith) (omega arith) k (omega arith)).1 in
    ⊎_elim
    (λ k. sym (value m h) ∙ ap (digits_value 16) e ∙ value n k)
    (λ k. absurd (omega (arith, numeral_long n k, numeral_short m h, ap length e)))
    (cases_lt n (2 ^ 64))

-- a numeral by its last digit
pub numeral_digit : (n : ℕ) → n < 16 → numeral n ≡ hexit n ∷ []
numeral_digit n h = hex_one_digit false n h

pub numeral_last : (n : ℕ) → Number n → 16 ≤ n → numeral n ≡ numeral (n / 16) ++ hexit (n % 16) ∷ []
numeral_last n small h =
    numeral_positive n small (omega arith) ∙ ap (map hexit) (digits_of_step 16 n (omega arith) (omega arith)) ∙ map_push hexit (digits_of 16 (n / 16)) (n % 16)
    ∙ ap (λ t. t ++ hexit (n % 16) ∷ []) (sym (numeral_positive (n / 16) (omega arith) (omega arith)))
