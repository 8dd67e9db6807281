-- Laws of walks and of their steps.
use Rattle.std.proofs.Common.{◌≡◌, ℕ, ◌+◌, ◌≤◌, Bool, true, false, ltb, List, ◌∷◌, ◌++◌, length, Some, None, Ok, Err, Option, Result, unwrap_or, sym, refl, ap, ◌∙◌, subst, arith, length-append}
use Rattle.std.proofs.lemmas.List.{append_assoc}
use Rattle.arch.specs.declared.condition.Condition.{Condition}
use Rattle.arch.specs.Walks.{Walk, answers, raises, reads, ◌>>=◌, check, Traced, reading, over, onward, then, Gives, Walks, asking, Agree, SeesOnlyItsTrace}

-- functions that agree everywhere read alike
reading_next : {A B : Type 0} (at : ℕ) (b : Bool) (v : Option ℕ) (f : ℕ → Traced A) (g : A → Traced B) (h : ℕ → Traced B) → ((w : ℕ) → h w ≡ then (f w) g) → reading at b v h ≡ then (reading at b v f) g
reading_next at false v f g h same = refl
reading_next at true None f g h same = refl
reading_next {A} {B} at true (Some w) f g h same = ap (asking at) (same w) ∙ shift (f w).trace (f w).result
  where
    shift : (l : List ℕ) (r : Result A Condition) → asking at (onward l r g) ≡ onward (at ∷ l) r g
    shift l (Ok a) = refl
    shift l (Err c) = refl

-- over a storage, a walk that goes on by another comes to the one and then the other
pub over_then : {A B : Type 0} (limit : ℕ) (word : ℕ → Option ℕ) (w : Walk A) (k : A → Walk B) → over limit word (w >>= k) ≡ then (over limit word w) (λ a. over limit word (k a))
over_then limit word (answers a) k = refl
over_then limit word (raises c) k = refl
over_then limit word (reads at next) k = reading_next at (ltb at limit) (word at) (λ v. over limit word (next v)) (λ a. over limit word (k a)) (λ v. over limit word (next v >>= k)) (λ v. over_then limit word (next v) k)

module _ {A B : Type 0} {m : ℕ} {t : Traced A} {before mid : List ℕ} (k : A → Traced B) where
  -- a step that answers, and one that goes on from there
  pub gives_on : {n : ℕ} {after : List ℕ} {r : Result B Condition} {a : A} → Gives m t before mid (Ok a) → Gives n (k a) mid after r → Gives (m + n) (then t k) before after r
  gives_on {n} {after} {r} {a} p q =
      let whole : onward t.trace (Ok a) k ≡ then t k = ap (λ o. onward t.trace o k) p.result in
      subst (λ o. Gives (m + n) o before after r) whole (record {
        result = q.result;
        trace = q.trace ∙ ap (λ l. l ++ (k a).trace) p.trace ∙ append_assoc before t.trace (k a).trace;
        few = simp length-append (omega (arith, p.few, q.few));
      })

  -- a step that meets a condition ends the whole
  pub gives_out : (n : ℕ) {c : Condition} → Gives m t before mid (Err c) → Gives (m + n) (then t k) before mid (Err c)
  gives_out n {c} p =
      let whole : onward t.trace (Err c) k ≡ then t k = ap (λ o. onward t.trace o k) p.result in
      subst (λ o. Gives (m + n) o before mid (Err c)) whole (record {
        result = refl;
        trace = p.trace;
        few = omega (arith, p.few);
      })

-- the same of two walks over one storage
module _ {A B : Type 0} {limit : ℕ} {word : ℕ → Option ℕ} {m : ℕ} {before mid : List ℕ} {w : Walk A} (k : A → Walk B) where
  pub walk_on : {n : ℕ} {after : List ℕ} {r : Result B Condition} {a : A} → Walks m limit word w before mid (Ok a) → Walks n limit word (k a) mid after r → Walks (m + n) limit word (w >>= k) before after r
  walk_on {n} {after} {r} p q = record { gives = subst (λ o. Gives (m + n) o before after r) (sym (over_then limit word w k)) (gives_on (λ a. over limit word (k a)) p.gives q.gives) }

  pub walk_out : (n : ℕ) {c : Condition} → Walks m limit word w before mid (Err c) → Walks (m + n) limit word (w >>= k) before mid (Err c)
  walk_out n {c} p = record { gives = subst (λ o. Gives (m + n) o before mid (Err c)) (sym (over_then limit word w k)) (gives_out (λ a. over limit word (k a)) n p.gives) }

-- what is listed begins with the address read, and goes on with the rest
module _ {A : Type 0} (word other : ℕ → Option ℕ) (at : ℕ) (next : ℕ → Traced A) where
  first_agrees : (t : Bool) (o : Option ℕ) → t ≡ true → Agree word other (reading at t o next).trace → word at ≡ other at
  first_agrees false o low agree = absurd cc
  first_agrees true None low agree = agree.0
  first_agrees true (Some v) low agree = agree.0

  rest_agrees : (t : Bool) (o : Option ℕ) (v : ℕ) → t ≡ true → o ≡ Some v → Agree word other (reading at t o next).trace → Agree word other (next v).trace
  rest_agrees false o v low here agree = absurd cc
  rest_agrees true None v low here agree = absurd cc
  rest_agrees true (Some u) v low here agree = subst (λ x. Agree word other (next x).trace) (ap (λ x. unwrap_or x 0) here) agree.1

-- a walk sees no more than it lists
reading_local : {A : Type 0} (at : ℕ) (t : Bool) (o p : Option ℕ) (one other : ℕ → Traced A) → (t ≡ true → o ≡ p) → ((v : ℕ) → o ≡ Some v → t ≡ true → other v ≡ one v) → reading at t p other ≡ reading at t o one
reading_local at false o p one other same rest = refl
reading_local at true None p one other same rest = ap (λ q. reading at true q other) (sym (same refl))
reading_local at true (Some v) p one other same rest = ap (λ q. reading at true q other) (sym (same refl)) ∙ ap (asking at) (rest v refl refl)

pub over_local : {A : Type 0} (limit : ℕ) (w : Walk A) → SeesOnlyItsTrace (λ word. over limit word w)
over_local limit (answers a) word other agree = refl
over_local limit (raises c) word other agree = refl
over_local limit (reads at next) word other agree =
    reading_local at (ltb at limit) (word at) (other at) (λ v. over limit word (next v)) (λ v. over limit other (next v))
    (λ low. first_agrees word other at (λ v. over limit word (next v)) (ltb at limit) (word at) low agree)
    (λ v here low. over_local limit (next v) word other (rest_agrees word other at (λ v. over limit word (next v)) (ltb at limit) (word at) v low here agree))

-- the lengths of lists, of one step after the other and of a read
pub few_onward : {A B : Type 0} (m n : ℕ) (l : List ℕ) (r : Result A Condition) (k : A → Traced B) → length l ≤ m → ((a : A) → length (k a).trace ≤ n) → length (onward l r k).trace ≤ m + n
few_onward m n l (Ok a) k short rest = let h = rest a in simp length-append (omega arith)
few_onward m n l (Err c) k short rest = omega arith

few_reading : {A : Type 0} (n at : ℕ) (t : Bool) (o : Option ℕ) (next : ℕ → Traced A) → ((v : ℕ) → length (next v).trace ≤ n) → length (reading at t o next).trace ≤ 1 + n
few_reading n at false o next rest = omega arith
few_reading n at true None next rest = omega arith
few_reading n at true (Some v) next rest = let h = rest v in omega arith

-- a walk lists at most so many addresses, over any storage
pub record Few {A : Type 0} (limit : ℕ) (n : ℕ) (w : Walk A) : Type 0 where
  pub few : (word : ℕ → Option ℕ) → length (over limit word w).trace ≤ n

module _ {limit : ℕ} where
  pub few_answer : {A : Type 0} {a : A} → Few limit 0 (answers a)
  few_answer = record { few = λ word. omega arith }

  pub few_last_check : (c : Condition) (t : Bool) → Few limit 0 (check c t)
  few_last_check c true = record { few = λ word. omega arith }
  few_last_check c false = record { few = λ word. omega arith }

  pub few_check : {B : Type 0} {n : ℕ} {w : Walk B} (c : Condition) (t : Bool) → Few limit n w → Few limit n (check c t >>= (λ _. w))
  few_check c true rest = record { few = λ word. omega arith }
  few_check c false rest = rest

  pub few_read : {B : Type 0} {n : ℕ} (at : ℕ) (k : ℕ → Walk B) → ((v : ℕ) → Few limit n (k v)) → Few limit (1 + n) (reads at k)
  few_read {B} {n} at k rest = record { few = λ word. few_reading n at (ltb at limit) (word at) (λ v. over limit word (k v)) (λ v. (rest v).few word) }

  pub few_then : {A B : Type 0} {m n : ℕ} {w : Walk A} {k : A → Walk B} → Few limit m w → ((a : A) → Few limit n (k a)) → Few limit (m + n) (w >>= k)
  few_then {A} {B} {m} {n} {w} {k} first rest =
      record { few = λ word. subst (λ s. length s.trace ≤ m + n) (sym (over_then limit word w k)) (few_onward m n (over limit word w).trace (over limit word w).result (λ a. over limit word (k a)) (first.few word) (λ a. (rest a).few word)) }
