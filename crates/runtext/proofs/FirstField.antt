-- Where the first field and the first line of a text end. Assumes nothing.
use Rattle.std.proofs.Common.{◌≡◌, ℕ, Bool, true, false, cond, eqb, ◌⊎◌, List, [], ◌∷◌, ◌++◌, Some, None, Option, sym, refl, ap, ◌∙◌, subst, inl, inr, append_assoc, append-nil}
use Rattle.std.proofs.lemmas.Bool.{ne_eqb, or_from, cond-false, cond-true, eq-eqb, cases_eq}
use Rattle.runtext.specs.Reading.{Lacks, Cut}
use Rattle.runtext.specs.Verdicts.{first_field, first_line}
use Rattle.runtext.proofs.Cuts.{cut_same}

pub lacks_front : (c : ℕ) (p q : List ℕ) → Lacks c (p ++ q) → Lacks c p
lacks_front c [] q h = tt
lacks_front c (b ∷ p) q h = (h.0, lacks_front c p q h.1)

pub field_stops : (f x : List ℕ) → Lacks 9 f → Lacks 10 f → first_field x ≡ [] → first_field (f ++ x) ≡ f
field_stops [] x l m e = e
field_stops (b ∷ f) x l m e =
    cond-false _ _ _ (or_from _ _ (ne_eqb b 9 l.0) (ne_eqb b 10 m.0)) ∙ ap (λ t. b ∷ t) (field_stops f x l.1 m.1 e)

pub field_found : (rest l f : List ℕ) (o q : Option (List ℕ)) → Lacks 10 l → Cut 10 rest l o → Lacks 9 f → Cut 9 l f q → first_field rest ≡ f
field_found rest l f None None ll e lf d =
    ap first_field (e ∙ d ∙ sym (append-nil f)) ∙ field_stops f [] lf (subst (Lacks 10) d ll) refl
field_found rest l f (Some a) None ll e lf d =
    ap first_field (e ∙ ap (λ t. t ++ (10 ∷ a)) d) ∙ field_stops f (10 ∷ a) lf (subst (Lacks 10) d ll) refl
field_found rest l f None (Some x) ll e lf d =
    ap first_field (e ∙ d) ∙ field_stops f (9 ∷ x) lf (lacks_front 10 f _ (subst (Lacks 10) d ll)) refl
field_found rest l f (Some a) (Some x) ll e lf d =
    ap first_field (e ∙ ap (λ t. t ++ (10 ∷ a)) d ∙ append_assoc f (9 ∷ x) (10 ∷ a))
    ∙ field_stops f (9 ∷ (x ++ (10 ∷ a))) lf (lacks_front 10 f _ (subst (Lacks 10) d ll)) refl

-- a line is cut off the text that it begins
pub line_rest : (bs : List ℕ) → (more : List ℕ) × (first_line bs ++ more ≡ bs)
line_rest [] = ([], refl)
line_rest (b ∷ bs) = by_end (eqb b 10) (line_rest bs)
  where
    by_end : (t : Bool) → ((more : List ℕ) × (first_line bs ++ more ≡ bs)) → (more : List ℕ) × ((b ∷ cond t [] (first_line bs)) ++ more ≡ b ∷ bs)
    by_end true r = (bs, refl)
    by_end false r = (r.0, ap (λ t. b ∷ t) r.1)

-- such a line ends where its first line end stands
ended_at : (bs : List ℕ) → (Lacks 10 (first_line bs) → ⊥) → (p : List ℕ) × Lacks 10 p × (first_line bs ≡ p ++ (10 ∷ []))
ended_at [] h = absurd (h tt)
ended_at (b ∷ bs) h = by_end (ended_at bs) (cases_eq b 10)
  where
    by_end : ((Lacks 10 (first_line bs) → ⊥) → (p : List ℕ) × Lacks 10 p × (first_line bs ≡ p ++ (10 ∷ []))) → (b ≡ 10) ⊎ (b ≡ 10 → ⊥) → (p : List ℕ) × Lacks 10 p × (first_line (b ∷ bs) ≡ p ++ (10 ∷ []))
    by_end go (inl e) = ([], tt, (λ i. e i ∷ cond-true (eqb b 10) [] (first_line bs) (eq-eqb b 10 e) i))
    by_end go (inr n) =
        let t = cond-false (eqb b 10) [] (first_line bs) (ne_eqb b 10 n) in
        let r = go (λ l. h (n, subst (Lacks 10) (sym t) l)) in
        (b ∷ r.0, (n, r.1), ap (λ l. b ∷ l) (t ∙ r.2))

-- a line that has its end is what a text is cut at
pub line_ended : (bs more more' p x : List ℕ) → first_line bs ++ more ≡ bs → (Lacks 10 (first_line bs) → ⊥) → Lacks 10 p → p ++ (10 ∷ x) ≡ first_line bs ++ more' → p ++ (10 ∷ more) ≡ bs
line_ended bs more more' p x e ended lp f =
    let g = ended_at bs ended in
    let s = cut_same 10 p g.0 x more' lp g.1 (f ∙ ap (λ t. t ++ more') g.2 ∙ append_assoc g.0 (10 ∷ []) more') in
    ap (λ t. t ++ (10 ∷ more)) s.0 ∙ sym (append_assoc g.0 (10 ∷ []) more) ∙ sym (ap (λ t. t ++ more) g.2) ∙ e
