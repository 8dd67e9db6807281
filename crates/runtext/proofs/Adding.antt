-- Bytes added to a text one after another. Assumes nothing.
use Rattle.std.proofs.Common.{◌≡◌, ℕ, ◌≤◌, List, [], ◌∷◌, ◌++◌, length, take, drop, sym, ap, ◌∙◌, append_assoc, arith, length-append}
use Rattle.std.proofs.lemmas.List.{take_at, drop_at, drop-drop, length-take-le}
use Rattle.runtext.specs.declared.text.Text.{Text}
use Rattle.runtext.specs.Writing.{Laid, Adds}

-- what follows is laid where this ends
laid_more : {at m n : ℕ} {xs ys e e' e'' : List ℕ} → Laid at xs e e' m → Laid m ys e' e'' n → at ≤ length e → Laid at (xs ++ ys) e e'' n
laid_more {at} {m} {n} {xs} {ys} {e} {e'} {e''} a b h =
    let fronts : e' ≡ (take at e ++ xs) ++ drop m e = a.text ∙ sym (append_assoc (take at e) xs (drop m e)) in
    let long : length (take at e ++ xs) ≡ m = length-append (take at e) xs ∙ omega (arith, length-take-le at e h, a.ends) in
    let front : take m e' ≡ take at e ++ xs = ap (take m) fronts ∙ take_at (take at e ++ xs) (drop m e) m long in
    let back : drop m e' ≡ drop m e = ap (drop m) fronts ∙ drop_at (take at e ++ xs) (drop m e) m long in
    let rest : drop n e' ≡ drop n e =
    ap (λ k. drop k e') b.ends ∙ sym (drop-drop (length ys) m e') ∙ ap (drop (length ys)) back ∙ drop-drop (length ys) m e ∙ ap (λ k. drop k e) (sym b.ends) in
    record {
      ends = b.ends ∙ omega (arith, a.ends, length-append xs ys);
      text = b.text ∙ (λ i. front i ++ (ys ++ rest i)) ∙ append_assoc (take at e) xs (ys ++ drop n e) ∙ ap (λ t. take at e ++ t) (sym (append_assoc xs ys (drop n e)));
    }

pub adds_more : {xs ys : List ℕ} {s t u : Text} → Adds xs s t → Adds ys t u → Adds (xs ++ ys) s u
adds_more {xs} {ys} {s} {t} {u} a b = record {
  size = omega (arith, a.size, b.size, length-append xs ys);
  same = b.same ∙ a.same;
  room = b.room ∙ a.room;
  laid = λ h.
      let long = length-append xs ys in
      let first = a.laid (omega arith) in
      laid_more first (b.laid (omega (arith, a.room, first.ends))) (omega arith);
}

-- the same with a byte that is known by another name
pub adds_byte : {b c : ℕ} {ys : List ℕ} {s t u : Text} → b ≡ c → Adds (b ∷ []) s t → Adds ys t u → Adds (c ∷ ys) s u
adds_byte {b} {c} {ys} {s} {t} {u} e a r = rw e at (adds_more a r)
