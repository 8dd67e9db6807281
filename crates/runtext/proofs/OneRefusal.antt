-- A text has one refusal. Assumes nothing.
use Rattle.std.proofs.Common.{◌≡◌, ℕ, ◌+◌, ◌≤◌, Bool, true, false, eqb, ltb, ◌⊎◌, List, [], ◌∷◌, ◌++◌, length, drop, IfErr, Ok, Err, Result, MatchBool, sym, refl, ap, ◌∙◌, subst, inl, inr, ⊎_elim, append_assoc, arith}
use Rattle.arch.specs.declared.condition.Condition.{Condition}
use Rattle.arch.specs.declared.condition.Condition.TheVariants.{TooMuch}
use Rattle.std.proofs.lemmas.List.Prefix.{front_rest}
use Rattle.std.proofs.lemmas.Bool.{ltb-false, ne_eqb, cond-false}
use Rattle.std.specs.List.{flat_map, AllByRecursion}
use Rattle.std.proofs.lemmas.Grind.{flat_map-append}
use Rattle.runtext.specs.declared.Counts.{Counts}
use Rattle.runtext.specs.declared.Refusal.{Refusal}
use Rattle.runtext.specs.declared.line.Line.{Line}
use Rattle.runtext.specs.Lines.{spell_fields, spell_line, Sound}
use Rattle.runtext.specs.Reading.{Lacks}
use Rattle.runtext.specs.Runs.{Run, lines, header, spell, counts, Readable}
use Rattle.runtext.specs.Verdicts.{Blames, Before, BadLine, Refused, first_field, first_line}
use Rattle.runtext.proofs.Lines.{spell_lacks}
use Rattle.runtext.proofs.Runs.{line_same, lines_same, goes, held}
use Rattle.runtext.proofs.Sofar.{Sofar, add, empty, start, further, spell_add, spell_empty}

-- of two rows of lines that begin a text one begins the other
compare : (ls ms : List Line) (x y : List ℕ) → AllByRecursion Sound ls → flat_map spell_line ls ++ x ≡ flat_map spell_line ms ++ y → ((ls ≡ ms) × (x ≡ y)) ⊎ (((n : Line) × (ns : List Line) × (ls ≡ ms ++ (n ∷ ns))) ⊎ ((n : Line) × (ns : List Line) × (ms ≡ ls ++ (n ∷ ns))))
compare [] [] x y h e = inl (refl, e)
compare [] (m ∷ ms) x y h e = inr (inr (m, ms, refl))
compare (l ∷ ls) [] x y h e = inr (inl (l, ls, refl))
compare (l ∷ ls) (m ∷ ms) x y h e =
    let p = line_same l m (flat_map spell_line ls ++ x) (flat_map spell_line ms ++ y) h.0 (sym (append_assoc (spell_line l) (flat_map spell_line ls) x) ∙ e ∙ append_assoc (spell_line m) (flat_map spell_line ms) y) in
    ⊎_elim
    (λ s. inl ((λ i. p.0 i ∷ s.0 i), s.1))
    (λ o. inr (⊎_elim (λ n. inl (n.0, n.1, λ i. p.0 i ∷ n.2 i)) (λ n. inr (n.0, n.1, λ i. sym p.0 i ∷ n.2 i)) o))
    (compare ls ms x y h.1 p.1)

spell_apart : (q r : Run) (x y : List ℕ) → spell q ++ x ≡ spell r ++ y → flat_map spell_line (lines q) ++ x ≡ flat_map spell_line (lines r) ++ y
unfolding spell
spell_apart q r x y e = ap (drop 6) e

spell_more : (q r : Run) (ns : List Line) → lines q ≡ lines r ++ ns → spell q ≡ spell r ++ flat_map spell_line ns
unfolding spell
spell_more q r ns e = ap (λ t. header ++ t) (ap (flat_map spell_line) e ∙ flat_map-append spell_line (lines r) ns)

line_is : (p x : List ℕ) → Lacks 10 p → first_line (p ++ (10 ∷ x)) ≡ p ++ (10 ∷ [])
line_is [] x l = refl
line_is (b ∷ p) x l = ap (λ t. b ∷ t) (cond-false (eqb b 10) [] (first_line (p ++ (10 ∷ x))) (ne_eqb b 10 l.0) ∙ line_is p x l.1)

-- a run that goes on along the text past the bad line of another
passes : (p : Counts) (text : List ℕ) (r q : Run) (rest rest' : List ℕ) (n : Line) (ns : List Line) → length text ≤ 65536 → Readable p r → Readable p q → spell r ++ rest ≡ text → spell q ++ rest' ≡ text → lines q ≡ lines r ++ (n ∷ ns) → ((k : Run) → Readable p k → spell k ≡ spell r ++ first_line rest → ⊥) → ⊥
passes p text r q rest rest' n ns short hr hq sr sq e breaks =
    let g = goes p q r n ns hq e in
    let ok = held Sound (lines r) n ns (subst (AllByRecursion Sound) e hq.spellable.sound) in
    let after : List ℕ = flat_map spell_line ns ++ rest' in
    let here : spell r ++ (spell_line n ++ after) ≡ text =
    ap (λ t. spell r ++ t) (sym (append_assoc (spell_line n) (flat_map spell_line ns) rest')) ∙ sym (append_assoc (spell r) (flat_map spell_line (n ∷ ns)) rest') ∙ ap (λ t. t ++ rest') (sym (spell_more q r (n ∷ ns) e)) ∙ sq in
    let is : spell_line n ++ after ≡ rest = sym (front_rest text (spell r) (spell_line n ++ after) (sym here)) ∙ front_rest text (spell r) rest (sym sr) in
    let s : Sofar p text (counts r) rest r = record { split = sr; readable = hr; counted = refl } in
    let t = further s n after short ok g is in
    let l : first_line rest ≡ spell_line n = ap first_line (sym is ∙ append_assoc (spell_fields n) (10 ∷ []) after) ∙ line_is (spell_fields n) after (spell_lacks n) in
    breaks (add r n) t.readable (spell_add r n g.1 ∙ ap (λ u. spell r ++ u) (sym l))

blames_same : (p found : Counts) (field : List ℕ) (c d : Condition) → Blames p found field c → Blames p found field d → c ≡ d
blames_same p found field c d (inl a) (inl b) = a.0 ∙ sym b.0
blames_same p found field c d (inl a) (inr b) = absurd (b.1 a.1)
blames_same p found field c d (inr a) (inl b) = absurd (a.1 b.1)
blames_same p found field c d (inr a) (inr b) = a.0 ∙ sym b.0

agree : (p found found' : Counts) (rest rest' : List ℕ) (e d : Refusal) → found ≡ found' → rest ≡ rest' → e.line ≡ d.line → Blames p found (first_field rest) e.condition → Blames p found' (first_field rest') d.condition → e ≡ d
agree p found found' rest rest' e d f r n a b =
    let b' = subst (λ t. Blames p found' (first_field t) d.condition) (sym r) b in
    let c = blames_same p found (first_field rest) e.condition d.condition a (subst (λ t. Blames p t (first_field rest) d.condition) (sym f) b') in
    λ i. record { condition = c i; line = n i }

-- a run's text has a first line
begins_run : (r : Run) (rest : List ℕ) → first_line (spell r ++ rest) ≡ header
unfolding spell
begins_run r rest = refl

first_passes : (p : Counts) (text : List ℕ) (r : Run) (rest : List ℕ) → spell r ++ rest ≡ text → ((k : Run) → Readable p k → spell k ≡ first_line text → ⊥) → ⊥
first_passes p text r rest e breaks = breaks empty (start p header [] refl).readable (spell_empty ∙ sym (begins_run r rest) ∙ ap first_line e)

-- the parts of a bad line, by which two of them are compared
module _ (p : Counts) (text : List ℕ) (short : length text ≤ 65536) where
  by_before : (e d : Refusal) (front rest : List ℕ) (found : Counts) (front' rest' : List ℕ) (found' : Counts) → front ++ rest ≡ text → front' ++ rest' ≡ text → ((k : Run) → Readable p k → spell k ≡ front ++ first_line rest → ⊥) → ((k : Run) → Readable p k → spell k ≡ front' ++ first_line rest' → ⊥) → Blames p found (first_field rest) e.condition → Blames p found' (first_field rest') d.condition → Before p front found e.line → Before p front' found' d.line → e ≡ d
  by_before e d front rest found front' rest' found' s s' k k' a b (inl x) (inl y) =
      agree p found found' rest rest' e d (x.1 ∙ sym y.1) (ap (λ t. t ++ rest) (sym x.0) ∙ s ∙ sym s' ∙ ap (λ t. t ++ rest') y.0) (x.2 ∙ sym y.2) a b
  by_before e d front rest found front' rest' found' s s' k k' a b (inl x) (inr y) =
      absurd (first_passes p text y.0 rest' (ap (λ t. t ++ rest') y.2 ∙ s') (λ q h f. k q h (f ∙ ap first_line (sym s ∙ ap (λ t. t ++ rest) x.0) ∙ ap (λ t. t ++ first_line rest) (sym x.0))))
  by_before e d front rest found front' rest' found' s s' k k' a b (inr x) (inl y) =
      absurd (first_passes p text x.0 rest (ap (λ t. t ++ rest) x.2 ∙ s) (λ q h f. k' q h (f ∙ ap first_line (sym s' ∙ ap (λ t. t ++ rest') y.0) ∙ ap (λ t. t ++ first_line rest') (sym y.0))))
  by_before e d front rest found front' rest' found' s s' k k' a b (inr x) (inr y) =
      let sx : spell x.0 ++ rest ≡ text = ap (λ t. t ++ rest) x.2 ∙ s in
      let sy : spell y.0 ++ rest' ≡ text = ap (λ t. t ++ rest') y.2 ∙ s' in
      ⊎_elim
      (λ m.
      let r = lines_same x.0 y.0 m.0 in
      agree p found found' rest rest' e d (x.3 ∙ ap counts r ∙ sym y.3) m.1 (x.4 ∙ ap (λ t. length (lines t) + 2) r ∙ sym y.4) a b)
      (λ o. ⊎_elim
      (λ n. absurd (passes p text y.0 x.0 rest' rest n.0 n.1 short y.1 x.1 sy sx n.2 (λ q h f. k' q h (f ∙ ap (λ t. t ++ first_line rest') y.2))))
      (λ n. absurd (passes p text x.0 y.0 rest rest' n.0 n.1 short x.1 y.1 sx sy n.2 (λ q h f. k q h (f ∙ ap (λ t. t ++ first_line rest) x.2))))
      o)
      (compare (lines x.0) (lines y.0) rest rest' x.1.spellable.sound (spell_apart x.0 y.0 rest rest' (sx ∙ sym sy)))

  bad_same : (e d : Refusal) → BadLine p text e → BadLine p text d → e ≡ d
  bad_same e d a b = by_before e d a.front a.rest a.found b.front b.rest b.found a.split b.split a.breaks b.breaks a.blames b.blames a.before b.before

pub one_refusal : (p : Counts) (text : List ℕ) (e d : Refusal) → Refused p text e → Refused p text d → e ≡ d
one_refusal p text e d = by_length (ltb 65536 (length text)) refl
  where
    Verdict : Bool → Refusal → Type 0
    Verdict t e = MatchBool t ((e.condition ≡ TooMuch) × (e.line ≡ 1)) (BadLine p text e)

    by_length : (t : Bool) → ltb 65536 (length text) ≡ t → Verdict t e → Verdict t d → e ≡ d
    by_length true _ a b = λ i. record { condition = (a.0 ∙ sym b.0) i; line = (a.1 ∙ sym b.1) i }
    by_length false f a b = bad_same p text (omega (arith, ltb-false 65536 (length text) f)) e d a b

-- where a text is refused, that is its one refusal
pub single : {A : Type 0} (p : Counts) (text : List ℕ) (o : Result A Refusal) → IfErr o (Refused p text) → IfErr o (λ e. (d : Refusal) → Refused p text d → d ≡ e)
single p text (Ok n) r = tt
single p text (Err e) r = λ d h. one_refusal p text d e h r
