-- A run on its way out, line by line. Assumes nothing.
use Rattle.std.proofs.Common.{◌≡◌, ℕ, ◌+◌, ◌<◌, ◌≤◌, List, [], ◌∷◌, ◌++◌, length, None, sym, refl, ap, ◌∙◌, subst, inl, inr, ⊎_elim, append_assoc, append-nil, arith, length-append}
use Rattle.arch.specs.declared.condition.Condition.{Condition}
use Rattle.std.proofs.lemmas.Grind.{flat_map-append}
use Rattle.std.specs.List.{flat_map}
use Rattle.runtext.specs.declared.Counts.{Counts}
use Rattle.runtext.specs.declared.line.Line.{Line}
use Rattle.runtext.specs.Lines.{letter, fields, kind_of, spell_line, Sound}
use Rattle.runtext.specs.Passes.{Steps, one_more}
use Rattle.runtext.specs.Runs.{Run, lines, header, spell, Readable}
use Rattle.runtext.specs.Verdicts.{Full, Late, Blames, BadLine, no_lines, first_field}
use Rattle.runtext.specs.Writing.{Faulty}
use Rattle.runtext.proofs.FirstField.{field_stops}
use Rattle.runtext.proofs.Lines.{letter_same, letter_least}
use Rattle.runtext.proofs.Runs.{line_same, lines_same, in_order}
use Rattle.runtext.proofs.Sofar.{Sofar, add, empty, start, further, bad_line, no_run, lines_add}

pub spelt_none : (r : Run) → header ++ flat_map spell_line (lines r) ≡ spell r
unfolding spell
spelt_none r = refl

-- the text of a run has the first line, and the bytes of its first lines and of the others
pub spelt_parts : (r : Run) (past left : List Line) → past ++ left ≡ lines r → length (spell r) ≡ 6 + (length (flat_map spell_line past) + length (flat_map spell_line left))
unfolding spell
spelt_parts r past left e =
    let whole = ap (λ ls. length (header ++ flat_map spell_line ls)) e in
    omega (arith, whole, ap length (flat_map-append spell_line past left), length-append (flat_map spell_line past) (flat_map spell_line left))

-- the first field of a line
field_is : (l : Line) (x : List ℕ) → first_field (spell_line l ++ x) ≡ letter (kind_of l) ∷ []
field_is l x =
    field_stops (letter (kind_of l) ∷ []) (9 ∷ ((fields l ++ (10 ∷ [])) ++ x)) (λ e. omega (arith, letter_least (kind_of l), e), tt) (λ e. omega (arith, letter_least (kind_of l), e), tt) refl

blames : (p found : Counts) (l : Line) (x : List ℕ) (c : Condition) → Faulty p found l c → Blames p found (first_field (spell_line l ++ x)) c
blames p found l x c (inl f) = inl (f.0, (kind_of l, sym (field_is l x), f.1))
blames p found l x c (inr f) = inr (f.0, λ o. f.1 (subst (Full p found) (letter_same o.0 (kind_of l) (cc (o.1 ∙ field_is l x))) o.2))

-- the lines of a run up to those that are left make up the run q, and may come so where there are these places
pub record Going (p : Counts) (r : Run) (past left : List Line) (found : Counts) (q : Run) : Type 0 where
  pub whole : past ++ left ≡ lines r
  pub before : lines q ≡ past
  pub sofar : Sofar p (spell r) found (flat_map spell_line left) q

pub set_out : (p : Counts) (r : Run) (left : List Line) → left ≡ lines r → Going p r [] left no_lines empty
set_out p r left e = record { whole = e; before = refl; sofar = start p (spell r) (flat_map spell_line left) (ap (λ ls. header ++ flat_map spell_line ls) e ∙ spelt_none r) }

module _ {p : Counts} {r : Run} {past left : List Line} {found : Counts} {q : Run} (g : Going p r past left found q) where
  pub arrived : left ≡ [] → Readable p r
  arrived e = subst (Readable p) (lines_same q r (g.before ∙ sym (append-nil past) ∙ ap (λ ls. past ++ ls) (sym e) ∙ g.whole)) g.sofar.readable

  module _ {l : Line} {ls : List Line} (h : left ≡ l ∷ ls) where
    ahead : lines r ≡ lines q ++ (l ∷ ls)
    ahead = sym g.whole ∙ (λ k. sym g.before k ++ h k)

    in_line : Late found (kind_of l) → ⊥
    in_line = subst (λ n. Late n (kind_of l) → ⊥) (sym g.sofar.counted) (in_order r q l ls ahead)

    pub go_further : length (spell r) ≤ 65536 → Sound l → (Full p found (kind_of l) → ⊥) → Going p r (past ++ (l ∷ [])) ls (one_more found l) (add q l)
    go_further short ok room = record {
      whole = append_assoc past (l ∷ []) ls ∙ ap (λ t. past ++ t) (sym h) ∙ g.whole;
      before = lines_add q l (in_order r q l ls ahead) ∙ ap (λ t. t ++ (l ∷ [])) g.before;
      sofar = further g.sofar l (flat_map spell_line ls) short ok (room, in_line) (ap (flat_map spell_line) (sym h));
    }

    -- a line that may not come there is the first bad one
    module _ {c : Condition} (f : Faulty p found l c) where
      told : Steps p found (flat_map spell_line left) None
      told x v e =
          let same = (line_same x.0 l x.1 (flat_map spell_line ls) v.0 (e ∙ ap (flat_map spell_line) h)).0 in
          ⊎_elim
          (λ a. v.1.0 (subst (λ m. Full p found (kind_of m)) (sym same) a.1))
          (λ a. a.2 (subst Sound same v.0))
          f

      some : 0 < length (flat_map spell_line left)
      some = omega (arith, ap (λ t. length (flat_map spell_line t)) h)

      pub stopped : (n : ℕ) → n ≡ found.words + found.keys + found.calls + 2 → BadLine p (spell r) (record { condition = c; line = n })
      stopped n is =
          bad_line g.sofar some told (record { condition = c; line = n }) is
          (subst (λ t. Blames p found (first_field (flat_map spell_line t)) c) (sym h) (blames p found l (flat_map spell_line ls) c f))

      pub no_text : Readable p r → ⊥
      no_text h = no_run g.sofar some told r (h, refl)
