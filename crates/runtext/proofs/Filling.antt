-- How far the places that are lent are filled. Assumes nothing.
use Rattle.std.proofs.Common.{◌≡◌, ℕ, ◌+◌, ◌<◌, ◌≤◌, List, [], ◌∷◌, ◌++◌, length, take, drop, set, None, sym, refl, ap, ◌∙◌, subst, ⊎_elim, arith}
use Rattle.std.proofs.lemmas.List.{take_more_set, drop-set-lt, drop-drop}
use Rattle.std.proofs.lemmas.Bool.{cases_lt}
use Rattle.runtext.specs.declared.Counts.{Counts}
use Rattle.runtext.specs.declared.line.Line.{Line}
use Rattle.runtext.specs.declared.line.Line.TheVariants as line
use Rattle.runtext.specs.declared.places.Places.{Places}
use Rattle.runtext.specs.Lines.{kind_of, spell_line, Sound}
use Rattle.runtext.specs.Passes.{Steps, PutIn, SamePlaces, Left, Filled, one_more}
use Rattle.runtext.specs.Runs.{Run, header, lent, run_in, Spells}
use Rattle.runtext.specs.Verdicts.{Full, Goes, no_lines}
use Rattle.runtext.proofs.Runs.{text_same}
use Rattle.runtext.proofs.Sofar.{Sofar, start, further, done, no_run}

-- one place more of a list
record Placed {X : Type 0} (xs xs' xs'' : List X) (n : ℕ) (x : X) : Type 0 where
  front : take (n + 1) xs'' ≡ take n xs' ++ (x ∷ [])
  back : drop (n + 1) xs'' ≡ drop (n + 1) xs

placed : {X : Type 0} (xs xs' xs'' : List X) (n : ℕ) (x : X) → n < length xs' → xs'' ≡ set xs' n x → drop n xs' ≡ drop n xs → Placed xs xs' xs'' n x
placed xs xs' xs'' n x h e d = record {
  front = ap (take (n + 1)) e ∙ take_more_set xs' n x h;
  back = ap (drop (n + 1)) e ∙ drop-set-lt (n + 1) xs' n x (omega arith) ∙ sym (drop-drop 1 n xs') ∙ ap (drop 1) d ∙ drop-drop 1 n xs;
}

same_places : {p p' p'' : Places} → SamePlaces p p' → SamePlaces p' p'' → SamePlaces p p''
same_places a b = record { words = b.words ∙ a.words; keys = b.keys ∙ a.keys; calls = b.calls ∙ a.calls; many = b.many ∙ a.many }

-- the run in the first places is what text says before rest, and the other places are as they were
pub record Filling (text : List ℕ) (p : Places) (found : Counts) (rest : List ℕ) (p' : Places) : Type 0 where
  pub sofar : Sofar (lent p) text found rest (run_in p' found)
  pub same : SamePlaces p p'
  pub left : Left found p p'

module _ {text : List ℕ} {p : Places} where
  pub fill_start : (rest : List ℕ) → header ++ rest ≡ text → Filling text p no_lines rest p
  fill_start rest e = record {
    sofar = start (lent p) text rest e;
    same = record { words = refl; keys = refl; calls = refl; many = refl };
    left = record { words = refl; keys = refl; calls = refl };
  }

  module _ {found : Counts} {rest : List ℕ} {p' : Places} (f : Filling text p found rest p') where
    -- a line that may come has a place
    pub room : (l : Line) → Goes (lent p) found (kind_of l) → Full (lent p') found (kind_of l) → ⊥
    room l g n = g.0 (subst (λ p. Full p found (kind_of l)) f.same.many n)

    pub fill_more : (l : Line) (after : List ℕ) (p'' : Places) → length text ≤ 65536 → Sound l → Goes (lent p) found (kind_of l) → spell_line l ++ after ≡ rest → PutIn l found p' p'' → SamePlaces p' p'' → Filling text p (one_more found l) after p''
    fill_more (line.Doubleword w) after p'' short ok g e put same =
        let h : found.words < length p'.words.now = ⊎_elim (λ h. h) (λ h. absurd (room (line.Doubleword w) g (omega arith))) (cases_lt found.words (length p'.words.now)) in
        let q = placed p.words.now p'.words.now p''.words.now found.words w h put.words f.left.words in
        let s = further f.sofar (line.Doubleword w) after short ok g e in
        record {
          sofar = subst (Sofar (lent p) text (one_more found (line.Doubleword w)) after) (λ i. record { words = sym q.front i; keys = take found.keys (sym put.keys i); calls = take found.calls (sym put.calls i) }) s;
          same = same_places f.same same;
          left = record { words = q.back; keys = ap (drop found.keys) put.keys ∙ f.left.keys; calls = ap (drop found.calls) put.calls ∙ f.left.calls };
        }
    fill_more (line.Key k) after p'' short ok g e put same =
        let h : found.keys < length p'.keys.now = ⊎_elim (λ h. h) (λ h. absurd (room (line.Key k) g (omega arith))) (cases_lt found.keys (length p'.keys.now)) in
        let q = placed p.keys.now p'.keys.now p''.keys.now found.keys k h put.keys f.left.keys in
        let s = further f.sofar (line.Key k) after short ok g e in
        record {
          sofar = subst (Sofar (lent p) text (one_more found (line.Key k)) after) (λ i. record { words = take found.words (sym put.words i); keys = sym q.front i; calls = take found.calls (sym put.calls i) }) s;
          same = same_places f.same same;
          left = record { words = ap (drop found.words) put.words ∙ f.left.words; keys = q.back; calls = ap (drop found.calls) put.calls ∙ f.left.calls };
        }
    fill_more (line.Call c) after p'' short ok g e put same =
        let h : found.calls < length p'.calls.now = ⊎_elim (λ h. h) (λ h. absurd (room (line.Call c) g h)) (cases_lt found.calls (length p'.calls.now)) in
        let q = placed p.calls.now p'.calls.now p''.calls.now found.calls c h put.calls f.left.calls in
        let s = further f.sofar (line.Call c) after short ok g e in
        record {
          sofar = subst (Sofar (lent p) text (one_more found (line.Call c)) after) (λ i. record { words = take found.words (sym put.words i); keys = take found.keys (sym put.keys i); calls = sym q.front i }) s;
          same = same_places f.same same;
          left = record { words = ap (drop found.words) put.words ∙ f.left.words; keys = ap (drop found.keys) put.keys ∙ f.left.keys; calls = q.back };
        }

    -- where no line goes on, the text is at its end, since some run has it
    pub fill_done : (q : Run) → Spells (lent p) text q → Steps (lent p) found rest None → Filled text p p' found
    fill_done q h told =
        let s = done f.sofar (⊎_elim (λ some. absurd (no_run f.sofar some told q h)) (λ none. omega arith) (cases_lt 0 (length rest))) in
        record {
          spells = s;
          counted = f.sofar.counted;
          only = λ r t. text_same r (run_in p' found) t.0.spellable (t.1 ∙ sym s.1);
          same = f.same;
          left = f.left;
        }
