-- How far a reader has come. Assumes nothing.
use Rattle.std.proofs.Common.{◌≡◌, ℕ, ◌+◌, ◌<◌, ◌≤◌, List, [], ◌∷◌, ◌++◌, map, length, None, sym, refl, ap, ◌∙◌, subst, inl, inr, ⊎_elim, append_assoc, append-nil, arith, length-append}
use lib.ListN.{length-map}
use Rattle.std.proofs.ByRecursion.{All-push}
use Rattle.std.proofs.lemmas.List.{map_push, nil_from_length, length_push}
use Rattle.std.proofs.lemmas.Bool.{cases_eq}
use Rattle.std.specs.List.{flat_map, AllByRecursion}
use Rattle.std.proofs.lemmas.Grind.{flat_map-append}
use Rattle.runtext.specs.declared.Counts.{Counts}
use Rattle.runtext.specs.declared.Refusal.{Refusal}
use Rattle.runtext.specs.declared.line.Line.{Line}
use Rattle.runtext.specs.declared.line.Line.TheVariants as line
use Rattle.runtext.specs.Lines.{kind_of, spell_fields, spell_line, Sound}
use Rattle.runtext.specs.Reading.{Lacks}
use Rattle.runtext.specs.Passes.{Steps, one_more}
use Rattle.runtext.specs.Runs.{Run, lines, header, spell, counts, Readable, Spells}
use Rattle.runtext.specs.Verdicts.{Full, Late, Goes, Blames, BadLine, no_lines, first_field, first_line}
use Rattle.runtext.proofs.FirstField.{line_rest, line_ended}
use Rattle.runtext.proofs.Lines.{spell_lacks, title, title_lacks}
use Rattle.runtext.proofs.Runs.{next_line}

-- a run with one line more
abbrev pub add : Run → Line → Run
add r (line.Doubleword w) = record { words = r.words ++ (w ∷ []); keys = r.keys; calls = r.calls }
add r (line.Key k) = record { words = r.words; keys = r.keys ++ (k ∷ []); calls = r.calls }
add r (line.Call c) = record { words = r.words; keys = r.keys; calls = r.calls ++ (c ∷ []) }

pub lines_add : (r : Run) (l : Line) → (Late (counts r) (kind_of l) → ⊥) → lines (add r l) ≡ lines r ++ (l ∷ [])
lines_add r (line.Doubleword w) h =
    let ds = map line.Doubleword r.words in
    let ks : r.keys ≡ [] = nil_from_length r.keys (⊎_elim (λ e. e) (λ n. absurd (h (omega arith))) (cases_eq (length r.keys) 0)) in
    let cs : r.calls ≡ [] = nil_from_length r.calls (⊎_elim (λ e. e) (λ n. absurd (h (omega arith))) (cases_eq (length r.calls) 0)) in
    let end : map line.Key r.keys ++ map line.Call r.calls ≡ [] = λ i. map line.Key (ks i) ++ map line.Call (cs i) in
    (λ i. map_push line.Doubleword r.words w i ++ end i) ∙ append-nil (ds ++ (line.Doubleword w ∷ []))
    ∙ sym (ap (λ t. (ds ++ t) ++ (line.Doubleword w ∷ [])) end ∙ ap (λ t. t ++ (line.Doubleword w ∷ [])) (append-nil ds))
lines_add r (line.Key k) h =
    let ds = map line.Doubleword r.words in
    let ks = map line.Key r.keys in
    let cs : r.calls ≡ [] = nil_from_length r.calls (⊎_elim (λ e. e) (λ n. absurd (h (omega arith))) (cases_eq (length r.calls) 0)) in
    (λ i. ds ++ (map_push line.Key r.keys k i ++ map line.Call (cs i))) ∙ ap (λ t. ds ++ t) (append-nil (ks ++ (line.Key k ∷ [])))
    ∙ sym (ap (λ t. (ds ++ (ks ++ map line.Call t)) ++ (line.Key k ∷ [])) cs ∙ ap (λ t. (ds ++ t) ++ (line.Key k ∷ [])) (append-nil ks) ∙ append_assoc ds ks (line.Key k ∷ []))
lines_add r (line.Call c) h =
    let ds = map line.Doubleword r.words in
    let ks = map line.Key r.keys in
    let cs = map line.Call r.calls in
    ap (λ t. ds ++ (ks ++ t)) (map_push line.Call r.calls c)
    ∙ sym (append_assoc ds (ks ++ cs) (line.Call c ∷ []) ∙ ap (λ t. ds ++ t) (append_assoc ks cs (line.Call c ∷ [])))

pub spell_add : (r : Run) (l : Line) → (Late (counts r) (kind_of l) → ⊥) → spell (add r l) ≡ spell r ++ spell_line l
unfolding spell
spell_add r l h = ap (λ t. header ++ t) (ap (flat_map spell_line) (lines_add r l h) ∙ flat_map-append spell_line (lines r) (l ∷ []) ∙ ap (λ t. flat_map spell_line (lines r) ++ t) (append-nil (spell_line l)))

counts_add : (r : Run) (l : Line) → counts (add r l) ≡ one_more (counts r) l
counts_add r (line.Doubleword w) = λ i. record { words = length_push r.words w i; keys = length r.keys; calls = length r.calls }
counts_add r (line.Key k) = λ i. record { words = length r.words; keys = length_push r.keys k i; calls = length r.calls }
counts_add r (line.Call c) = λ i. record { words = length r.words; keys = length r.keys; calls = length_push r.calls c i }

-- the run r is what text says before rest, and has as many lines of each sort as were found
pub record Sofar (p : Counts) (text : List ℕ) (found : Counts) (rest : List ℕ) (r : Run) : Type 0 where
  pub split : spell r ++ rest ≡ text
  pub readable : Readable p r
  pub counted : found ≡ counts r

-- a run with no lines
abbrev pub empty : Run
empty = record { words = []; keys = []; calls = [] }

pub spell_empty : spell empty ≡ header
unfolding spell
spell_empty = refl

pub start : (p : Counts) (text rest : List ℕ) → header ++ rest ≡ text → Sofar p text no_lines rest empty
start p text rest e = record {
  split = ap (λ t. t ++ rest) spell_empty ∙ e;
  readable = record {
    spellable = record { sound = tt; words = omega arith; keys = omega arith; short = omega (arith, ap length spell_empty) };
    words = omega arith;
    keys = omega arith;
    calls = omega arith;
  };
  counted = refl;
}

-- there are fewer lines than bytes
pub lines_few : (ls : List Line) → length ls ≤ length (flat_map spell_line ls)
lines_few [] = omega arith
lines_few (l ∷ ls) = omega (arith, lines_few ls, length-append (spell_line l) (flat_map spell_line ls))

pub spell_long : (r : Run) → length (lines r) ≤ length (spell r)
unfolding spell
spell_long r = omega (arith, lines_few (lines r))

pub lines_counted : (r : Run) → length (lines r) ≡ (counts r).words + (counts r).keys + (counts r).calls
lines_counted r = simp (length-append, length-map) (omega arith)

pub few : (p : Counts) (text : List ℕ) (found : Counts) (rest : List ℕ) (r : Run) → Sofar p text found rest r → found.words + found.keys + found.calls ≤ length text
few p text found rest r s =
    omega (arith, ap (λ n. n.words) s.counted, ap (λ n. n.keys) s.counted, ap (λ n. n.calls) s.counted, lines_counted r, spell_long r, length-append (spell r) rest, ap length s.split)

line_some : (bs : List ℕ) → 0 < length bs → 0 < length (first_line bs)
line_some [] h = h
line_some (b ∷ bs) h = omega arith

module _ {p : Counts} {text : List ℕ} {found : Counts} {rest : List ℕ} {r : Run} (s : Sofar p text found rest r) where
  pub further : (l : Line) (after : List ℕ) → length text ≤ 65536 → Sound l → Goes p found (kind_of l) → spell_line l ++ after ≡ rest → Sofar p text (one_more found l) after (add r l)
  further l after short ok g e =
      let g' : Goes p (counts r) (kind_of l) = subst (λ n. Goes p n (kind_of l)) s.counted g in
      let split : spell (add r l) ++ after ≡ text = ap (λ t. t ++ after) (spell_add r l g'.1) ∙ append_assoc (spell r) (spell_line l) after ∙ ap (λ t. spell r ++ t) e ∙ s.split in
      let n = counts_add r l in
      let grown = room l g'.0 in
      record {
        split = split;
        readable = record {
          spellable = record {
            sound = subst (AllByRecursion Sound) (sym (lines_add r l g'.1)) (All-push Sound (lines r) l s.readable.spellable.sound ok);
            words = grown.0;
            keys = grown.1;
            short = omega (arith, length-append (spell (add r l)) after, ap length split);
          };
          words = grown.2;
          keys = grown.3;
          calls = grown.4;
        };
        counted = ap (λ n. one_more n l) s.counted ∙ sym n;
      }
    where
      room : (l : Line) → (Full p (counts r) (kind_of l) → ⊥) → (length (add r l).words ≤ 1024) × (length (add r l).keys ≤ 256) × (length (add r l).words ≤ p.words) × (length (add r l).keys ≤ p.keys) × (length (add r l).calls ≤ p.calls)
      room (line.Doubleword w) h = omega (arith, h, length_push r.words w, s.readable.words, s.readable.keys, s.readable.calls, s.readable.spellable.words, s.readable.spellable.keys)
      room (line.Key k) h = omega (arith, h, length_push r.keys k, s.readable.words, s.readable.keys, s.readable.calls, s.readable.spellable.words, s.readable.spellable.keys)
      room (line.Call c) h = omega (arith, h, length_push r.calls c, s.readable.words, s.readable.keys, s.readable.calls, s.readable.spellable.words, s.readable.spellable.keys)

  pub done : length rest ≡ 0 → Spells p text r
  done e = (s.readable, sym (append-nil (spell r)) ∙ ap (λ t. spell r ++ t) (sym (nil_from_length rest e)) ∙ s.split)

  -- where no line goes on and something is left, no run has the text, and the line breaks it off
  pub stuck : 0 < length rest → Steps p found rest None → (q : Run) → Readable p q → (more : List ℕ) (x : List ℕ) → 0 < length x → x ++ more ≡ rest → spell q ≡ spell r ++ x → ⊥
  stuck some told q h more x nx e f =
      ⊎_elim
      (λ z. omega (arith, ap length z))
      (λ n. told (n.0, n.1 ++ more) (n.2, subst (λ m. Goes p m (kind_of n.0)) (sym s.counted) n.3) (sym (append_assoc (spell_line n.0) n.1 more) ∙ ap (λ t. t ++ more) n.4 ∙ e))
      (next_line p q r x h f)

  pub no_run : 0 < length rest → Steps p found rest None → (q : Run) → Spells p text q → ⊥
  no_run some told q h = stuck some told q h.0 [] rest some (append-nil rest) (h.1 ∙ sym s.split)

  -- nor does its text begin so
  ended_stuck : 0 < length rest → Steps p found rest None → (q : Run) → Readable p q → (more : List ℕ) → (Lacks 10 (first_line rest) → ⊥) → spell q ≡ spell r ++ (first_line rest ++ more) → ⊥
  ended_stuck some told q h more ended f =
      let m = line_rest rest in
      ⊎_elim
      (λ z. omega (arith, line_some rest some, length-append (first_line rest) more, ap length z))
      (λ n.
      let e = line_ended rest m.0 more (spell_fields n.0) n.1 m.1 ended (spell_lacks n.0) (sym (append_assoc (spell_fields n.0) (10 ∷ []) n.1) ∙ n.4) in
      told (n.0, m.0) (n.2, subst (λ m. Goes p m (kind_of n.0)) (sym s.counted) n.3) (append_assoc (spell_fields n.0) (10 ∷ []) m.0 ∙ e))
      (next_line p q r (first_line rest ++ more) h f)

  pub bad_line : 0 < length rest → Steps p found rest None → (e : Refusal) → e.line ≡ found.words + found.keys + found.calls + 2 → Blames p found (first_field rest) e.condition → BadLine p text e
  bad_line some told e n b = record {
    front = spell r;
    rest = rest;
    found = found;
    split = s.split;
    before = inr (r, s.readable, refl, s.counted, omega (arith, n, lines_counted r, ap (λ n. n.words) s.counted, ap (λ n. n.keys) s.counted, ap (λ n. n.calls) s.counted));
    breaks = λ q h f. let m = line_rest rest in stuck some told q h m.0 (first_line rest) (line_some rest some) m.1 f;
    begins = λ q more h ended f. ended_stuck some told q h more ended f;
    blames = b;
  }

-- and where the first line is none
module _ {text : List ℕ} (told : (x : List ℕ) → header ++ x ≡ text → ⊥) where
  pub no_first : (q : Run) → spell q ≡ text → ⊥
  unfolding spell
  no_first q e = told (flat_map spell_line (lines q)) e

  begun : (q : Run) (more : List ℕ) → spell q ++ more ≡ text → ⊥
  unfolding spell
  begun q more f = told (flat_map spell_line (lines q) ++ more) f

  ended_first : (q : Run) (more : List ℕ) → (Lacks 10 (first_line text) → ⊥) → spell q ≡ first_line text ++ more → ⊥
  unfolding spell
  ended_first q more ended f = let m = line_rest text in told m.0 (line_ended text m.0 more title (flat_map spell_line (lines q)) m.1 ended title_lacks f)

  pub bad_first : (p : Counts) (e : Refusal) → e.line ≡ 1 → Blames p no_lines (first_field text) e.condition → BadLine p text e
  bad_first p e n b = record {
    front = [];
    rest = text;
    found = no_lines;
    split = refl;
    before = inl (refl, refl, n);
    breaks = λ q h f. let m = line_rest text in begun q m.0 (ap (λ t. t ++ m.0) f ∙ m.1);
    begins = λ q more h ended f. ended_first q more ended f;
    blames = b;
  }
