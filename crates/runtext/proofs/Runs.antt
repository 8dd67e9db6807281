-- Runs and their texts: a text says one run, and how a run goes on. Assumes nothing.
use Rattle.std.proofs.Common.{◌≡◌, ℕ, ◌+◌, ◌⊎◌, List, [], ◌∷◌, ◌++◌, map, length, drop, sym, refl, ap, ◌∙◌, subst, inl, inr, append_assoc, append-nil, arith, length-append}
use Rattle.arch.specs.declared.call.Call.{Call}
use Rattle.arch.specs.declared.call.Call.TheVariants as call
use Rattle.arch.specs.declared.record.BlockKey.{BlockKey}
use Rattle.arch.specs.declared.record.Word.{Word}
use Rattle.std.proofs.ByRecursion.{All-append}
use Rattle.std.specs.List.{flat_map, AllByRecursion}
use Rattle.std.proofs.lemmas.Grind.{flat_map-append}
use Rattle.runtext.specs.declared.Counts.{Counts}
use Rattle.runtext.specs.declared.line.Kind.{Kind}
use Rattle.runtext.specs.declared.line.Kind.TheVariants as kind
use Rattle.runtext.specs.declared.line.Line.{Line}
use Rattle.runtext.specs.declared.line.Line.TheVariants as line
use Rattle.runtext.specs.declared.line.Verb.TheVariants as verb
use Rattle.runtext.specs.Lines.{letter, two, call_fields, fields, verb_of, kind_of, spell_fields, spell_line, SoundCall, Sound}
use Rattle.runtext.specs.Numerals.{numeral}
use Rattle.runtext.specs.Runs.{Run, lines, spell, counts, Spellable, Readable}
use Rattle.runtext.specs.Verdicts.{Late, Goes}
use Rattle.runtext.proofs.ByKind.{by_kind, by_verb}
use Rattle.runtext.proofs.Cuts.{cut_same, numeral_lacks, two_same}
use Rattle.runtext.proofs.Lines.{letter_same, access_same, source_same, spell_lacks}
use Rattle.runtext.proofs.Numerals.{numeral_same}

-- a call and a line are told by their fields
call_same : (d c : Call) → verb_of c ≡ verb_of d → SoundCall c → call_fields c ≡ call_fields d → c ≡ d
call_same (call.LoadControl r v) c e = by_verb (λ c. SoundCall c → call_fields c ≡ two r v → c ≡ call.LoadControl r v) verb.LoadControl (λ s w h f. let t = two_same s w r v h.0 h.1 f in λ i. call.LoadControl (t.0 i) (t.1 i)) c e
call_same (call.LoadAccess r v) c e = by_verb (λ c. SoundCall c → call_fields c ≡ two r v → c ≡ call.LoadAccess r v) verb.LoadAccess (λ s w h f. let t = two_same s w r v h.0 h.1 f in λ i. call.LoadAccess (t.0 i) (t.1 i)) c e
call_same (call.LoadMode m s k) c e =
    by_verb (λ c. SoundCall c → call_fields c ≡ call_fields (call.LoadMode m s k) → c ≡ call.LoadMode m s k) verb.LoadMode (λ n t l h f.
    let p = cut_same 9 (numeral n) (numeral m) (two t l) (two s k) (numeral_lacks 9 n (omega arith)) (numeral_lacks 9 m (omega arith)) f in
    let q = numeral_same n m h.0 p.0 in
    let u = two_same t l s k h.1 h.2 p.1 in
    λ i. call.LoadMode (q i) (u.0 i) (u.1 i)) c e
call_same (call.SetPrefix p) c e = by_verb (λ c. SoundCall c → call_fields c ≡ numeral p → c ≡ call.SetPrefix p) verb.SetPrefix (λ q h f. ap call.SetPrefix (numeral_same q p h f)) c e
call_same (call.Translate a r d) c e =
    by_verb (λ c. SoundCall c → call_fields c ≡ call_fields (call.Translate a r d) → c ≡ call.Translate a r d) verb.Translate (λ b s g h f.
    let p = access_same b a (cc f) in
    let t = two_same s g r d h.0 h.1 (cc f) in
    λ i. call.Translate (p i) (t.0 i) (t.1 i)) c e
call_same (call.Put r v) c e = by_verb (λ c. SoundCall c → call_fields c ≡ two r v → c ≡ call.Put r v) verb.Put (λ s w h f. let t = two_same s w r v h.0 h.1 f in λ i. call.Put (t.0 i) (t.1 i)) c e
call_same (call.Purge s) c e = by_verb (λ c. SoundCall c → call_fields c ≡ call_fields (call.Purge s) → c ≡ call.Purge s) verb.Purge (λ t h f. ap call.Purge (source_same t s (cc f))) c e

fields_same : (m l : Line) → kind_of l ≡ kind_of m → Sound l → fields l ≡ fields m → l ≡ m
fields_same (line.Doubleword w) l e =
    by_kind (λ l. Sound l → fields l ≡ fields (line.Doubleword w) → l ≡ line.Doubleword w) kind.Doubleword (λ v h f.
    let t = two_same v.address v.value w.address w.value h.0 h.1 f in
    λ i. line.Doubleword (record { address = t.0 i; value = t.1 i })) l e
fields_same (line.Key k) l e =
    by_kind (λ l. Sound l → fields l ≡ fields (line.Key k) → l ≡ line.Key k) kind.Key (λ j h f.
    let t = two_same j.block j.key k.block k.key h.0 (omega arith) f in
    λ i. line.Key (record { block = t.0 i; key = t.1 i })) l e
fields_same (line.Call c) l e =
    by_kind (λ l. Sound l → fields l ≡ call_fields c → l ≡ line.Call c) (kind.Call (verb_of c)) (λ d g h f. ap line.Call (call_same c d g h f)) l e

-- a line that may stand in a text is told by its bytes
pub line_same : (l m : Line) (x y : List ℕ) → Sound l → spell_line l ++ x ≡ spell_line m ++ y → (l ≡ m) × (x ≡ y)
line_same l m x y h e =
    let p = cut_same 10 (spell_fields l) (spell_fields m) x y (spell_lacks l) (spell_lacks m) (sym (append_assoc (spell_fields l) (10 ∷ []) x) ∙ e ∙ append_assoc (spell_fields m) (10 ∷ []) y) in
    (fields_same m l (letter_same (kind_of l) (kind_of m) (cc p.0)) h (cc p.0), p.1)

-- lines that spell a text that others begin go on from these
go_on : (ms ls : List Line) (x : List ℕ) → AllByRecursion Sound ls → flat_map spell_line ls ≡ flat_map spell_line ms ++ x → (ns : List Line) × (ls ≡ ms ++ ns) × (x ≡ flat_map spell_line ns)
go_on [] ls x h e = (ls, refl, sym e)
go_on (m ∷ ms) [] x h e = absurd (omega (arith, ap length e))
go_on (m ∷ ms) (l ∷ ls) x h e =
    let p = line_same l m (flat_map spell_line ls) (flat_map spell_line ms ++ x) h.0 (e ∙ append_assoc (spell_line m) (flat_map spell_line ms) x) in
    let q = go_on ms ls x h.1 p.1 in
    (q.0, (λ i. p.0 i ∷ q.1 i), q.2)

-- what a line holds of each sort
word_in : Line → List Word
word_in (line.Doubleword w) = w ∷ []
word_in (line.Key k) = []
word_in (line.Call c) = []

key_in : Line → List BlockKey
key_in (line.Doubleword w) = []
key_in (line.Key k) = k ∷ []
key_in (line.Call c) = []

call_in : Line → List Call
call_in (line.Doubleword w) = []
call_in (line.Key k) = []
call_in (line.Call c) = c ∷ []

joined_map_all : {X Y : Type 0} (f : X → List Y) (g : Y → X) → ((y : Y) → f (g y) ≡ y ∷ []) → (ys : List Y) → flat_map f (map g ys) ≡ ys
joined_map_all f g h [] = refl
joined_map_all f g h (y ∷ ys) = λ i. h y i ++ joined_map_all f g h ys i

joined_map_none : {X Y Z : Type 0} (f : X → List Z) (g : Y → X) → ((y : Y) → f (g y) ≡ []) → (ys : List Y) → flat_map f (map g ys) ≡ []
joined_map_none f g h [] = refl
joined_map_none f g h (y ∷ ys) = λ i. h y i ++ joined_map_none f g h ys i

joined_lines : {Y : Type 0} (f : Line → List Y) (r : Run) → flat_map f (lines r) ≡ flat_map f (map line.Doubleword r.words) ++ (flat_map f (map line.Key r.keys) ++ flat_map f (map line.Call r.calls))
joined_lines f r = simp flat_map-append

words_of_lines : (r : Run) → flat_map word_in (lines r) ≡ r.words
unfolding word_in
words_of_lines r =
    joined_lines word_in r
    ∙ (λ i. joined_map_all word_in line.Doubleword (λ w. refl) r.words i ++ (joined_map_none word_in line.Key (λ k. refl) r.keys i ++ joined_map_none word_in line.Call (λ c. refl) r.calls i))
    ∙ append-nil r.words

keys_of_lines : (r : Run) → flat_map key_in (lines r) ≡ r.keys
unfolding key_in
keys_of_lines r =
    joined_lines key_in r
    ∙ (λ i. joined_map_none key_in line.Doubleword (λ w. refl) r.words i ++ (joined_map_all key_in line.Key (λ k. refl) r.keys i ++ joined_map_none key_in line.Call (λ c. refl) r.calls i))
    ∙ append-nil r.keys

calls_of_lines : (r : Run) → flat_map call_in (lines r) ≡ r.calls
unfolding call_in
calls_of_lines r =
    joined_lines call_in r
    ∙ (λ i. joined_map_none call_in line.Doubleword (λ w. refl) r.words i ++ (joined_map_none call_in line.Key (λ k. refl) r.keys i ++ joined_map_all call_in line.Call (λ c. refl) r.calls i))

-- lines say one run
pub lines_same : (q r : Run) → lines q ≡ lines r → q ≡ r
lines_same q r e = λ i. record {
  words = (sym (words_of_lines q) ∙ ap (flat_map word_in) e ∙ words_of_lines r) i;
  keys = (sym (keys_of_lines q) ∙ ap (flat_map key_in) e ∙ keys_of_lines r) i;
  calls = (sym (calls_of_lines q) ∙ ap (flat_map call_in) e ∙ calls_of_lines r) i;
}

-- what holds of each line holds of one
pub held : (P : Line → Type 0) (ls : List Line) (z : Line) (zs : List Line) → AllByRecursion P (ls ++ (z ∷ zs)) → P z
held P [] z zs a = a.0
held P (l ∷ ls) z zs a = held P ls z zs a.1

-- a line of none of these in the second part of a list stands in the first
in_front : (P : Line → Type 0) (xs ys as' bs : List Line) (z : Line) → AllByRecursion P ys → (P z → ⊥) → xs ++ ys ≡ as' ++ (z ∷ bs) → (ds : List Line) × (xs ≡ as' ++ (z ∷ ds))
in_front P [] ys as' bs z h n e = absurd (n (held P as' z bs (subst (AllByRecursion P) e h)))
in_front P (x ∷ xs) ys [] bs z h n e = let same : x ≡ z = cc in (xs, λ i. same i ∷ xs)
in_front P (x ∷ xs) ys (a ∷ as') bs z h n e =
    let same : x ≡ a = cc in
    let d = in_front P xs ys as' bs z h n (cc) in
    (d.0, λ i. same i ∷ d.1 i)

all_mapped : {Y : Type 0} (P : Line → Type 0) (g : Y → Line) → ((y : Y) → P (g y)) → (ys : List Y) → AllByRecursion P (map g ys)
all_mapped P g h [] = tt
all_mapped P g h (y ∷ ys) = (h y, all_mapped P g h ys)

-- what lines hold of a sort grows with them
grows : {Y : Type 0} (f : Line → List Y) (ls ms ns : List Line) (z : Line) → ls ≡ ms ++ (z ∷ ns) → length (flat_map f ls) ≡ length (flat_map f ms) + (length (f z) + length (flat_map f ns))
grows f ls ms ns z e = ap (λ t. length (flat_map f t)) e ∙ simp (flat_map-append, length-append)

apart : (j k : Kind) → (letter j ≡ letter k → ⊥) → j ≡ k → ⊥
apart j k h e = h (ap letter e)

-- the line after those of a run stands in the order of the sorts
pub in_order : (q r : Run) (z : Line) (zs : List Line) → lines q ≡ lines r ++ (z ∷ zs) → Late (counts r) (kind_of z) → ⊥
unfolding key_in call_in
in_order q r (line.Doubleword w) zs e =
    let P : Line → Type 0 = λ l. kind_of l ≡ kind.Doubleword → ⊥ in
    let d = in_front P (map line.Doubleword q.words) (map line.Key q.keys ++ map line.Call q.calls) (lines r) zs (line.Doubleword w)
    (All-append P (map line.Key q.keys) (map line.Call q.calls) (all_mapped P line.Key (λ k. apart _ _ (λ e. omega arith)) q.keys) (all_mapped P line.Call (λ c. λ e. never c e) q.calls))
    (λ n. n refl) e in
    let ks = grows key_in _ (lines r) d.0 (line.Doubleword w) d.1 in
    let cs = grows call_in _ (lines r) d.0 (line.Doubleword w) d.1 in
    λ f. omega (arith, ks, cs, ap length (joined_map_none key_in line.Doubleword (λ w. refl) q.words), ap length (joined_map_none call_in line.Doubleword (λ w. refl) q.words), ap length (keys_of_lines r), ap length (calls_of_lines r))
  where
    never : (c : Call) → kind.Call (verb_of c) ≡ kind.Doubleword → ⊥
    never c e = let z : ◌≡◌ {A = ℕ} 0 1 = cc in omega arith
in_order q r (line.Key k) zs e =
    let P : Line → Type 0 = λ l. kind_of l ≡ kind.Key → ⊥ in
    let d = in_front P (map line.Doubleword q.words ++ map line.Key q.keys) (map line.Call q.calls) (lines r) zs (line.Key k)
    (all_mapped P line.Call (λ c. λ e. never c e) q.calls)
    (λ n. n refl) (append_assoc _ (map line.Key q.keys) _ ∙ e) in
    let cs = grows call_in _ (lines r) d.0 (line.Key k) d.1 in
    let none = flat_map-append call_in (map line.Doubleword q.words) (map line.Key q.keys) ∙ (λ i. joined_map_none call_in line.Doubleword (λ w. refl) q.words i ++ joined_map_none call_in line.Key (λ k. refl) q.keys i) in
    λ f. omega (arith, cs, ap length none, ap length (calls_of_lines r))
  where
    never : (c : Call) → kind.Call (verb_of c) ≡ kind.Key → ⊥
    never c e = let z : ◌≡◌ {A = ℕ} 0 1 = cc in omega arith
in_order q r (line.Call c) zs e = λ f. f

-- and may come there
pub goes : (p : Counts) (q r : Run) (z : Line) (zs : List Line) → Readable p q → lines q ≡ lines r ++ (z ∷ zs) → Goes p (counts r) (kind_of z)
unfolding word_in key_in call_in
goes p q r (line.Doubleword w) zs h e =
    let more = grows word_in (lines q) (lines r) zs (line.Doubleword w) e in
    (λ f. omega (arith, more, ap length (words_of_lines q), ap length (words_of_lines r), h.words, h.spellable.words), in_order q r (line.Doubleword w) zs e)
goes p q r (line.Key k) zs h e =
    let more = grows key_in (lines q) (lines r) zs (line.Key k) e in
    (λ f. omega (arith, more, ap length (keys_of_lines q), ap length (keys_of_lines r), h.keys, h.spellable.keys), in_order q r (line.Key k) zs e)
goes p q r (line.Call c) zs h e =
    let more = grows call_in (lines q) (lines r) zs (line.Call c) e in
    (λ f. omega (arith, more, ap length (calls_of_lines q), ap length (calls_of_lines r), h.calls), in_order q r (line.Call c) zs e)

-- a text that goes on from the text of a run
run_goes_on : (q r : Run) (x : List ℕ) → Spellable q → spell q ≡ spell r ++ x → (ns : List Line) × (lines q ≡ lines r ++ ns) × (x ≡ flat_map spell_line ns)
unfolding spell
run_goes_on q r x h e = go_on (lines r) (lines q) x h.sound (ap (drop 6) e)

pub next_line : (p : Counts) (q r : Run) (x : List ℕ) → Readable p q → spell q ≡ spell r ++ x → (x ≡ []) ⊎ ((l : Line) × (after : List ℕ) × Sound l × Goes p (counts r) (kind_of l) × (spell_line l ++ after ≡ x))
next_line p q r x h e =
    let n = run_goes_on q r x h.spellable e in
    by_lines n.0 n.1 n.2
  where
    by_lines : (ns : List Line) → lines q ≡ lines r ++ ns → x ≡ flat_map spell_line ns → (x ≡ []) ⊎ ((l : Line) × (after : List ℕ) × Sound l × Goes p (counts r) (kind_of l) × (spell_line l ++ after ≡ x))
    by_lines [] a b = inl b
    by_lines (z ∷ zs) a b = inr (z, flat_map spell_line zs, held Sound (lines r) z zs (subst (AllByRecursion Sound) a h.spellable.sound), goes p q r z zs h a, sym b)

-- a text says one run
pub text_same : (q r : Run) → Spellable q → spell q ≡ spell r → q ≡ r
text_same q r h e =
    let n = run_goes_on q r [] h (e ∙ sym (append-nil (spell r))) in
    by_lines n.0 n.1 n.2
  where
    by_lines : (ns : List Line) → lines q ≡ lines r ++ ns → [] ≡ flat_map spell_line ns → q ≡ r
    by_lines [] a b = lines_same q r (a ∙ append-nil (lines r))
    by_lines (z ∷ zs) a b = absurd (omega (arith, ap length b))
