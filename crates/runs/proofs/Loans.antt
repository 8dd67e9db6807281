-- A run over sources that are lent is the run over those that they are.
use Rattle.std.proofs.Common.{◌≡◌, ℕ, Option, Some, None, Ok, Err, Result, List, [], ◌∷◌, ap, sym, subst, ◌∙◌}
use Rattle.std.specs.Prelude.{MatchResult}
use Rattle.arch.specs.declared.condition.Condition.{Condition}
use Rattle.arch.specs.Walks.{Traced}
use Rattle.storage.specs.Views.{View}
use Rattle.storage.specs.Prefixes.{prefixed}
use Rattle.lookup.specs.Sources.{Kept, Empty, Moved}
use Rattle.lookup.specs.Access.{AccessFits}
use Rattle.lookup.specs.Lookups.{access_fresh, page_fresh}
use Rattle.lookup.specs.Spelling.{PageFits}
use Rattle.machine.specs.declared.request.Outcome.{Outcome}
use Rattle.machine.specs.declared.request.Request.{Request}
use Rattle.machine.specs.declared.sources.Sources.{Sources}
use Rattle.machine.specs.Effects.{Turn, purged, asked_for, left, Turns}
use Rattle.machine.specs.Law.{Lawful, Ran, State, Takes, next}
use Rattle.machine.specs.Turns.{Asked}
use Rattle.machine.specs.Scene.{AccessSource, PageSource, shown}

pub lent_result : (X Y : Type 0) (Q : Condition → Type 0) (r : Result (Unit {0}) Condition) → MatchResult r (λ _. X) Q → (X → Y) → MatchResult r (λ _. Y) Q
lent_result X Y Q (Ok u) x f = f x
lent_result X Y Q (Err e) x f = x

pub lent_name : {Key L : Type 0} (name : L → ℕ) (moves : Key → L → Type 0) (key : Option Key) (before after : L) → Moved key (λ k m. (name m ≡ name before) × moves k m) before after → name after ≡ name before
lent_name name moves None before after e = ap name e
lent_name name moves (Some k) before after e = e.0

pub lent_asked : {Key Answer S L : Type 0} (f : L → S) (name : L → ℕ) (fits : Key → Type 0) (fresh : Key → Traced Answer) (holds : S → Key → Answer → Type 0) (asks : S → (Key → Traced Answer) → Key → S → Type 0) (key : Option Key) (before after : L) (end : S)
    → Asked fits fresh (λ l. holds (f l)) (λ l g k m. (name m ≡ name l) × asks (f l) g k (f m)) key before after → (name before ≡ name after → end ≡ f after) → Asked fits fresh holds asks key (f before) end
lent_asked f name fits fresh holds asks None before after end t back = subst (λ v. Asked fits fresh holds asks None (f before) v) (sym (back (sym (ap name t.becomes)))) (record { widths = t.widths; becomes = ap f t.becomes; keeps = t.keeps })
lent_asked f name fits fresh holds asks (Some k) before after end t back = subst (λ v. Asked fits fresh holds asks (Some k) (f before) v) (sym (back (sym t.becomes.0))) (record { widths = t.widths; becomes = t.becomes.1; keeps = t.keeps })

module _ {Key Answer S L : Type 0} (f : L → S) (name : L → ℕ) (fits : Key → Type 0) (fresh : Key → Traced Answer) (holds : S → Key → Answer → Type 0) (asks : S → (Key → Traced Answer) → Key → S → Type 0) (clears : S → S → Type 0) where
  abbrev pub LentTurns : Turn Key → L → L → Type 0
  LentTurns turn before after = Turns fits fresh (λ l. holds (f l)) (λ l g k m. (name m ≡ name l) × asks (f l) g k (f m)) (λ l m. (name m ≡ name l) × clears (f l) (f m)) turn before after

  lent_turns : (turn : Turn Key) (before after : L) → LentTurns turn before after → Turns fits fresh holds asks clears turn (f before) (f after) × (name after ≡ name before)
  lent_turns purged before after t = (record { becomes = t.becomes.1; empty = t.empty }, t.becomes.0)
  lent_turns (asked_for k) before after t = (record { widths = t.widths; becomes = t.becomes.1; keeps = t.keeps }, t.becomes.0)
  lent_turns left before after t = (record { widths = t.widths; becomes = ap f t.becomes; keeps = t.keeps }, ap name t.becomes)

module _ {A P L M : Type 0} (a : AccessSource A) (p : PageSource P) (f : L → A) (h : M → P) (fname : L → ℕ) (hname : M → ℕ) where
  abbrev pub lent_access : AccessSource L
  lent_access = record { shows = λ s k. a.shows (f s) k; holds = λ s k x. a.holds (f s) k x; after_ask = λ s g k t. (fname t ≡ fname s) × a.after_ask (f s) g k (f t); after_purge = λ s t. (fname t ≡ fname s) × a.after_purge (f s) (f t) }

  abbrev pub lent_page : PageSource M
  lent_page = record { shows = λ s k. p.shows (h s) k; holds = λ s k x. p.holds (h s) k x; after_ask = λ s g k t. (hname t ≡ hname s) × p.after_ask (h s) g k (h t); after_purge = λ s t. (hname t ≡ hname s) × p.after_purge (h s) (h t) }

  abbrev pub at : Sources L M → Sources A P
  at b = record { access = f b.access; page = h b.page }

  abbrev pub Same : Sources L M → Sources L M → Type 0
  Same b d = (fname d.access ≡ fname b.access) × (hname d.page ≡ hname b.page)

  lent_lawful : (s : State) (b : Sources L M) (cs : List Request) (os : List Outcome) (s' : State) (b' : Sources L M)
      → Lawful lent_access lent_page s b cs os s' b' → Lawful a p s (at b) cs os s' (at b') × Same b b'
  lent_lawful s b [] [] s' b' (same, still) = ((same, ap at still), (ap (λ x. fname x.access) still, ap (λ x. hname x.page) still))
  lent_lawful s b [] (o ∷ os) s' b' law = absurd law
  lent_lawful s b (c ∷ cs) [] s' b' law = absurd law
  lent_lawful s b (c ∷ cs) (o ∷ os) s' b' (d, (takes, rest)) =
      let x = lent_turns f fname AccessFits (access_fresh (prefixed s.registers.prefix s.view).word) a.holds a.after_ask a.after_purge _ b.access d.access takes.access in
      let y = lent_turns h hname PageFits (page_fresh (prefixed s.registers.prefix s.view).word) p.holds p.after_ask p.after_purge _ b.page d.page takes.page in
      let more = lent_lawful (next s (shown lent_access lent_page b) c) d cs os s' b' rest in
      ((at d, (record { law = takes.law; access = x.0; page = y.0 }, more.0)), (more.1.0 ∙ x.1, more.1.1 ∙ y.1))

  pub lent_ran : {v v' : View} {b b' : Sources L M} {cs : List Request} {os : List Outcome} → Ran lent_access lent_page v b cs os v' b' → Ran a p v (at b) cs os v' (at b') × Same b b'
  lent_ran {v} {v'} {b} {b'} {cs} {os} ran =
      let law = lent_lawful _ ran.emptied cs os ran.last b' ran.law in (
        record {
          emptied = at ran.emptied;
          last = ran.last;
          empties = (record { becomes = ran.empties.0.becomes.1; empty = ran.empties.0.empty }, record { becomes = ran.empties.1.becomes.1; empty = ran.empties.1.empty });
          law = law.0;
          view = ran.view;
          holds = record { access = ran.holds.access; page = ran.holds.page };
        },
        (law.1.0 ∙ ran.empties.0.becomes.0, law.1.1 ∙ ran.empties.1.becomes.0),
      )
