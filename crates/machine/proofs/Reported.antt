-- From what a translation that is not refused reaches to what it makes.
use Rattle.std.proofs.Common.{◌≡◌, ℕ, ◌%◌, ◌≤◌, false, cond, ◌||◌, List, [], ◌++◌, length, None, Result, refl, sym, ap₂, ◌∙◌, subst, le-ltb, eq-eqb}
use Rattle.arch.specs.declared.call.Access.{Access}
use Rattle.arch.specs.declared.condition.Condition.{Condition}
use Rattle.arch.specs.Walks.{Traced, Gives}
use Rattle.storage.specs.declared.prefix.Prefixed.{Prefixed}
use Rattle.storage.specs.declared.storage.Storage.{Ghosts as StorageGhosts}
use Rattle.storage.specs.Prefixes.{prefixed}
use Rattle.storage.specs.Views.{View}
use Rattle.machine.specs.declared.counted.Counted.{Counted}
use Rattle.machine.specs.declared.sources.Operand.{Operand}
use Rattle.machine.specs.declared.sources.Sources.{Sources}
use Rattle.machine.specs.Calls.{Makes, Reports, accesses, refuses_access, access_key_asked, page_key_asked, refuses_translation, traced, translates}
use Rattle.machine.specs.Registers.{Registers}
use Rattle.machine.specs.Scene.{AccessSource, PageSource, Scene, ask_access, ask_page, scene, seen, shown}
use Rattle.machine.specs.Translation.{reach}
use Rattle.machine.specs.Turns.{AsksAccess, AsksPage}

abbrev pub Reached : Scene → Access → Operand → Traced ℕ
Reached n access o = reach n.registers (ask_access n) (ask_page n) n.real access o

-- neither refusal applies: a translation is its reach
unrefused : (n : Scene) (access : Access) (o : Operand) (places : ℕ) → o.register ≤ 15 → 12 ≤ places → (translates access o places).gives n ≡ Reached n access o
unrefused n access o places named enough = rw (le-ltb _ _ named, le-ltb _ _ enough) refl

traced_is : {A : Type 0} (t : Traced A) (came : Result A Condition) (before trace : List ℕ) → before ≡ [] → came ≡ t.result → trace ≡ before ++ t.trace → traced came trace ≡ t
traced_is t came before trace none e f = rw (e, f, none) refl

reported : (n : Scene) (access : Access) (o : Operand) (list list' before trace : List ℕ) (places : ℕ) (came : Result ℕ Condition) (r : Counted ℕ)
    → o.register ≤ 15 → 12 ≤ places → before ≡ [] → Gives 12 (Reached n access o) before trace came → Reports (traced came trace) list list' r
    → Reports ((translates access o places).gives n) list list' r
reported n access o list list' before trace places came r named enough none gives reports =
    rw (unrefused n access o places named enough) (subst (λ (t : Traced ℕ). Reports t list list' r) (traced_is (Reached n access o) came before trace none gives.result gives.trace) reports)

module _ {S A P : Type 0} (s : StorageGhosts S) (a : AccessSource A) (p : PageSource P) (r : Registers) (b d : Sources A P) (access : Access) (o : Operand) where
  abbrev at : View → Scene
  at real = seen r real (shown a p b)

  -- what was reached over a storage as real addresses reach it
  pub record Reaches (real : View) (before trace : List ℕ) (came : Result ℕ Condition) : Type 0 where
    pub gives : Gives 12 (Reached (at real) access o) before trace came
    pub asks_access : AsksAccess a real (access_key_asked (at real) o) b.access d.access
    pub asks_page : AsksPage p real (page_key_asked (at real) access o) b.page d.page

  -- so over the layer that the call has set
  pub made : (t u : Prefixed S) (list list' before trace : List ℕ) (came : Result ℕ Condition) (x : Counted ℕ)
      → u.prefix ≡ r.prefix → u.beneath ≡ t.beneath → o.register ≤ 15 → 12 ≤ length list → before ≡ []
      → Reaches (prefixed u.prefix (s.view u.beneath)) before trace came → Reports (traced came trace) list list' x
      → Makes a p (translates access o (length list)) (scene s a p r t b) b list x d list'
  made t u list list' before trace came x set under named enough none reaches reports =
      let real = prefixed r.prefix (s.view t.beneath) in
      let same : prefixed u.prefix (s.view u.beneath) ≡ real = ap₂ (λ q w. prefixed q (s.view w)) set under in
      let here = subst (λ v. Reaches v before trace came) same reaches in
      let free : refuses_translation o (length list) ≡ false = ap₂ (λ x y. x || y) (le-ltb _ _ named) (le-ltb _ _ enough) in
      record {
        reports = reported (at real) access o list list' before trace (length list) came x named enough none here.gives reports;
        access = subst (λ f. AsksAccess a real (cond f None (access_key_asked (at real) o)) b.access d.access) (sym free) here.asks_access;
        page = subst (λ f. AsksPage p real (cond f None (page_key_asked (at real) access o)) b.page d.page) (sym free) here.asks_page;
      }

-- no refusal of a fetch or a store applies: it makes its translation
module _ {A P : Type 0} (a : AccessSource A) (p : PageSource P) (n : Scene) (b d : Sources A P) (access : Access) (o : Operand) (list list' : List ℕ) (x : Counted ℕ) where
  pub accessed_made : o.register ≤ 15 → o.address % 8 ≡ 0 → 12 ≤ length list → Makes a p (translates access o (length list)) n b list x d list' → Makes a p (accesses access o (length list)) n b list x d list'
  accessed_made named even enough makes =
      let plain : refuses_translation o (length list) ≡ false = ap₂ (λ x y. x || y) (le-ltb _ _ named) (le-ltb _ _ enough) in
      let free : refuses_access o (length list) ≡ false = rw (le-ltb _ _ named, eq-eqb _ _ even, le-ltb _ _ enough) refl in
      let both = plain ∙ sym free in
      let same : (accesses access o (length list)).gives n ≡ (translates access o (length list)).gives n = rw (le-ltb _ _ named, eq-eqb _ _ even, le-ltb _ _ enough) refl in
      record {
        reports = subst (λ (t : Traced ℕ). Reports t list list' x) (sym same) makes.reports;
        access = subst (λ f. AsksAccess a n.real (cond f None (access_key_asked n o)) b.access d.access) both makes.access;
        page = subst (λ f. AsksPage p n.real (cond f None (page_key_asked n access o)) b.page d.page) both makes.page;
      }
