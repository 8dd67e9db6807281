-- What a call that translates makes is its whole effect.
use Rattle.std.proofs.Common.{◌≡◌, Bool, true, false, cond, List, ℕ, length, Some, None, Option, ap, ap₂, ◌∙◌, subst, Ok, Err, OnErr, Result, is_ok}
use Rattle.arch.specs.declared.call.Access.{Access}
use Rattle.arch.specs.declared.call.Access.TheVariants.{Store}
use Rattle.arch.specs.declared.call.Call.TheVariants as call
use Rattle.arch.specs.declared.condition.Condition.{Condition}
use Rattle.arch.specs.Walks.{Traced}
use Rattle.storage.specs.declared.prefix.Prefixed.{Prefixed}
use Rattle.storage.specs.declared.storage.Storage.{Ghosts as StorageGhosts}
use Rattle.storage.specs.Views.{View}
use Rattle.lookup.specs.declared.access.AccessKey.{AccessKey}
use Rattle.lookup.specs.declared.page.PageKey.{PageKey}
use Rattle.lookup.specs.Access.{AccessFits}
use Rattle.lookup.specs.Lookups.{access_fresh, page_fresh}
use Rattle.lookup.specs.Spelling.{PageFits}
use Rattle.machine.specs.declared.counted.Counted.{Counted}
use Rattle.machine.specs.declared.request.Outcome.TheVariants as outcome
use Rattle.machine.specs.declared.request.Request.TheVariants as request
use Rattle.machine.specs.declared.sources.Operand.{Operand}
use Rattle.machine.specs.declared.sources.Sources.{Sources}
use Rattle.machine.specs.Calls.{Makes, Reports, accesses, fetches, refuses_access, refuses_translation, stores, translates}
use Rattle.machine.specs.Effects.{LayerLeft, Performs, Turns, counted, turn_of, TurnsAccess, TurnsPage}
use Rattle.machine.specs.Puts.{LayerAfter, after_puts_under, stored_by}
use Rattle.machine.specs.Registers.{Registers}
use Rattle.machine.specs.Scene.{AccessSource, PageSource, scene}
use Rattle.machine.specs.Turns.{Asked, AsksAccess, AsksPage}

counted_is : {X : Type 0} {t : Traced X} {list list' : List ℕ} {r : Counted X} → Reports t list list' r → r ≡ counted t
counted_is reports = ap₂ (λ x n. record { result = x; count = n }) reports.result reports.count

-- a source that was asked took its turn so, and the other way round
module _ {Key Answer S : Type 0} (fits : Key → Type 0) (fresh : Key → Traced Answer) (holds : S → Key → Answer → Type 0) (after_ask : S → (Key → Traced Answer) → Key → S → Type 0) (after_purge : S → S → Type 0) where
  pub turned : (key : Option Key) (before after : S) → Asked fits fresh holds after_ask key before after → Turns fits fresh holds after_ask after_purge (turn_of key) before after
  turned None before after asks = asks
  turned (Some k) before after asks = asks

  pub asked : (key : Option Key) (before after : S) → Turns fits fresh holds after_ask after_purge (turn_of key) before after → Asked fits fresh holds after_ask key before after
  asked None before after turns = turns
  asked (Some k) before after turns = turns

access_turned : {A : Type 0} (a : AccessSource A) (real : View) (key : Option AccessKey) (before after : A) → AsksAccess a real key before after → TurnsAccess a real (turn_of key) before after
access_turned a real = turned AccessFits (access_fresh real.word) a.holds a.after_ask a.after_purge

page_turned : {P : Type 0} (p : PageSource P) (real : View) (key : Option PageKey) (before after : P) → AsksPage p real key before after → TurnsPage p real (turn_of key) before after
page_turned p real = turned PageFits (page_fresh real.word) p.holds p.after_ask p.after_purge

-- what holds where a result is an error
undone : {X : Type 0} {P : Type 0} (r : Result X Condition) → OnErr r P → is_ok r ≡ false → P
undone (Ok x) onerr e = absurd cc
undone (Err c) onerr e = onerr

layer_left : {S : Type 0} (prefix : ℕ) (before after : Prefixed S) (refused : Bool) → LayerAfter refused prefix before after → LayerLeft (cond refused None (Some prefix)) before after
layer_left prefix before after true same = same
layer_left prefix before after false set = set

abbrev pub operand : ℕ → ℕ → Operand
operand register address = record { register = register; address = address }

module _ {S A P : Type 0} (s : StorageGhosts S) (a : AccessSource A) (p : PageSource P) {r r' : Registers} {t t' : Prefixed S} {b d : Sources A P} {list list' : List ℕ} (places : length list ≡ 12) (register address : ℕ) where
  pub translated : (access : Access) {came : Counted ℕ} → Makes a p (translates access (operand register address) (length list)) (scene s a p r t b) b list came d list' → r' ≡ r → t'.beneath ≡ t.beneath → LayerAfter (refuses_translation (operand register address) (length list)) r.prefix t t'
      → Performs s a p (request.Line (call.Translate access register address)) r t b (outcome.Translated came) r' t' d
  translated access {came} makes registers storage layer =
      let made = subst (λ l. Makes a p (translates access (operand register address) l) (scene s a p r t b) b list came d list') places makes in
      record {
        outcome = ap outcome.Translated (counted_is made.reports);
        registers = registers;
        storage = ap s.view storage;
        beneath = λ none. storage;
        layer = layer_left r.prefix t t' (refuses_translation (operand register address) 12) (subst (λ l. LayerAfter (refuses_translation (operand register address) l) r.prefix t t') places layer);
        access = access_turned a (scene s a p r t b).real ((translates access (operand register address) 12).access_key (scene s a p r t b)) b.access d.access made.access;
        page = page_turned p (scene s a p r t b).real ((translates access (operand register address) 12).page_key (scene s a p r t b)) b.page d.page made.page;
      }

  pub fetched : {came : Counted ℕ} → Makes a p (fetches (operand register address) (length list)) (scene s a p r t b) b list came d list' → r' ≡ r → t'.beneath ≡ t.beneath → LayerAfter (refuses_access (operand register address) (length list)) r.prefix t t'
      → Performs s a p (request.Fetch register address) r t b (outcome.Fetched came) r' t' d
  fetched {came} makes registers storage layer =
      let made = subst (λ l. Makes a p (fetches (operand register address) l) (scene s a p r t b) b list came d list') places makes in
      record {
        outcome = ap outcome.Fetched (counted_is made.reports);
        registers = registers;
        storage = ap s.view storage;
        beneath = λ none. storage;
        layer = layer_left r.prefix t t' (refuses_access (operand register address) 12) (subst (λ l. LayerAfter (refuses_access (operand register address) l) r.prefix t t') places layer);
        access = access_turned a (scene s a p r t b).real ((fetches (operand register address) 12).access_key (scene s a p r t b)) b.access d.access made.access;
        page = page_turned p (scene s a p r t b).real ((fetches (operand register address) 12).page_key (scene s a p r t b)) b.page d.page made.page;
      }

  pub stored : (x : ℕ) {came : Counted (Unit {0})} → Makes a p (stores (operand register address) (length list)) (scene s a p r t b) b list came d list' → r' ≡ r
      → s.view t'.beneath ≡ after_puts_under r.prefix (stored_by ((accesses Store (operand register address) (length list)).gives (scene s a p r t b)).result x) (s.view t.beneath)
      → OnErr came.result (t'.beneath ≡ t.beneath)
      → LayerAfter (refuses_access (operand register address) (length list)) r.prefix t t'
      → Performs s a p (request.Store register address x) r t b (outcome.Stored came) r' t' d
  stored x {came} makes registers storage beneath layer =
      let made = subst (λ l. Makes a p (stores (operand register address) l) (scene s a p r t b) b list came d list') places makes in
      record {
        outcome = ap outcome.Stored (counted_is made.reports);
        registers = registers;
        storage = storage ∙ ap (λ l. after_puts_under r.prefix (stored_by ((accesses Store (operand register address) l).gives (scene s a p r t b)).result x) (s.view t.beneath)) places;
        beneath = undone came.result beneath;
        layer = layer_left r.prefix t t' (refuses_access (operand register address) 12) (subst (λ l. LayerAfter (refuses_access (operand register address) l) r.prefix t t') places layer);
        access = access_turned a (scene s a p r t b).real ((stores (operand register address) 12).access_key (scene s a p r t b)) b.access d.access made.access;
        page = page_turned p (scene s a p r t b).real ((stores (operand register address) 12).page_key (scene s a p r t b)) b.page d.page made.page;
      }
