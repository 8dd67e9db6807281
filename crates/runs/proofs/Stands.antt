-- Where a machine and its sources stand from call to call.
use Rattle.std.proofs.Common.{◌≡◌, ℕ, List, [], ◌∷◌, Some, None, Option, refl, ap, subst₂, ◌∙◌, sym, Result}
use Rattle.arch.specs.declared.call.Access.TheVariants.{Store}
use Rattle.arch.specs.declared.call.Call.TheVariants as call
use Rattle.arch.specs.declared.condition.Condition.{Condition}
use Rattle.arch.specs.declared.call.SourceName.TheVariants.{AccessRegister, Page}
use Rattle.arch.specs.Walks.{Traced}
use Rattle.machine.proofs.InOrder.{fetch_ordered, store_ordered, translation_ordered}
use Rattle.storage.specs.Prefixes.{prefixed}
use Rattle.storage.specs.Views.{View}
use Rattle.lookup.specs.declared.access.AccessAnswer.{AccessAnswer}
use Rattle.lookup.specs.declared.access.AccessKey.{AccessKey}
use Rattle.lookup.specs.declared.page.PageAnswer.{PageAnswer}
use Rattle.lookup.specs.declared.page.PageKey.{PageKey}
use Rattle.lookup.specs.Access.{AccessFits}
use Rattle.lookup.specs.Lookups.{access_fresh, page_fresh}
use Rattle.lookup.specs.Spelling.{PageFits}
use Rattle.machine.specs.declared.counted.Counted.{Counted}
use Rattle.machine.specs.declared.request.Outcome.{Outcome}
use Rattle.machine.specs.declared.request.Outcome.TheVariants as outcome
use Rattle.machine.specs.declared.request.Request.{Request}
use Rattle.machine.specs.declared.request.Request.TheVariants as request
use Rattle.machine.specs.declared.sources.Sources.{Sources}
use Rattle.machine.specs.Calls.{Translating, accesses, fetches, stores, translates}
use Rattle.machine.specs.Effects.{Turn, Turns, purged, asked_for, left, turn_of, effect_of, TurnsAccess, TurnsPage}
use Rattle.machine.specs.Law.{AreSound, AreUnchanged, MeetFreshly, Takes, FreshNow, IsUnchanged, KeepsLaw, ShowFreshOnce, Sound, Stands, State, moments_after, next, scene_at, seen_now, since, ByTable, SameButCount, uncounted_outcome}
use Rattle.machine.specs.Puts.{after_puts_under, stored_by}
use Rattle.machine.specs.Registers.{Registers}
use Rattle.machine.specs.Scene.{AccessSource, PageSource, Scene, bare, held, seen, shown, Shown}
use Rattle.machine.specs.Turns.{Asked}
use Rattle.machine.proofs.Fresh.{accesses_same, fetches_same, stores_same, translates_same}
use Rattle.machine.proofs.Sound.{met_fresh, sound_empty, sound_kept, sound_later, sound_shown}
use Rattle.runs.proofs.Turned.{asked, operand}

-- what a source holds after its turn was fresh once
module _ {Key Answer S : Type 0} (fits : Key → Type 0) (fresh : (ℕ → Option ℕ) → Key → Traced Answer) (holds : S → Key → Answer → Type 0) (after_ask : S → (Key → Traced Answer) → Key → S → Type 0) (after_purge : S → S → Type 0) (now new : ℕ → Option ℕ) (earlier : List (ℕ → Option ℕ)) (before after : S) where
  sound_asked : (key : Option Key) → Asked fits (fresh now) holds after_ask key before after → Sound fits fresh (now ∷ earlier) (holds before) → Sound fits fresh (new ∷ now ∷ earlier) (holds after)
  sound_asked key asks sound = sound_later fits fresh new (now ∷ earlier) (holds after) (sound_kept fits fresh now earlier (holds before) (holds after) asks.keeps sound)

  -- at the moments before the next
  past_turned : (turn : Turn Key) → Turns fits (fresh now) holds after_ask after_purge turn before after → Sound fits fresh earlier (holds before) → Sound fits fresh (moments_after turn (now ∷ earlier)) (holds after)
  past_turned purged emptied sound = sound_empty fits fresh [] (holds after) emptied.empty
  past_turned (asked_for k) asks sound = sound_kept fits fresh now earlier (holds before) (holds after) asks.keeps (sound_later fits fresh now earlier (holds before) sound)
  past_turned left asks sound = sound_kept fits fresh now earlier (holds before) (holds after) asks.keeps (sound_later fits fresh now earlier (holds before) sound)

  sound_turned : (turn : Turn Key) → Turns fits (fresh now) holds after_ask after_purge turn before after → Sound fits fresh (now ∷ earlier) (holds before) → Sound fits fresh (new ∷ moments_after turn (now ∷ earlier)) (holds after)
  sound_turned purged emptied sound = sound_empty fits fresh (new ∷ []) (holds after) emptied.empty
  sound_turned (asked_for k) asks sound = sound_asked (Some k) asks sound
  sound_turned left asks sound = sound_asked None asks sound

-- a call that starts where its sources are sound does, where nothing changed, what it does with bare ones
module _ {A P : Type 0} (a : AccessSource A) (p : PageSource P) (s : State) (b d : Sources A P) (once : ShowFreshOnce (since (seen_now s) s.past) (shown a p b)) where
  abbrev Here : Scene
  Here = scene_at s (shown a p b)

  abbrev Turned : {X : Type 0} → Translating X → Type 0
  Turned c = TurnsAccess a (prefixed s.registers.prefix s.view) (turn_of (c.access_key (scene_at s (shown a p b)))) b.access d.access

  widths : {X : Type 0} (c : Translating X) → Turned c → (k : AccessKey) → c.access_key (scene_at s (shown a p b)) ≡ Some k → AccessFits k
  widths c turns = (asked AccessFits (access_fresh (seen_now s)) a.holds a.after_ask a.after_purge (c.access_key (scene_at s (shown a p b))) b.access d.access turns).widths

  unchanged_keys : {X : Type 0} (c : Translating X) → AreUnchanged (seen_now s) (since (seen_now s) s.past) (λ k. turn_of (c.access_key (scene_at s bare)) ≡ asked_for k) (λ k. turn_of (c.page_key (scene_at s bare)) ≡ asked_for k) → IsUnchanged c (scene_at s (shown a p b)) s.past
  unchanged_keys c unchanged = record { access = λ k e. unchanged.access k (ap turn_of e); page = λ k e. unchanged.page k (ap turn_of e) }

  now_of : (c : Request) → TurnsAccess a (prefixed s.registers.prefix s.view) (effect_of c (scene_at s (shown a p b))).access b.access d.access → FreshNow s (shown a p b) c
  now_of (request.Line (call.LoadControl n x)) turns same = record { outcome = refl; registers = refl; puts = refl }
  now_of (request.Line (call.LoadAccess n x)) turns same = record { outcome = refl; registers = refl; puts = refl }
  now_of (request.Line (call.LoadMode mode size key)) turns same = record { outcome = refl; registers = refl; puts = refl }
  now_of (request.Line (call.SetPrefix q)) turns same = record { outcome = refl; registers = refl; puts = refl }
  now_of (request.Line (call.Translate access register address)) turns same =
      let c = translates access (operand register address) 12 in
      record {
        outcome = ap (λ x. outcome.Translated (record { result = x; count = 0 })) (translates_same access (operand register address) 12 (scene_at s (shown a p b)) s.past (widths c turns) once (unchanged_keys c (record { access = same.access; page = same.page })));
        registers = refl;
        puts = refl;
      }
  now_of (request.Line (call.Put q x)) turns same = record { outcome = refl; registers = refl; puts = refl }
  now_of (request.Line (call.Purge AccessRegister)) turns same = record { outcome = refl; registers = refl; puts = refl }
  now_of (request.Line (call.Purge Page)) turns same = record { outcome = refl; registers = refl; puts = refl }
  now_of (request.Fetch register address) turns same =
      let c = fetches (operand register address) 12 in
      record {
        outcome = ap (λ x. outcome.Fetched (record { result = x; count = 0 })) (fetches_same (operand register address) 12 (scene_at s (shown a p b)) s.past (widths c turns) once (unchanged_keys c (record { access = same.access; page = same.page })));
        registers = refl;
        puts = refl;
      }
  now_of (request.Store register address x) turns same =
      let c = stores (operand register address) 12 in
      let reaching = accesses Store (operand register address) 12 in
      record {
        outcome = ap (λ y. outcome.Stored (record { result = y; count = 0 })) (stores_same (operand register address) 12 (scene_at s (shown a p b)) s.past (widths c turns) once (unchanged_keys c (record { access = same.access; page = same.page })));
        registers = refl;
        puts = ap (λ y. stored_by y x) (accesses_same Store (operand register address) 12 (scene_at s (shown a p b)) s.past (widths reaching turns) once (unchanged_keys reaching (record { access = same.access; page = same.page })));
      }

translated_same : {a b : Result ℕ Condition} → outcome.Translated (record { result = a; count = 0 }) ≡ outcome.Translated (record { result = b; count = 0 }) → a ≡ b
translated_same {a} {b} e = let whole : ◌≡◌ {A = Counted ℕ} (record { result = a; count = 0 }) (record { result = b; count = 0 }) = cc in ap (λ x. x.result) whole

fetched_same : {a b : Result ℕ Condition} → outcome.Fetched (record { result = a; count = 0 }) ≡ outcome.Fetched (record { result = b; count = 0 }) → a ≡ b
fetched_same {a} {b} e = let whole : ◌≡◌ {A = Counted ℕ} (record { result = a; count = 0 }) (record { result = b; count = 0 }) = cc in ap (λ x. x.result) whole

stored_same : {a b : Result (Unit {0}) Condition} → outcome.Stored (record { result = a; count = 0 }) ≡ outcome.Stored (record { result = b; count = 0 }) → a ≡ b
stored_same {a} {b} e = let whole : ◌≡◌ {A = Counted (Unit {0})} (record { result = a; count = 0 }) (record { result = b; count = 0 }) = cc in ap (λ x. x.result) whole

-- what came of a call is told by its table where nothing changed
module _ (s : State) (shown : Shown) (o : Outcome) where
  by_table_of : (c : Request) → o ≡ (effect_of c (scene_at s shown)).outcome → SameButCount (effect_of c (scene_at s shown)) (effect_of c (scene_at s bare)) → ByTable (scene_at s bare) c o
  by_table_of (request.Line (call.LoadControl n x)) came same = tt
  by_table_of (request.Line (call.LoadAccess n x)) came same = tt
  by_table_of (request.Line (call.LoadMode mode size key)) came same = tt
  by_table_of (request.Line (call.SetPrefix q)) came same = tt
  by_table_of (request.Line (call.Translate access register address)) came same = λ x e.
      let t = (translates access (operand register address) 12).gives (scene_at s bare) in
      let r : x.result ≡ t.result = translated_same (ap uncounted_outcome (sym e ∙ came) ∙ same.outcome) in
      r ∙ translation_ordered (scene_at s bare) access (operand register address) 12
  by_table_of (request.Line (call.Put q x)) came same = tt
  by_table_of (request.Line (call.Purge source)) came same = tt
  by_table_of (request.Fetch register address) came same = λ x e.
      let t = (fetches (operand register address) 12).gives (scene_at s bare) in
      let r : x.result ≡ t.result = fetched_same (ap uncounted_outcome (sym e ∙ came) ∙ same.outcome) in
      r ∙ fetch_ordered (scene_at s bare) (operand register address) 12
  by_table_of (request.Store register address value) came same = λ x e.
      let t = (stores (operand register address) 12).gives (scene_at s bare) in
      let r : x.result ≡ t.result = stored_same (ap uncounted_outcome (sym e ∙ came) ∙ same.outcome) in
      r ∙ store_ordered (scene_at s bare) (operand register address) 12

met : (n : Scene) → MeetFreshly n
met n = record {
  access = λ k c e. met_fresh (n.shown.access k) (access_fresh n.real.word k) c e;
  page = λ k c e. met_fresh (n.shown.page k) (page_fresh n.real.word k) c e;
}

module _ {A P : Type 0} (a : AccessSource A) (p : PageSource P) where
  -- what one call did, from these registers and this storage
  pub record Did (r : Registers) (v : View) (b : Sources A P) (c : Request) (o : Outcome) (r' : Registers) (v' : View) (d : Sources A P) : Type 0 where
    pub came : o ≡ (effect_of c (seen r (prefixed r.prefix v) (shown a p b))).outcome
    pub registers : r' ≡ (effect_of c (seen r (prefixed r.prefix v) (shown a p b))).registers
    pub view : v' ≡ after_puts_under r.prefix (effect_of c (seen r (prefixed r.prefix v) (shown a p b))).puts v
    pub access : TurnsAccess a (prefixed r.prefix v) (effect_of c (seen r (prefixed r.prefix v) (shown a p b))).access b.access d.access
    pub page : TurnsPage p (prefixed r.prefix v) (effect_of c (seen r (prefixed r.prefix v) (shown a p b))).page b.page d.page

  module _ (held_a : (x : A) (k : AccessKey) (y : AccessAnswer) → a.shows x k ≡ Some y → a.holds x k y) (held_p : (x : P) (k : PageKey) (y : PageAnswer) → p.shows x k ≡ Some y → p.holds x k y) where
    pub goes_on : (r : Registers) (v : View) (b : Sources A P) (c : Request) (o : Outcome) (r' : Registers) (v' : View) (d : Sources A P) → Did r v b c o r' v' d
        → (s : State) → Stands s r v (held a p b) → KeepsLaw s (shown a p b) c o × Stands (next s (shown a p b) c) r' v' (held a p d)
    goes_on r v b c o r' v' d did s stands =
        let here = subst₂ (λ x y. Did x y b c o r' v' d) stands.registers stands.view did in
        let now = seen_now s in
        let once : ShowFreshOnce (since now s.past) (shown a p b) = record {
          access = sound_shown AccessFits access_fresh (since now s.past).access (a.shows b.access) (a.holds b.access) (held_a b.access) stands.sound.access;
          page = sound_shown PageFits page_fresh (since now s.past).page (p.shows b.page) (p.holds b.page) (held_p b.page) stands.sound.page;
        } in
        let effect = effect_of c (scene_at s (shown a p b)) in
        let new = seen_now (next s (shown a p b) c) in (
          record { came = here.came; met = met (scene_at s (shown a p b)); once = once; now = now_of a p s b d once c here.access; by_table = λ unchanged. by_table_of s (shown a p b) o c here.came (now_of a p s b d once c here.access unchanged) },
          record {
            registers = here.registers;
            view = here.view;
            sound = record {
              access = sound_turned AccessFits access_fresh a.holds a.after_ask a.after_purge now new s.past.access b.access d.access effect.access here.access stands.sound.access;
              page = sound_turned PageFits page_fresh p.holds p.after_ask p.after_purge now new s.past.page b.page d.page effect.page here.page stands.sound.page;
            };
          },
        )

  -- what both sources hold after one call was fresh at a moment before the next
  pub held_past : (s : State) (b : Sources A P) (c : Request) (o : Outcome) (d : Sources A P) → Takes a p s b c o d → AreSound s.past (held a p b) → AreSound (next s (shown a p b) c).past (held a p d)
  held_past s b c o d takes sound =
      let effect = effect_of c (scene_at s (shown a p b)) in
      let now = seen_now s in
      let new = seen_now (next s (shown a p b) c) in
      record {
        access = past_turned AccessFits access_fresh a.holds a.after_ask a.after_purge now new s.past.access b.access d.access effect.access takes.access sound.access;
        page = past_turned PageFits page_fresh p.holds p.after_ask p.after_purge now new s.past.page b.page d.page effect.page takes.page sound.page;
      }
