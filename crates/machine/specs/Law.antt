-- The law of every run: what is known of each answer, however stores, purges and translations follow one another.
use Rattle.std.specs.Prelude.{◌≡◌, ℕ, ◌*◌, ◌/◌, ◌≤◌, ◌⊎◌, List, [], ◌∷◌, length, is_some, Some, Ok, Err, Option, Result, nat_lt}
use Rattle.std.specs.List.{AllByRecursion}
use Rattle.arch.specs.declared.call.Access.{Access}
use Rattle.arch.specs.declared.call.Access.TheVariants.{Fetch, Store}
use Rattle.arch.specs.declared.call.Call.{Call}
use Rattle.arch.specs.declared.call.Call.TheVariants as call
use Rattle.arch.specs.declared.condition.Condition.{Condition}
use Rattle.arch.specs.declared.condition.Condition.TheVariants.{BadNumber, ShortList, LowAddress}
use Rattle.arch.specs.Order.{Ordered}
use Rattle.arch.specs.Walks.{Traced, then, Agree}
use Rattle.storage.specs.Prefixes.{prefixed}
use Rattle.storage.specs.Views.{View, block_of}
use Rattle.lookup.specs.declared.access.AccessKey.{AccessKey}
use Rattle.lookup.specs.declared.page.PageKey.{PageKey}
use Rattle.lookup.specs.Access.{AccessFits}
use Rattle.lookup.specs.Lookups.{access_fresh, page_fresh}
use Rattle.lookup.specs.Spelling.{PageFits}
use Rattle.machine.specs.declared.counted.Counted.{Counted}
use Rattle.machine.specs.declared.request.Outcome.{Outcome}
use Rattle.machine.specs.declared.request.Outcome.TheVariants as outcome
use Rattle.machine.specs.declared.request.Request.{Request}
use Rattle.machine.specs.declared.request.Request.TheVariants as request
use Rattle.machine.specs.declared.sources.Operand.{Operand}
use Rattle.machine.specs.declared.sources.Sources.{Sources}
use Rattle.machine.specs.Calls.{Translating, stored_word, stores, translates}
use Rattle.machine.specs.Effects.{places, Turn, purged, asked_for, left, Effect, effect_of, TurnsAccess, TurnsPage}
use Rattle.machine.specs.Orders.{fetch_store_conditions, real_found, translation_conditions, value_found}
use Rattle.machine.specs.Puts.{after_puts_under}
use Rattle.machine.specs.Registers.{Registers, zero_registers}
use Rattle.machine.specs.Scene.{AccessSource, PageSource, Held, held, Scene, Shown, ask_access, ask_page, bare, seen, shown, unshown}
use Rattle.machine.specs.Translation.{unless, cut, low_protected, real_of, space_by_mode}
use Rattle.machine.specs.Turns.{EmptiesBoth}

-- MOMENTS. A run stands between two calls. Of each earlier moment since the latest purge of a source it is known which
-- doublewords the machine saw then. One that is absent counts as a value.
pub record Past : Type 0 where
  pub access : List (ℕ → Option ℕ)
  pub page : List (ℕ → Option ℕ)

-- with the present moment, which comes first
abbrev pub since : (ℕ → Option ℕ) → Past → Past
since now past = record { access = now ∷ past.access; page = now ∷ past.page }

-- the registers, the storage beneath the prefix, and the past
pub record State : Type 0 where
  pub registers : Registers
  pub view : View
  pub past : Past

-- what a call that starts there sees, with what the sources show
abbrev pub scene_at : State → Shown → Scene
scene_at s shown = seen s.registers (prefixed s.registers.prefix s.view) shown

-- the doublewords as the machine sees them now
abbrev pub seen_now : State → ℕ → Option ℕ
seen_now s = (prefixed s.registers.prefix s.view).word

-- a run begins with a new machine, which has purged both sources
abbrev pub start : View → State
start v = record { registers = zero_registers; view = v; past = record { access = []; page = [] } }

-- a purge leaves no earlier moment
abbrev pub moments_after : {Key : Type 0} → Turn Key → List (ℕ → Option ℕ) → List (ℕ → Option ℕ)
moments_after purged moments = []
moments_after (asked_for k) moments = moments
moments_after left moments = moments

-- a call, with what the sources showed as it began, ends one moment and begins the next
abbrev pub next : State → Shown → Request → State
next s shown c = record {
  registers = (effect_of c (scene_at s shown)).registers;
  view = after_puts_under s.registers.prefix (effect_of c (scene_at s shown)).puts s.view;
  past = record {
    access = moments_after (effect_of c (scene_at s shown)).access (since (seen_now s) s.past).access;
    page = moments_after (effect_of c (scene_at s shown)).page (since (seen_now s) s.past).page;
  };
}

-- at one of these moments
abbrev pub Once : ((ℕ → Option ℕ) → Type 0) → List (ℕ → Option ℕ) → Type 0
Once P [] = ⊥
Once P (w ∷ ws) = P w ⊎ Once P ws

-- FRESH ONCE. Every answer that a source shows is the one fresh for its key at some moment since its latest purge.
-- (Where it shows none, it gives the fresh result of the present moment, an exception too: so `ask_access` says.)
abbrev pub FreshOnce : {Key Answer : Type 0} → (Key → Type 0) → ((ℕ → Option ℕ) → Key → Traced Answer) → List (ℕ → Option ℕ) → (Key → Option Answer) → Type 0
FreshOnce {Key} {Answer} fits fresh moments shows = (k : Key) (a : Answer) → fits k → shows k ≡ Some a → Once (λ w. (fresh w k).result ≡ Ok a) moments

pub record ShowFreshOnce (moments : Past) (shown : Shown) : Type 0 where
  pub access : FreshOnce AccessFits access_fresh moments.access shown.access
  pub page : FreshOnce PageFits page_fresh moments.page shown.page

-- these doublewords have held one value at all of these moments
abbrev pub Steady : (ℕ → Option ℕ) → List (ℕ → Option ℕ) → List ℕ → Type 0
Steady now moments list = AllByRecursion (λ w. Agree now w list) moments

-- what the lookups of these keys would list has held one value since the latest purge of their sources
pub record AreUnchanged (now : ℕ → Option ℕ) (moments : Past) (asks_access : AccessKey → Type 0) (asks_page : PageKey → Type 0) : Type 0 where
  pub access : (k : AccessKey) → asks_access k → Steady now moments.access (access_fresh now k).trace
  pub page : (k : PageKey) → asks_page k → Steady now moments.page (page_fresh now k).trace

-- so of the keys that a call would ask for with bare sources in place of both
abbrev pub IsUnchanged : {X : Type 0} → Translating X → Scene → Past → Type 0
IsUnchanged c n past = AreUnchanged n.real.word (since n.real.word past) (λ k. c.access_key (unshown n) ≡ Some k) (λ k. c.page_key (unshown n) ≡ Some k)

abbrev pub Unchanged : State → Request → Type 0
Unchanged s c = AreUnchanged (seen_now s) (since (seen_now s) s.past) (λ k. (effect_of c (scene_at s bare)).access ≡ asked_for k) (λ k. (effect_of c (scene_at s bare)).page ≡ asked_for k)

-- an outcome but for the count of doublewords listed
abbrev pub uncounted : {X : Type 0} → Counted X → Counted X
uncounted x = record { result = x.result; count = 0 }

abbrev pub uncounted_outcome : Outcome → Outcome
uncounted_outcome (outcome.Loaded r) = outcome.Loaded r
uncounted_outcome (outcome.Translated x) = outcome.Translated (uncounted x)
uncounted_outcome (outcome.Put r) = outcome.Put r
uncounted_outcome outcome.Purged = outcome.Purged
uncounted_outcome (outcome.Fetched x) = outcome.Fetched (uncounted x)
uncounted_outcome (outcome.Stored x) = outcome.Stored (uncounted x)

-- these effects are the same but for the count and for what the sources are asked
pub record SameButCount (e f : Effect) : Type 0 where
  pub outcome : uncounted_outcome e.outcome ≡ uncounted_outcome f.outcome
  pub registers : e.registers ≡ f.registers
  pub puts : e.puts ≡ f.puts

-- FRESH NOW WHERE NOTHING CHANGED. There a call does, but for the count, what it does with bare sources in place of
-- both.
abbrev pub FreshNow : State → Shown → Request → Type 0
FreshNow s shown c = Unchanged s c → SameButCount (effect_of c (scene_at s shown)) (effect_of c (scene_at s bare))

-- FRESH EXCEPTIONS. Where a source meets a condition for a key, it is the one that the key's walk meets as the call
-- starts.
pub record MeetFreshly (n : Scene) : Type 0 where
  pub access : (k : AccessKey) (met : Condition) → (ask_access n k).result ≡ Err met → (access_fresh n.real.word k).result ≡ Err met
  pub page : (k : PageKey) (met : Condition) → (ask_page n k).result ≡ Err met → (page_fresh n.real.word k).result ≡ Err met

-- BY THE TABLE. What came of a call that translates, over bare sources: its answer exactly where no condition of its
-- table applies, else the first that does.
abbrev pub LineByTable : Scene → Call → Outcome → Type 0
LineByTable n (call.LoadControl register value) o = Unit {0}
LineByTable n (call.LoadAccess register value) o = Unit {0}
LineByTable n (call.LoadMode mode size key) o = Unit {0}
LineByTable n (call.SetPrefix p) o = Unit {0}
LineByTable n (call.Translate access register address) o =
    (x : Counted ℕ) → o ≡ outcome.Translated x
    → Ordered (translation_conditions n access (record { register = register; address = address }) places) (real_found n access (record { register = register; address = address })) x.result
LineByTable n (call.Put a x) o = Unit {0}
LineByTable n (call.Purge source) o = Unit {0}

abbrev pub ByTable : Scene → Request → Outcome → Type 0
ByTable n (request.Line c) o = LineByTable n c o
ByTable n (request.Fetch register address) o =
    (x : Counted ℕ) → o ≡ outcome.Fetched x
    → Ordered (fetch_store_conditions n Fetch (record { register = register; address = address }) places) (value_found n Fetch (record { register = register; address = address })) x.result
ByTable n (request.Store register address value) o =
    (x : Counted (Unit {0})) → o ≡ outcome.Stored x
    → Ordered (fetch_store_conditions n Store (record { register = register; address = address }) places) tt x.result

-- THE RECORD. What came of a call, and the law of it.
pub record KeepsLaw (s : State) (shown : Shown) (c : Request) (o : Outcome) : Type 0 where
  pub came : o ≡ (effect_of c (scene_at s shown)).outcome
  pub met : MeetFreshly (scene_at s shown)
  pub once : ShowFreshOnce (since (seen_now s) s.past) shown
  pub now : FreshNow s shown c
  pub by_table : Unchanged s c → ByTable (scene_at s bare) c o

-- HELD. Every pair held was fresh at one of these moments.
abbrev pub Sound : {Key Answer : Type 0} → (Key → Type 0) → ((ℕ → Option ℕ) → Key → Traced Answer) → List (ℕ → Option ℕ) → (Key → Answer → Type 0) → Type 0
Sound {Key} {Answer} fits fresh moments holds = (k : Key) (a : Answer) → fits k → holds k a → Once (λ w. (fresh w k).result ≡ Ok a) moments

pub record AreSound (moments : Past) (holds : Held) : Type 0 where
  pub access : Sound AccessFits access_fresh moments.access holds.access
  pub page : Sound PageFits page_fresh moments.page holds.page

-- A run over two sources of any make.
module _ {A P : Type 0} (a : AccessSource A) (p : PageSource P) where
  -- one call keeps the law, and both sources take their turns, over the storage as it starts
  pub record Takes (s : State) (before : Sources A P) (c : Request) (o : Outcome) (after : Sources A P) : Type 0 where
    pub law : KeepsLaw s (shown a p before) c o
    pub access : TurnsAccess a (prefixed s.registers.prefix s.view) (effect_of c (scene_at s (shown a p before))).access before.access after.access
    pub page : TurnsPage p (prefixed s.registers.prefix s.view) (effect_of c (scene_at s (shown a p before))).page before.page after.page

  -- so each call of a run, from one state of machine, storage and sources to another
  abbrev pub Lawful : State → Sources A P → List Request → List Outcome → State → Sources A P → Type 0
  Lawful s b [] [] s' b' = (s' ≡ s) × (b' ≡ b)
  Lawful s b [] (o ∷ os) s' b' = ⊥
  Lawful s b (c ∷ cs) [] s' b' = ⊥
  Lawful s b (c ∷ cs) (o ∷ os) s' b' = (d : Sources A P) × (Takes s b c o d × Lawful (next s (shown a p b) c) d cs os s' b')

  -- a whole run: the new call purges both sources, over a storage and sources in any state, and the law holds of
  -- every call from there on
  pub record Ran (v : View) (b : Sources A P) (cs : List Request) (os : List Outcome) (v' : View) (b' : Sources A P) : Type 0 where
    pub emptied : Sources A P
    pub last : State
    pub empties : EmptiesBoth a p b emptied
    pub law : Lawful (start v) emptied cs os last b'
    pub view : v' ≡ last.view
    -- each pair that a source is handed back with was fresh at a moment since its latest purge and before the end: a
    -- source that was purged last is handed back empty
    pub holds : AreSound last.past (held a p b')

-- NOTHING ELSE MATTERS. The real address of a translation, before the doubleword there is looked at.
abbrev pub real_seen : Scene → Access → Operand → ℕ → Traced ℕ
real_seen n access o places =
    then (unless BadNumber (nat_lt 15 o.register)) (λ _. then (unless ShortList (nat_lt places 12))
    (λ _. then (space_by_mode n.registers.mode n.registers (ask_access n) o.register)
    (λ space. then (unless LowAddress (low_protected n.registers access (cut n.registers.size o.address)))
    (λ _. real_of (ask_page n) access space (cut n.registers.size o.address)))))

-- alike in the registers, in what the sources show for the keys that the first asks, in the doublewords that it lists,
-- and in presence and key of the doubleword that it reaches
pub record Alike (m n : Scene) (access : Access) (o : Operand) (places : ℕ) : Type 0 where
  pub registers : m.registers ≡ n.registers
  pub access_shown : (k : AccessKey) → (translates access o places).access_key m ≡ Some k → m.shown.access k ≡ n.shown.access k
  pub page_shown : (k : PageKey) → (translates access o places).page_key m ≡ Some k → m.shown.page k ≡ n.shown.page k
  pub listed : Agree m.real.word n.real.word ((translates access o places).gives m).trace
  pub present : (real : ℕ) → (real_seen m access o places).result ≡ Ok real → is_some (m.real.word (real / 8 * 8)) ≡ is_some (n.real.word (real / 8 * 8))
  pub key : (real : ℕ) → (real_seen m access o places).result ≡ Ok real → m.real.key (block_of real) ≡ n.real.key (block_of real)

-- they give the same address or condition, and the same list, which has at most twelve addresses
abbrev pub AnswersAlike : Scene → Scene → Access → Operand → ℕ → Type 0
AnswersAlike m n access o places =
    ((translates access o places).gives n ≡ (translates access o places).gives m)
    × (length ((translates access o places).gives m).trace ≤ 12)

-- a translation with all that are alike, and any translation of any machine
abbrev pub AnswersAsItsLike : Scene → Access → Operand → ℕ → Type 0
AnswersAsItsLike m access o places = (n : Scene) → Alike m n access o places → AnswersAlike m n access o places

abbrev pub NothingElseMatters : Type 0
NothingElseMatters = (m : Scene) (access : Access) (o : Operand) (places : ℕ) → AnswersAsItsLike m access o places

-- CALL BY CALL. Where a machine and its sources stand as in such a state.
pub record Stands (s : State) (r : Registers) (v : View) (holds : Held) : Type 0 where
  pub registers : r ≡ s.registers
  pub view : v ≡ s.view
  pub sound : AreSound (since (seen_now s) s.past) holds

-- so after the new call, over a storage of any view
abbrev pub StandsAtStart : Registers → Held → Type 0
StandsAtStart r holds = (v : View) → Stands (start v) r v holds

-- A single call that translates, after this past of the sources: every answer shown was fresh at one of the moments
-- since the latest purge, what it gives is what it gives with bare sources where nothing changed, and every pair held
-- afterwards was fresh at one of these moments too.
pub record FreshAnswer {X : Type 0} (c : Translating X) (n : Scene) (r : Result X Condition) (after : Held) (past : Past) : Type 0 where
  pub once : ShowFreshOnce (since n.real.word past) n.shown
  pub same : IsUnchanged c n past → r ≡ (c.gives (unshown n)).result
  pub sound : AreSound (since n.real.word past) after

-- so after any past in which every pair held was fresh at one of the moments
abbrev pub AnswersFresh : {X : Type 0} → Translating X → Scene → Result X Condition → Held → Held → Type 0
AnswersFresh c n r before after = (past : Past) → AreSound (since n.real.word past) before → FreshAnswer c n r after past

-- what a store puts, after any past of the sources, where nothing changed
abbrev pub StoresFresh : Operand → ℕ → ℕ → Scene → Held → Type 0
StoresFresh o places x n before =
    (past : Past) → AreSound (since n.real.word past) before → IsUnchanged (stores o places) n past → stored_word o places x n ≡ stored_word o places x (unshown n)

-- so each call from there on keeps the law, and leaves the machine and its sources in the next state
abbrev pub GoesOn : {A P : Type 0} → AccessSource A → PageSource P → Registers → View → Sources A P → Request → Outcome → Registers → View → Sources A P → Type 0
GoesOn a p r v b c o r' v' b' =
    (s : State) → Stands s r v (held a p b) → KeepsLaw s (shown a p b) c o × Stands (next s (shown a p b) c) r' v' (held a p b')
