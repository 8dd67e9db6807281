-- All that a call does, by what it sees.
use Rattle.std.specs.Prelude.{◌≡◌, ℕ, ◌%◌, ◌==◌, Bool, false, is_ok, cond, length, Some, None, Ok, Err, Option}
use Rattle.std.specs.Option.{unwrap_or}
use Rattle.arch.specs.declared.call.Call.{Call}
use Rattle.arch.specs.declared.call.Call.TheVariants as call
use Rattle.arch.specs.declared.call.SourceName.{SourceName}
use Rattle.arch.specs.declared.call.SourceName.TheVariants.{AccessRegister, Page}
use Rattle.arch.specs.declared.condition.Condition.TheVariants.{BadPrefix}
use Rattle.arch.specs.declared.record.Word.{Word}
use Rattle.arch.specs.Walks.{Traced}
use Rattle.storage.specs.declared.prefix.Prefixed.{Prefixed}
use Rattle.storage.specs.declared.storage.Storage.{Ghosts as StorageGhosts}
use Rattle.storage.specs.Layer.{prefix_of}
use Rattle.storage.specs.Prefixes.{lawful_prefix}
use Rattle.storage.specs.Views.{View}
use Rattle.lookup.specs.declared.access.AccessKey.{AccessKey}
use Rattle.lookup.specs.declared.page.PageKey.{PageKey}
use Rattle.lookup.specs.Access.{AccessFits}
use Rattle.lookup.specs.Lookups.{access_fresh, page_fresh}
use Rattle.lookup.specs.Spelling.{PageFits}
use Rattle.machine.specs.declared.counted.Counted.{Counted}
use Rattle.machine.specs.declared.request.Outcome.{Outcome}
use Rattle.machine.specs.declared.request.Outcome.TheVariants as outcome
use Rattle.machine.specs.declared.request.Request.{Request}
use Rattle.machine.specs.declared.request.Request.TheVariants as request
use Rattle.machine.specs.declared.sources.Sources.{Sources}
use Rattle.machine.specs.Calls.{Translating, translates, fetches, stores, stored_word}
use Rattle.machine.specs.Puts.{put_answer, put_of, after_puts_under}
use Rattle.machine.specs.Registers.{Registers, load_result, with_access, with_control, with_mode}
use Rattle.machine.specs.Scene.{AccessSource, PageSource, Scene, scene}
use Rattle.machine.specs.Turns.{Asked, Emptied}

-- a source over a call is purged, or asked for a key, or left
pub data Turn (Key : Type 0) : Type 0 where
  purged : Turn Key
  asked_for : Key → Turn Key
  left : Turn Key

abbrev pub turn_of : {Key : Type 0} → Option Key → Turn Key
turn_of None = left
turn_of (Some k) = asked_for k

-- what comes of a call, the registers after it, the doubleword that it puts at a real address where that is present,
-- the prefix that it leaves the layer at, none where the whole storage is left, and its turn at each source
pub record Effect : Type 0 where
  pub outcome : Outcome
  pub registers : Registers
  pub puts : Option Word
  pub layer : Option ℕ
  pub access : Turn AccessKey
  pub page : Turn PageKey

-- a call that says this, and does nothing else
abbrev pub says : Registers → Outcome → Effect
says r o = record { outcome = o; registers = r; puts = None; layer = None; access = left; page = left }

-- a load of registers
abbrev pub loads : Registers → Option Registers → Effect
loads r loaded = record (says r (outcome.Loaded (load_result loaded))) { registers = unwrap_or loaded r }

-- a new prefix purges both sources
abbrev pub sets_prefix : Registers → ℕ → Effect
sets_prefix r p = cond (lawful_prefix p)
    (record { outcome = outcome.Loaded (Ok tt); registers = record r { prefix = p }; puts = None; layer = Some p; access = purged; page = purged })
    (says r (outcome.Loaded (Err BadPrefix)))

abbrev pub purges : Registers → SourceName → Effect
purges r AccessRegister = record (says r outcome.Purged) { access = purged }
purges r Page = record (says r outcome.Purged) { page = purged }

abbrev pub counted : {X : Type 0} → Traced X → Counted X
counted t = record { result = t.result; count = length t.trace }

-- a call that translates
abbrev pub translating : {X : Type 0} → Translating X → (Counted X → Outcome) → Scene → Effect
translating c outcome n = record (says n.registers (outcome (counted (c.gives n)))) { layer = cond c.refused None (Some n.registers.prefix); access = turn_of (c.access_key n); page = turn_of (c.page_key n) }

-- a call of `runs` has this many places for its list
abbrev pub places : ℕ
places = 12

-- a call that a line of a run text makes
abbrev pub line_effect : Call → Scene → Effect
line_effect (call.LoadControl register value) n = loads n.registers (with_control register value n.registers)
line_effect (call.LoadAccess register value) n = loads n.registers (with_access register value n.registers)
line_effect (call.LoadMode mode size key) n = loads n.registers (with_mode mode size key n.registers)
line_effect (call.SetPrefix p) n = sets_prefix n.registers p
line_effect (call.Translate access register address) n = translating (translates access (record { register = register; address = address }) places) outcome.Translated n
line_effect (call.Put a x) n = record (says n.registers (outcome.Put (put_answer n.real a))) { puts = put_of a x; layer = cond (a % 8 == 0) (Some n.registers.prefix) None }
line_effect (call.Purge source) n = purges n.registers source

-- any call
abbrev pub effect_of : Request → Scene → Effect
effect_of (request.Line c) n = line_effect c n
effect_of (request.Fetch register address) n = translating (fetches (record { register = register; address = address }) places) outcome.Fetched n
effect_of (request.Store register address x) n =
    record (translating (stores (record { register = register; address = address }) places) outcome.Stored n)
    { puts = stored_word (record { register = register; address = address }) places x n }

-- what a turn does to a source
abbrev pub Turns : {Key Answer S : Type 0} → (Key → Type 0) → (Key → Traced Answer) → (S → Key → Answer → Type 0) → (S → (Key → Traced Answer) → Key → S → Type 0) → (S → S → Type 0) → Turn Key → S → S → Type 0
Turns fits fresh holds after_ask after_purge purged before after = Emptied holds after_purge before after
Turns fits fresh holds after_ask after_purge (asked_for k) before after = Asked fits fresh holds after_ask (Some k) before after
Turns fits fresh holds after_ask after_purge left before after = Asked fits fresh holds after_ask None before after

abbrev pub TurnsAccess : {A : Type 0} → AccessSource A → View → Turn AccessKey → A → A → Type 0
TurnsAccess a real turn before after = Turns AccessFits (access_fresh real.word) a.holds a.after_ask a.after_purge turn before after

abbrev pub TurnsPage : {P : Type 0} → PageSource P → View → Turn PageKey → P → P → Type 0
TurnsPage p real turn before after = Turns PageFits (page_fresh real.word) p.holds p.after_ask p.after_purge turn before after

-- an outcome that says that a doubleword was put
abbrev pub is_done : Outcome → Bool
is_done (outcome.Loaded r) = false
is_done (outcome.Translated x) = false
is_done (outcome.Put r) = is_ok r
is_done outcome.Purged = false
is_done (outcome.Fetched x) = false
is_done (outcome.Stored x) = is_ok x.result

-- the layer at the prefix that a call leaves it at, or the storage as it was
abbrev pub LayerLeft : {S : Type 0} → Option ℕ → Prefixed S → Prefixed S → Type 0
LayerLeft None before after = after ≡ before
LayerLeft (Some prefix) before after = prefix_of after ≡ prefix

module _ {S A P : Type 0} (s : StorageGhosts S) (a : AccessSource A) (p : PageSource P) (c : Request) (r : Registers) (t : Prefixed S) (b : Sources A P) where
  abbrev pub sees : Scene
  sees = scene s a p r t b

  abbrev pub effect : Effect
  effect = effect_of c sees

  -- a call was made with all its effect, and no other
  pub record Performs (o : Outcome) (r' : Registers) (t' : Prefixed S) (b' : Sources A P) : Type 0 where
    pub outcome : o ≡ effect.outcome
    pub registers : r' ≡ effect.registers
    pub storage : s.view t'.beneath ≡ after_puts_under r.prefix effect.puts (s.view t.beneath)
    pub beneath : is_done o ≡ false → t'.beneath ≡ t.beneath
    pub layer : LayerLeft effect.layer t t'
    pub access : TurnsAccess a sees.real effect.access b.access b'.access
    pub page : TurnsPage p sees.real effect.page b.page b'.page
