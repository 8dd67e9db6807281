-- What a call does to each source: it purges it, or asks it for a key, or leaves it.
use Rattle.std.specs.Prelude.{◌≡◌, Some, Option}
use Rattle.arch.specs.declared.call.SourceName.{SourceName}
use Rattle.arch.specs.declared.call.SourceName.TheVariants.{AccessRegister, Page}
use Rattle.arch.specs.Walks.{Traced}
use Rattle.storage.specs.Views.{View}
use Rattle.lookup.specs.declared.access.AccessKey.{AccessKey}
use Rattle.lookup.specs.declared.page.PageKey.{PageKey}
use Rattle.lookup.specs.Access.{AccessFits}
use Rattle.lookup.specs.Lookups.{access_fresh, page_fresh}
use Rattle.lookup.specs.Sources.{Kept, Empty, Moved}
use Rattle.lookup.specs.Spelling.{PageFits}
use Rattle.machine.specs.declared.sources.Sources.{Sources}
use Rattle.machine.specs.Scene.{AccessSource, PageSource}

-- a source that is asked for this key, or for none: the key has the widths that it is spelt with, the source is what
-- its make says, and it holds no more than before and what is fresh
pub record Asked {Key Answer S : Type 0} (fits : Key → Type 0) (fresh : Key → Traced Answer) (holds : S → Key → Answer → Type 0) (after_ask : S → (Key → Traced Answer) → Key → S → Type 0) (key : Option Key) (before after : S) : Type 0 where
  pub widths : (k : Key) → key ≡ Some k → fits k
  pub becomes : Moved key (after_ask before fresh) before after
  pub keeps : Kept fits fresh (holds before) (holds after)

abbrev pub AsksAccess : {A : Type 0} → AccessSource A → View → Option AccessKey → A → A → Type 0
AsksAccess a real key before after = Asked AccessFits (access_fresh real.word) a.holds a.after_ask key before after

abbrev pub AsksPage : {P : Type 0} → PageSource P → View → Option PageKey → P → P → Type 0
AsksPage p real key before after = Asked PageFits (page_fresh real.word) p.holds p.after_ask key before after

-- a source that is purged
pub record Emptied {Key Answer S : Type 0} (holds : S → Key → Answer → Type 0) (after_purge : S → S → Type 0) (before after : S) : Type 0 where
  pub becomes : after_purge before after
  pub empty : Empty (holds after)

module _ {A P : Type 0} (a : AccessSource A) (p : PageSource P) where
  abbrev pub EmptiesBoth : Sources A P → Sources A P → Type 0
  EmptiesBoth before after = Emptied a.holds a.after_purge before.access after.access × Emptied p.holds p.after_purge before.page after.page

  -- the named source is purged, and the other stays
  abbrev pub Purges : SourceName → Sources A P → Sources A P → Type 0
  Purges AccessRegister before after = Emptied a.holds a.after_purge before.access after.access × (after.page ≡ before.page)
  Purges Page before after = (after.access ≡ before.access) × Emptied p.holds p.after_purge before.page after.page
