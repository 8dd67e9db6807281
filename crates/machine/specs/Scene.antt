-- What a call of a machine sees as it begins.
use Rattle.std.specs.Prelude.{None, Option}
use Rattle.arch.specs.Walks.{Traced}
use Rattle.storage.specs.declared.prefix.Prefixed.{Prefixed}
use Rattle.storage.specs.declared.storage.Storage.{Ghosts as StorageGhosts}
use Rattle.storage.specs.Prefixes.{prefixed}
use Rattle.storage.specs.Views.{View}
use Rattle.lookup.specs.declared.access.AccessAnswer.{AccessAnswer}
use Rattle.lookup.specs.declared.access.AccessKey.{AccessKey}
use Rattle.lookup.specs.declared.kinds.AccessRegister.{AccessRegister}
use Rattle.lookup.specs.declared.kinds.Paging.{Paging}
use Rattle.lookup.specs.declared.page.PageAnswer.{PageAnswer}
use Rattle.lookup.specs.declared.page.PageKey.{PageKey}
use Rattle.lookup.specs.declared.source.Source.{Ghosts as SourceGhosts}
use Rattle.lookup.specs.Lookups.{access_fresh, page_fresh}
use Rattle.lookup.specs.Sources.{asked}
use Rattle.machine.specs.declared.sources.Sources.{Sources}
use Rattle.machine.specs.Registers.{Registers}

-- what the make of a source says of it
abbrev pub AccessSource : Type 0 → Type 1
AccessSource A = SourceGhosts A AccessRegister AccessKey AccessAnswer

abbrev pub PageSource : Type 0 → Type 1
PageSource P = SourceGhosts P Paging PageKey PageAnswer

-- what both sources show
pub record Shown : Type 0 where
  pub access : AccessKey → Option AccessAnswer
  pub page : PageKey → Option PageAnswer

abbrev pub shown : {A P : Type 0} → AccessSource A → PageSource P → Sources A P → Shown
shown a p sources = record { access = a.shows sources.access; page = p.shows sources.page }

-- bare sources show nothing
abbrev pub bare : Shown
bare = record { access = λ _. None; page = λ _. None }

-- the registers, the storage as real addresses reach it, and what both sources show
pub record Scene : Type 0 where
  pub registers : Registers
  pub real : View
  pub shown : Shown

abbrev pub seen : Registers → View → Shown → Scene
seen registers real shown = record { registers = registers; real = real; shown = shown }

-- the prefix is that of the registers, whatever the layer's own is
abbrev pub scene : {S A P : Type 0} → StorageGhosts S → AccessSource A → PageSource P → Registers → Prefixed S → Sources A P → Scene
scene s a p registers storage sources = seen registers (prefixed registers.prefix (s.view storage.beneath)) (shown a p sources)

-- the same with bare sources in place of both
abbrev pub unshown : Scene → Scene
unshown n = seen n.registers n.real bare

-- what each source gives for a key
abbrev pub ask_access : Scene → AccessKey → Traced AccessAnswer
ask_access n k = asked (n.shown.access k) (access_fresh n.real.word k)

abbrev pub ask_page : Scene → PageKey → Traced PageAnswer
ask_page n k = asked (n.shown.page k) (page_fresh n.real.word k)

-- the pairs that both sources hold
pub record Held : Type 1 where
  pub access : AccessKey → AccessAnswer → Type 0
  pub page : PageKey → PageAnswer → Type 0

abbrev pub held : {A P : Type 0} → AccessSource A → PageSource P → Sources A P → Held
held a p sources = record { access = a.holds sources.access; page = p.holds sources.page }
