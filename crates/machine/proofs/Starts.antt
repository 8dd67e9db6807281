-- A new machine stands at the start of a run.
use Rattle.std.proofs.Common.{◌≡◌, refl}
use Rattle.lookup.specs.Access.{AccessFits}
use Rattle.lookup.specs.Lookups.{access_fresh, page_fresh}
use Rattle.lookup.specs.Spelling.{PageFits}
use Rattle.machine.specs.declared.sources.Sources.{Sources}
use Rattle.machine.specs.Law.{StandsAtStart, seen_now, since, start}
use Rattle.machine.specs.Registers.{Registers, zero_registers}
use Rattle.machine.specs.Scene.{AccessSource, PageSource, held}
use Rattle.machine.specs.Turns.{EmptiesBoth}
use Rattle.machine.proofs.Sound.{sound_empty}

pub stands_at_start : {A P : Type 0} (a : AccessSource A) (p : PageSource P) (r : Registers) (b d : Sources A P) → r ≡ zero_registers → EmptiesBoth a p b d → StandsAtStart r (held a p d)
stands_at_start a p r b d new emptied v = record {
  registers = new;
  view = refl;
  sound = record {
    access = sound_empty AccessFits access_fresh (since (seen_now (start v)) (start v).past).access (a.holds d.access) emptied.0.empty;
    page = sound_empty PageFits page_fresh (since (seen_now (start v)) (start v).past).page (p.holds d.page) emptied.1.empty;
  };
}
