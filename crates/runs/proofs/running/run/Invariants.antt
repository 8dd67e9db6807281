use Rattle.runs.proofs.Far.{Far}
use Rattle.runs.proofs.running.run.Given as goal

abbrev pub invariant-loop-i : goal.invariant-loop-i
invariant-loop-i g l = Far g.A.Source g.P.Source (g.S.Storage.view l.initial.storage.beneath) l.initial.sources l.calls l.initial.outcomes l.i l.outcomes l.machine (g.S.Storage.view l.storage.beneath) l.sources
