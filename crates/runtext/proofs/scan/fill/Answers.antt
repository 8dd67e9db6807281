use Rattle.std.proofs.Common.{◌≡◌, ℕ, List, ◌++◌, arith}
use Rattle.runtext.specs.Runs.{header}
use Rattle.runtext.proofs.Sofar.{few, no_first}
use Rattle.runtext.proofs.Filling.{fill_start, fill_more, fill_done}
use Rattle.runtext.proofs.scan.fill.Goals as goal

pub returns-in_default : goal.returns-in_default
returns-in_default c =
    let told : (x : List ℕ) → header ++ x ≡ c.args.text.now → ⊥ = λ x e. c.in_default.ensures x tt e in
    absurd (no_first told c.requires.accepted.0 c.requires.accepted.1.1)

pub loop-line-init : goal.loop-line-init
loop-line-init c = record { places = c.counts.ensures; filled = fill_start c.in-Some.rest.now c.in-Some.ensures.1 }

pub and-so_far-requires : goal.and-so_far-requires
and-so_far-requires c = omega (arith, few _ _ _ _ _ c.loop-line.invariant.filled.sofar, c.requires.short)

pub loop-line-preserved : goal.loop-line-preserved
loop-line-preserved c =
    let i = c.loop-line.invariant in
    let told = rw i.places at c.in-Some-step.ensures in
    rw c.and-so_far.ensures (record { places = i.places; filled = fill_more i.filled c.in-Some-step.line c.in-Some-step.after.now c.put.new.self c.requires.short told.0.0 told.0.1 told.1 c.put.ensures.put c.put.ensures.same })

pub returns : goal.returns
returns c = fill_done c.loop-line.invariant.filled c.requires.accepted.0 c.requires.accepted.1 (rw c.loop-line.invariant.places at c.in_default-step.ensures)
