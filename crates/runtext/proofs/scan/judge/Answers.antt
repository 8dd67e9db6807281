use Rattle.std.proofs.Common.{◌≡◌, ℕ, ◌<◌, List, ◌++◌, length, sym, refl, arith}
use Rattle.std.proofs.lemmas.Bool.{eqb-false}
use Rattle.runtext.specs.Runs.{header}
use Rattle.runtext.proofs.Sofar.{add, start, few, further, no_run, bad_line, no_first, bad_first, empty}
use Rattle.runtext.proofs.scan.judge.Goals as goal

pub returns-in_default : goal.returns-in_default
returns-in_default c =
    let told : (x : List ℕ) → header ++ x ≡ c.args.text.now → ⊥ = λ x e. c.in_default.ensures x tt e in
    record { spelt = tt; bad = bad_first told c.args.places _ refl c.blame.ensures; complete = λ q h. no_first told q h.1 }

pub loop-line-init : goal.loop-line-init
loop-line-init c = record { places = refl; run = empty; read = start c.args.places c.args.text.now c.in-Some.rest.now c.in-Some.ensures.1 }

pub and-so_far-requires : goal.and-so_far-requires
and-so_far-requires c = omega (arith, few _ _ _ _ _ c.loop-line.invariant.read, c.requires)

pub loop-line-preserved : goal.loop-line-preserved
loop-line-preserved c =
    let i = c.loop-line.invariant in
    let told = rw i.places at c.in-Some-step.ensures in
    let l = c.in-Some-step.line in
    rw c.and-so_far.ensures (record { places = i.places; run = add i.run l; read = further i.read l c.in-Some-step.after.now c.requires told.0.0 told.0.1 told.1 })

pub next_line-requires : goal.next_line-requires
next_line-requires c = omega (arith, few _ _ _ _ _ c.loop-line.invariant.read, c.requires)

pub returns : goal.returns
returns c =
    let i = c.loop-line.invariant in
    let some : 0 < length c.loop-line.rest.now = omega (arith, eqb-false _ 0 (sym c.if-is_empty.ensures)) in
    let told = rw i.places at c.in_default-step.ensures in
    record { spelt = tt; bad = bad_line i.read some told _ c.next_line.ensures (rw i.places at c.blame-2.ensures); complete = no_run i.read some told }
