use Rattle.std.proofs.Common.{refl, ap, ◌∙◌, arith}
use Rattle.runtext.specs.Runs.{lines_left}
use Rattle.runtext.proofs.Outgoing.{set_out, arrived, go_further, stopped, no_text}
use Rattle.runtext.proofs.Sofar.{add, empty, few}
use Rattle.runtext.proofs.writing.judge.Goals as goal

pub loop-line-init : goal.loop-line-init
loop-line-init c = record { places = refl; run = empty; going = set_out c.args.places c.args.run.now _ (ap lines_left c.into_iter-line-iterator.ensures.into_iter_gives ∙ c.lines-line-items.ensures) }

pub next_line-requires : goal.next_line-requires
next_line-requires c = omega (arith, few _ _ _ _ _ c.loop-line.invariant.going.sofar, c.requires)

pub and-so_far-requires : goal.and-so_far-requires
and-so_far-requires c = omega (arith, few _ _ _ _ _ c.loop-line.invariant.going.sofar, c.requires)

pub returns-in-Some-fault : goal.returns-in-Some-fault
returns-in-Some-fault c =
    let g = c.loop-line.invariant.going in
    let h = c.in-Some.ensures.steps in
    let f = rw c.loop-line.invariant.places at c.in-Some-fault.ensures in
    record { readable = tt; bad = stopped g h f c.next_line.result c.next_line.ensures; complete = no_text g h f }

pub loop-line-preserved : goal.loop-line-preserved
loop-line-preserved c =
    let i = c.loop-line.invariant in
    let ok = rw i.places at c.in_default.ensures in
    rw c.and-so_far.ensures (record { places = i.places; run = add i.run c.in-Some.line; going = go_further i.going c.in-Some.ensures.steps c.requires ok.0 ok.1 })

pub returns : goal.returns
returns c = record { readable = arrived c.loop-line.invariant.going c.in-None.ensures.steps.0; bad = tt; complete = tt }
