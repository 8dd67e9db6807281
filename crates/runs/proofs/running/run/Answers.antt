use Rattle.std.proofs.Common.{◌≡◌, ◌<◌, ◌≤◌, length, arith}
use Rattle.machine.proofs.Alike.{answers_alike}
use Rattle.runs.proofs.Far.{far_begins, far_more, far_ends}
use Rattle.runs.proofs.running.run.Goals as goal

pub loop-i-init : goal.loop-i-init
loop-i-init g c =
    let v = g.S.Storage.view c.args.storage.now.beneath in
    far_begins g.A.Source g.P.Source v c.new-machine.new.sources c.args.calls.now c.args.outcomes.now {before = c.args.sources.now} (c.new-machine.ensures.starts v) c.new-machine.ensures.sources

pub loop-i-preserved : goal.loop-i-preserved
loop-i-preserved g c =
    let within : c.loop-i.i < length c.args.calls.now = omega arith in
    let room : c.loop-i.i < length c.loop-i.outcomes = omega arith in
    let did = c.answer.ensures.performs in
    far_more g.A.Source g.P.Source (g.S.Storage.view c.args.storage.now.beneath) c.new-machine.new.sources c.args.calls.now c.args.outcomes.now c.loop-i.i c.loop-i.outcomes _ c.answer.result
    within room c.loop-i.invariant c.answer.ensures.law did.access did.page

pub returns : goal.returns
returns g c =
    let whole : c.loop-i.i ≡ length c.args.calls.now = omega arith in
    let enough : length c.args.calls.now ≤ length c.args.outcomes.now = omega arith in
    let end = far_ends g.A.Source g.P.Source (g.S.Storage.view c.args.storage.now.beneath) c.new-machine.new.sources c.args.calls.now c.args.outcomes.now c.loop-i.i whole c.new-machine.ensures.sources c.loop-i.invariant in
    record { law = end.0; alike = answers_alike; refused = enough; outcomes = end.1 }

pub returns-then-outcomes-calls-clause-alike : goal.returns-then-outcomes-calls-clause-alike
returns-then-outcomes-calls-clause-alike g c = answers_alike
