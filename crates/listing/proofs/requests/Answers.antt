use Rattle.std.proofs.Common.{map, ap, ◌∙◌, arith, rules}
use Rattle.std.proofs.lemmas.List.{map_more, take_all}
use Rattle.machine.specs.declared.request.Request.TheVariants.{Line}
use Rattle.listing.proofs.requests.Goals as goal

pub loop-call-preserved : goal.loop-call-preserved
loop-call-preserved c = search (rules, map_more Line)

pub returns : goal.returns
returns c = c.loop-call.invariant ∙ ap (map Line) (take_all c.loop-call.call-index c.args.calls.now (omega arith))
