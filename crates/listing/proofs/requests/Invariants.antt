use Rattle.std.proofs.Common.{◌≡◌, map, take, vec_items}
use Rattle.machine.specs.declared.request.Request.TheVariants.{Line}
use Rattle.listing.proofs.requests.Given as goal

abbrev pub invariant-loop-call : goal.invariant-loop-call
invariant-loop-call l = vec_items l.requests ≡ map Line (take l.call-index l.calls)
