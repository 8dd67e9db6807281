use Rattle.std.proofs.Common.{◌≡◌, map, length, take, sym, ap, ◌∙◌, subst, subst₂, arith}
use lib.ListN.{length-map}
use Rattle.machine.specs.Law.{Ran}
use Rattle.machine.specs.declared.request.Request.TheVariants.{Line}
use Rattle.runtext.specs.Runs.{run_in}
use Rattle.std.proofs.lemmas.List.{take_at, take_all, length-take-le}
use Rattle.storage.specs.Records.{sparse_view}
use Rattle.storage.specs.Views.{View}
use Rattle.listing.specs.Listings.{Recorded}
use Rattle.listing.proofs.record.Goals as goal

-- the run fills every place, so the record is all that the vector holds
pub returns : goal.returns
returns g c =
    let v = c.in_ok-outcomes.outcomes in
    let q = run_in c.args.places c.args.found in
    let full : length c.run.new.outcomes ≡ v.len = c.run.auto.outcomes ∙ c.deref_mut.ensures.len in
    let whole : length c.run.new.outcomes ≡ length q.calls = full ∙ c.in_ok-outcomes.ensures.len ∙ sym (length-take-le c.args.found.calls c.args.places.calls.now c.requires.calls) in
    let called : c.deref.result.now ≡ map Line q.calls = c.deref.ensures.value ∙ c.in_ok-requests.ensures in
    let many : length c.deref.result.now ≡ length q.calls = ap length called ∙ length-map q.calls Line in
    let after = sparse_view c.run.new.storage.beneath.words.now c.run.new.storage.beneath.keys.now in
    let made = λ (before : View). Ran g.A.Source g.P.Source before c.args.sources.now c.deref.result.now (take (length c.deref.result.now) c.run.new.outcomes) after c.run.new.sources in
    let told = subst made (ap (λ s. sparse_view s.words.now s.keys.now) c.new-storage.ensures.under) c.in-Ok.ensures.law in
    subst (λ os. Recorded g.A.Source g.P.Source q os c.args.sources.now c.run.new.sources) (sym (take_at c.run.new.outcomes _ v.len full))
    (record {
      whole = whole;
      after = after;
      ran = subst₂ (λ cs os. Ran g.A.Source g.P.Source (sparse_view q.words q.keys) c.args.sources.now cs os after c.run.new.sources) called (take_all (length c.deref.result.now) c.run.new.outcomes (omega arith)) told;
    })

pub unreachable-requires : goal.unreachable-requires
unreachable-requires g c =
    let q = run_in c.args.places c.args.found in
    let called : c.deref.result.now ≡ map Line q.calls = c.deref.ensures.value ∙ c.in_ok-requests.ensures in
    let many : length c.deref.result.now ≡ length q.calls = ap length called ∙ length-map q.calls Line in
    omega (arith, many, length-take-le c.args.found.calls c.args.places.calls.now c.requires.calls, c.in-Err.ensures.law.1, c.deref_mut.ensures.len, c.in_ok-outcomes.ensures.len)
