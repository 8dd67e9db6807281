use Rattle.std.proofs.Common.{◌≡◌, length, IfOk, string_bytes, ◌∙◌, subst, rules}
use Rattle.runtext.specs.declared.Counts.{Counts}
use Rattle.std.proofs.lemmas.Result.{IfOk-from_err}
use Rattle.listing.specs.Listings.{places, Lists}
use Rattle.listing.proofs.Room.{room_for_all}
use Rattle.listing.proofs.list.Goals as goal

pub returns-in_err-words : goal.returns-in_err-words
returns-in_err-words g c = record { lists = search (rules, IfOk-from_err); room = room_for_all }

pub returns-in_err-keys : goal.returns-in_err-keys
returns-in_err-keys g c = record { lists = search (rules, IfOk-from_err); room = room_for_all }

pub returns-in_err-calls : goal.returns-in_err-calls
returns-in_err-calls g c = record { lists = search (rules, IfOk-from_err); room = room_for_all }

-- the places that are lent are as many as the definition says
pub returns : goal.returns
returns g c =
    let words : length c.deref_mut.result.now ≡ 1024 = c.deref_mut.ensures.len ∙ c.in_ok-words.ensures.len in
    let keys : length c.deref_mut-2.result.now ≡ 256 = c.deref_mut-2.ensures.len ∙ c.in_ok-keys.ensures.len in
    let calls : length c.deref_mut-3.result.now ≡ 16384 = c.deref_mut-3.ensures.len ∙ c.in_ok-calls.ensures.len in
    let all : ◌≡◌ {A = Counts} (record { words = length c.deref_mut.result.now; keys = length c.deref_mut-2.result.now; calls = length c.deref_mut-3.result.now }) places = λ i. record { words = words i; keys = keys i; calls = calls i } in
    record {
      lists = subst (λ p. IfOk c.list_within.result (λ out. Lists g.A.Source g.P.Source p c.args.text.now (string_bytes out) c.args.sources.now c.list_within.new.sources)) all c.list_within.ensures;
      room = room_for_all;
    }
