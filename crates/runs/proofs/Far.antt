-- How far a run has come: the law of the calls made, and where machine, storage and sources stand.
use Rattle.std.proofs.Common.{◌≡◌, ℕ, ◌+◌, ◌<◌, List, [], ◌∷◌, ◌++◌, length, get_or, take, drop, set, sym, refl, ap, ◌∙◌, subst, subst₂, arith, drop-drop, drop-set-lt}
use Rattle.std.proofs.lemmas.List.{take_more, take_more_set, take_all}
use Rattle.storage.specs.Prefixes.{prefixed}
use Rattle.storage.specs.Views.{View}
use Rattle.lookup.specs.Access.{AccessFits}
use Rattle.lookup.specs.Lookups.{access_fresh, page_fresh}
use Rattle.lookup.specs.Spelling.{PageFits}
use Rattle.machine.specs.declared.request.Outcome.{Outcome}
use Rattle.machine.specs.declared.request.Request.{Request}
use Rattle.machine.specs.declared.sources.Sources.{Sources}
use Rattle.machine.specs.Effects.{effect_of, TurnsAccess, TurnsPage}
use Rattle.machine.specs.Law.{AreSound, GoesOn, Lawful, Ran, Stands, State, Takes, next, start}
use Rattle.machine.specs.Registers.{Registers}
use Rattle.machine.specs.Scene.{AccessSource, PageSource, held, seen, shown}
use Rattle.machine.specs.Turns.{EmptiesBoth}
use Rattle.machine.proofs.Sound.{sound_empty}
use Rattle.runs.proofs.Stands.{held_past}

module _ {A P : Type 0} (a : AccessSource A) (p : PageSource P) where
  -- one call more at the end of a run
  lawful_more : (s : State) (b : Sources A P) (cs : List Request) (os : List Outcome) (t : State) (d : Sources A P) (c : Request) (o : Outcome) (e : Sources A P)
      → Lawful a p s b cs os t d → Takes a p t d c o e → Lawful a p s b (cs ++ (c ∷ [])) (os ++ (o ∷ [])) (next t (shown a p d) c) e
  lawful_more s b [] [] t d c o e (at_s, at_b) takes =
      let end = next t (shown a p d) c in
      subst₂ (λ x y. Lawful a p x y (c ∷ []) (o ∷ []) end e) at_s at_b (e, (takes, (refl, refl)))
  lawful_more s b [] (y ∷ os) t d c o e law takes = absurd law
  lawful_more s b (x ∷ cs) [] t d c o e law takes = absurd law
  lawful_more s b (x ∷ cs) (y ∷ os) t d c o e (m, (first, rest)) takes = (m, (first, lawful_more (next s (shown a p b) x) m cs os t d c o e rest takes))

  -- the first i calls of a run are made
  pub record Far (v : View) (emptied : Sources A P) (calls : List Request) (first : List Outcome) (i : ℕ) (outcomes : List Outcome) (r : Registers) (w : View) (b : Sources A P) : Type 0 where
    pub state : State
    pub law : Lawful a p (start v) emptied (take i calls) (take i outcomes) state b
    pub stands : Stands state r w (held a p b)
    pub holds : AreSound state.past (held a p b)
    pub rest : drop i outcomes ≡ drop i first

  module _ (v : View) (emptied : Sources A P) (calls : List Request) (first : List Outcome) where
    pub far_begins : {r : Registers} {before : Sources A P} → Stands (start v) r v (held a p emptied) → EmptiesBoth a p before emptied → Far v emptied calls first 0 first r v emptied
    far_begins stands empties = record {
      state = start v;
      law = (refl, refl);
      stands = stands;
      holds = record { access = sound_empty AccessFits access_fresh [] (a.holds emptied.access) empties.0.empty; page = sound_empty PageFits page_fresh [] (p.holds emptied.page) empties.1.empty };
      rest = refl;
    }

    pub far_more : (i : ℕ) (outcomes : List Outcome) (c : Request) (o : Outcome) {r r' : Registers} {w w' : View} {b d : Sources A P} → i < length calls → i < length outcomes
        → Far v emptied calls first i outcomes r w b → GoesOn a p r w b (get_or calls i c) o r' w' d
        → TurnsAccess a (prefixed r.prefix w) (effect_of (get_or calls i c) (seen r (prefixed r.prefix w) (shown a p b))).access b.access d.access
        → TurnsPage p (prefixed r.prefix w) (effect_of (get_or calls i c) (seen r (prefixed r.prefix w) (shown a p b))).page b.page d.page
        → Far v emptied calls first (i + 1) (set outcomes i o) r' w' d
    far_more i outcomes c o {r} {r'} {w} {w'} {b} {d} within room far goes access page =
        let call = get_or calls i c in
        let s = far.state in
        let on = goes s far.stands in
        let takes : Takes a p s b call o d = record {
          law = on.0;
          access = subst₂ (λ x y. TurnsAccess a (prefixed x.prefix y) (effect_of call (seen x (prefixed x.prefix y) (shown a p b))).access b.access d.access) far.stands.registers far.stands.view access;
          page = subst₂ (λ x y. TurnsPage p (prefixed x.prefix y) (effect_of call (seen x (prefixed x.prefix y) (shown a p b))).page b.page d.page) far.stands.registers far.stands.view page;
        } in
        record {
          state = next s (shown a p b) call;
          law = subst₂ (λ cs os. Lawful a p (start v) emptied cs os (next s (shown a p b) call) d) (sym (take_more calls i c within)) (sym (take_more_set outcomes i o room)) (lawful_more (start v) emptied (take i calls) (take i outcomes) s b call o d far.law takes);
          stands = on.1;
          holds = held_past a p s b call o d takes far.holds;
          rest = drop-set-lt (i + 1) outcomes i o (omega arith) ∙ sym (drop-drop 1 i outcomes) ∙ ap (drop 1) far.rest ∙ drop-drop 1 i first;
        }

    -- all calls are made
    pub far_ends : (i : ℕ) {outcomes : List Outcome} {r : Registers} {w : View} {b before : Sources A P} → i ≡ length calls → EmptiesBoth a p before emptied → Far v emptied calls first i outcomes r w b
        → Ran a p v before calls (take (length calls) outcomes) w b × (drop (length calls) outcomes ≡ drop (length calls) first)
    far_ends i {outcomes} {r} {w} {b} {before} whole empties far =
        let at_end = subst (λ n. Far v emptied calls first n outcomes r w b) whole far in
        let all = take_all (length calls) calls (omega arith) in (
          record {
            emptied = emptied;
            last = at_end.state;
            empties = empties;
            law = subst (λ cs. Lawful a p (start v) emptied cs (take (length calls) outcomes) at_end.state b) all at_end.law;
            view = at_end.stands.view;
            holds = at_end.holds;
          },
          at_end.rest,
        )
