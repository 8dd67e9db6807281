-- A call over sources whose answers were fresh once gives, where nothing changed, what it gives with bare ones.
use Rattle.std.proofs.Common.{◌≡◌, ℕ, ◌%◌, Bool, true, false, cond, not, ◌||◌, eqb, ltb, List, ◌∷◌, Some, None, refl, ap, ◌∙◌}
use Rattle.arch.specs.declared.call.Access.{Access}
use Rattle.arch.specs.declared.call.Access.TheVariants.{Fetch, Store}
use Rattle.arch.specs.declared.condition.Condition.TheVariants.{BadNumber, Unaligned, ShortList}
use Rattle.arch.specs.Walks.{Traced, then}
use Rattle.storage.specs.Views.{View}
use Rattle.lookup.specs.declared.access.AccessAnswer.{AccessAnswer}
use Rattle.lookup.specs.declared.access.AccessKey.{AccessKey}
use Rattle.lookup.specs.declared.page.PageAnswer.{PageAnswer}
use Rattle.lookup.specs.declared.page.PageKey.{PageKey}
use Rattle.lookup.specs.Access.{AccessFits}
use Rattle.lookup.specs.Laws.{access_sees_only_its_trace, page_sees_only_its_trace}
use Rattle.lookup.specs.Lookups.{access_fresh, page_fresh}
use Rattle.lookup.specs.Spelling.{PageFits}
use Rattle.machine.specs.declared.counted.Counted.{Counted}
use Rattle.machine.specs.declared.sources.Operand.{Operand}
use Rattle.machine.specs.declared.sources.Sources.{Sources}
use Rattle.machine.specs.Calls.{Translating, Makes, access_key_asked, page_key_asked, accesses, fetches, stores, translates, plainly, value_there, refuses_access, refuses_translation}
use Rattle.machine.specs.Law.{AnswersFresh, AreSound, IsUnchanged, Past, ShowFreshOnce, Steady, StoresFresh, since}
use Rattle.machine.specs.Puts.{put_answer, stored_by}
use Rattle.machine.specs.Registers.{Registers}
use Rattle.machine.specs.Scene.{AccessSource, PageSource, Scene, ask_access, ask_page, held, seen, shown, unshown}
use Rattle.machine.specs.Translation.{unless, reach}
use Rattle.machine.proofs.Results.{then_same, reach_same}
use Rattle.machine.proofs.Sound.{asked_now, sound_kept, sound_shown}

-- over sources whose answers were fresh once, and where what bare ones would fetch has not changed, it comes to what it
-- comes to with bare ones
abbrev pub SameWhereUnchanged : {X : Type 0} → Translating X → Type 0
SameWhereUnchanged c =
    (n : Scene) (past : Past) → ((k : AccessKey) → c.access_key n ≡ Some k → AccessFits k) → ShowFreshOnce (since n.real.word past) n.shown → IsUnchanged c n past
    → (c.gives n).result ≡ (c.gives (unshown n)).result

-- refused before anything is asked: what would be asked does not matter
refused_same : {A : Type 0} (p q : Bool) (s t : Traced A) → (p || q) ≡ true → (then (unless BadNumber p) (λ _. then (unless ShortList q) (λ _. s))).result ≡ (then (unless BadNumber p) (λ _. then (unless ShortList q) (λ _. t))).result
refused_same true q s t e = refl
refused_same false true s t e = refl
refused_same false false s t e = absurd cc

access_refused_same : {A : Type 0} (p q u : Bool) (s t : Traced A) → (p || (q || u)) ≡ true → (then (unless BadNumber p) (λ _. then (unless Unaligned q) (λ _. then (unless ShortList u) (λ _. s)))).result ≡ (then (unless BadNumber p) (λ _. then (unless Unaligned q) (λ _. then (unless ShortList u) (λ _. t)))).result
access_refused_same true q u s t e = refl
access_refused_same false true u s t e = refl
access_refused_same false false true s t e = refl
access_refused_same false false false s t e = absurd cc

module _ (access : Access) (o : Operand) (places : ℕ) (n : Scene) (past : Past) (once : ShowFreshOnce (since n.real.word past) n.shown) where
  -- not refused: the keys wanted are asked for
  abbrev Reached : Scene → Traced ℕ
  Reached m = reach m.registers (ask_access m) (ask_page m) m.real access o

  unrefused : (b : Bool) → b ≡ false
      → ((k : AccessKey) → cond b None (access_key_asked n o) ≡ Some k → AccessFits k)
      → ((k : AccessKey) → cond b None (access_key_asked n o) ≡ Some k → Steady n.real.word (n.real.word ∷ past.access) (access_fresh n.real.word k).trace)
      → ((k : PageKey) → cond b None (page_key_asked (unshown n) access o) ≡ Some k → Steady n.real.word (n.real.word ∷ past.page) (page_fresh n.real.word k).trace)
      → (Reached n).result ≡ (Reached (unshown n)).result
  unrefused b e widths access_same page_same =
      let now = n.real.word in
      let asked_a = λ (k : AccessKey) (asks : access_key_asked n o ≡ Some k). ap (λ t. cond t None (access_key_asked n o)) e ∙ asks in
      reach_same n.registers (ask_access n) (ask_access (unshown n)) (ask_page n) (ask_page (unshown n)) n.real access o
      (λ k asks. asked_now (λ w. access_fresh w k) (access_sees_only_its_trace k) now (n.shown.access k) (now ∷ past.access) (λ a h. once.access k a (widths k (asked_a k asks)) h) (access_same k (asked_a k asks)))
      (λ k asks. asked_now (λ w. page_fresh w k) (page_sees_only_its_trace k) now (n.shown.page k) (now ∷ past.page) (λ a h. once.page k a tt h) (page_same k (ap (λ t. cond t None (page_key_asked (unshown n) access o)) e ∙ asks)))

pub translates_same : (access : Access) (o : Operand) (places : ℕ) → SameWhereUnchanged (translates access o places)
translates_same access o places n past widths once unchanged = by (refuses_translation o places) refl
  where
    by : (b : Bool) → refuses_translation o places ≡ b → ((translates access o places).gives n).result ≡ ((translates access o places).gives (unshown n)).result
    by true e = refused_same (ltb 15 o.register) (ltb places 12) _ _ e
    by false e =
        then_same (unless BadNumber (ltb 15 o.register)) (unless BadNumber (ltb 15 o.register)) _ _ refl
        (λ _ _. then_same (unless ShortList (ltb places 12)) (unless ShortList (ltb places 12)) _ _ refl
        (λ _ _. unrefused access o places n past once (refuses_translation o places) e widths unchanged.access unchanged.page))

pub accesses_same : (access : Access) (o : Operand) (places : ℕ) → SameWhereUnchanged (accesses access o places)
accesses_same access o places n past widths once unchanged = by (refuses_access o places) refl
  where
    by : (b : Bool) → refuses_access o places ≡ b → ((accesses access o places).gives n).result ≡ ((accesses access o places).gives (unshown n)).result
    by true e = access_refused_same (ltb 15 o.register) (not (eqb (o.address % 8) 0)) (ltb places 12) _ _ e
    by false e =
        then_same (unless BadNumber (ltb 15 o.register)) (unless BadNumber (ltb 15 o.register)) _ _ refl
        (λ _ _. then_same (unless Unaligned (not (eqb (o.address % 8) 0))) (unless Unaligned (not (eqb (o.address % 8) 0))) _ _ refl
        (λ _ _. then_same (unless ShortList (ltb places 12)) (unless ShortList (ltb places 12)) _ _ refl
        (λ _ _. then_same (unless BadNumber (ltb 15 o.register)) (unless BadNumber (ltb 15 o.register)) _ _ refl
        (λ _ _. then_same (unless ShortList (ltb places 12)) (unless ShortList (ltb places 12)) _ _ refl
        (λ _ _. unrefused access o places n past once (refuses_access o places) e widths unchanged.access unchanged.page)))))

pub fetches_same : (o : Operand) (places : ℕ) → SameWhereUnchanged (fetches o places)
fetches_same o places n past widths once unchanged =
    then_same ((accesses Fetch o places).gives n) ((accesses Fetch o places).gives (unshown n)) (λ real. plainly (value_there (n.real.word real))) (λ real. plainly (value_there (n.real.word real)))
    (accesses_same Fetch o places n past widths once (record { access = unchanged.access; page = unchanged.page })) (λ real e. refl)

pub stores_same : (o : Operand) (places : ℕ) → SameWhereUnchanged (stores o places)
stores_same o places n past widths once unchanged =
    then_same ((accesses Store o places).gives n) ((accesses Store o places).gives (unshown n)) (λ real. plainly (put_answer n.real real)) (λ real. plainly (put_answer n.real real))
    (accesses_same Store o places n past widths once (record { access = unchanged.access; page = unchanged.page })) (λ real e. refl)

-- from what a call gives and does to its sources to what is known after any past
module _ {A P : Type 0} (a : AccessSource A) (p : PageSource P) (held_a : (s : A) (k : AccessKey) (x : AccessAnswer) → a.shows s k ≡ Some x → a.holds s k x) (held_p : (s : P) (k : PageKey) (x : PageAnswer) → p.shows s k ≡ Some x → p.holds s k x) where
  once_shown : (real : View) (before : Sources A P) (past : Past) → AreSound (since real.word past) (held a p before) → ShowFreshOnce (since real.word past) (shown a p before)
  once_shown real before past sound = record {
    access = sound_shown AccessFits access_fresh (real.word ∷ past.access) (a.shows before.access) (a.holds before.access) (held_a before.access) sound.access;
    page = sound_shown PageFits page_fresh (real.word ∷ past.page) (p.shows before.page) (p.holds before.page) (held_p before.page) sound.page;
  }

  pub answers_fresh : {X : Type 0} (c : Translating X) → SameWhereUnchanged c → (r : Registers) (real : View) (before after : Sources A P) (list list' : List ℕ) (came : Counted X)
      → Makes a p c (seen r real (shown a p before)) before list came after list' → AnswersFresh c (seen r real (shown a p before)) came.result (held a p before) (held a p after)
  answers_fresh c same r real before after list list' came makes past sound =
      let n = seen r real (shown a p before) in
      let once = once_shown real before past sound in
      record {
        once = once;
        same = λ unchanged. makes.reports.result ∙ same n past makes.access.widths once unchanged;
        sound = record {
          access = sound_kept AccessFits access_fresh real.word past.access (a.holds before.access) (a.holds after.access) makes.access.keeps sound.access;
          page = sound_kept PageFits page_fresh real.word past.page (p.holds before.page) (p.holds after.page) makes.page.keeps sound.page;
        };
      }

  -- so what a store puts, where nothing changed
  pub stores_fresh : (o : Operand) (places x : ℕ) (r : Registers) (real : View) (before after : Sources A P) (list list' : List ℕ) (came : Counted (Unit {0}))
      → Makes a p (stores o places) (seen r real (shown a p before)) before list came after list' → StoresFresh o places x (seen r real (shown a p before)) (held a p before)
  stores_fresh o places x r real before after list list' came makes past sound unchanged =
      ap (λ y. stored_by y x) (accesses_same Store o places (seen r real (shown a p before)) past makes.access.widths (once_shown real before past sound) (record { access = unchanged.access; page = unchanged.page }))
