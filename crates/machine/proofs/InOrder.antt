-- A translation meets its conditions in the order of its table.
use Rattle.std.proofs.Common.{◌≡◌, ℕ, Bool, true, false, cond, ◌&&◌, eqb, ltb, List, [], ◌∷◌, ◌++◌, get_or, Some, None, Option, refl, ap, ◌∙◌, ◌%◌, not, Ok, Err, Result}
use Rattle.arch.specs.declared.call.Access.{Access}
use Rattle.arch.specs.declared.condition.Condition.{Condition}
use Rattle.arch.specs.declared.condition.Condition.TheVariants.{BadNumber, ShortList, Addressing, LowAddress, AccessList, Page, Key, Unaligned}
use Rattle.arch.specs.Order.{Row, row, first_of, verdict, Ordered, value}
use Rattle.arch.specs.Walks.{Traced, given, onward, then}
use Rattle.arch.proofs.Ordered.{ordered_then}
use Rattle.arch.specs.declared.call.Access.TheVariants.{Fetch, Store}
use Rattle.lookup.specs.declared.access.AccessKey.{AccessKey}
use Rattle.lookup.specs.declared.page.PageKey.{PageKey}
use Rattle.machine.specs.Puts.{put_answer}
use Rattle.machine.proofs.Accesses.{fetched_there, stored_there}
use Rattle.storage.specs.Views.{View, block_of}
use Rattle.lookup.specs.declared.access.AccessAnswer.{AccessAnswer}
use Rattle.lookup.specs.Lookups.{access_fresh, page_fresh}
use Rattle.lookup.specs.Sources.{asked}
use Rattle.lookup.specs.Orders.{access_conditions, access_finds, page_conditions, page_finds}
use Rattle.lookup.proofs.InOrder.{access_fresh_ordered, page_fresh_ordered}
use Rattle.machine.specs.declared.mode.Mode.{Mode}
use Rattle.machine.specs.declared.mode.Mode.TheVariants.{DatOff, Primary, AccessRegister, Secondary, Home}
use Rattle.machine.specs.declared.sources.Operand.{Operand}
use Rattle.machine.specs.Registers.{Registers}
use Rattle.machine.specs.Orders.{page_key_conditions, page_of_key, shown_or, space_key_conditions, space_of_key, unless_shown, plain, token_space, register_space, mode_space, lookup_conditions, space_conditions, space_real, reach_conditions, real_found, reaching_conditions, translation_conditions, fetch_store_conditions, value_found}
use Rattle.machine.specs.Calls.{translates, accesses, fetches, stores, plainly, value_there}
use Rattle.machine.specs.Scene.{Scene, ask_access, ask_page}
use Rattle.machine.specs.Translation.{unless, is_store, cut, control, access_key, real_address, key_protected, held_in, looked_up, space_of_token, space_of_register, space_by_mode, token_asks, register_asks, mode_asks, low_protected, page_key, framed, real_of, reached, reach}

unless_first : {B : Type 0} (c : Condition) (t : Bool) (s : Traced B) (rows : List Row) (b : B) → Ordered rows b s.result → Ordered (row c t ∷ rows) b (then (unless c t) (λ _. s)).result
unless_first c true s rows b p = refl
unless_first c false s rows b p = p

some_found : (s : Traced AccessAnswer) (rows : List Row) (a : AccessAnswer) → Ordered rows a s.result → Ordered rows (Some a) (then s (λ x. given (Some x))).result
some_found s rows a p = ap (λ o. (onward s.trace o (λ x. given (Some x))).result) p ∙ by (first_of rows)
  where
    by : (o : Option Condition) → (onward s.trace (verdict o a) (λ x. given (Some x))).result ≡ verdict o (Some a)
    by None = refl
    by (Some c) = refl

-- what a source gives for a key meets the conditions that are left, in order
asked_ordered : {Answer : Type 0} (o : Option Answer) (fresh : Traced Answer) (rows : List Row) (a : Answer) → Ordered rows a fresh.result → Ordered (unless_shown o rows) (shown_or o a) (asked o fresh).result
asked_ordered None fresh rows a p = p
asked_ordered (Some b) fresh rows a p = refl

module _ (n : Scene) where
  space_key_ordered : (k : AccessKey) → Ordered (space_key_conditions n k) (space_of_key n k) (ask_access n k).result
  space_key_ordered k = asked_ordered (n.shown.access k) (access_fresh n.real.word k) (access_conditions n.real.word k) (access_finds n.real.word k) (access_fresh_ordered n.real.word k)

  page_key_ordered : (k : PageKey) → Ordered (page_key_conditions n k) (page_of_key n k) (ask_page n k).result
  page_key_ordered k = asked_ordered (n.shown.page k) (page_fresh n.real.word k) (page_conditions n.real.word k) (page_finds n.real.word k) (page_fresh_ordered n.real.word k)

  token_ordered : (alet : ℕ) → Ordered (lookup_conditions n (token_asks n.registers alet)) (token_space n alet) (space_of_token n.registers (ask_access n) alet).result
  token_ordered alet = by (eqb alet 0) (eqb alet 1)
    where
      by : (p q : Bool) → Ordered (lookup_conditions n (cond p None (cond q None (Some (access_key n.registers alet))))) (cond p (plain (control n.registers 1)) (cond q (plain (control n.registers 7)) (Some (space_of_key n (access_key n.registers alet))))) (cond p (held_in (control n.registers 1)) (cond q (held_in (control n.registers 7)) (looked_up (ask_access n) (access_key n.registers alet)))).result
      by true q = refl
      by false true = refl
      by false false = some_found (ask_access n (access_key n.registers alet)) (space_key_conditions n (access_key n.registers alet)) (space_of_key n (access_key n.registers alet)) (space_key_ordered (access_key n.registers alet))

  register_ordered : (register : ℕ) → Ordered (lookup_conditions n (register_asks n.registers register)) (register_space n register) (space_of_register n.registers (ask_access n) register).result
  register_ordered register = by (eqb register 0)
    where
      by : (p : Bool) → Ordered (lookup_conditions n (cond p None (token_asks n.registers (get_or n.registers.access register 0)))) (cond p (plain (control n.registers 1)) (token_space n (get_or n.registers.access register 0))) (cond p (held_in (control n.registers 1)) (space_of_token n.registers (ask_access n) (get_or n.registers.access register 0))).result
      by true = refl
      by false = token_ordered (get_or n.registers.access register 0)

  mode_ordered : (mode : Mode) (register : ℕ) → Ordered (lookup_conditions n (mode_asks mode n.registers register)) (mode_space n mode register) (space_by_mode mode n.registers (ask_access n) register).result
  mode_ordered DatOff register = refl
  mode_ordered Primary register = refl
  mode_ordered AccessRegister register = register_ordered register
  mode_ordered Secondary register = refl
  mode_ordered Home register = refl

  space_ordered : (access : Access) (space : Option AccessAnswer) (a : ℕ) → Ordered (space_conditions n access space a) (space_real n space a) (real_of (ask_page n) access space a).result
  space_ordered access None a = refl
  space_ordered access (Some space) a =
      let k = page_key space.asce a in
      let page = page_of_key n k in
      ordered_then (ask_page n k) (framed access space a) (page_key_conditions n k) (row AccessList (is_store access && space.fetch_only) ∷ row Page (is_store access && page.protect) ∷ []) page (real_address page.frame a) (page_key_ordered k)
      (unless_first AccessList (is_store access && space.fetch_only) (then (unless Page (is_store access && page.protect)) (λ _. given (real_address page.frame a))) (row Page (is_store access && page.protect) ∷ []) (real_address page.frame a) (unless_first Page (is_store access && page.protect) (given (real_address page.frame a)) [] (real_address page.frame a) refl))

reach_ordered : (r : Registers) (view : View) (access : Access) (real : ℕ) → Ordered (reach_conditions r view access real) real (reached r view access real).result
reach_ordered r view access real = unless_first Addressing _ (then (unless Key (key_protected r.key access (view.key (block_of real)))) (λ _. given real)) (row Key (key_protected r.key access (view.key (block_of real))) ∷ []) real (unless_first Key (key_protected r.key access (view.key (block_of real))) (given real) [] real refl)

module _ (n : Scene) (access : Access) (o : Operand) where
  abbrev answered : Traced ℕ
  answered = reach n.registers (ask_access n) (ask_page n) n.real access o

  reaching_ordered : Ordered (reaching_conditions n access o) (real_found n access o) answered.result
  reaching_ordered =
      let r = n.registers in
      let a = cut r.size o.address in
      let space = mode_space n r.mode o.register in
      let real = space_real n space a in
      let end = reach_conditions r n.real access real in
      let last = ordered_then (real_of (ask_page n) access space a) (λ real. reached r n.real access real) (space_conditions n access space a) end real real (space_ordered n access space a) (reach_ordered r n.real access real) in
      let middle = unless_first LowAddress (low_protected r access a) (then (real_of (ask_page n) access space a) (λ real. reached r n.real access real)) (space_conditions n access space a ++ end) real last in
      ordered_then (space_by_mode r.mode r (ask_access n) o.register) (λ space. then (unless LowAddress (low_protected r access a)) (λ _. then (real_of (ask_page n) access space a) (λ real. reached r n.real access real))) (lookup_conditions n (mode_asks r.mode r o.register)) (row LowAddress (low_protected r access a) ∷ space_conditions n access space a ++ end) space real (mode_ordered n r.mode o.register) middle

  -- a translation meets its conditions in order, whatever its sources show
  pub translation_ordered : (places : ℕ) → Ordered (translation_conditions n access o places) (real_found n access o) ((translates access o places).gives n).result
  translation_ordered places =
      unless_first BadNumber (ltb 15 o.register) (then (unless ShortList (ltb places 12)) (λ _. answered)) (row ShortList (ltb places 12) ∷ reaching_conditions n access o) (real_found n access o)
      (unless_first ShortList (ltb places 12) answered (reaching_conditions n access o) (real_found n access o) reaching_ordered)

  -- a fetch or a store those of its translation, after its own
  access_ordered : (places : ℕ) → Ordered (fetch_store_conditions n access o places) (real_found n access o) ((accesses access o places).gives n).result
  access_ordered places = by (ltb 15 o.register) (not (eqb (o.address % 8) 0)) (ltb places 12)
    where
      by : (p q u : Bool) → Ordered (row BadNumber p ∷ row Unaligned q ∷ row ShortList u ∷ reaching_conditions n access o) (real_found n access o)
          (then (unless BadNumber p) (λ _. then (unless Unaligned q) (λ _. then (unless ShortList u) (λ _. then (unless BadNumber p) (λ _. then (unless ShortList u) (λ _. answered)))))).result
      by true q u = refl
      by false true u = refl
      by false false true = refl
      by false false false = reaching_ordered

-- an answer in order, put to use
ordered_use : {X : Type 0} (rows : List Row) (real : ℕ) (s : Traced ℕ) (k : ℕ → Traced X) (f : ℕ → X) → Ordered rows real s.result → ((y : ℕ) → s.result ≡ Ok y → (k y).result ≡ Ok (f y)) → Ordered rows (f real) (then s k).result
ordered_use {X} rows real s k f ordered used = by s.result (first_of rows) refl ordered
  where
    by : (r : Result ℕ Condition) (o : Option Condition) → s.result ≡ r → r ≡ verdict o real → (onward s.trace r k).result ≡ verdict o (f real)
    by (Ok y) None e v = let same : y ≡ real = cc in used y e ∙ ap (λ a. Ok (f a)) same
    by (Ok y) (Some c) e v = absurd cc
    by (Err d) None e v = absurd cc
    by (Err d) (Some c) e v = cc

pub fetch_ordered : (n : Scene) (o : Operand) (places : ℕ) → Ordered (fetch_store_conditions n Fetch o places) (value_found n Fetch o) ((fetches o places).gives n).result
fetch_ordered n o places =
    ordered_use (fetch_store_conditions n Fetch o places) (real_found n Fetch o) ((accesses Fetch o places).gives n) (λ real. plainly (value_there (n.real.word real))) (value n.real.word) (access_ordered n Fetch o places) (λ y e. fetched_there n Fetch o places y e)

pub store_ordered : (n : Scene) (o : Operand) (places : ℕ) → Ordered (fetch_store_conditions n Store o places) tt ((stores o places).gives n).result
store_ordered n o places =
    ordered_use (fetch_store_conditions n Store o places) (real_found n Store o) ((accesses Store o places).gives n) (λ real. plainly (put_answer n.real real)) (λ _. tt) (access_ordered n Store o places) (λ y e. stored_there n Store o places y e)
