-- A fetch or a store meets the conditions of its translation, and no other: what its translation comes to is a multiple
-- of 8 whose doubleword is there.
use Rattle.std.proofs.Common.{◌≡◌, ℕ, ◌*◌, ◌/◌, ◌%◌, Bool, true, false, cond, not, ◌&&◌, eqb, ltb, is_some, Some, None, Ok, Err, Option, Result, unwrap_or, refl, ap, ◌∙◌, subst, arith, eq-eqb, eqb-true}
use Rattle.arch.specs.declared.call.Access.{Access}
use Rattle.arch.specs.declared.condition.Condition.{Condition}
use Rattle.arch.specs.declared.condition.Condition.TheVariants.{BadNumber, Unaligned, ShortList, LowAddress, Addressing, AccessList, Page, Key}
use Rattle.arch.specs.Order.{value}
use Rattle.arch.specs.Walks.{Traced, given, onward, then}
use Rattle.storage.specs.Views.{View, block_of}
use Rattle.lookup.specs.declared.access.AccessAnswer.{AccessAnswer}
use Rattle.lookup.specs.declared.access.AccessKey.{AccessKey}
use Rattle.lookup.specs.declared.page.PageAnswer.{PageAnswer}
use Rattle.lookup.specs.declared.page.PageKey.{PageKey}
use Rattle.machine.specs.declared.mode.AddressSize.{AddressSize}
use Rattle.machine.specs.declared.mode.AddressSize.TheVariants.{Bits24, Bits31, Bits64}
use Rattle.machine.specs.declared.sources.Operand.{Operand}
use Rattle.machine.specs.Calls.{accesses, translates, value_there}
use Rattle.machine.specs.Puts.{put_answer}
use Rattle.machine.specs.Registers.{Registers}
use Rattle.machine.specs.Scene.{Scene, ask_access, ask_page}
use Rattle.machine.specs.Translation.{unless, is_store, cut, real_address, space_by_mode, low_protected, page_key, framed, real_of, key_protected, reached, reach}

-- a multiple of 8 stays one when it is cut and framed
cut_even : (size : AddressSize) (a : ℕ) → a % 8 ≡ 0 → cut size a % 8 ≡ 0
cut_even Bits24 a e = omega arith
cut_even Bits31 a e = omega arith
cut_even Bits64 a e = e

framed_even : (frame a : ℕ) → a % 8 ≡ 0 → real_address frame a % 8 ≡ 0
framed_even frame a e = omega arith

not_false : (t : Bool) → not t ≡ false → t ≡ true
not_false true e = refl
not_false false e = absurd cc

pub ok_same : {A : Type 0} {a b : A} → ◌≡◌ {A = Result A Condition} (Ok a) (Ok b) → a ≡ b
ok_same e = cc

-- a step that is answered, after one that was
then_answer : {A B : Type 0} (s : Traced A) (k : A → Traced B) (b : B) → (then s k).result ≡ Ok b → (a : A) × ((s.result ≡ Ok a) × ((k a).result ≡ Ok b))
then_answer {A} {B} s k b e = by s.result refl e
  where
    by : (o : Result A Condition) → s.result ≡ o → (onward s.trace o k).result ≡ Ok b → (a : A) × ((s.result ≡ Ok a) × ((k a).result ≡ Ok b))
    by (Ok a) same h = (a, (same, h))
    by (Err c) same h = absurd cc

past_unless : {B : Type 0} (c : Condition) (t : Bool) (s : Traced B) (b : B) → (then (unless c t) (λ _. s)).result ≡ Ok b → (t ≡ false) × (s.result ≡ Ok b)
past_unless c true s b e = absurd cc
past_unless c false s b e = (refl, e)

module _ (r : Registers) (asks : AccessKey → Traced AccessAnswer) (finds : PageKey → Traced PageAnswer) (view : View) (access : Access) where
  real_even : (space : Option AccessAnswer) (a x : ℕ) → a % 8 ≡ 0 → (real_of finds access space a).result ≡ Ok x → x % 8 ≡ 0
  real_even None a x even e = subst (λ y. y % 8 ≡ 0) (ok_same e) even
  real_even (Some space) a x even e =
      let page = then_answer (finds (page_key space.asce a)) (framed access space a) x e in
      let past = past_unless Page (is_store access && page.0.protect) (given (real_address page.0.frame a)) x (past_unless AccessList (is_store access && space.fetch_only) (then (unless Page (is_store access && page.0.protect)) (λ _. given (real_address page.0.frame a))) x page.1.1).1 in
      subst (λ y. y % 8 ≡ 0) (ok_same past.1) (framed_even page.0.frame a even)

  -- the doubleword reached is the one at the address, and it is there
  reached_there : (x y : ℕ) → x % 8 ≡ 0 → (reached r view access x).result ≡ Ok y → (y % 8 ≡ 0) × (is_some (view.word y) ≡ true)
  reached_there x y even e =
      let there = past_unless Addressing (not (is_some (view.word (x / 8 * 8)))) (then (unless Key (key_protected r.key access (view.key (block_of x)))) (λ _. given x)) y e in
      let same = ok_same (past_unless Key (key_protected r.key access (view.key (block_of x))) (given x) y there.1).1 in
      let whole : x / 8 * 8 ≡ x = omega arith in
      (subst (λ z. z % 8 ≡ 0) same even, subst (λ z. is_some (view.word z) ≡ true) (whole ∙ same) (not_false (is_some (view.word (x / 8 * 8))) there.0))

  reach_there : (o : Operand) (y : ℕ) → o.address % 8 ≡ 0 → (reach r asks finds view access o).result ≡ Ok y → (y % 8 ≡ 0) × (is_some (view.word y) ≡ true)
  reach_there o y aligned e =
      let a = cut r.size o.address in
      let late = λ (space : Option AccessAnswer). then (real_of finds access space a) (λ real. reached r view access real) in
      let space = then_answer (space_by_mode r.mode r asks o.register) (λ space. then (unless LowAddress (low_protected r access a)) (λ _. late space)) y e in
      let high = past_unless LowAddress (low_protected r access a) (late space.0) y space.1.1 in
      let real = then_answer (real_of finds access space.0 a) (λ real. reached r view access real) y high.1 in
      reached_there real.0 y (real_even space.0 a real.0 (cut_even r.size o.address aligned) real.1.0) real.1.1

module _ (n : Scene) (access : Access) (o : Operand) (places y : ℕ) (came : ((accesses access o places).gives n).result ≡ Ok y) where
  -- what an access comes to is a multiple of 8 whose doubleword is there, over any sources
  accessed_there : (y % 8 ≡ 0) × (is_some (n.real.word y) ≡ true)
  accessed_there =
      let rest = reach n.registers (ask_access n) (ask_page n) n.real access o in
      let whole = (translates access o places).gives n in
      let number = past_unless BadNumber (ltb 15 o.register) (then (unless Unaligned (not (eqb (o.address % 8) 0))) (λ _. then (unless ShortList (ltb places 12)) (λ _. whole))) y came in
      let aligned = past_unless Unaligned (not (eqb (o.address % 8) 0)) (then (unless ShortList (ltb places 12)) (λ _. whole)) y number.1 in
      let room = past_unless ShortList (ltb places 12) whole y aligned.1 in
      let again = past_unless ShortList (ltb places 12) rest y (past_unless BadNumber (ltb 15 o.register) (then (unless ShortList (ltb places 12)) (λ _. rest)) y room.1).1 in
      reach_there n.registers (ask_access n) (ask_page n) n.real access o y (eqb-true _ _ (not_false (eqb (o.address % 8) 0) aligned.0)) again.1

  pub fetched_there : value_there (n.real.word y) ≡ Ok (value n.real.word y)
  fetched_there = by (n.real.word y) accessed_there.1
    where
      by : (o : Option ℕ) → is_some o ≡ true → value_there o ≡ Ok (unwrap_or o 0)
      by None e = absurd cc
      by (Some x) e = refl

  pub stored_there : put_answer n.real y ≡ Ok tt
  stored_there =
      ap (λ b. cond b (cond (is_some (n.real.word y)) (Ok tt) (Err Addressing)) (Err Unaligned)) (eq-eqb _ _ accessed_there.0) ∙ ap (λ b. cond b (Ok tt) (Err Addressing)) accessed_there.1
