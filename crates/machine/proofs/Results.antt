-- A translation's result hangs on the results of what it asks, and on nothing else of them.
use Rattle.std.proofs.Common.{◌≡◌, ℕ, Bool, true, false, cond, eqb, List, get_or, Some, None, Ok, Err, Option, Result, refl, ap, ◌∙◌}
use Rattle.arch.specs.declared.call.Access.{Access}
use Rattle.arch.specs.declared.condition.Condition.{Condition}
use Rattle.arch.specs.declared.condition.Condition.TheVariants.{LowAddress}
use Rattle.arch.specs.Walks.{Traced, given, onward, then}
use Rattle.storage.specs.Views.{View}
use Rattle.lookup.specs.declared.access.AccessKey.{AccessKey}
use Rattle.lookup.specs.declared.access.AccessAnswer.{AccessAnswer}
use Rattle.lookup.specs.declared.page.PageKey.{PageKey}
use Rattle.lookup.specs.declared.page.PageAnswer.{PageAnswer}
use Rattle.machine.specs.declared.mode.Mode.{Mode}
use Rattle.machine.specs.declared.mode.Mode.TheVariants.{DatOff, Primary, AccessRegister, Secondary, Home}
use Rattle.machine.specs.declared.sources.Operand.{Operand}
use Rattle.machine.specs.Registers.{Registers}
use Rattle.machine.specs.Translation.{unless, cut, control, access_key, held_in, looked_up, space_of_token, space_of_register, space_by_mode, token_asks, register_asks, mode_asks, low_protected, page_key, framed, real_of, space_asks, page_asked, reached, reach}

onward_same : {A B : Type 0} (l m : List ℕ) (r : Result A Condition) (k j : A → Traced B) → ((a : A) → r ≡ Ok a → (k a).result ≡ (j a).result) → (onward l r k).result ≡ (onward m r j).result
onward_same l m (Ok a) k j same = same a refl
onward_same l m (Err c) k j same = refl

pub then_same : {A B : Type 0} (s t : Traced A) (k j : A → Traced B) → s.result ≡ t.result → ((a : A) → t.result ≡ Ok a → (k a).result ≡ (j a).result) → (then s k).result ≡ (then t j).result
then_same s t k j e same = ap (λ r. (onward s.trace r k).result) e ∙ onward_same s.trace t.trace t.result k j same

module _ (r : Registers) (one two : AccessKey → Traced AccessAnswer) where
  token_same : (alet : ℕ) → ((k : AccessKey) → token_asks r alet ≡ Some k → (one k).result ≡ (two k).result) → (space_of_token r one alet).result ≡ (space_of_token r two alet).result
  token_same alet same = by (eqb alet 0) (eqb alet 1) same
    where
      by : (p q : Bool) → ((k : AccessKey) → cond p None (cond q None (Some (access_key r alet))) ≡ Some k → (one k).result ≡ (two k).result) → (cond p (held_in (control r 1)) (cond q (held_in (control r 7)) (looked_up one (access_key r alet)))).result ≡ (cond p (held_in (control r 1)) (cond q (held_in (control r 7)) (looked_up two (access_key r alet)))).result
      by true q h = refl
      by false true h = refl
      by false false h = then_same (one (access_key r alet)) (two (access_key r alet)) (λ a. given (Some a)) (λ a. given (Some a)) (h (access_key r alet) refl) (λ a e. refl)

  register_same : (register : ℕ) → ((k : AccessKey) → register_asks r register ≡ Some k → (one k).result ≡ (two k).result) → (space_of_register r one register).result ≡ (space_of_register r two register).result
  register_same register same = by (eqb register 0) same
    where
      by : (p : Bool) → ((k : AccessKey) → cond p None (token_asks r (get_or r.access register 0)) ≡ Some k → (one k).result ≡ (two k).result) → (cond p (held_in (control r 1)) (space_of_token r one (get_or r.access register 0))).result ≡ (cond p (held_in (control r 1)) (space_of_token r two (get_or r.access register 0))).result
      by true h = refl
      by false h = token_same (get_or r.access register 0) h

  pub space_same : (mode : Mode) (register : ℕ) → ((k : AccessKey) → mode_asks mode r register ≡ Some k → (one k).result ≡ (two k).result) → (space_by_mode mode r one register).result ≡ (space_by_mode mode r two register).result
  space_same DatOff register same = refl
  space_same Primary register same = refl
  space_same AccessRegister register same = register_same register same
  space_same Secondary register same = refl
  space_same Home register same = refl

real_same : (one two : PageKey → Traced PageAnswer) (access : Access) (space : Option AccessAnswer) (a : ℕ) → ((k : PageKey) → space_asks space a ≡ Some k → (one k).result ≡ (two k).result) → (real_of one access space a).result ≡ (real_of two access space a).result
real_same one two access None a same = refl
real_same one two access (Some space) a same = then_same (one (page_key space.asce a)) (two (page_key space.asce a)) (framed access space a) (framed access space a) (same (page_key space.asce a) refl) (λ p e. refl)

module _ (r : Registers) (one two : AccessKey → Traced AccessAnswer) (first second : PageKey → Traced PageAnswer) (view : View) (access : Access) (o : Operand) where
  late_same : (space : Option AccessAnswer) (t : Bool) → ((k : PageKey) → cond t None (space_asks space (cut r.size o.address)) ≡ Some k → (first k).result ≡ (second k).result)
      → (then (unless LowAddress t) (λ _. then (real_of first access space (cut r.size o.address)) (λ real. reached r view access real))).result ≡ (then (unless LowAddress t) (λ _. then (real_of second access space (cut r.size o.address)) (λ real. reached r view access real))).result
  late_same space true same = refl
  late_same space false same = then_same (real_of first access space (cut r.size o.address)) (real_of second access space (cut r.size o.address)) (λ real. reached r view access real) (λ real. reached r view access real) (real_same first second access space (cut r.size o.address) same) (λ real e. refl)

  pub reach_same : ((k : AccessKey) → mode_asks r.mode r o.register ≡ Some k → (one k).result ≡ (two k).result)
      → ((k : PageKey) → page_asked r access (cut r.size o.address) (space_by_mode r.mode r two o.register).result ≡ Some k → (first k).result ≡ (second k).result)
      → (reach r one first view access o).result ≡ (reach r two second view access o).result
  reach_same accesses pages =
      let a = cut r.size o.address in
      let late = λ (asks : PageKey → Traced PageAnswer) (space : Option AccessAnswer). then (unless LowAddress (low_protected r access a)) (λ _. then (real_of asks access space a) (λ real. reached r view access real)) in
      then_same (space_by_mode r.mode r one o.register) (space_by_mode r.mode r two o.register) (late first) (late second) (space_same r one two r.mode o.register accesses)
      (λ space found. late_same space (low_protected r access a) (λ k asks. pages k (ap (page_asked r access a) found ∙ asks)))
