-- Two machines that are alike in what a translation can see answer alike.
use Rattle.std.proofs.Common.{◌≡◌, ℕ, ◌*◌, ◌/◌, Bool, true, false, cond, not, ◌||◌, eqb, ltb, List, [], ◌∷◌, ◌++◌, get_or, is_some, Some, None, Ok, Err, Option, Result, sym, refl, ap, ◌∙◌, subst, ap₂}
use Rattle.arch.specs.declared.call.Access.{Access}
use Rattle.arch.specs.declared.condition.Condition.{Condition}
use Rattle.arch.specs.declared.condition.Condition.TheVariants.{BadNumber, ShortList, LowAddress, Addressing, Key}
use Rattle.arch.specs.Walks.{Traced, given, onward, then, Agree, SeesOnlyItsTrace}
use Rattle.storage.specs.Views.{View, block_of}
use Rattle.lookup.specs.declared.access.AccessKey.{AccessKey}
use Rattle.lookup.specs.declared.access.AccessAnswer.{AccessAnswer}
use Rattle.lookup.specs.declared.page.PageKey.{PageKey}
use Rattle.lookup.specs.declared.page.PageAnswer.{PageAnswer}
use Rattle.lookup.specs.Laws.{access_sees_only_its_trace, page_sees_only_its_trace}
use Rattle.lookup.specs.Lookups.{access_fresh, page_fresh}
use Rattle.lookup.specs.Sources.{asked}
use Rattle.machine.specs.declared.mode.Mode.{Mode}
use Rattle.machine.specs.declared.mode.Mode.TheVariants.{DatOff, Primary, AccessRegister, Secondary, Home}
use Rattle.machine.specs.declared.sources.Operand.{Operand}
use Rattle.machine.specs.Registers.{Registers}
use Rattle.machine.specs.Translation.{unless, cut, control, access_key, held_in, looked_up, space_of_token, space_of_register, space_by_mode, token_asks, register_asks, mode_asks, low_protected, page_key, framed, real_of, space_asks, page_asked, key_protected, reached}
use Rattle.machine.specs.Calls.{access_key_asked, page_key_asked, refuses_translation, translates}
use Rattle.machine.specs.Scene.{Scene, Shown, ask_access, ask_page, seen}
use Rattle.machine.specs.Law.{Alike, NothingElseMatters}
use Rattle.machine.proofs.Few.{translation_short}

module _ (w v : ℕ → Option ℕ) where
  agree_front : (xs ys : List ℕ) → Agree w v (xs ++ ys) → Agree w v xs
  agree_front [] ys h = tt
  agree_front (x ∷ xs) ys h = (h.0, agree_front xs ys h.1)

  agree_back : (xs ys : List ℕ) → Agree w v (xs ++ ys) → Agree w v ys
  agree_back [] ys h = h
  agree_back (x ∷ xs) ys h = agree_back xs ys h.1

  onward_front : {A B : Type 0} (l : List ℕ) (r : Result A Condition) (k : A → Traced B) → Agree w v (onward l r k).trace → Agree w v l
  onward_front l (Ok a) k h = agree_front l (k a).trace h
  onward_front l (Err c) k h = h

  onward_back : {A B : Type 0} (l : List ℕ) (r : Result A Condition) (k : A → Traced B) (a : A) → r ≡ Ok a → Agree w v (onward l r k).trace → Agree w v (k a).trace
  onward_back l (Ok b) k a e h = let same : b ≡ a = cc in subst (λ x. Agree w v (k x).trace) same (agree_back l (k b).trace h)
  onward_back l (Err c) k a e h = absurd cc

onward_alike : {A B : Type 0} (l : List ℕ) (r : Result A Condition) (k j : A → Traced B) → ((a : A) → r ≡ Ok a → j a ≡ k a) → onward l r j ≡ onward l r k
onward_alike l (Ok a) k j same = ap (λ s. record { result = s.result; trace = l ++ s.trace }) (same a refl)
onward_alike l (Err c) k j same = refl

-- the first step alike, and then the second
module _ (w v : ℕ → Option ℕ) where
  then_alike : {A B : Type 0} (s t : Traced A) (k j : A → Traced B) → (Agree w v s.trace → t ≡ s) → ((a : A) → s.result ≡ Ok a → Agree w v (k a).trace → j a ≡ k a) → Agree w v (then s k).trace → then t j ≡ then s k
  then_alike s t k j first second h =
      ap (λ x. then x j) (first (onward_front w v s.trace s.result k h))
      ∙ onward_alike s.trace s.result k j (λ a e. second a e (onward_back w v s.trace s.result k a e h))

  asked_alike : {A : Type 0} (fresh : (ℕ → Option ℕ) → Traced A) → SeesOnlyItsTrace fresh → (o p : Option A) → o ≡ p → Agree w v (asked o (fresh w)).trace → asked p (fresh v) ≡ asked o (fresh w)
  asked_alike {A} fresh local o p same h = ap (λ x. asked x (fresh v)) (sym same) ∙ by o h
    where
      by : (o : Option A) → Agree w v (asked o (fresh w)).trace → asked o (fresh v) ≡ asked o (fresh w)
      by None h = local w v h
      by (Some a) h = refl

  module _ (r : Registers) (one two : AccessKey → Traced AccessAnswer) where
    token_alike : (alet : ℕ) → ((k : AccessKey) → token_asks r alet ≡ Some k → Agree w v (one k).trace → two k ≡ one k) → Agree w v (space_of_token r one alet).trace → space_of_token r two alet ≡ space_of_token r one alet
    token_alike alet same h = by (eqb alet 0) (eqb alet 1) same h
      where
        by : (p q : Bool) → ((k : AccessKey) → cond p None (cond q None (Some (access_key r alet))) ≡ Some k → Agree w v (one k).trace → two k ≡ one k) → Agree w v (cond p (held_in (control r 1)) (cond q (held_in (control r 7)) (looked_up one (access_key r alet)))).trace → cond p (held_in (control r 1)) (cond q (held_in (control r 7)) (looked_up two (access_key r alet))) ≡ cond p (held_in (control r 1)) (cond q (held_in (control r 7)) (looked_up one (access_key r alet)))
        by true q f g = refl
        by false true f g = refl
        by false false f g = then_alike (one (access_key r alet)) (two (access_key r alet)) (λ a. given (Some a)) (λ a. given (Some a)) (f (access_key r alet) refl) (λ a e t. refl) g

    register_alike : (register : ℕ) → ((k : AccessKey) → register_asks r register ≡ Some k → Agree w v (one k).trace → two k ≡ one k) → Agree w v (space_of_register r one register).trace → space_of_register r two register ≡ space_of_register r one register
    register_alike register same h = by (eqb register 0) same h
      where
        by : (p : Bool) → ((k : AccessKey) → cond p None (token_asks r (get_or r.access register 0)) ≡ Some k → Agree w v (one k).trace → two k ≡ one k) → Agree w v (cond p (held_in (control r 1)) (space_of_token r one (get_or r.access register 0))).trace → cond p (held_in (control r 1)) (space_of_token r two (get_or r.access register 0)) ≡ cond p (held_in (control r 1)) (space_of_token r one (get_or r.access register 0))
        by true f g = refl
        by false f g = token_alike (get_or r.access register 0) f g

    space_alike : (mode : Mode) (register : ℕ) → ((k : AccessKey) → mode_asks mode r register ≡ Some k → Agree w v (one k).trace → two k ≡ one k) → Agree w v (space_by_mode mode r one register).trace → space_by_mode mode r two register ≡ space_by_mode mode r one register
    space_alike DatOff register same h = refl
    space_alike Primary register same h = refl
    space_alike AccessRegister register same h = register_alike register same h
    space_alike Secondary register same h = refl
    space_alike Home register same h = refl

  real_alike : (one two : PageKey → Traced PageAnswer) (access : Access) (space : Option AccessAnswer) (a : ℕ) → ((k : PageKey) → space_asks space a ≡ Some k → Agree w v (one k).trace → two k ≡ one k) → Agree w v (real_of one access space a).trace → real_of two access space a ≡ real_of one access space a
  real_alike one two access None a same h = refl
  real_alike one two access (Some space) a same h = then_alike (one (page_key space.asce a)) (two (page_key space.asce a)) (framed access space a) (framed access space a) (same (page_key space.asce a) refl) (λ p e t. refl) h

-- presence and key decide the last step
reached_alike : (r : Registers) (one two : View) (access : Access) (real : ℕ) → is_some (one.word (real / 8 * 8)) ≡ is_some (two.word (real / 8 * 8)) → one.key (block_of real) ≡ two.key (block_of real) → reached r two access real ≡ reached r one access real
reached_alike r one two access real present key =
    ap₂ (λ p k. then (unless Addressing (not p)) (λ _. then (unless Key (key_protected r.key access k)) (λ _. given real))) (sym present) (sym key)

then_ok : {A B : Type 0} (s : Traced A) (k : A → Traced B) (a : A) → s.result ≡ Ok a → (then s k).result ≡ (k a).result
then_ok s k a e = ap (λ r. (onward s.trace r k).result) e

unless_passed : (c : Condition) (t : Bool) (u : Unit {0}) → (unless c t).result ≡ Ok u → t ≡ false
unless_passed c true u e = absurd cc
unless_passed c false u e = refl

-- two scenes with the same registers
module _ (r : Registers) (m_real n_real : View) (m_shown n_shown : Shown) (access : Access) (o : Operand) (places : ℕ) (alike : Alike (seen r m_real m_shown) (seen r n_real n_shown) access o places) where
  abbrev m : Scene
  m = seen r m_real m_shown

  abbrev n : Scene
  n = seen r n_real n_shown

  abbrev a : ℕ
  a = cut r.size o.address

  abbrev space_seen : Scene → Traced (Option AccessAnswer)
  space_seen x = space_by_mode r.mode r (ask_access x) o.register

  abbrev last : Scene → Option AccessAnswer → Traced ℕ
  last x space = then (real_of (ask_page x) access space a) (λ real. reached r x.real access real)

  abbrev late : Scene → Option AccessAnswer → Traced ℕ
  late x space = then (unless LowAddress (low_protected r access a)) (λ _. last x space)

  unrefused : ltb 15 o.register ≡ false → ltb places 12 ≡ false → refuses_translation o places ≡ false
  unrefused number room = ap₂ (λ x y. x || y) number room

  last_alike : ltb 15 o.register ≡ false → ltb places 12 ≡ false → (space : Option AccessAnswer) (u : Unit {0}) → (space_seen m).result ≡ Ok space → (unless LowAddress (low_protected r access a)).result ≡ Ok u → Agree m_real.word n_real.word (last m space).trace → last n space ≡ last m space
  last_alike number room space u found passed h =
      let free = unless_passed LowAddress (low_protected r access a) u passed in
      let refused = unrefused number room in
      then_alike m_real.word n_real.word (real_of (ask_page m) access space a) (real_of (ask_page n) access space a) (λ real. reached r m_real access real) (λ real. reached r n_real access real)
      (real_alike m_real.word n_real.word (ask_page m) (ask_page n) access space a
      (λ k asks t. asked_alike m_real.word n_real.word (λ w. page_fresh w k) (page_sees_only_its_trace k) (m_shown.page k) (n_shown.page k)
      (alike.page_shown k (ap (λ b. cond b None (page_key_asked m access o)) refused ∙ ap (page_asked r access a) found ∙ ap (λ b. cond b None (space_asks space a)) free ∙ asks)) t))
      (λ real e t.
      let rest = then (space_seen m) (λ space. then (unless LowAddress (low_protected r access a)) (λ _. real_of (ask_page m) access space a)) in
      let seen = ap (λ b. (then (unless BadNumber b) (λ _. then (unless ShortList (ltb places 12)) (λ _. rest))).result) number
      ∙ ap (λ b. (then (unless ShortList b) (λ _. rest)).result) room
      ∙ then_ok (space_seen m) (λ space. then (unless LowAddress (low_protected r access a)) (λ _. real_of (ask_page m) access space a)) space found
      ∙ then_ok (unless LowAddress (low_protected r access a)) (λ _. real_of (ask_page m) access space a) u passed ∙ e in
      reached_alike r m_real n_real access real (alike.present real seen) (alike.key real seen))
      h

  reach_alike : ltb 15 o.register ≡ false → ltb places 12 ≡ false → Agree m_real.word n_real.word (then (space_seen m) (late m)).trace → then (space_seen n) (late n) ≡ then (space_seen m) (late m)
  reach_alike number room h =
      then_alike m_real.word n_real.word (space_seen m) (space_seen n) (late m) (late n)
      (space_alike m_real.word n_real.word r (ask_access m) (ask_access n) r.mode o.register
      (λ k asks t. asked_alike m_real.word n_real.word (λ w. access_fresh w k) (access_sees_only_its_trace k) (m_shown.access k) (n_shown.access k) (alike.access_shown k (ap (λ b. cond b None (access_key_asked m o)) (unrefused number room) ∙ asks)) t))
      (λ space found t. then_alike m_real.word n_real.word (unless LowAddress (low_protected r access a)) (unless LowAddress (low_protected r access a)) (λ _. last m space) (λ _. last n space) (λ _. refl) (λ u passed t'. last_alike number room space u found passed t') t)
      h

  same_answer : (translates access o places).gives n ≡ (translates access o places).gives m
  same_answer =
      then_alike m_real.word n_real.word (unless BadNumber (ltb 15 o.register)) (unless BadNumber (ltb 15 o.register)) (λ _. then (unless ShortList (ltb places 12)) (λ _. then (space_seen m) (late m))) (λ _. then (unless ShortList (ltb places 12)) (λ _. then (space_seen n) (late n))) (λ _. refl)
      (λ u number h. then_alike m_real.word n_real.word (unless ShortList (ltb places 12)) (unless ShortList (ltb places 12)) (λ _. then (space_seen m) (late m)) (λ _. then (space_seen n) (late n)) (λ _. refl)
      (λ u' room h'. reach_alike (unless_passed BadNumber (ltb 15 o.register) u number) (unless_passed ShortList (ltb places 12) u' room) h') h)
      alike.listed

pub answers_alike : NothingElseMatters
answers_alike m access o places n alike = (by alike, translation_short m access o places)
  where
    by : Alike m n access o places → (translates access o places).gives n ≡ (translates access o places).gives m
    by alike =
        let n' = seen m.registers n.real n.shown in
        let same : n' ≡ n = ap (λ r. seen r n.real n.shown) alike.registers in
        subst (λ x. Alike m x access o places → (translates access o places).gives x ≡ (translates access o places).gives m) same
        (λ alike'. same_answer m.registers m.real n.real m.shown n.shown access o places alike') alike
