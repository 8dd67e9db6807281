-- A translation lists at most twelve addresses, whatever its sources show.
use Rattle.std.proofs.Common.{ℕ, ◌+◌, ◌*◌, ◌/◌, ◌≤◌, Bool, true, false, cond, not, ◌&&◌, eqb, ltb, length, get_or, is_some, Some, None, Option, arith}
use Rattle.arch.specs.declared.call.Access.{Access}
use Rattle.arch.specs.declared.condition.Condition.{Condition}
use Rattle.arch.specs.declared.condition.Condition.TheVariants.{BadNumber, ShortList, LowAddress, Addressing, AccessList, Page, Key}
use Rattle.arch.specs.Walks.{Traced, given, then}
use Rattle.arch.proofs.Walks.{few_onward}
use Rattle.storage.specs.Views.{View, block_of}
use Rattle.lookup.specs.declared.access.AccessKey.{AccessKey}
use Rattle.lookup.specs.declared.access.AccessAnswer.{AccessAnswer}
use Rattle.lookup.specs.declared.page.PageKey.{PageKey}
use Rattle.lookup.specs.declared.page.PageAnswer.{PageAnswer}
use Rattle.lookup.specs.Lookups.{access_fresh, page_fresh}
use Rattle.lookup.specs.Sources.{asked}
use Rattle.lookup.proofs.Few.{access_fresh_few, page_fresh_few}
use Rattle.machine.specs.declared.mode.Mode.{Mode}
use Rattle.machine.specs.declared.mode.Mode.TheVariants.{DatOff, Primary, AccessRegister, Secondary, Home}
use Rattle.machine.specs.declared.sources.Operand.{Operand}
use Rattle.machine.specs.Registers.{Registers}
use Rattle.machine.specs.Calls.{translates}
use Rattle.machine.specs.Scene.{Scene, ask_access, ask_page}
use Rattle.machine.specs.Translation.{unless, is_store, cut, control, access_key, held_in, looked_up, space_of_token, space_of_register, space_by_mode, low_protected, page_key, real_address, framed, real_of, key_protected, reached, reach}

-- a call lists at most so many addresses
abbrev pub Short : {A : Type 0} → ℕ → Traced A → Type 0
Short n s = length s.trace ≤ n

short_then : {A B : Type 0} (m n : ℕ) (s : Traced A) (k : A → Traced B) → Short m s → ((a : A) → Short n (k a)) → Short (m + n) (then s k)
short_then m n s k first rest = few_onward m n s.trace s.result k first rest

short_unless : (c : Condition) (t : Bool) → Short 0 (unless c t)
short_unless c true = omega arith
short_unless c false = omega arith

short_asked : {A : Type 0} (n : ℕ) (o : Option A) (s : Traced A) → Short n s → Short n (asked o s)
short_asked n None s few = few
short_asked n (Some a) s few = omega arith

module _ (r : Registers) (asks : AccessKey → Traced AccessAnswer) (few : (k : AccessKey) → Short 7 (asks k)) where
  short_token : (alet : ℕ) → Short 7 (space_of_token r asks alet)
  short_token alet = by (eqb alet 0) (eqb alet 1)
    where
      by : (p q : Bool) → Short 7 (cond p (held_in (control r 1)) (cond q (held_in (control r 7)) (looked_up asks (access_key r alet))))
      by true q = omega arith
      by false true = omega arith
      by false false = short_then 7 0 (asks (access_key r alet)) (λ a. given (Some a)) (few (access_key r alet)) (λ a. omega arith)

  short_register : (register : ℕ) → Short 7 (space_of_register r asks register)
  short_register register = by (eqb register 0)
    where
      by : (p : Bool) → Short 7 (cond p (held_in (control r 1)) (space_of_token r asks (get_or r.access register 0)))
      by true = omega arith
      by false = short_token (get_or r.access register 0)

  short_space : (mode : Mode) (register : ℕ) → Short 7 (space_by_mode mode r asks register)
  short_space DatOff register = omega arith
  short_space Primary register = omega arith
  short_space AccessRegister register = short_register register
  short_space Secondary register = omega arith
  short_space Home register = omega arith

-- two conditions and then an answer
short_two : {A : Type 0} (c d : Condition) (p q : Bool) (a : A) → Short 0 (then (unless c p) (λ _. then (unless d q) (λ _. given a)))
short_two c d true q a = omega arith
short_two c d false true a = omega arith
short_two c d false false a = omega arith

short_framed : (access : Access) (space : AccessAnswer) (a : ℕ) (page : PageAnswer) → Short 0 (framed access space a page)
short_framed access space a page = short_two AccessList Page (is_store access && space.fetch_only) (is_store access && page.protect) (real_address page.frame a)

short_real : (asks : PageKey → Traced PageAnswer) → ((k : PageKey) → Short 5 (asks k)) → (access : Access) (space : Option AccessAnswer) (a : ℕ) → Short 5 (real_of asks access space a)
short_real asks few access None a = omega arith
short_real asks few access (Some space) a = short_then 5 0 (asks (page_key space.asce a)) (framed access space a) (few (page_key space.asce a)) (short_framed access space a)

short_reached : (r : Registers) (view : View) (access : Access) (real : ℕ) → Short 0 (reached r view access real)
short_reached r view access real = short_two Addressing Key (not (is_some (view.word (real / 8 * 8)))) (key_protected r.key access (view.key (block_of real))) real

module _ (n : Scene) (access : Access) (o : Operand) (places : ℕ) where
  short_reach : Short 12 (reach n.registers (ask_access n) (ask_page n) n.real access o)
  short_reach =
      short_then 7 5 (space_by_mode n.registers.mode n.registers (ask_access n) o.register) _ (short_space n.registers (ask_access n) (λ k. short_asked 7 (n.shown.access k) (access_fresh n.real.word k) (access_fresh_few n.real.word k)) n.registers.mode o.register)
      (λ space. short_then 0 5 (unless LowAddress (low_protected n.registers access (cut n.registers.size o.address))) _ (short_unless LowAddress _)
      (λ _. short_then 5 0 (real_of (ask_page n) access space (cut n.registers.size o.address)) _ (short_real (ask_page n) (λ k. short_asked 5 (n.shown.page k) (page_fresh n.real.word k) (page_fresh_few n.real.word k)) access space (cut n.registers.size o.address))
      (λ real. short_reached n.registers n.real access real)))

  pub translation_short : Short 12 ((translates access o places).gives n)
  translation_short =
      short_then 0 12 (unless BadNumber (ltb 15 o.register)) _ (short_unless BadNumber _)
      (λ _. short_then 0 12 (unless ShortList (ltb places 12)) _ (short_unless ShortList _) (λ _. short_reach))
