-- The conditions of a whole translation as one table, in the order in which they are tested. Where a source shows the
-- answer of a lookup, the conditions of that lookup are left out; over bare sources the table is whole.
use Rattle.std.specs.Prelude.{ℕ, ◌*◌, ◌/◌, ◌%◌, false, cond, not, ◌&&◌, List, [], ◌∷◌, ◌++◌, is_some, Some, None, Option, Result, ◌==◌, nat_lt, slice_index}
use Rattle.arch.specs.Order.{Row, row, value, Ordered}
use Rattle.arch.specs.declared.call.Access.{Access}
use Rattle.arch.specs.declared.condition.Condition.{Condition}
use Rattle.arch.specs.declared.condition.Condition.TheVariants.{BadNumber, Unaligned, ShortList, Addressing, LowAddress, AccessList, Page, Key}
use Rattle.storage.specs.Views.{View, block_of}
use Rattle.lookup.specs.declared.access.AccessKey.{AccessKey}
use Rattle.lookup.specs.declared.access.AccessAnswer.{AccessAnswer}
use Rattle.lookup.specs.declared.page.PageAnswer.{PageAnswer}
use Rattle.lookup.specs.declared.page.PageKey.{PageKey}
use Rattle.lookup.specs.Orders.{access_conditions, access_finds, page_conditions, page_finds}
use Rattle.machine.specs.declared.mode.Mode.{Mode}
use Rattle.machine.specs.declared.mode.Mode.TheVariants.{DatOff, Primary, AccessRegister, Secondary, Home}
use Rattle.machine.specs.declared.sources.Operand.{Operand}
use Rattle.machine.specs.Registers.{Registers}
use Rattle.machine.specs.Scene.{Scene}
use Rattle.machine.specs.Translation.{is_store, cut, control, access_key, mode_asks, low_protected, page_key, real_address, key_protected}

-- What a lookup finds and which conditions it can meet: where its source shows an answer it is that one, and the lookup
-- has none; else they are those of the lookup walked afresh.
abbrev pub shown_or : {Answer : Type 0} → Option Answer → Answer → Answer
shown_or None fresh = fresh
shown_or (Some a) fresh = a

abbrev pub unless_shown : {Answer : Type 0} → Option Answer → List Row → List Row
unless_shown None conditions = conditions
unless_shown (Some a) conditions = []

-- a space whose element a control register holds
abbrev pub plain : ℕ → Option AccessAnswer
plain asce = Some (record { asce = asce; fetch_only = false })

-- the doubleword reached, and its block's key
abbrev pub reach_conditions : Registers → View → Access → ℕ → List Row
reach_conditions r view access real =
    row Addressing (not (is_some (view.word (real / 8 * 8))))
    ∷ row Key (key_protected r.key access (view.key (block_of real)))
    ∷ []

module _ (n : Scene) where
  -- both lookups
  abbrev pub space_of_key : AccessKey → AccessAnswer
  space_of_key k = shown_or (n.shown.access k) (access_finds n.real.word k)

  abbrev pub space_key_conditions : AccessKey → List Row
  space_key_conditions k = unless_shown (n.shown.access k) (access_conditions n.real.word k)

  abbrev pub page_of_key : PageKey → PageAnswer
  page_of_key k = shown_or (n.shown.page k) (page_finds n.real.word k)

  abbrev pub page_key_conditions : PageKey → List Row
  page_key_conditions k = unless_shown (n.shown.page k) (page_conditions n.real.word k)

  -- the address space that a translation goes through, none with DAT off
  abbrev pub token_space : ℕ → Option AccessAnswer
  token_space alet = cond (alet == 0) (plain (control n.registers 1)) (cond (alet == 1) (plain (control n.registers 7)) (Some (space_of_key (access_key n.registers alet))))

  abbrev pub register_space : ℕ → Option AccessAnswer
  register_space register = cond (register == 0) (plain (control n.registers 1)) (token_space (slice_index n.registers.access register))

  abbrev pub mode_space : Mode → ℕ → Option AccessAnswer
  mode_space DatOff register = None
  mode_space Primary register = plain (control n.registers 1)
  mode_space AccessRegister register = register_space register
  mode_space Secondary register = plain (control n.registers 7)
  mode_space Home register = plain (control n.registers 13)

  -- the conditions of the access-register lookup, where one is made
  abbrev pub lookup_conditions : Option AccessKey → List Row
  lookup_conditions None = []
  lookup_conditions (Some k) = space_key_conditions k

  -- the conditions of the page lookup and of the protections by entry and by page, where there is a space
  abbrev pub space_conditions : Access → Option AccessAnswer → ℕ → List Row
  space_conditions access None a = []
  space_conditions access (Some space) a =
      page_key_conditions (page_key space.asce a)
      ++ (row AccessList (is_store access && space.fetch_only)
      ∷ row Page (is_store access && (page_of_key (page_key space.asce a)).protect)
      ∷ [])

  abbrev pub space_real : Option AccessAnswer → ℕ → ℕ
  space_real None a = a
  space_real (Some space) a = real_address (page_of_key (page_key space.asce a)).frame a

module _ (n : Scene) (access : Access) (o : Operand) where
  abbrev pub space_found : Option AccessAnswer
  space_found = mode_space n n.registers.mode o.register

  -- the real address
  abbrev pub real_found : ℕ
  real_found = space_real n space_found (cut n.registers.size o.address)

  -- from the access-register lookup to the doubleword reached
  abbrev pub reaching_conditions : List Row
  reaching_conditions =
      lookup_conditions n (mode_asks n.registers.mode n.registers o.register)
      ++ (row LowAddress (low_protected n.registers access (cut n.registers.size o.address))
      ∷ space_conditions n access space_found (cut n.registers.size o.address)
      ++ reach_conditions n.registers n.real access real_found)

  -- the whole table of a translation
  abbrev pub translation_conditions : ℕ → List Row
  translation_conditions places = row BadNumber (nat_lt 15 o.register) ∷ row ShortList (nat_lt places 12) ∷ reaching_conditions

  -- and that of a fetch or a store
  abbrev pub fetch_store_conditions : ℕ → List Row
  fetch_store_conditions places = row BadNumber (nat_lt 15 o.register) ∷ row Unaligned (not (o.address % 8 == 0)) ∷ row ShortList (nat_lt places 12) ∷ reaching_conditions

-- the doubleword at the real address
abbrev pub value_found : Scene → Access → Operand → ℕ
value_found n access o = value n.real.word (real_found n access o)

-- a call comes to this answer exactly where no condition of its table applies, else to the first that does
abbrev pub OrderedIn : {X : Type 0} → Scene → (Scene → List Row) → (Scene → X) → Result X Condition → Type 0
OrderedIn n conditions answer r = Ordered (conditions n) (answer n) r
