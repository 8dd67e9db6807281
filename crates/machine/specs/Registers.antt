-- The registers of a machine, and what sets them.
use Rattle.std.specs.Prelude.{◌≡◌, ℕ, zero, suc, ◌^◌, ◌<◌, ◌≤◌, Bool, true, cond, not, ◌||◌, List, [], ◌∷◌, length, replicate, Some, None, Ok, Err, Option, Result, nat_eq, nat_lt, slice_index, slice_set}
use Rattle.std.specs.List.{list_any}
use Rattle.arch.specs.declared.condition.Condition.{Condition}
use Rattle.arch.specs.declared.condition.Condition.TheVariants.{BadNumber}
use Rattle.storage.specs.Prefixes.{lawful_prefix}
use Rattle.machine.specs.declared.mode.Mode.{Mode}
use Rattle.machine.specs.declared.mode.Mode.TheVariants.{DatOff, Primary, AccessRegister, Secondary, Home}
use Rattle.machine.specs.declared.mode.AddressSize.{AddressSize}
use Rattle.machine.specs.declared.mode.AddressSize.TheVariants.{Bits24, Bits31, Bits64}

pub record Registers : Type 0 where
  pub mode : Mode
  pub size : AddressSize
  pub key : ℕ
  pub prefix : ℕ
  pub control : List ℕ
  pub access : List ℕ

-- a new machine has zero registers
abbrev pub zero_registers : Registers
zero_registers = record { mode = DatOff; size = Bits24; key = 0; prefix = 0; control = replicate 16 0; access = replicate 16 0 }

-- the modes and the address sizes by their numbers
abbrev pub mode_of : ℕ → Option Mode
mode_of zero = Some DatOff
mode_of (suc zero) = Some Primary
mode_of (suc (suc zero)) = Some AccessRegister
mode_of (suc (suc (suc zero))) = Some Secondary
mode_of (suc (suc (suc (suc zero)))) = Some Home
mode_of (suc (suc (suc (suc (suc n))))) = None

abbrev pub size_of : ℕ → Option AddressSize
size_of zero = Some Bits24
size_of (suc zero) = Some Bits31
size_of (suc (suc zero)) = Some Bits64
size_of (suc (suc (suc n))) = None

-- what a number names, and a refusal where it names nothing
abbrev pub named : {A : Type 0} → Option A → Result A Condition
named None = Err BadNumber
named (Some a) = Ok a

-- the control registers that translation looks at
abbrev pub is_named_control : ℕ → Bool
is_named_control n = list_any (nat_eq n) (0 ∷ 1 ∷ 2 ∷ 5 ∷ 7 ∷ 8 ∷ 13 ∷ [])

-- the registers after a load, none where a number is outside what is named
abbrev pub with_control : ℕ → ℕ → Registers → Option Registers
with_control n v r = cond (is_named_control n) (Some (record r { control = slice_set r.control n v })) None

abbrev pub with_access : ℕ → ℕ → Registers → Option Registers
with_access n v r = cond (nat_lt 15 n || not (nat_lt v (2 ^ 32))) None (Some (record r { access = slice_set r.access n v }))

abbrev pub with_named_mode : Option Mode → Option AddressSize → ℕ → Registers → Option Registers
with_named_mode (Some mode) (Some size) key r = cond (nat_lt 15 key) None (Some (record r { mode = mode; size = size; key = key }))
with_named_mode (Some mode) None key r = None
with_named_mode None size key r = None

abbrev pub with_mode : ℕ → ℕ → ℕ → Registers → Option Registers
with_mode mode size key r = with_named_mode (mode_of mode) (size_of size) key r

-- what a load answers
abbrev pub load_result : Option Registers → Result (Unit {0}) Condition
load_result None = Err BadNumber
load_result (Some r) = Ok tt

-- access registers have 32 bits
abbrev pub AreAccessRegisters : List ℕ → Type 0
AreAccessRegisters access = (i : ℕ) → slice_index access i < 2 ^ 32

-- what is true of the registers of every machine
pub record IsInRange (key : ℕ) (control access : List ℕ) : Type 0 where
  pub key_named : key ≤ 15
  pub controls : length control ≡ 16
  pub accesses : length access ≡ 16
  pub access_bits : AreAccessRegisters access

-- the same of the registers as whoever holds a machine sees them, and of its prefix
pub record AreInRange (r : Registers) : Type 0 where
  pub ranges : IsInRange r.key r.control r.access
  pub prefix_lawful : lawful_prefix r.prefix ≡ true
