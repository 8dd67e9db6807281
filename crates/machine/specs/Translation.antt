-- Translation: what comes of it, and which addresses it asks for, given what the two sources answer.
use Rattle.std.specs.Prelude.{ℕ, ◌+◌, ◌*◌, ◌/◌, ◌%◌, ◌^◌, Bool, true, false, cond, not, ◌&&◌, ◌||◌, is_some, Some, None, Ok, Err, Option, Result, ◌==◌, nat_lt, slice_index}
use Rattle.arch.specs.Bits.{bits, bit}
use Rattle.arch.specs.Walks.{Traced, given, refused, then}
use Rattle.arch.specs.declared.call.Access.{Access}
use Rattle.arch.specs.declared.call.Access.TheVariants.{Fetch, Store}
use Rattle.arch.specs.declared.condition.Condition.{Condition}
use Rattle.arch.specs.declared.condition.Condition.TheVariants.{BadNumber, ShortList, Addressing, LowAddress, AccessList, Page, Key}
use Rattle.storage.specs.Views.{View, block_of}
use Rattle.lookup.specs.declared.access.AccessKey.{AccessKey}
use Rattle.lookup.specs.declared.access.AccessAnswer.{AccessAnswer}
use Rattle.lookup.specs.declared.page.PageKey.{PageKey}
use Rattle.lookup.specs.declared.page.PageAnswer.{PageAnswer}
use Rattle.machine.specs.declared.mode.Mode.{Mode}
use Rattle.machine.specs.declared.mode.Mode.TheVariants.{DatOff, Primary, AccessRegister, Secondary, Home}
use Rattle.machine.specs.declared.mode.AddressSize.{AddressSize}
use Rattle.machine.specs.declared.mode.AddressSize.TheVariants.{Bits24, Bits31, Bits64}
use Rattle.machine.specs.declared.sources.Operand.{Operand}
use Rattle.machine.specs.Registers.{Registers}

infixl 20 ◌>>=◌
infixl 20 ◌>>◌
abbrev pub ◌>>=◌ : {A B : Type 0} → Traced A → (A → Traced B) → Traced B
◌>>=◌ s k = then s k

abbrev pub ◌>>◌ : {A B : Type 0} → Traced A → Traced B → Traced B
◌>>◌ s next = then s (λ _. next)

-- a condition that is met where the test says so
abbrev pub unless : Condition → Bool → Traced (Unit {0})
unless c applies = cond applies (refused c) (given tt)

abbrev pub is_store : Access → Bool
is_store Fetch = false
is_store Store = true

-- the address's low 24, 31 or 64 bits
abbrev pub cut : AddressSize → ℕ → ℕ
cut Bits24 a = a % 2 ^ 24
cut Bits31 a = a % 2 ^ 31
cut Bits64 a = a

-- control register n
abbrev pub control : Registers → ℕ → ℕ
control r n = slice_index r.control n

-- the doubleword with the access-list designation: 16 bytes into the dispatchable-unit control table, or, where
-- bit 7 of the token is one, into the primary ASTE
abbrev pub designation_address : Registers → ℕ → ℕ
designation_address r alet = bits 33 57 (cond (bit 39 alet) (control r 5) (control r 2)) * 2 ^ 6 + 16

abbrev pub access_key : Registers → ℕ → AccessKey
access_key r alet = record { alet = alet; eax = bits 32 47 (control r 8); designation = designation_address r alet }

-- a space whose element a control register holds
abbrev pub held_in : ℕ → Traced (Option AccessAnswer)
held_in asce = given (Some (record { asce = asce; fetch_only = false }))

-- a space by lookup
abbrev pub looked_up : (AccessKey → Traced AccessAnswer) → AccessKey → Traced (Option AccessAnswer)
looked_up access_asks k = then (access_asks k) (λ a. given (Some a))

-- the space of a token: 0 the primary, 1 the secondary, any other by lookup
abbrev pub space_of_token : Registers → (AccessKey → Traced AccessAnswer) → ℕ → Traced (Option AccessAnswer)
space_of_token r access_asks alet = cond (alet == 0) (held_in (control r 1)) (cond (alet == 1) (held_in (control r 7)) (looked_up access_asks (access_key r alet)))

-- the key that a token asks the access-register source for
abbrev pub token_asks : Registers → ℕ → Option AccessKey
token_asks r alet = cond (alet == 0) None (cond (alet == 1) None (Some (access_key r alet)))

-- access register 0 stands for the primary space, whatever it holds
abbrev pub space_of_register : Registers → (AccessKey → Traced AccessAnswer) → ℕ → Traced (Option AccessAnswer)
space_of_register r access_asks register = cond (register == 0) (held_in (control r 1)) (space_of_token r access_asks (slice_index r.access register))

abbrev pub register_asks : Registers → ℕ → Option AccessKey
register_asks r register = cond (register == 0) None (token_asks r (slice_index r.access register))

-- the address space by mode, none with DAT off
abbrev pub space_by_mode : Mode → Registers → (AccessKey → Traced AccessAnswer) → ℕ → Traced (Option AccessAnswer)
space_by_mode DatOff r access_asks register = given None
space_by_mode Primary r access_asks register = held_in (control r 1)
space_by_mode AccessRegister r access_asks register = space_of_register r access_asks register
space_by_mode Secondary r access_asks register = held_in (control r 7)
space_by_mode Home r access_asks register = held_in (control r 13)

-- only access-register mode asks the access-register source
abbrev pub mode_asks : Mode → Registers → ℕ → Option AccessKey
mode_asks DatOff r register = None
mode_asks Primary r register = None
mode_asks AccessRegister r register = register_asks r register
mode_asks Secondary r register = None
mode_asks Home r register = None

-- addresses 0-1ff and 1000-11ff
abbrev pub is_low : ℕ → Bool
is_low a = nat_lt a 512 || (not (nat_lt a 4096) && nat_lt a 4608)

abbrev pub low_protected : Registers → Access → ℕ → Bool
low_protected r access a = is_store access && (is_low a && bit 35 (control r 0))

-- frame and last 12 bits make the real address
abbrev pub real_address : ℕ → ℕ → ℕ
real_address frame a = frame % 2 ^ 52 * 2 ^ 12 + a % 2 ^ 12

abbrev pub page_key : ℕ → ℕ → PageKey
page_key asce a = record { asce = asce; page = a / 2 ^ 12 }

-- from what a page lookup found to the real address
abbrev pub framed : Access → AccessAnswer → ℕ → PageAnswer → Traced ℕ
framed access space a page = do
  unless AccessList (is_store access && space.fetch_only)
  unless Page (is_store access && page.protect)
  given (real_address page.frame a)

-- through the pages of a space
abbrev pub by_page : (PageKey → Traced PageAnswer) → Access → AccessAnswer → ℕ → Traced ℕ
by_page page_asks access space a = then (page_asks (page_key space.asce a)) (framed access space a)

-- with DAT off the address is real
abbrev pub real_of : (PageKey → Traced PageAnswer) → Access → Option AccessAnswer → ℕ → Traced ℕ
real_of page_asks access None a = given a
real_of page_asks access (Some space) a = by_page page_asks access space a

-- the key that a space asks the page source for
abbrev pub space_asks : Option AccessAnswer → ℕ → Option PageKey
space_asks None a = None
space_asks (Some space) a = Some (page_key space.asce a)

-- the page source is asked once the space is found and low-address protection does not apply
abbrev pub page_asked : Registers → Access → ℕ → Result (Option AccessAnswer) Condition → Option PageKey
page_asked r access a (Ok space) = cond (low_protected r access a) None (space_asks space a)
page_asked r access a (Err c) = None

-- the access key is neither zero nor the block's access control, for a store or with the fetch bit one
abbrev pub key_protected : ℕ → Access → Option ℕ → Bool
key_protected key access None = false
key_protected key access (Some k) = not (key == 0) && (not (key == k / 2) && (is_store access || k % 2 == 1))

-- the doubleword that holds the real address
abbrev pub reached : Registers → View → Access → ℕ → Traced ℕ
reached r view access real = do
  unless Addressing (not (is_some (view.word (real / 8 * 8))))
  unless Key (key_protected r.key access (view.key (block_of real)))
  given real

abbrev pub reach : Registers → (AccessKey → Traced AccessAnswer) → (PageKey → Traced PageAnswer) → View → Access → Operand → Traced ℕ
reach r access_asks page_asks view access o = do
  space ← space_by_mode r.mode r access_asks o.register
  unless LowAddress (low_protected r access (cut r.size o.address))
  real ← real_of page_asks access space (cut r.size o.address)
  reached r view access real

-- the whole of a translation, with so many places for its list; its first two conditions are refusals, at which
-- nothing is asked
abbrev pub translation : Registers → (AccessKey → Traced AccessAnswer) → (PageKey → Traced PageAnswer) → View → Access → Operand → ℕ → Traced ℕ
translation r access_asks page_asks view access o places = do
  unless BadNumber (nat_lt 15 o.register)
  unless ShortList (nat_lt places 12)
  reach r access_asks page_asks view access o
