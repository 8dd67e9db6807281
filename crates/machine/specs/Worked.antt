-- Worked cases of a translation and of prefixing: each bound from both sides. What comes out is what the z/Architecture
-- Principles of Operation say.
use Rattle.std.specs.Prelude.{◌≡◌, ℕ, ◌+◌, ◌==◌, cond, None, true, false, List, [], ◌∷◌, Some, replicate, slice_set}
use Rattle.arch.specs.Walks.{Traced}
use Rattle.arch.specs.declared.call.Access.{Access}
use Rattle.arch.specs.declared.call.Access.TheVariants.{Fetch, Store}
use Rattle.arch.specs.declared.condition.Condition.TheVariants.{Addressing, AletSpecification, AleSequence, LowAddress, AccessList, Page, Key}
use Rattle.storage.specs.Prefixes.{lawful_prefix, prefixed}
use Rattle.storage.specs.Views.{View}
use Rattle.lookup.specs.Lookups.{access_fresh, page_fresh}
use Rattle.lookup.specs.Zeros.{only, zeros_but, completed, recognized}
use Rattle.machine.specs.declared.mode.AddressSize.{AddressSize}
use Rattle.machine.specs.declared.mode.AddressSize.TheVariants.{Bits24, Bits31, Bits64}
use Rattle.machine.specs.declared.mode.Mode.{Mode}
use Rattle.machine.specs.declared.mode.Mode.TheVariants.{DatOff, Primary, AccessRegister, Secondary, Home}
use Rattle.machine.specs.Registers.{Registers, zero_registers}
use Rattle.machine.specs.Translation.{translation}

-- the zero registers, but with 64-bit addresses and this control register
abbrev pub with_bits : ℕ → ℕ → Registers
with_bits n v = record zero_registers { size = Bits64; control = slice_set (replicate 16 0) n v }

-- a translation by an access register, over bare sources and a storage of zeros but for these doublewords, each block
-- with this storage key
abbrev pub over_zeros : List (ℕ × ℕ) → ℕ → Registers → Access → ℕ → ℕ → Traced ℕ
over_zeros ws key r access register address =
    translation r (access_fresh (zeros_but ws)) (page_fresh (zeros_but ws))
    (record { word = zeros_but ws; key = λ b. Some key }) access (record { register = register; address = address }) 12

-- with DAT off an address is real once it is cut to its size
abbrev pub sized : AddressSize → ℕ → Traced ℕ
sized size address = over_zeros [] 0 (record zero_registers { size = size }) Fetch 0 address

-- addresses of 24, 31 and 64 bits
pub record AddressSizes : Type 0 where
  -- bits 40-63
  pub bits_24_bit_39 : sized Bits24 (only 39) ≡ completed 0 []
  pub bits_24_bit_40 : sized Bits24 (only 40) ≡ completed 0x800000 []
  pub bits_24_all : sized Bits24 0xffffffffffffffff ≡ completed 0xffffff []
  -- bits 33-63
  pub bits_31_bit_32 : sized Bits31 (only 32) ≡ completed 0 []
  pub bits_31_bit_33 : sized Bits31 (only 33) ≡ completed 0x40000000 []
  pub bits_31_all : sized Bits31 0xffffffffffffffff ≡ completed 0x7fffffff []
  -- bits 0-63
  pub bits_64_bit_0 : sized Bits64 (only 0) ≡ completed 0x8000000000000000 []
  pub bits_64_all : sized Bits64 0xffffffffffffffff ≡ completed 0xffffffffffffffff []

-- with control register 0 so, DAT off
abbrev pub low : ℕ → Access → ℕ → Traced ℕ
low control access address = over_zeros [] 0 (with_bits 0 control) access 0 address

-- low-address protection: stores in the ranges 0 through 511 and 4096 through 4607
pub record LowAddresses : Type 0 where
  pub first : low (only 35) Store 0 ≡ recognized LowAddress []
  pub byte_511 : low (only 35) Store 511 ≡ recognized LowAddress []
  pub byte_512 : low (only 35) Store 512 ≡ completed 512 []
  pub byte_4095 : low (only 35) Store 4095 ≡ completed 4095 []
  pub byte_4096 : low (only 35) Store 4096 ≡ recognized LowAddress []
  pub byte_4607 : low (only 35) Store 4607 ≡ recognized LowAddress []
  pub byte_4608 : low (only 35) Store 4608 ≡ completed 4608 []
  -- not fetches
  pub fetch_0 : low (only 35) Fetch 0 ≡ completed 0 []
  pub fetch_4096 : low (only 35) Fetch 4096 ≡ completed 4096 []
  -- bit 35 of control register 0 alone controls it
  pub bit_34 : low (only 34) Store 0 ≡ completed 0 []
  pub bit_36 : low (only 36) Store 0 ≡ completed 0 []
  -- the range is that of the address as it is cut, before translation
  pub cut_24 : over_zeros [] 0 (record (with_bits 0 (only 35)) { size = Bits24 }) Store 0 0x1000000 ≡ recognized LowAddress []
  pub translated : over_zeros [] 0 (record (with_bits 0 (only 35)) { mode = Primary }) Store 0 0 ≡ recognized LowAddress []
  pub translated_past : over_zeros [] 0 (record (with_bits 0 (only 35)) { mode = Primary }) Store 0 0x3000 ≡ completed 0 (0 ∷ 0x18 ∷ [])

-- a fetch at 103000 by access register 1 with this token, in access-register mode with this control register
abbrev pub by_alet : List (ℕ × ℕ) → ℕ → ℕ → ℕ → Traced ℕ
by_alet ws n v alet = over_zeros ws 0 (record (with_bits n v) { mode = AccessRegister; access = slice_set (replicate 16 0) 1 alet }) Fetch 1 0x103000

-- its reads, by the address of the designation
abbrev pub reads_from : ℕ → List ℕ
reads_from designation = designation ∷ 0x20 ∷ 0x28 ∷ 0 ∷ 0x10 ∷ 8 ∷ 8 ∷ 0x18 ∷ []

-- the control registers of access-register translation
pub record ControlRegisters : Type 0 where
  -- bits 33-57 of control register 2, with six zeros appended, are the origin of the dispatchable-unit control table, in
  -- which the designation is 16 bytes
  pub control_2_bit_32 : by_alet [] 2 (only 32) 2 ≡ completed 0 (reads_from 0x10)
  pub control_2_bit_33 : by_alet [] 2 (only 33) 2 ≡ completed 0 (reads_from 0x40000010)
  pub control_2_bit_57 : by_alet [] 2 (only 57) 2 ≡ completed 0 (reads_from 0x50)
  pub control_2_bit_58 : by_alet [] 2 (only 58) 2 ≡ completed 0 (reads_from 0x10)
  -- bits 33-57 of control register 5, with six zeros appended, are the origin of the primary ASTE; it is used where bit 7
  -- of the token is one
  pub control_5_bit_32 : by_alet [] 5 (only 32) 0x01000002 ≡ completed 0 (reads_from 0x10)
  pub control_5_bit_33 : by_alet [] 5 (only 33) 0x01000002 ≡ completed 0 (reads_from 0x40000010)
  pub control_5_bit_57 : by_alet [] 5 (only 57) 0x01000002 ≡ completed 0 (reads_from 0x50)
  pub control_5_bit_58 : by_alet [] 5 (only 58) 0x01000002 ≡ completed 0 (reads_from 0x10)
  -- bit 7 of the token, from both sides, and each register where the other is used
  pub token_bit_6 : by_alet [] 5 (only 33) 0x02000002 ≡ recognized AletSpecification []
  pub token_bit_8 : by_alet [] 5 (only 33) 0x00800002 ≡ recognized AleSequence (0x10 ∷ 0x20 ∷ [])
  pub control_2_unused : by_alet [] 2 (only 33) 0x01000002 ≡ completed 0 (reads_from 0x10)
  pub control_5_unused : by_alet [] 5 (only 33) 2 ≡ completed 0 (reads_from 0x10)
  -- bits 32-47 of control register 8 are the extended authorization index, equal here to that of a private entry
  pub control_8_bit_31 : by_alet ((0x20, only 7) ∷ []) 8 (only 31) 2 ≡ completed 0 (reads_from 0x10)
  pub control_8_bit_32 : by_alet ((0x20, only 7 + only 16) ∷ []) 8 (only 32) 2 ≡ completed 0 (reads_from 0x10)
  pub control_8_bit_47 : by_alet ((0x20, only 7 + only 31) ∷ []) 8 (only 47) 2 ≡ completed 0 (reads_from 0x10)
  pub control_8_bit_48 : by_alet ((0x20, only 7) ∷ []) 8 (only 48) 2 ≡ completed 0 (reads_from 0x10)

-- control registers with the primary element 10000, the secondary 70000 and the home 130000
abbrev pub elements : List ℕ
elements = slice_set (slice_set (slice_set (replicate 16 0) 1 0x10000) 7 0x70000) 13 0x130000

-- a fetch at 0 by an access register, of which 0 holds 1, and 1 this token
abbrev pub in_mode : Mode → ℕ → ℕ → Traced ℕ
in_mode mode register alet =
    over_zeros [] 0 (record zero_registers { mode = mode; control = elements; access = 1 ∷ alet ∷ replicate 14 0 })
    Fetch register 0

-- the spaces by mode and by token
pub record Spaces : Type 0 where
  pub dat_off : in_mode DatOff 1 0 ≡ completed 0 []
  pub primary : in_mode Primary 1 1 ≡ completed 0 (0x10000 ∷ 0 ∷ [])
  pub secondary : in_mode Secondary 1 0 ≡ completed 0 (0x70000 ∷ 0 ∷ [])
  pub home : in_mode Home 1 0 ≡ completed 0 (0x130000 ∷ 0 ∷ [])
  -- tokens 0 and 1 are the primary and the secondary space, and 2 goes by the tables
  pub token_0 : in_mode AccessRegister 1 0 ≡ completed 0 (0x10000 ∷ 0 ∷ [])
  pub token_1 : in_mode AccessRegister 1 1 ≡ completed 0 (0x70000 ∷ 0 ∷ [])
  pub token_2 : in_mode AccessRegister 1 2 ≡ completed 0 (0x10 ∷ 0x20 ∷ 0x28 ∷ 0 ∷ 0x10 ∷ 8 ∷ 0 ∷ 0 ∷ [])
  -- access register 0 is treated as containing 0
  pub register_0 : in_mode AccessRegister 0 0 ≡ completed 0 (0x10000 ∷ 0 ∷ [])

-- an access at 2000 with an access key, to a block with a storage key
abbrev pub keyed : ℕ → ℕ → Access → Traced ℕ
keyed access_key storage_key access = over_zeros [] storage_key (record (with_bits 0 0) { key = access_key }) access 0 0x2000

-- Key-controlled protection. A storage key is four access-control bits, and then the fetch-protection bit.
pub record KeyProtection : Type 0 where
  -- fetch-protection bit 0, match: access is permitted
  pub match_0_fetch : keyed 0x5 0x0a Fetch ≡ completed 0x2000 []
  pub match_0_store : keyed 0x5 0x0a Store ≡ completed 0x2000 []
  -- 0, mismatch: a fetch is permitted
  pub mismatch_0_fetch : keyed 0x5 0x0c Fetch ≡ completed 0x2000 []
  pub mismatch_0_store : keyed 0x5 0x0c Store ≡ recognized Key []
  -- 1, match: access is permitted
  pub match_1_fetch : keyed 0x5 0x0b Fetch ≡ completed 0x2000 []
  pub match_1_store : keyed 0x5 0x0b Store ≡ completed 0x2000 []
  -- 1, mismatch: neither
  pub mismatch_1_fetch : keyed 0x5 0x0d Fetch ≡ recognized Key []
  pub mismatch_1_store : keyed 0x5 0x0d Store ≡ recognized Key []
  -- the bit beside the fetch-protection bit, the last of the access control
  pub beside_0_fetch : keyed 0x5 0x0e Fetch ≡ completed 0x2000 []
  pub beside_1_fetch : keyed 0x5 0x0f Fetch ≡ recognized Key []
  -- access key 0 matches
  pub zero_fetch : keyed 0x0 0x1f Fetch ≡ completed 0x2000 []
  pub zero_store : keyed 0x0 0x1f Store ≡ completed 0x2000 []
  -- storage key 0 does not match of itself; the highest and the lowest bit of the access control
  pub highest_match : keyed 0x8 0x11 Fetch ≡ completed 0x2000 []
  pub highest_mismatch : keyed 0x8 0x01 Fetch ≡ recognized Key []
  pub lowest_match : keyed 0x1 0x03 Fetch ≡ completed 0x2000 []
  pub lowest_mismatch : keyed 0x1 0x01 Fetch ≡ recognized Key []

-- a fetch with access key 5, where block 2 has storage key d, each other block b, and the doubleword at 5010 alone is
-- absent
abbrev pub reached_at : ℕ → Traced ℕ
reached_at address =
    translation (record (with_bits 0 0) { key = 5 }) (access_fresh (zeros_but [])) (page_fresh (zeros_but []))
    (record { word = λ a. cond (a == 0x5010) None (Some 0); key = λ b. Some (cond (b == 2) 0xd 0xb) })
    Fetch (record { register = 0; address = address }) 12

-- the block and the doubleword that an address lies in
pub record Reaches : Type 0 where
  -- a storage key is associated with each block of 4K bytes
  pub before_block : reached_at 0x1fff ≡ completed 0x1fff []
  pub first_of_block : reached_at 0x2000 ≡ recognized Key []
  pub last_of_block : reached_at 0x2fff ≡ recognized Key []
  pub past_block : reached_at 0x3000 ≡ completed 0x3000 []
  -- a doubleword is 8 bytes on an 8-byte boundary
  pub before_doubleword : reached_at 0x500f ≡ completed 0x500f []
  pub first_of_doubleword : reached_at 0x5010 ≡ recognized Addressing []
  pub last_of_doubleword : reached_at 0x5017 ≡ recognized Addressing []
  pub past_doubleword : reached_at 0x5018 ≡ completed 0x5018 []

-- an access in the primary space whose table is at 0
abbrev pub primary_by : List (ℕ × ℕ) → Access → ℕ → Traced ℕ
primary_by ws access address = over_zeros ws 0 (record (with_bits 1 0) { mode = Primary }) access 0 address

-- an access at 103000 by access register 1, whose access-list entry has bit 6 one
abbrev pub by_entry_6 : Access → Traced ℕ
by_entry_6 access =
    over_zeros ((0x20, only 6) ∷ []) 0
    (record (with_bits 0 0) { mode = AccessRegister; access = slice_set (replicate 16 0) 1 2 })
    access 1 0x103000

-- The real address: the page-frame real address, bits 0-51, and the byte index, bits 52-63. And what protects a page.
pub record RealAddresses : Type 0 where
  pub frame_bit_0 : primary_by ((0x18, only 0) ∷ []) Fetch 0x103fff ≡ completed 0x8000000000000fff (8 ∷ 0x18 ∷ [])
  pub frame_bit_51 : primary_by ((0x18, only 51) ∷ []) Fetch 0x103fff ≡ completed 0x1fff (8 ∷ 0x18 ∷ [])
  pub byte_bit_51 : primary_by [] Fetch (only 51) ≡ completed 0 (0 ∷ 8 ∷ [])
  pub byte_bit_52 : primary_by [] Fetch (only 52) ≡ completed 0x800 (0 ∷ 0 ∷ [])
  pub byte_bit_63 : primary_by [] Fetch (only 63) ≡ completed 1 (0 ∷ 0 ∷ [])
  -- in a real space the address is the real one, all 64 bits of it
  pub real_space : over_zeros [] 0 (record (with_bits 1 (only 58)) { mode = Primary }) Fetch 0 0xffffffffffffffff ≡ completed 0xffffffffffffffff []
  -- page protection, by either entry, is of stores
  pub segment_store : primary_by ((8, only 54) ∷ []) Store 0x103000 ≡ recognized Page (8 ∷ 0x18 ∷ [])
  pub segment_fetch : primary_by ((8, only 54) ∷ []) Fetch 0x103000 ≡ completed 0 (8 ∷ 0x18 ∷ [])
  pub page_store : primary_by ((0x18, only 54) ∷ []) Store 0x103000 ≡ recognized Page (8 ∷ 0x18 ∷ [])
  pub page_fetch : primary_by ((0x18, only 54) ∷ []) Fetch 0x103000 ≡ completed 0 (8 ∷ 0x18 ∷ [])
  -- and so is access-list-controlled protection, by bit 6 of the access-list entry
  pub fetch_only_store : by_entry_6 Store ≡ recognized AccessList (reads_from 0x10)
  pub fetch_only_fetch : by_entry_6 Fetch ≡ completed 0 (reads_from 0x10)

-- a view in which the doubleword at each address, and the key of each block, is its own number, beneath a prefix
abbrev pub beneath : ℕ → View
beneath prefix = prefixed prefix (record { word = λ a. Some a; key = λ b. Some b })

-- prefixing exchanges real addresses 0-8191 with the 8,192 that the prefix, here 4000, designates
pub record PrefixExchange : Type 0 where
  pub first : (beneath 0x4000).word 0 ≡ Some 0x4000
  pub last : (beneath 0x4000).word 0x1ff8 ≡ Some 0x5ff8
  pub past : (beneath 0x4000).word 0x2000 ≡ Some 0x2000
  pub before_prefix : (beneath 0x4000).word 0x3ff8 ≡ Some 0x3ff8
  pub at_prefix : (beneath 0x4000).word 0x4000 ≡ Some 0
  pub last_at_prefix : (beneath 0x4000).word 0x5ff8 ≡ Some 0x1ff8
  pub past_prefix : (beneath 0x4000).word 0x6000 ≡ Some 0x6000
  -- the keys of two blocks of 4,096 bytes with those of two
  pub first_key : (beneath 0x4000).key 0 ≡ Some 4
  pub last_key : (beneath 0x4000).key 1 ≡ Some 5
  pub past_key : (beneath 0x4000).key 2 ≡ Some 2
  pub before_prefix_key : (beneath 0x4000).key 3 ≡ Some 3
  pub at_prefix_key : (beneath 0x4000).key 4 ≡ Some 0
  pub last_at_prefix_key : (beneath 0x4000).key 5 ≡ Some 1
  pub past_prefix_key : (beneath 0x4000).key 6 ≡ Some 6
  -- prefix 0 exchanges nothing
  pub none : (beneath 0).word 0 ≡ Some 0
  pub none_past : (beneath 0).word 0x2000 ≡ Some 0x2000
  -- the prefix is bits 33-50 of its register: the highest and the lowest, and the bits beside them
  pub bit_32 : lawful_prefix (only 32) ≡ false
  pub bit_33 : lawful_prefix (only 33) ≡ true
  pub bit_50 : lawful_prefix (only 50) ≡ true
  pub bit_51 : lawful_prefix (only 51) ≡ false
  pub highest : lawful_prefix 0x7fffe000 ≡ true
  pub highest_last : (beneath 0x7fffe000).word 0x1ff8 ≡ Some 0x7ffffff8
  pub highest_past : (beneath 0x7fffe000).word 0x80000000 ≡ Some 0x80000000

pub record WorkedTranslations : Type 0 where
  pub sizes : AddressSizes
  pub low_addresses : LowAddresses
  pub control_registers : ControlRegisters
  pub spaces : Spaces
  pub key_protection : KeyProtection
  pub reaches : Reaches
  pub real_addresses : RealAddresses
  pub prefix_exchange : PrefixExchange
