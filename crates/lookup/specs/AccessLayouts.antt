-- Worked cases of the layouts of the access-register lookup: each boundary of each field from both sides. In each case
-- storage is zero but for the doublewords named. What comes out is what the z/Architecture Principles of Operation say
-- of these bits.
use Rattle.std.specs.Prelude.{◌≡◌, ℕ, ◌+◌, true, false, List, [], ◌∷◌, ◌++◌}
use Rattle.arch.specs.Walks.{Traced}
use Rattle.arch.specs.declared.condition.Condition.TheVariants.{Addressing, AletSpecification, AlenTranslation, AleSequence, AsteValidity, AsteSequence, ExtendedAuthority}
use Rattle.lookup.specs.declared.access.AccessAnswer.{AccessAnswer}
use Rattle.lookup.specs.Lookups.{access_fresh}
use Rattle.lookup.specs.Zeros.{only, all_but, zeros_but, completed, recognized}

-- a lookup by a token and an extended authorization index, with the designation at 1010
abbrev pub by_token : List (ℕ × ℕ) → ℕ → ℕ → Traced AccessAnswer
by_token ws alet eax = access_fresh (zeros_but ws) (record { alet = alet; eax = eax; designation = 0x1010 })

-- the reads of a lookup that asks for no authority, by the addresses of its access-list entry and its ASTE
abbrev pub reads_of : ℕ → ℕ → List ℕ
reads_of entry aste = 0x1010 ∷ entry ∷ (entry + 8) ∷ aste ∷ (aste + 16) ∷ (aste + 8) ∷ []

-- an element found, for fetches and stores
abbrev pub element : ℕ → AccessAnswer
element asce = record { asce = asce; fetch_only = false }

-- a designation of length 7f, the longest list: 1,024 entries
abbrev pub longest : List (ℕ × ℕ)
longest = (0x1010, 0x0000007f00000000) ∷ []

-- The access-list-entry token, its 32 bits in hexadecimal. Entry 2 of a list at 0 stands at 20.
pub record TokenLayout : Type 0 where
  -- bits 0-6 must be zeros
  pub bit_0 : by_token [] 0x80000002 0 ≡ recognized AletSpecification []
  pub bit_6 : by_token [] 0x02000002 0 ≡ recognized AletSpecification []
  -- bit 7 is none of them, nor of the sequence number
  pub bit_7 : by_token [] 0x01000002 0 ≡ completed (element 0) (reads_of 0x20 0)
  -- bits 8-15 are compared against the sequence number in the entry
  pub bit_8 : by_token [] 0x00800002 0 ≡ recognized AleSequence (0x1010 ∷ 0x20 ∷ [])
  pub bit_8_equal : by_token ((0x20, 0x0080000000000000) ∷ []) 0x00800002 0 ≡ completed (element 0) (reads_of 0x20 0)
  pub bit_15 : by_token [] 0x00010002 0 ≡ recognized AleSequence (0x1010 ∷ 0x20 ∷ [])
  pub bit_15_equal : by_token ((0x20, 0x0001000000000000) ∷ []) 0x00010002 0 ≡ completed (element 0) (reads_of 0x20 0)
  -- bits 16-31 are the entry number, of which the longest list admits 1,024
  pub bit_16 : by_token longest 0x00008000 0 ≡ recognized AlenTranslation (0x1010 ∷ [])
  pub bit_21 : by_token longest 0x00000400 0 ≡ recognized AlenTranslation (0x1010 ∷ [])
  pub bit_22 : by_token longest 0x00000200 0 ≡ completed (element 0) (reads_of 0x2000 0)
  pub bit_31 : by_token [] 0x00000001 0 ≡ completed (element 0) (reads_of 0x10 0)
  -- the leftmost 13 bits of the entry number, 16-28, are compared against the length
  pub bit_28 : by_token [] 0x00000008 0 ≡ recognized AlenTranslation (0x1010 ∷ [])
  pub bit_29 : by_token [] 0x00000004 0 ≡ completed (element 0) (reads_of 0x40 0)

-- a lookup by a designation and a token
abbrev pub designated : ℕ → ℕ → Traced AccessAnswer
designated designation alet = by_token ((0x1010, designation) ∷ []) alet 0

-- the access-list designation, the left word of its doubleword
pub record DesignationLayout : Type 0 where
  -- bit 0 is reserved
  pub bit_0 : designated (only 0) 2 ≡ completed (element 0) (reads_of 0x20 0)
  -- bits 1-24, with seven zeros appended, are the origin
  pub bit_1 : designated (only 1) 2 ≡ completed (element 0) (reads_of 0x40000020 0)
  pub bit_24 : designated (only 24) 2 ≡ completed (element 0) (reads_of 0xa0 0)
  -- bit 24 is not of the length
  pub bit_24_length : designated (only 24) 8 ≡ recognized AlenTranslation (0x1010 ∷ [])
  -- bits 25-31 are the length, in units of eight entries; it is one more than their value
  pub bit_25_origin : designated (only 25) 2 ≡ completed (element 0) (reads_of 0x20 0)
  pub bit_25_last : designated (only 25) 0x207 ≡ completed (element 0) (reads_of 0x2070 0)
  pub bit_25_past : designated (only 25) 0x208 ≡ recognized AlenTranslation (0x1010 ∷ [])
  pub bit_31_last : designated (only 31) 0xf ≡ completed (element 0) (reads_of 0xf0 0)
  pub bit_31_past : designated (only 31) 0x10 ≡ recognized AlenTranslation (0x1010 ∷ [])
  -- bit 32 is of the next word
  pub bit_32_last : designated (only 32) 7 ≡ completed (element 0) (reads_of 0x70 0)
  pub bit_32_past : designated (only 32) 8 ≡ recognized AlenTranslation (0x1010 ∷ [])
  -- the longest list has 1,024 entries
  pub longest_last : by_token longest 0x3ff 0 ≡ completed (element 0) (reads_of 0x3ff0 0)
  pub longest_past : by_token longest 0x400 0 ≡ recognized AlenTranslation (0x1010 ∷ [])

-- a lookup by the first doubleword of entry 2, a token, and an extended authorization index
abbrev pub entered : ℕ → ℕ → ℕ → Traced AccessAnswer
entered first alet eax = by_token ((0x20, first) ∷ []) alet eax

-- the reads of a lookup that ends with an authority byte of zeros in the doubleword at 0
abbrev pub unauthorized : List ℕ
unauthorized = 0x1010 ∷ 0x20 ∷ 0x28 ∷ 0 ∷ 0x10 ∷ 0 ∷ []

-- the access-list entry, its first doubleword
pub record EntryLayout : Type 0 where
  -- bit 0, when one, is recognized as ALEN translation
  pub bit_0 : entered (only 0) 2 0 ≡ recognized AlenTranslation (0x1010 ∷ 0x20 ∷ [])
  -- bits 1-5 are reserved
  pub bit_1 : entered (only 1) 2 1 ≡ completed (element 0) (reads_of 0x20 0)
  pub bit_5 : entered (only 5) 2 1 ≡ completed (element 0) (reads_of 0x20 0)
  -- bit 6 is the fetch-only bit
  pub bit_6 : entered (only 6) 2 1 ≡ completed (record { asce = 0; fetch_only = true }) (reads_of 0x20 0)
  -- bit 7, the private bit, asks for authority where bits 16-31 are not equal to the index
  pub bit_7 : entered (only 7) 2 1 ≡ recognized ExtendedAuthority unauthorized
  pub bit_7_equal : entered (only 7) 2 0 ≡ completed (element 0) (reads_of 0x20 0)
  -- bits 8-15 are the sequence number
  pub bit_8 : entered (only 8) 2 1 ≡ recognized AleSequence (0x1010 ∷ 0x20 ∷ [])
  pub bit_8_equal : entered (only 8) 0x00800002 1 ≡ completed (element 0) (reads_of 0x20 0)
  pub bit_15 : entered (only 15) 2 1 ≡ recognized AleSequence (0x1010 ∷ 0x20 ∷ [])
  pub bit_15_equal : entered (only 15) 0x00010002 1 ≡ completed (element 0) (reads_of 0x20 0)
  -- bits 16-31 are the authorization index of the entry; 15 is not of it
  pub bit_15_private : entered (only 7 + only 15) 0x00010002 0 ≡ completed (element 0) (reads_of 0x20 0)
  pub bit_16 : entered (only 7 + only 16) 2 0 ≡ recognized ExtendedAuthority unauthorized
  pub bit_16_equal : entered (only 7 + only 16) 2 0x8000 ≡ completed (element 0) (reads_of 0x20 0)
  pub bit_31 : entered (only 7 + only 31) 2 0 ≡ recognized ExtendedAuthority unauthorized
  pub bit_31_equal : entered (only 7 + only 31) 2 1 ≡ completed (element 0) (reads_of 0x20 0)
  -- bits 32-63 are reserved
  pub bit_32 : entered (only 7 + only 32) 2 0 ≡ completed (element 0) (reads_of 0x20 0)
  pub bit_63 : entered (only 7 + only 63) 2 0 ≡ completed (element 0) (reads_of 0x20 0)

-- a lookup by the second doubleword of entry 2, and the third doubleword of an ASTE at 0
abbrev pub led : ℕ → ℕ → Traced AccessAnswer
led second third = by_token ((0x28, second) ∷ (0x10, third) ∷ []) 2 0

-- the reads of a lookup that ends with the sequence number of an ASTE at 0
abbrev pub out_of_sequence : List ℕ
out_of_sequence = 0x1010 ∷ 0x20 ∷ 0x28 ∷ 0 ∷ 0x10 ∷ []

-- its second doubleword, whose bits 0-63 are bits 64-127 of the entry
pub record SecondLayout : Type 0 where
  -- bit 64 is reserved
  pub bit_64 : led (only 0) 0 ≡ completed (element 0) (reads_of 0x20 0)
  -- bits 65-89, with six zeros appended, are the address of the ASTE
  pub bit_65 : led (only 1) 0 ≡ completed (element 0) (reads_of 0x20 0x40000000)
  pub bit_89 : led (only 25) 0 ≡ completed (element 0) (reads_of 0x20 0x40)
  -- bits 90-95 are reserved
  pub bit_90 : led (only 26) 0 ≡ completed (element 0) (reads_of 0x20 0)
  pub bit_95 : led (only 31) 0 ≡ completed (element 0) (reads_of 0x20 0)
  -- bits 96-127 are compared against the sequence number in the ASTE
  pub bit_96 : led (only 32) 0 ≡ recognized AsteSequence out_of_sequence
  pub bit_96_equal : led (only 32) 0x80000000 ≡ completed (element 0) (reads_of 0x20 0)
  pub bit_127 : led (only 63) 0 ≡ recognized AsteSequence out_of_sequence
  pub bit_127_equal : led (only 63) 1 ≡ completed (element 0) (reads_of 0x20 0)

-- a lookup through an ASTE at 40
abbrev pub through_aste : List (ℕ × ℕ) → Traced AccessAnswer
through_aste ws = by_token (ws ++ ((0x28, only 25) ∷ [])) 2 0

-- the same for a program with an index that has to be authorized, which is any but ffff
abbrev pub extended : List (ℕ × ℕ) → ℕ → Traced AccessAnswer
extended ws eax = by_token (ws ++ ((0x20, 0x0100ffff00000000) ∷ (0x28, only 25) ∷ [])) 2 eax

-- its reads before the authority byte; with the doubleword of that byte; and with the element
abbrev pub before_authority : List ℕ
before_authority = 0x1010 ∷ 0x20 ∷ 0x28 ∷ 0x40 ∷ 0x50 ∷ []

abbrev pub to_authority : ℕ → List ℕ
to_authority at = before_authority ++ (at ∷ [])

abbrev pub past_authority : ℕ → List ℕ
past_authority at = before_authority ++ (at ∷ 0x48 ∷ [])

-- the ASTE
pub record AsteLayout : Type 0 where
  -- bit 0, when one, is recognized as ASTE validity
  pub bit_0 : extended ((0x40, only 0) ∷ []) 0 ≡ recognized AsteValidity (0x1010 ∷ 0x20 ∷ 0x28 ∷ 0x40 ∷ [])
  -- bits 1-29, with two zeros appended, are the origin of the authority table
  pub bit_1 : extended ((0x40, only 1) ∷ (0x40000000, only 1) ∷ []) 0 ≡ completed (element 0) (past_authority 0x40000000)
  pub bit_29 : extended ((0x40, only 29) ∷ (0, only 33) ∷ []) 0 ≡ completed (element 0) (past_authority 0)
  -- bit 30 is not, nor bit 31, the base-space bit
  pub bit_30 : extended ((0x40, only 30) ∷ (0, only 1) ∷ []) 0 ≡ completed (element 0) (past_authority 0)
  pub bit_31 : extended ((0x40, only 31) ∷ (0, only 1) ∷ []) 0 ≡ completed (element 0) (past_authority 0)
  -- bits 32-47, the authorization index, are not used
  pub bit_32 : extended ((0x40, only 32) ∷ []) 0x10 ≡ recognized ExtendedAuthority before_authority
  pub bit_47 : extended ((0x40, only 47) ∷ []) 0x10 ≡ recognized ExtendedAuthority before_authority
  -- bits 48-59 are the length, in units of 16 indexes; it is one more than their value
  pub bit_48_last : extended ((0x40, only 48) ∷ []) 0x800f ≡ recognized ExtendedAuthority (to_authority 0x2000)
  pub bit_48_past : extended ((0x40, only 48) ∷ []) 0x8010 ≡ recognized ExtendedAuthority before_authority
  pub bit_59_last : extended ((0x40, only 59) ∷ []) 0x1f ≡ recognized ExtendedAuthority (to_authority 0)
  pub bit_59_past : extended ((0x40, only 59) ∷ []) 0x20 ≡ recognized ExtendedAuthority before_authority
  -- bit 60 is not of the length
  pub bit_60_last : extended ((0x40, only 60) ∷ []) 0xf ≡ recognized ExtendedAuthority (to_authority 0)
  pub bit_60_past : extended ((0x40, only 60) ∷ []) 0x10 ≡ recognized ExtendedAuthority before_authority
  -- the longest table has an entry for each index
  pub longest_last : extended ((0x40, 0xfff0) ∷ []) 0xfffe ≡ recognized ExtendedAuthority (to_authority 0x3ff8)
  -- bits 64-127, the doubleword at 48, are the address-space-control element
  pub bit_64 : through_aste ((0x48, only 0) ∷ []) ≡ completed (element 0x8000000000000000) (reads_of 0x20 0x40)
  pub bit_127 : through_aste ((0x48, only 63) ∷ []) ≡ completed (element 1) (reads_of 0x20 0x40)
  -- bits 160-191, in the doubleword at 50, are the sequence number
  pub bit_159 : through_aste ((0x50, only 31) ∷ []) ≡ completed (element 0) (reads_of 0x20 0x40)
  pub bit_160 : through_aste ((0x50, only 32) ∷ []) ≡ recognized AsteSequence before_authority
  pub bit_191 : through_aste ((0x50, only 63) ∷ []) ≡ recognized AsteSequence before_authority

-- The authority table at 0. The leftmost 14 bits of the index select a byte, the rightmost two an entry of two bits
-- in it, of which the right one is the secondary bit.
pub record AuthorityLayout : Type 0 where
  -- rightmost bits 00: bit 1 of the byte
  pub index_0 : extended ((0, only 1) ∷ []) 0 ≡ completed (element 0) (past_authority 0)
  pub index_0_else : extended ((0, all_but 1) ∷ []) 0 ≡ recognized ExtendedAuthority (to_authority 0)
  -- 01: bit 3
  pub index_1 : extended ((0, only 3) ∷ []) 1 ≡ completed (element 0) (past_authority 0)
  pub index_1_else : extended ((0, all_but 3) ∷ []) 1 ≡ recognized ExtendedAuthority (to_authority 0)
  -- 10: bit 5
  pub index_2 : extended ((0, only 5) ∷ []) 2 ≡ completed (element 0) (past_authority 0)
  pub index_2_else : extended ((0, all_but 5) ∷ []) 2 ≡ recognized ExtendedAuthority (to_authority 0)
  -- 11: bit 7
  pub index_3 : extended ((0, only 7) ∷ []) 3 ≡ completed (element 0) (past_authority 0)
  pub index_3_else : extended ((0, all_but 7) ∷ []) 3 ≡ recognized ExtendedAuthority (to_authority 0)
  -- the next byte
  pub index_4 : extended ((0, only 9) ∷ []) 4 ≡ completed (element 0) (past_authority 0)
  pub index_4_else : extended ((0, all_but 9) ∷ []) 4 ≡ recognized ExtendedAuthority (to_authority 0)
  -- the last entry of a doubleword, and the first of the next, by a table of length 2
  pub index_1f : extended ((0x40, 0x20) ∷ (0, only 63) ∷ []) 0x1f ≡ completed (element 0) (past_authority 0)
  pub index_1f_else : extended ((0x40, 0x20) ∷ (0, all_but 63) ∷ []) 0x1f ≡ recognized ExtendedAuthority (to_authority 0)
  pub index_20 : extended ((0x40, 0x20) ∷ (8, only 1) ∷ []) 0x20 ≡ completed (element 0) (past_authority 8)
  pub index_20_else : extended ((0x40, 0x20) ∷ (8, all_but 1) ∷ []) 0x20 ≡ recognized ExtendedAuthority (to_authority 8)

-- the limit 2^31 of an address: the last doubleword below it is read, the one at it is not
pub record AccessLimits : Type 0 where
  pub designation_below : access_fresh (zeros_but []) (record { alet = 2; eax = 0; designation = 0x7ffffff8 }) ≡ completed (element 0) (0x7ffffff8 ∷ 0x20 ∷ 0x28 ∷ 0 ∷ 0x10 ∷ 8 ∷ [])
  pub designation_at : access_fresh (zeros_but []) (record { alet = 2; eax = 0; designation = 0x80000000 }) ≡ recognized Addressing []
  -- the last list, of length 0 and of length 1
  pub entry_below : designated 0x7fffff8000000000 7 ≡ completed (element 0) (reads_of 0x7ffffff0 0)
  pub entry_at : designated 0x7fffff8100000000 8 ≡ recognized Addressing (0x1010 ∷ [])
  -- the last ASTE
  pub aste_below : led 0x7fffffc000000000 0 ≡ completed (element 0) (reads_of 0x20 0x7fffffc0)
  -- the last authority table, of length 1
  pub authority_below : extended ((0x40, 0x7ffffffc00000010) ∷ []) 0xf ≡ recognized ExtendedAuthority (to_authority 0x7ffffff8)
  pub authority_at : extended ((0x40, 0x7ffffffc00000010) ∷ []) 0x10 ≡ recognized Addressing before_authority
