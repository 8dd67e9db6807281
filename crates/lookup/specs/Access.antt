-- The access-register lookup: from an access-list-entry token to an address space. One line a rule.
use Rattle.std.specs.Prelude.{ℕ, ◌+◌, ◌*◌, ◌/◌, ◌%◌, ◌^◌, ◌<◌, Bool, cond, not, ◌&&◌, ◌==◌, nat_lt}
use Rattle.arch.specs.Bits.{bits, bit}
use Rattle.arch.specs.Walks.{Walk, answers, ◌>>=◌, ◌>>◌, read, check}
use Rattle.arch.specs.declared.condition.Condition.TheVariants.{AletSpecification, AlenTranslation, AleSequence, AsteValidity, AsteSequence, ExtendedAuthority}
use Rattle.lookup.specs.declared.access.AccessKey.{AccessKey}
use Rattle.lookup.specs.declared.access.AccessAnswer.{AccessAnswer}
use Rattle.lookup.specs.declared.access.AccessEntry.{AccessEntry}

-- addresses of access-register tables stay below 2^31
abbrev pub access_limit : ℕ
access_limit = 2 ^ 31

-- bits first to last of a token of 32 bits
abbrev pub token_bits : ℕ → ℕ → AccessKey → ℕ
token_bits first last k = bits (32 + first) (32 + last) k.alet

-- the entry number, ALEN
abbrev pub entry_number : AccessKey → ℕ
entry_number k = token_bits 16 31 k

abbrev pub list_origin : ℕ → ℕ
list_origin designation = bits 1 24 designation * 2 ^ 7

abbrev pub list_length : ℕ → ℕ
list_length designation = bits 25 31 designation

-- ASTE: ASN-second-table entry, found by the second doubleword of an access-list entry
abbrev pub aste_origin : ℕ → ℕ
aste_origin second = bits 1 25 second * 2 ^ 6

abbrev pub authority_origin : ℕ → ℕ
authority_origin aste = bits 1 29 aste * 2 ^ 2

abbrev pub authority_length : ℕ → ℕ
authority_length aste = bits 48 59 aste

-- the address of the byte with the authority bits of an index
abbrev pub authority_byte : ℕ → ℕ → ℕ
authority_byte eax aste = authority_origin aste + eax / 4

-- the secondary bit of an index, by its number in the doubleword that holds the byte
abbrev pub authority_bit : ℕ → ℕ → ℕ
authority_bit eax aste = authority_byte eax aste % 8 * 8 + (2 * (eax % 4) + 1)

-- a private entry whose own index differs asks for authority
abbrev pub asks_authority : AccessKey → ℕ → Bool
asks_authority k first = bit 7 first && not (bits 16 31 first == k.eax)

-- the address of the access-list entry
abbrev pub locate : AccessKey → Walk ℕ
locate k = do
  check AletSpecification (not (token_bits 0 6 k == 0))
  designation ← read k.designation
  check AlenTranslation (nat_lt (list_length designation) (entry_number k / 2 ^ 3))
  answers (list_origin designation + 16 * entry_number k)

-- the first doubleword of the access-list entry, valid and of the token's sequence
abbrev pub entry_first : AccessKey → ℕ → Walk ℕ
entry_first k at = do
  first ← read at
  check AlenTranslation (bit 0 first)
  check AleSequence (not (token_bits 8 15 k == bits 8 15 first))
  answers first

-- both doublewords of it
abbrev pub entry : AccessKey → ℕ → Walk AccessEntry
entry k at = do
  first ← entry_first k at
  second ← read (at + 8)
  answers (record { first = first; second = second })

-- the first doubleword of the ASTE, valid
abbrev pub aste_first : ℕ → Walk ℕ
aste_first second = do
  first ← read (aste_origin second)
  check AsteValidity (bit 0 first)
  answers first

-- its third doubleword has the entry's sequence
abbrev pub aste_sequence : ℕ → Walk (Unit {0})
aste_sequence second = do
  third ← read (aste_origin second + 16)
  check AsteSequence (not (bits 32 63 second == bits 32 63 third))

abbrev pub aste : ℕ → Walk ℕ
aste second = do
  first ← aste_first second
  aste_sequence second
  answers first

abbrev pub secondary : ℕ → ℕ → Walk (Unit {0})
secondary eax aste = do
  check ExtendedAuthority (nat_lt (authority_length aste) (eax / 2 ^ 4))
  authority ← read (authority_byte eax aste / 8 * 8)
  check ExtendedAuthority (not (bit (authority_bit eax aste) authority))

abbrev pub authorized : AccessKey → ℕ → ℕ → Walk (Unit {0})
authorized k first aste = cond (asks_authority k first) (secondary k.eax aste) (answers tt)

-- the address-space-control element, and whether the entry allows fetches only
abbrev pub access_walk : AccessKey → Walk AccessAnswer
access_walk k = do
  at ← locate k
  found ← entry k at
  first ← aste found.second
  authorized k found.first first
  asce ← read (aste_origin found.second + 8)
  answers (record { asce = asce; fetch_only = bit 6 found.first })

-- a token has 32 bits, an index 16
abbrev pub AccessFits : AccessKey → Type 0
AccessFits k = (k.alet < 2 ^ 32) × (k.eax < 2 ^ 16)
