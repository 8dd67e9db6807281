-- Ten worked cases of the two lookups, computed from the definitions.
use Rattle.std.specs.Prelude.{◌≡◌, ℕ, ◌*◌, ◌/◌, false, cond, List, [], ◌∷◌, Some, None, Ok, Err, Option, ◌==◌}
use Rattle.arch.specs.declared.condition.Condition.TheVariants.{Segment, PageTranslation, TranslationSpecification, AlenTranslation}
use Rattle.arch.specs.Walks.{Traced}
use Rattle.lookup.specs.declared.access.AccessAnswer.{AccessAnswer}
use Rattle.lookup.specs.declared.page.PageAnswer.{PageAnswer}
use Rattle.lookup.specs.Lookups.{access_fresh, page_fresh}

-- a storage with these doublewords alone, by address and value
abbrev pub holding : List (ℕ × ℕ) → ℕ → Option ℕ
holding [] a = None
holding (w ∷ ws) a = cond (w.0 == a) (Some w.1) (holding ws a)

-- the lookup of an address under an element
abbrev pub paged : List (ℕ × ℕ) → ℕ → ℕ → Traced PageAnswer
paged ws asce address = page_fresh (holding ws) (record { asce = asce; page = address / 4096 })

-- one segment entry at 10008 and one page entry at 20018, for address 103123
abbrev pub two_entries : ℕ → ℕ → List (ℕ × ℕ)
two_entries segment page = (0x10008, segment) ∷ (0x20018, page) ∷ []

-- a region-third table at 10000 whose first entry leads to a segment table at 30000
abbrev pub region_entry : List (ℕ × ℕ)
region_entry = (0x10000, 0x30045) ∷ []

-- a lookup by an entry number under a designation of length 0, at 1000
abbrev pub listed : ℕ → Traced AccessAnswer
listed number = access_fresh (holding ((0x1010, 0x2000 * 0x100000000) ∷ [])) (record { alet = number; eax = 0; designation = 0x1010 })

pub record Worked : Type 0 where
  -- with element 10000, address 1ff00000 fetches the segment entry at 10ff8
  pub last_quarter : (paged [] 0x10000 0x1ff00000).trace ≡ 0x10ff8 ∷ []
  -- and 20000000 lies past the table's length
  pub past_length : ((paged [] 0x10000 0x20000000).result ≡ Err Segment) × ((paged [] 0x10000 0x20000000).trace ≡ [])
  -- a page entry 45500 is invalid
  pub invalid_page : (paged (two_entries 0x20000 0x45500) 0x10000 0x103123).result ≡ Err PageTranslation
  -- a page entry 45100 has a bit that must be zero
  pub reserved_page : (paged (two_entries 0x20000 0x45100) 0x10000 0x103123).result ≡ Err TranslationSpecification
  -- a common segment entry passes
  pub common_segment : (paged (two_entries 0x20010 0x45000) 0x10000 0x103123).result ≡ Ok (record { frame = 0x45; protect = false })
  -- but not in a private space
  pub private_space : (paged (two_entries 0x20010 0x45000) 0x10100 0x103123).result ≡ Err TranslationSpecification
  -- region-third entry 30045 has no segment table for index 1ff
  pub before_offset : ((paged region_entry 0x10004 0x1ff00000).result ≡ Err Segment) × ((paged region_entry 0x10004 0x1ff00000).trace ≡ 0x10000 ∷ [])
  -- and goes on for 200
  pub from_offset : (paged region_entry 0x10004 0x20000000).trace ≡ 0x10000 ∷ 0x31000 ∷ []
  -- with list length 0, entry number 7 passes
  pub last_entry : (listed 7).trace ≡ 0x1010 ∷ 0x2070 ∷ []
  -- and 8 does not
  pub past_list : ((listed 8).result ≡ Err AlenTranslation) × ((listed 8).trace ≡ 0x1010 ∷ [])
