-- The conditions of both lookups as tables, in the order in which they are tested.
use Rattle.std.specs.Prelude.{ℕ, zero, suc, ◌+◌, ◌*◌, ◌/◌, ◌%◌, ◌^◌, Bool, false, cond, not, ◌&&◌, ◌||◌, List, [], ◌∷◌, ◌++◌, Option, ◌==◌, nat_lt}
use Rattle.arch.specs.Bits.{bits, bit}
use Rattle.arch.specs.Order.{Row, row, value, missing}
use Rattle.arch.specs.declared.condition.Condition.TheVariants.{AletSpecification, Addressing, AlenTranslation, AleSequence, AsteValidity, AsteSequence, ExtendedAuthority, AsceType, TranslationSpecification, PageTranslation}
use Rattle.lookup.specs.declared.access.AccessKey.{AccessKey}
use Rattle.lookup.specs.declared.access.AccessAnswer.{AccessAnswer}
use Rattle.lookup.specs.declared.page.PageKey.{PageKey}
use Rattle.lookup.specs.declared.page.PageAnswer.{PageAnswer}
use Rattle.lookup.specs.declared.page.Table.{Table}
use Rattle.lookup.specs.Access.{access_limit, token_bits, entry_number, list_origin, list_length, aste_origin, authority_length, authority_byte, authority_bit, asks_authority}
use Rattle.lookup.specs.Pages.{page_limit, level_condition, index, left_of_index, table_below, table_of, outside, first_level}

-- where the tables of an access-register lookup lie, and what they hold
module _ (word : ℕ → Option ℕ) (k : AccessKey) where
  abbrev pub entry_address : ℕ
  entry_address = list_origin (value word k.designation) + 16 * entry_number k

  abbrev pub entry_one : ℕ
  entry_one = value word entry_address

  abbrev pub entry_two : ℕ
  entry_two = value word (entry_address + 8)

  abbrev pub aste_one : ℕ
  aste_one = value word (aste_origin entry_two)

  abbrev pub aste_three : ℕ
  aste_three = value word (aste_origin entry_two + 16)

  abbrev pub authority_address : ℕ
  authority_address = authority_byte k.eax aste_one / 8 * 8

  abbrev pub needs_authority : Bool
  needs_authority = asks_authority k entry_one

  -- up to the designation
  abbrev pub locate_rows : List Row
  locate_rows =
      row AletSpecification (not (token_bits 0 6 k == 0))
      ∷ row Addressing (missing access_limit word k.designation)
      ∷ row AlenTranslation (nat_lt (list_length (value word k.designation)) (entry_number k / 2 ^ 3))
      ∷ []

  -- the access-list entry
  abbrev pub entry_rows : List Row
  entry_rows =
      row Addressing (missing access_limit word entry_address)
      ∷ row AlenTranslation (bit 0 entry_one)
      ∷ row AleSequence (not (token_bits 8 15 k == bits 8 15 entry_one))
      ∷ row Addressing (missing access_limit word (entry_address + 8))
      ∷ []

  -- the ASTE
  abbrev pub aste_rows : List Row
  aste_rows =
      row Addressing (missing access_limit word (aste_origin entry_two))
      ∷ row AsteValidity (bit 0 aste_one)
      ∷ row Addressing (missing access_limit word (aste_origin entry_two + 16))
      ∷ row AsteSequence (not (bits 32 63 entry_two == bits 32 63 aste_three))
      ∷ []

  -- authority, where the entry asks for it
  abbrev pub authority_rows : List Row
  authority_rows =
      row ExtendedAuthority (needs_authority && nat_lt (authority_length aste_one) (k.eax / 2 ^ 4))
      ∷ row Addressing (needs_authority && missing access_limit word authority_address)
      ∷ row ExtendedAuthority (needs_authority && not (bit (authority_bit k.eax aste_one) (value word authority_address)))
      ∷ []

  -- and the element
  abbrev pub access_conditions : List Row
  access_conditions = locate_rows ++ (entry_rows ++ (aste_rows ++ (authority_rows ++ (row Addressing (missing access_limit word (aste_origin entry_two + 8)) ∷ []))))

  abbrev pub access_finds : AccessAnswer
  access_finds = record { asce = value word (aste_origin entry_two + 8); fetch_only = bit 6 entry_one }

module _ (word : ℕ → Option ℕ) where
  -- the entry of a table that a page number leads to
  abbrev pub entry_in : ℕ → Table → ℕ → ℕ
  entry_in level t page = value word (t.origin + 8 * index level page)

  -- the rows of one table
  abbrev pub table_rows : ℕ → Table → ℕ → List Row
  table_rows level t page =
      row (level_condition level) (outside t (index level page))
      ∷ row Addressing (missing page_limit word (t.origin + 8 * index level page))
      ∷ row (level_condition level) (bit 58 (entry_in level t page))
      ∷ row TranslationSpecification (not (bits 60 61 (entry_in level t page) == level))
      ∷ []

  abbrev pub page_address : ℕ → ℕ → ℕ
  page_address segment page = bits 0 52 segment * 2 ^ 11 + 8 * (page % 2 ^ 8)

  abbrev pub page_rows : ℕ → ℕ → List Row
  page_rows segment page =
      row Addressing (missing page_limit word (page_address segment page))
      ∷ row PageTranslation (bit 53 (value word (page_address segment page)))
      ∷ row TranslationSpecification (bit 52 (value word (page_address segment page)) || bit 55 (value word (page_address segment page)))
      ∷ []

  abbrev pub page_found : ℕ → ℕ → PageAnswer
  page_found segment page = record { frame = bits 0 51 (value word (page_address segment page)); protect = bit 54 segment || bit 54 (value word (page_address segment page)) }

  -- the rows of a table and of all below it
  abbrev pub descent_rows : ℕ → Table → Bool → ℕ → List Row
  descent_rows zero t private page = table_rows 0 t page ++ (row TranslationSpecification (bit 59 (entry_in 0 t page) && private) ∷ page_rows (entry_in 0 t page) page)
  descent_rows (suc level) t private page = table_rows (suc level) t page ++ descent_rows level (table_below (entry_in (suc level) t page)) private page

  abbrev pub descent_found : ℕ → Table → ℕ → PageAnswer
  descent_found zero t page = page_found (entry_in 0 t page) page
  descent_found (suc level) t page = descent_found level (table_below (entry_in (suc level) t page)) page

  -- a real space meets no condition
  abbrev pub page_conditions : PageKey → List Row
  page_conditions k = cond (bit 58 k.asce) [] (row AsceType (not (left_of_index (first_level k.asce) k.page == 0)) ∷ descent_rows (first_level k.asce) (table_of k.asce) (bit 55 k.asce) k.page)

  abbrev pub page_finds : PageKey → PageAnswer
  page_finds k = cond (bit 58 k.asce) (record { frame = k.page; protect = false }) (descent_found (first_level k.asce) (table_of k.asce) k.page)
