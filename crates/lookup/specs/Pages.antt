-- The page lookup: from an address-space-control element and a page number to a frame. One line a rule.
use Rattle.std.specs.Prelude.{ℕ, zero, suc, ◌+◌, ◌*◌, ◌/◌, ◌%◌, ◌^◌, Bool, false, cond, not, ◌&&◌, ◌||◌, ◌==◌, nat_lt}
use Rattle.arch.specs.Bits.{bits, bit}
use Rattle.arch.specs.Walks.{Walk, answers, ◌>>=◌, ◌>>◌, read, check}
use Rattle.arch.specs.declared.condition.Condition.{Condition}
use Rattle.arch.specs.declared.condition.Condition.TheVariants.{AsceType, RegionFirst, RegionSecond, RegionThird, Segment, TranslationSpecification, PageTranslation}
use Rattle.lookup.specs.declared.page.PageKey.{PageKey}
use Rattle.lookup.specs.declared.page.PageAnswer.{PageAnswer}
use Rattle.lookup.specs.declared.page.Table.{Table}

-- addresses of translation tables stay below 2^64
abbrev pub page_limit : ℕ
page_limit = 2 ^ 64

-- Tables have levels: 0 segment, 1 region-third, 2 region-second, 3 region-first. A level is also the
-- table type that an entry of it, or an element that begins there, carries.
abbrev pub level_condition : ℕ → Condition
level_condition zero = Segment
level_condition (suc zero) = RegionThird
level_condition (suc (suc zero)) = RegionSecond
level_condition (suc (suc (suc n))) = RegionFirst

-- The index into a table: for a segment bits 33-43 of the address, which are 11 bits of the page number with
-- 8 bits to their right; for each level above, the next 11 bits to the left.
abbrev pub index : ℕ → ℕ → ℕ
index level page = page / 2 ^ (8 + 11 * level) % 2 ^ 11

-- the part of the page number left of the index
abbrev pub left_of_index : ℕ → ℕ → ℕ
left_of_index level page = page / 2 ^ (8 + 11 * level) / 2 ^ 11

-- the table that a region entry designates
abbrev pub table_below : ℕ → Table
table_below e = record { origin = bits 0 51 e * 2 ^ 12; offset = bits 56 57 e; length = bits 62 63 e }

-- the table that an element designates, which has no offset
abbrev pub table_of : ℕ → Table
table_of asce = record { origin = bits 0 51 asce * 2 ^ 12; offset = 0; length = bits 62 63 asce }

-- the index's first two bits lie past the length or before the offset
abbrev pub outside : Table → ℕ → Bool
outside t i = nat_lt t.length (i / 2 ^ 9) || nat_lt (i / 2 ^ 9) t.offset

-- a valid entry of the type of its table
abbrev pub valid_entry : ℕ → ℕ → Walk ℕ
valid_entry level at = do
  e ← read at
  check (level_condition level) (bit 58 e)
  check TranslationSpecification (not (bits 60 61 e == level))
  answers e

abbrev pub table_entry : ℕ → Table → ℕ → Walk ℕ
table_entry level t page = do
  check (level_condition level) (outside t (index level page))
  valid_entry level (t.origin + 8 * index level page)

-- the page entry under a segment entry: the frame, and the two protect bits joined
abbrev pub page_entry : ℕ → ℕ → Walk PageAnswer
page_entry segment page = do
  e ← read (bits 0 52 segment * 2 ^ 11 + 8 * (page % 2 ^ 8))
  check PageTranslation (bit 53 e)
  check TranslationSpecification (bit 52 e || bit 55 e)
  answers (record { frame = bits 0 51 e; protect = bit 54 segment || bit 54 e })

-- from a table of some level down to the page
abbrev pub descend : ℕ → Table → Bool → ℕ → Walk PageAnswer
descend zero t private page = do
  e ← table_entry 0 t page
  check TranslationSpecification (bit 59 e && private)
  page_entry e page
descend (suc level) t private page = do
  e ← table_entry (suc level) t page
  descend level (table_below e) private page

-- the table type of an element is the level that it begins at
abbrev pub first_level : ℕ → ℕ
first_level asce = bits 60 61 asce

abbrev pub through_tables : ℕ → ℕ → Walk PageAnswer
through_tables asce page = do
  check AsceType (not (left_of_index (first_level asce) page == 0))
  descend (first_level asce) (table_of asce) (bit 55 asce) page

-- in a real space the frame is the page, unprotected
abbrev pub page_walk : PageKey → Walk PageAnswer
page_walk k = cond (bit 58 k.asce) (answers (record { frame = k.page; protect = false })) (through_tables k.asce k.page)
