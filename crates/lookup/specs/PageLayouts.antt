-- Worked cases of the layouts of the page lookup: each boundary of each field from both sides, the length and the offset
-- of each type of table at their bounds, and each index. What comes out is what the z/Architecture Principles of
-- Operation say of these bits.
use Rattle.std.specs.Prelude.{◌≡◌, ℕ, ◌+◌, ◌*◌, ◌/◌, true, false, List, [], ◌∷◌}
use Rattle.arch.specs.Walks.{Traced}
use Rattle.arch.specs.declared.condition.Condition.{Condition}
use Rattle.arch.specs.declared.condition.Condition.TheVariants.{Addressing, AsceType, RegionFirst, RegionSecond, RegionThird, Segment, PageTranslation, TranslationSpecification}
use Rattle.lookup.specs.declared.page.PageAnswer.{PageAnswer}
use Rattle.lookup.specs.Lookups.{page_fresh}
use Rattle.lookup.specs.Worked.{paged}
use Rattle.lookup.specs.Zeros.{only, zeros_but, completed, recognized}

-- the lookup of an address under an element, in a storage of zeros but for these doublewords
abbrev pub through : List (ℕ × ℕ) → ℕ → ℕ → Traced PageAnswer
through ws asce address = page_fresh (zeros_but ws) (record { asce = asce; page = address / 4096 })

-- a frame found, unprotected and protected
abbrev pub frame : ℕ → PageAnswer
frame number = record { frame = number; protect = false }

abbrev pub protected : ℕ → PageAnswer
protected number = record { frame = number; protect = true }

-- a segment-table entry at 8 with the common-segment bit one
abbrev pub common : List (ℕ × ℕ)
common = (8, only 59) ∷ []

-- an entry at 0 with bit 58 one, which is invalid in every region table and segment table
abbrev pub invalid : List (ℕ × ℕ)
invalid = (0, only 58) ∷ []

-- The address-space-control element. Address 103000 has segment index 1 and page index 3.
pub record ElementLayout : Type 0 where
  -- bits 0-51, with 12 zeros appended, are the origin
  pub bit_0 : through [] (only 0) 0x103000 ≡ completed (frame 0) (0x8000000000000008 ∷ 0x18 ∷ [])
  pub bit_51 : through [] (only 51) 0x103000 ≡ completed (frame 0) (0x1008 ∷ 0x18 ∷ [])
  -- bits 52 and 53 are ignored
  pub bit_52 : through [] (only 52) 0x103000 ≡ completed (frame 0) (8 ∷ 0x18 ∷ [])
  -- bit 55 is the private-space control, under which the common-segment bit must be zero; 54 and 56 are not
  pub bit_54 : through common (only 54) 0x103000 ≡ completed (frame 0) (8 ∷ 0x18 ∷ [])
  pub bit_55 : through common (only 55) 0x103000 ≡ recognized TranslationSpecification (8 ∷ [])
  pub bit_56 : through common (only 56) 0x103000 ≡ completed (frame 0) (8 ∷ 0x18 ∷ [])
  -- bit 58 is the real-space control; 57 and 59 are not
  pub bit_57 : through [] (only 57) 0x103000 ≡ completed (frame 0) (8 ∷ 0x18 ∷ [])
  pub bit_58 : through [] (only 58) 0x103000 ≡ completed (frame 0x103) []
  pub bit_59 : through [] (only 59) 0x103000 ≡ completed (frame 0) (8 ∷ 0x18 ∷ [])
  -- bits 60 and 61: 11 region-first table, 10 region-second, 01 region-third, 00 segment; 59 and 62 are not of them
  pub type_11 : through invalid 0xc 0 ≡ recognized RegionFirst (0 ∷ [])
  pub type_10 : through invalid (only 60) 0 ≡ recognized RegionSecond (0 ∷ [])
  pub type_01 : through invalid (only 61) 0 ≡ recognized RegionThird (0 ∷ [])
  pub type_00 : through invalid 0 0 ≡ recognized Segment (0 ∷ [])
  pub type_bit_59 : through invalid (only 59) 0 ≡ recognized Segment (0 ∷ [])
  pub type_bit_62 : through invalid (only 62) 0 ≡ recognized Segment (0 ∷ [])
  -- bits 62 and 63 are the length, in units of 512 entries; it is one more than their value; 61 is not of them
  pub bit_61_past : through [] (only 61) (0x200 * only 32) ≡ recognized RegionThird []
  pub bit_62_last : through [] (only 62) (0x5ff * only 43) ≡ completed (frame 0) (0x2ff8 ∷ 0 ∷ [])
  pub bit_62_past : through [] (only 62) (0x600 * only 43) ≡ recognized Segment []
  pub bit_63_last : through [] (only 63) (0x3ff * only 43) ≡ completed (frame 0) (0x1ff8 ∷ 0 ∷ [])
  pub bit_63_past : through [] (only 63) (0x400 * only 43) ≡ recognized Segment []

-- a lookup by a region-third-table entry of region 0
abbrev pub by_region : ℕ → ℕ → Traced PageAnswer
by_region entry address = through ((0, entry) ∷ []) (only 61) address

-- an address by its segment index, with page index 3
abbrev pub in_segment : ℕ → ℕ
in_segment index = index * only 43 + 0x3000

-- A region-table entry, here of the region-third table: bit 61 is always one.
pub record RegionLayout : Type 0 where
  -- bits 0-51, with 12 zeros appended, are the origin of the next-lower-level table
  pub bit_0 : by_region (only 0 + only 61) (in_segment 1) ≡ completed (frame 0) (0 ∷ 0x8000000000000008 ∷ 0x18 ∷ [])
  pub bit_51 : by_region (only 51 + only 61) (in_segment 1) ≡ completed (frame 0) (0 ∷ 0x1008 ∷ 0x18 ∷ [])
  pub bit_52 : by_region (only 52 + only 61) (in_segment 1) ≡ completed (frame 0) (0 ∷ 8 ∷ 0x18 ∷ [])
  -- bits 56 and 57 are the offset, the missing portion in units of 512 entries; 55 is not of them
  pub bit_55 : by_region (only 55 + only 61) (in_segment 1) ≡ completed (frame 0) (0 ∷ 8 ∷ 0x18 ∷ [])
  pub bit_56_before : by_region (only 56 + 0x7) (in_segment 0x3ff) ≡ recognized Segment (0 ∷ [])
  pub bit_56_first : by_region (only 56 + 0x7) (in_segment 0x400) ≡ completed (frame 0) (0 ∷ 0x2000 ∷ 0x18 ∷ [])
  pub bit_57_before : by_region (only 57 + 0x7) (in_segment 0x1ff) ≡ recognized Segment (0 ∷ [])
  pub bit_57_first : by_region (only 57 + 0x7) (in_segment 0x200) ≡ completed (frame 0) (0 ∷ 0x1000 ∷ 0x18 ∷ [])
  -- bit 58 is the region-invalid bit; 59 is not
  pub bit_58 : by_region (only 58 + only 61) (in_segment 1) ≡ recognized RegionThird (0 ∷ [])
  pub bit_59 : by_region (only 59 + only 61) (in_segment 1) ≡ completed (frame 0) (0 ∷ 8 ∷ 0x18 ∷ [])
  -- bits 62 and 63 are the length, in units of 512 entries; it is one more than their value; 61 is not of them
  pub bit_61_last : by_region (only 61) (in_segment 0x1ff) ≡ completed (frame 0) (0 ∷ 0xff8 ∷ 0x18 ∷ [])
  pub bit_61_past : by_region (only 61) (in_segment 0x200) ≡ recognized Segment (0 ∷ [])
  pub bit_62_last : by_region (only 61 + only 62) (in_segment 0x5ff) ≡ completed (frame 0) (0 ∷ 0x2ff8 ∷ 0x18 ∷ [])
  pub bit_62_past : by_region (only 61 + only 62) (in_segment 0x600) ≡ recognized Segment (0 ∷ [])
  pub bit_63_last : by_region (only 61 + only 63) (in_segment 0x3ff) ≡ completed (frame 0) (0 ∷ 0x1ff8 ∷ 0x18 ∷ [])
  pub bit_63_past : by_region (only 61 + only 63) (in_segment 0x400) ≡ recognized Segment (0 ∷ [])

-- Bits 60 and 61 of an entry must identify its table's level: 11 region-first, 10 region-second, 01 region-third, 00
-- segment. The tables are at 0, those of the level below too, and the entry there is 8 with bits 60 and 61 zero.
pub record TableTypes : Type 0 where
  pub region_first_11 : through ((0, 0xc) ∷ []) 0xc (only 21) ≡ recognized TranslationSpecification (0 ∷ 8 ∷ [])
  pub region_first_10 : through ((0, 0x8) ∷ []) 0xc (only 21) ≡ recognized TranslationSpecification (0 ∷ [])
  pub region_first_01 : through ((0, 0x4) ∷ []) 0xc (only 21) ≡ recognized TranslationSpecification (0 ∷ [])
  pub region_first_00 : through [] 0xc (only 21) ≡ recognized TranslationSpecification (0 ∷ [])
  pub region_second_11 : through ((0, 0xc) ∷ []) 0x8 (only 32) ≡ recognized TranslationSpecification (0 ∷ [])
  pub region_second_10 : through ((0, 0x8) ∷ []) 0x8 (only 32) ≡ recognized TranslationSpecification (0 ∷ 8 ∷ [])
  pub region_second_01 : through ((0, 0x4) ∷ []) 0x8 (only 32) ≡ recognized TranslationSpecification (0 ∷ [])
  pub region_second_00 : through [] 0x8 (only 32) ≡ recognized TranslationSpecification (0 ∷ [])
  pub region_third_11 : through ((0, 0xc) ∷ []) 0x4 (in_segment 1) ≡ recognized TranslationSpecification (0 ∷ [])
  pub region_third_10 : through ((0, 0x8) ∷ []) 0x4 (in_segment 1) ≡ recognized TranslationSpecification (0 ∷ [])
  pub region_third_01 : through ((0, 0x4) ∷ []) 0x4 (in_segment 1) ≡ completed (frame 0) (0 ∷ 8 ∷ 0x18 ∷ [])
  pub region_third_00 : through [] 0x4 (in_segment 1) ≡ recognized TranslationSpecification (0 ∷ [])
  pub segment_11 : through ((0, 0xc) ∷ []) 0 (in_segment 0) ≡ recognized TranslationSpecification (0 ∷ [])
  pub segment_10 : through ((0, 0x8) ∷ []) 0 (in_segment 0) ≡ recognized TranslationSpecification (0 ∷ [])
  pub segment_01 : through ((0, 0x4) ∷ []) 0 (in_segment 0) ≡ recognized TranslationSpecification (0 ∷ [])
  pub segment_00 : through [] 0 (in_segment 0) ≡ completed (frame 0) (0 ∷ 0x18 ∷ [])
  -- bit 58 of an entry of each level
  pub region_first_invalid : through ((0, only 58) ∷ []) 0xc 0 ≡ recognized RegionFirst (0 ∷ [])
  pub region_second_invalid : through ((0, only 58) ∷ []) 0x8 0 ≡ recognized RegionSecond (0 ∷ [])
  pub region_third_invalid : through ((0, only 58) ∷ []) 0x4 0 ≡ recognized RegionThird (0 ∷ [])

-- a lookup by a segment-table entry at 8, under an element with its table at 0
abbrev pub by_segment : ℕ → ℕ → Traced PageAnswer
by_segment entry asce = through ((8, entry) ∷ []) asce 0x103000

-- The segment-table entry. Element 100 has the private-space control one.
pub record SegmentLayout : Type 0 where
  -- bits 0-52, with 11 zeros appended, are the page-table origin
  pub bit_0 : by_segment (only 0) 0 ≡ completed (frame 0) (8 ∷ 0x8000000000000018 ∷ [])
  pub bit_52 : by_segment (only 52) 0 ≡ completed (frame 0) (8 ∷ 0x818 ∷ [])
  pub bit_53 : by_segment (only 53) 0 ≡ completed (frame 0) (8 ∷ 0x18 ∷ [])
  -- bit 54 is the page-protection bit; 55 is not, nor 53
  pub bit_54 : by_segment (only 54) 0 ≡ completed (protected 0) (8 ∷ 0x18 ∷ [])
  pub bit_55 : by_segment (only 55) 0 ≡ completed (frame 0) (8 ∷ 0x18 ∷ [])
  -- bit 58 is the segment-invalid bit; 57 and 59 are not
  pub bit_57 : by_segment (only 57) 0 ≡ completed (frame 0) (8 ∷ 0x18 ∷ [])
  pub bit_58 : by_segment (only 58) 0 ≡ recognized Segment (8 ∷ [])
  pub bit_59 : by_segment (only 59) 0 ≡ completed (frame 0) (8 ∷ 0x18 ∷ [])
  -- bit 59, the common-segment bit, must be zero in a private space
  pub bit_57_private : by_segment (only 57) 0x100 ≡ completed (frame 0) (8 ∷ 0x18 ∷ [])
  pub bit_58_private : by_segment (only 58) 0x100 ≡ recognized Segment (8 ∷ [])
  pub bit_59_private : by_segment (only 59) 0x100 ≡ recognized TranslationSpecification (8 ∷ [])
  -- bits 60 and 61 are 00
  pub bit_60 : by_segment (only 60) 0 ≡ recognized TranslationSpecification (8 ∷ [])
  pub bit_61 : by_segment (only 61) 0 ≡ recognized TranslationSpecification (8 ∷ [])
  -- bits 62 and 63 are reserved
  pub bit_62 : by_segment (only 62) 0 ≡ completed (frame 0) (8 ∷ 0x18 ∷ [])
  pub bit_63 : by_segment (only 63) 0 ≡ completed (frame 0) (8 ∷ 0x18 ∷ [])

-- a lookup by a page-table entry at 18
abbrev pub by_page_entry : ℕ → Traced PageAnswer
by_page_entry entry = through ((0x18, entry) ∷ []) 0 0x103000

-- the page-table entry
pub record PageLayout : Type 0 where
  -- bits 0-51 are the leftmost bits of the real address
  pub bit_0 : by_page_entry (only 0) ≡ completed (frame 0x8000000000000) (8 ∷ 0x18 ∷ [])
  pub bit_51 : by_page_entry (only 51) ≡ completed (frame 1) (8 ∷ 0x18 ∷ [])
  -- bits 52 and 55 must be zeros
  pub bit_52 : by_page_entry (only 52) ≡ recognized TranslationSpecification (8 ∷ 0x18 ∷ [])
  -- bit 53 is the page-invalid bit
  pub bit_53 : by_page_entry (only 53) ≡ recognized PageTranslation (8 ∷ 0x18 ∷ [])
  -- bit 54 is the page-protection bit
  pub bit_54 : by_page_entry (only 54) ≡ completed (protected 0) (8 ∷ 0x18 ∷ [])
  pub bit_55 : by_page_entry (only 55) ≡ recognized TranslationSpecification (8 ∷ 0x18 ∷ [])
  -- bits 56-63 are ignored
  pub bit_56 : by_page_entry (only 56) ≡ completed (frame 0) (8 ∷ 0x18 ∷ [])
  pub bit_63 : by_page_entry (only 63) ≡ completed (frame 0) (8 ∷ 0x18 ∷ [])

-- tables of all five kinds, with an entry in each
abbrev pub five_tables : List (ℕ × ℕ)
five_tables = (0x10008, 0x2000c) ∷ (0x20010, 0x30008) ∷ (0x30018, 0x40004) ∷ (0x40020, 0x50000) ∷ (0x50028, 0x60000) ∷ []

-- The indexes in a virtual address. Each table is at 0 and of length 3, its longest, and its storage is empty, so that
-- the first read is the last.
pub record Indexes : Type 0 where
  -- the region first index is bits 0-10
  pub region_first_bit_0 : paged [] 0xf (only 0) ≡ recognized Addressing (0x2000 ∷ [])
  pub region_first_bit_10 : paged [] 0xf (only 10) ≡ recognized Addressing (8 ∷ [])
  pub region_first_bit_11 : paged [] 0xf (only 11) ≡ recognized Addressing (0 ∷ [])
  -- the region second index is bits 11-21, and bits 0-10 are required to be zeros
  pub region_second_bit_0 : paged [] 0xb (only 0) ≡ recognized AsceType []
  pub region_second_bit_10 : paged [] 0xb (only 10) ≡ recognized AsceType []
  pub region_second_bit_11 : paged [] 0xb (only 11) ≡ recognized Addressing (0x2000 ∷ [])
  pub region_second_bit_21 : paged [] 0xb (only 21) ≡ recognized Addressing (8 ∷ [])
  pub region_second_bit_22 : paged [] 0xb (only 22) ≡ recognized Addressing (0 ∷ [])
  -- the region third index is bits 22-32, and bits 0-21 are required to be zeros
  pub region_third_bit_0 : paged [] 0x7 (only 0) ≡ recognized AsceType []
  pub region_third_bit_21 : paged [] 0x7 (only 21) ≡ recognized AsceType []
  pub region_third_bit_22 : paged [] 0x7 (only 22) ≡ recognized Addressing (0x2000 ∷ [])
  pub region_third_bit_32 : paged [] 0x7 (only 32) ≡ recognized Addressing (8 ∷ [])
  pub region_third_bit_33 : paged [] 0x7 (only 33) ≡ recognized Addressing (0 ∷ [])
  -- the segment index is bits 33-43, and bits 0-32 are required to be zeros
  pub segment_bit_0 : paged [] 0x3 (only 0) ≡ recognized AsceType []
  pub segment_bit_32 : paged [] 0x3 (only 32) ≡ recognized AsceType []
  pub segment_bit_33 : paged [] 0x3 (only 33) ≡ recognized Addressing (0x2000 ∷ [])
  pub segment_bit_43 : paged [] 0x3 (only 43) ≡ recognized Addressing (8 ∷ [])
  pub segment_bit_44 : paged [] 0x3 (only 44) ≡ recognized Addressing (0 ∷ [])
  -- the page index is bits 44-51
  pub page_bit_43 : through [] 0 (only 43) ≡ completed (frame 0) (8 ∷ 0 ∷ [])
  pub page_bit_44 : through [] 0 (only 44) ≡ completed (frame 0) (0 ∷ 0x400 ∷ [])
  pub page_bit_51 : through [] 0 (only 51) ≡ completed (frame 0) (0 ∷ 8 ∷ [])
  pub page_bit_52 : through [] 0 (only 52) ≡ completed (frame 0) (0 ∷ 0 ∷ [])
  -- all five, 1 to 5, from a region-first table at 10000 to frame 60
  pub all_five : through five_tables 0x1000c (only 10 + 2 * only 21 + 3 * only 32 + 4 * only 43 + 5 * only 51) ≡ completed (frame 0x60) (0x10008 ∷ 0x20010 ∷ 0x30018 ∷ 0x40020 ∷ 0x50028 ∷ [])

-- A table at 0 that an element designates, the last bit of its index counting so much, with each length. Its storage
-- is empty, so that the first read is the last.
pub record Lengths (asce index_bit : ℕ) (past : Condition) : Type 0 where
  pub length_0_last : paged [] asce (0x1ff * index_bit) ≡ recognized Addressing (0xff8 ∷ [])
  pub length_0_past : paged [] asce (0x200 * index_bit) ≡ recognized past []
  pub length_1_last : paged [] (asce + 1) (0x3ff * index_bit) ≡ recognized Addressing (0x1ff8 ∷ [])
  pub length_1_past : paged [] (asce + 1) (0x400 * index_bit) ≡ recognized past []
  pub length_2_last : paged [] (asce + 2) (0x5ff * index_bit) ≡ recognized Addressing (0x2ff8 ∷ [])
  pub length_2_past : paged [] (asce + 2) (0x600 * index_bit) ≡ recognized past []
  pub length_3_last : paged [] (asce + 3) (0x7ff * index_bit) ≡ recognized Addressing (0x3ff8 ∷ [])

-- A lookup by a region-table entry at 0, in an otherwise empty storage. The entry designates a table at 10000.
abbrev pub designates : ℕ → ℕ → ℕ → Traced PageAnswer
designates asce entry address = paged ((0, 0x10000 + entry) ∷ []) asce address

-- Such a table, the last bit of its index counting so much, with offsets and lengths at their bounds. The type bits
-- of the entry are those of the element.
pub record Offsets (asce index_bit : ℕ) (absent : Condition) : Type 0 where
  -- offset 0 and length 0
  pub offset_0_first : designates asce asce 0 ≡ recognized Addressing (0 ∷ 0x10000 ∷ [])
  pub length_0_last : designates asce asce (0x1ff * index_bit) ≡ recognized Addressing (0 ∷ 0x10ff8 ∷ [])
  pub length_0_past : designates asce asce (0x200 * index_bit) ≡ recognized absent (0 ∷ [])
  -- offset 1 and length 1
  pub offset_1_before : designates asce (asce + 0x41) (0x1ff * index_bit) ≡ recognized absent (0 ∷ [])
  pub offset_1_first : designates asce (asce + 0x41) (0x200 * index_bit) ≡ recognized Addressing (0 ∷ 0x11000 ∷ [])
  pub length_1_last : designates asce (asce + 0x41) (0x3ff * index_bit) ≡ recognized Addressing (0 ∷ 0x11ff8 ∷ [])
  pub length_1_past : designates asce (asce + 0x41) (0x400 * index_bit) ≡ recognized absent (0 ∷ [])
  -- offset 2 and length 2
  pub offset_2_before : designates asce (asce + 0x82) (0x3ff * index_bit) ≡ recognized absent (0 ∷ [])
  pub offset_2_first : designates asce (asce + 0x82) (0x400 * index_bit) ≡ recognized Addressing (0 ∷ 0x12000 ∷ [])
  pub length_2_last : designates asce (asce + 0x82) (0x5ff * index_bit) ≡ recognized Addressing (0 ∷ 0x12ff8 ∷ [])
  pub length_2_past : designates asce (asce + 0x82) (0x600 * index_bit) ≡ recognized absent (0 ∷ [])
  -- offset 3 and length 3
  pub offset_3_before : designates asce (asce + 0xc3) (0x5ff * index_bit) ≡ recognized absent (0 ∷ [])
  pub offset_3_first : designates asce (asce + 0xc3) (0x600 * index_bit) ≡ recognized Addressing (0 ∷ 0x13000 ∷ [])
  pub length_3_last : designates asce (asce + 0xc3) (0x7ff * index_bit) ≡ recognized Addressing (0 ∷ 0x13ff8 ∷ [])
  -- the whole table, and one with offset 2 and length 1, of which nothing is there
  pub whole_first : designates asce (asce + 0x03) 0 ≡ recognized Addressing (0 ∷ 0x10000 ∷ [])
  pub whole_last : designates asce (asce + 0x03) (0x7ff * index_bit) ≡ recognized Addressing (0 ∷ 0x13ff8 ∷ [])
  pub none_before : designates asce (asce + 0x81) (0x3ff * index_bit) ≡ recognized absent (0 ∷ [])
  pub none_past : designates asce (asce + 0x81) (0x400 * index_bit) ≡ recognized absent (0 ∷ [])

-- each type of table with lengths and offsets; an element designates all four, a region-table entry the lower three
pub record TableBounds : Type 0 where
  pub region_first : Lengths 0xc (only 10) RegionFirst
  pub region_second : Lengths 0x8 (only 21) RegionSecond
  pub region_third : Lengths 0x4 (only 32) RegionThird
  pub segment : Lengths 0x0 (only 43) Segment
  pub region_second_below : Offsets 0xc (only 21) RegionSecond
  pub region_third_below : Offsets 0x8 (only 32) RegionThird
  pub segment_below : Offsets 0x4 (only 43) Segment

-- the limit 2^64 of an address: the last doubleword below it is read, the one at it is not
pub record PageLimits : Type 0 where
  -- the last table, of length 1, of each type
  pub region_first_below : paged [] 0xfffffffffffff00d (0x1ff * only 10) ≡ recognized Addressing (0xfffffffffffffff8 ∷ [])
  pub region_first_at : paged [] 0xfffffffffffff00d (0x200 * only 10) ≡ recognized Addressing []
  pub region_second_below : paged [] 0xfffffffffffff009 (0x1ff * only 21) ≡ recognized Addressing (0xfffffffffffffff8 ∷ [])
  pub region_second_at : paged [] 0xfffffffffffff009 (0x200 * only 21) ≡ recognized Addressing []
  pub region_third_below : paged [] 0xfffffffffffff005 (0x1ff * only 32) ≡ recognized Addressing (0xfffffffffffffff8 ∷ [])
  pub region_third_at : paged [] 0xfffffffffffff005 (0x200 * only 32) ≡ recognized Addressing []
  pub segment_below : paged [] 0xfffffffffffff001 (0x1ff * only 43) ≡ recognized Addressing (0xfffffffffffffff8 ∷ [])
  pub segment_at : paged [] 0xfffffffffffff001 (0x200 * only 43) ≡ recognized Addressing []
  -- the same by a region-table entry
  pub entry_below : by_region 0xfffffffffffff005 (in_segment 0x1ff) ≡ completed (frame 0) (0 ∷ 0xfffffffffffffff8 ∷ 0x18 ∷ [])
  pub entry_at : by_region 0xfffffffffffff005 (in_segment 0x200) ≡ recognized Addressing (0 ∷ [])
  -- the last page table, which ends at the limit
  pub page_below : through ((0, 0xfffffffffffff800) ∷ []) 0 0xff000 ≡ completed (frame 0) (0 ∷ 0xfffffffffffffff8 ∷ [])
