-- The worked cases of the page lookup, by computing them.
use Rattle.std.proofs.Common.{refl}
use Rattle.arch.specs.declared.condition.Condition.TheVariants.{RegionFirst, RegionSecond, RegionThird, Segment}
use Rattle.lookup.specs.PageLayouts.{ElementLayout, RegionLayout, TableTypes, SegmentLayout, PageLayout, Indexes, Lengths, Offsets, TableBounds, PageLimits}
use Rattle.lookup.specs.Lookups.{page_fresh}
use Rattle.lookup.specs.Zeros.{only}

pub element_layout : ElementLayout
unfolding page_fresh
element_layout =
    record {
      bit_0 = refl;
      bit_51 = refl;
      bit_52 = refl;
      bit_54 = refl;
      bit_55 = refl;
      bit_56 = refl;
      bit_57 = refl;
      bit_58 = refl;
      bit_59 = refl;
      type_11 = refl;
      type_10 = refl;
      type_01 = refl;
      type_00 = refl;
      type_bit_59 = refl;
      type_bit_62 = refl;
      bit_61_past = refl;
      bit_62_last = refl;
      bit_62_past = refl;
      bit_63_last = refl;
      bit_63_past = refl;
    }

pub region_layout : RegionLayout
unfolding page_fresh
region_layout =
    record {
      bit_0 = refl;
      bit_51 = refl;
      bit_52 = refl;
      bit_55 = refl;
      bit_56_before = refl;
      bit_56_first = refl;
      bit_57_before = refl;
      bit_57_first = refl;
      bit_58 = refl;
      bit_59 = refl;
      bit_61_last = refl;
      bit_61_past = refl;
      bit_62_last = refl;
      bit_62_past = refl;
      bit_63_last = refl;
      bit_63_past = refl;
    }

pub table_types : TableTypes
unfolding page_fresh
table_types =
    record {
      region_first_11 = refl;
      region_first_10 = refl;
      region_first_01 = refl;
      region_first_00 = refl;
      region_second_11 = refl;
      region_second_10 = refl;
      region_second_01 = refl;
      region_second_00 = refl;
      region_third_11 = refl;
      region_third_10 = refl;
      region_third_01 = refl;
      region_third_00 = refl;
      segment_11 = refl;
      segment_10 = refl;
      segment_01 = refl;
      segment_00 = refl;
      region_first_invalid = refl;
      region_second_invalid = refl;
      region_third_invalid = refl;
    }

pub segment_layout : SegmentLayout
unfolding page_fresh
segment_layout =
    record {
      bit_0 = refl;
      bit_52 = refl;
      bit_53 = refl;
      bit_54 = refl;
      bit_55 = refl;
      bit_57 = refl;
      bit_58 = refl;
      bit_59 = refl;
      bit_57_private = refl;
      bit_58_private = refl;
      bit_59_private = refl;
      bit_60 = refl;
      bit_61 = refl;
      bit_62 = refl;
      bit_63 = refl;
    }

pub page_layout : PageLayout
unfolding page_fresh
page_layout =
    record {
      bit_0 = refl;
      bit_51 = refl;
      bit_52 = refl;
      bit_53 = refl;
      bit_54 = refl;
      bit_55 = refl;
      bit_56 = refl;
      bit_63 = refl;
    }

pub indexes : Indexes
unfolding page_fresh
indexes =
    record {
      region_first_bit_0 = refl;
      region_first_bit_10 = refl;
      region_first_bit_11 = refl;
      region_second_bit_0 = refl;
      region_second_bit_10 = refl;
      region_second_bit_11 = refl;
      region_second_bit_21 = refl;
      region_second_bit_22 = refl;
      region_third_bit_0 = refl;
      region_third_bit_21 = refl;
      region_third_bit_22 = refl;
      region_third_bit_32 = refl;
      region_third_bit_33 = refl;
      segment_bit_0 = refl;
      segment_bit_32 = refl;
      segment_bit_33 = refl;
      segment_bit_43 = refl;
      segment_bit_44 = refl;
      page_bit_43 = refl;
      page_bit_44 = refl;
      page_bit_51 = refl;
      page_bit_52 = refl;
      all_five = refl;
    }

pub page_limits : PageLimits
unfolding page_fresh
page_limits =
    record {
      region_first_below = refl;
      region_first_at = refl;
      region_second_below = refl;
      region_second_at = refl;
      region_third_below = refl;
      region_third_at = refl;
      segment_below = refl;
      segment_at = refl;
      entry_below = refl;
      entry_at = refl;
      page_below = refl;
    }

pub region_first_bounds : Lengths 0xc (only 10) RegionFirst
unfolding page_fresh
region_first_bounds =
    record {
      length_0_last = refl;
      length_0_past = refl;
      length_1_last = refl;
      length_1_past = refl;
      length_2_last = refl;
      length_2_past = refl;
      length_3_last = refl;
    }

pub region_second_bounds : Lengths 0x8 (only 21) RegionSecond
unfolding page_fresh
region_second_bounds =
    record {
      length_0_last = refl;
      length_0_past = refl;
      length_1_last = refl;
      length_1_past = refl;
      length_2_last = refl;
      length_2_past = refl;
      length_3_last = refl;
    }

pub region_third_bounds : Lengths 0x4 (only 32) RegionThird
unfolding page_fresh
region_third_bounds =
    record {
      length_0_last = refl;
      length_0_past = refl;
      length_1_last = refl;
      length_1_past = refl;
      length_2_last = refl;
      length_2_past = refl;
      length_3_last = refl;
    }

pub segment_bounds : Lengths 0x0 (only 43) Segment
unfolding page_fresh
segment_bounds =
    record {
      length_0_last = refl;
      length_0_past = refl;
      length_1_last = refl;
      length_1_past = refl;
      length_2_last = refl;
      length_2_past = refl;
      length_3_last = refl;
    }

pub region_second_below_bounds : Offsets 0xc (only 21) RegionSecond
unfolding page_fresh
region_second_below_bounds =
    record {
      offset_0_first = refl;
      length_0_last = refl;
      length_0_past = refl;
      offset_1_before = refl;
      offset_1_first = refl;
      length_1_last = refl;
      length_1_past = refl;
      offset_2_before = refl;
      offset_2_first = refl;
      length_2_last = refl;
      length_2_past = refl;
      offset_3_before = refl;
      offset_3_first = refl;
      length_3_last = refl;
      whole_first = refl;
      whole_last = refl;
      none_before = refl;
      none_past = refl;
    }

pub region_third_below_bounds : Offsets 0x8 (only 32) RegionThird
unfolding page_fresh
region_third_below_bounds =
    record {
      offset_0_first = refl;
      length_0_last = refl;
      length_0_past = refl;
      offset_1_before = refl;
      offset_1_first = refl;
      length_1_last = refl;
      length_1_past = refl;
      offset_2_before = refl;
      offset_2_first = refl;
      length_2_last = refl;
      length_2_past = refl;
      offset_3_before = refl;
      offset_3_first = refl;
      length_3_last = refl;
      whole_first = refl;
      whole_last = refl;
      none_before = refl;
      none_past = refl;
    }

pub segment_below_bounds : Offsets 0x4 (only 43) Segment
unfolding page_fresh
segment_below_bounds =
    record {
      offset_0_first = refl;
      length_0_last = refl;
      length_0_past = refl;
      offset_1_before = refl;
      offset_1_first = refl;
      length_1_last = refl;
      length_1_past = refl;
      offset_2_before = refl;
      offset_2_first = refl;
      length_2_last = refl;
      length_2_past = refl;
      offset_3_before = refl;
      offset_3_first = refl;
      length_3_last = refl;
      whole_first = refl;
      whole_last = refl;
      none_before = refl;
      none_past = refl;
    }

pub table_bounds : TableBounds
table_bounds = record { region_first = region_first_bounds; region_second = region_second_bounds; region_third = region_third_bounds; segment = segment_bounds; region_second_below = region_second_below_bounds; region_third_below = region_third_below_bounds; segment_below = segment_below_bounds }
