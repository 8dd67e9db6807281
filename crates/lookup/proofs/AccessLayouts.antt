-- The worked cases of the access-register lookup, by computing them.
use Rattle.std.proofs.Common.{refl}
use Rattle.lookup.specs.AccessLayouts.{TokenLayout, DesignationLayout, EntryLayout, SecondLayout, AsteLayout, AuthorityLayout, AccessLimits}
use Rattle.lookup.specs.Lookups.{access_fresh}

pub token_layout : TokenLayout
unfolding access_fresh
token_layout =
    record {
      bit_0 = refl;
      bit_6 = refl;
      bit_7 = refl;
      bit_8 = refl;
      bit_8_equal = refl;
      bit_15 = refl;
      bit_15_equal = refl;
      bit_16 = refl;
      bit_21 = refl;
      bit_22 = refl;
      bit_31 = refl;
      bit_28 = refl;
      bit_29 = refl;
    }

pub designation_layout : DesignationLayout
unfolding access_fresh
designation_layout =
    record {
      bit_0 = refl;
      bit_1 = refl;
      bit_24 = refl;
      bit_24_length = refl;
      bit_25_origin = refl;
      bit_25_last = refl;
      bit_25_past = refl;
      bit_31_last = refl;
      bit_31_past = refl;
      bit_32_last = refl;
      bit_32_past = refl;
      longest_last = refl;
      longest_past = refl;
    }

pub entry_layout : EntryLayout
unfolding access_fresh
entry_layout =
    record {
      bit_0 = refl;
      bit_1 = refl;
      bit_5 = refl;
      bit_6 = refl;
      bit_7 = refl;
      bit_7_equal = refl;
      bit_8 = refl;
      bit_8_equal = refl;
      bit_15 = refl;
      bit_15_equal = refl;
      bit_15_private = refl;
      bit_16 = refl;
      bit_16_equal = refl;
      bit_31 = refl;
      bit_31_equal = refl;
      bit_32 = refl;
      bit_63 = refl;
    }

pub second_layout : SecondLayout
unfolding access_fresh
second_layout =
    record {
      bit_64 = refl;
      bit_65 = refl;
      bit_89 = refl;
      bit_90 = refl;
      bit_95 = refl;
      bit_96 = refl;
      bit_96_equal = refl;
      bit_127 = refl;
      bit_127_equal = refl;
    }

pub aste_layout : AsteLayout
unfolding access_fresh
aste_layout =
    record {
      bit_0 = refl;
      bit_1 = refl;
      bit_29 = refl;
      bit_30 = refl;
      bit_31 = refl;
      bit_32 = refl;
      bit_47 = refl;
      bit_48_last = refl;
      bit_48_past = refl;
      bit_59_last = refl;
      bit_59_past = refl;
      bit_60_last = refl;
      bit_60_past = refl;
      longest_last = refl;
      bit_64 = refl;
      bit_127 = refl;
      bit_159 = refl;
      bit_160 = refl;
      bit_191 = refl;
    }

pub authority_layout : AuthorityLayout
unfolding access_fresh
authority_layout =
    record {
      index_0 = refl;
      index_0_else = refl;
      index_1 = refl;
      index_1_else = refl;
      index_2 = refl;
      index_2_else = refl;
      index_3 = refl;
      index_3_else = refl;
      index_4 = refl;
      index_4_else = refl;
      index_1f = refl;
      index_1f_else = refl;
      index_20 = refl;
      index_20_else = refl;
    }

pub access_limits : AccessLimits
unfolding access_fresh
access_limits =
    record {
      designation_below = refl;
      designation_at = refl;
      entry_below = refl;
      entry_at = refl;
      aste_below = refl;
      authority_below = refl;
      authority_at = refl;
    }
