-- The worked cases of translation and prefixing, by computing them.
use Rattle.std.proofs.Common.{refl}
use Rattle.lookup.specs.Lookups.{access_fresh, page_fresh}
use Rattle.machine.specs.Worked.{AddressSizes, LowAddresses, ControlRegisters, Spaces, KeyProtection, Reaches, RealAddresses, PrefixExchange}

pub address_sizes : AddressSizes
unfolding access_fresh page_fresh
address_sizes =
    record {
      bits_24_bit_39 = refl;
      bits_24_bit_40 = refl;
      bits_24_all = refl;
      bits_31_bit_32 = refl;
      bits_31_bit_33 = refl;
      bits_31_all = refl;
      bits_64_bit_0 = refl;
      bits_64_all = refl;
    }

pub low_addresses : LowAddresses
unfolding access_fresh page_fresh
low_addresses =
    record {
      first = refl;
      byte_511 = refl;
      byte_512 = refl;
      byte_4095 = refl;
      byte_4096 = refl;
      byte_4607 = refl;
      byte_4608 = refl;
      fetch_0 = refl;
      fetch_4096 = refl;
      bit_34 = refl;
      bit_36 = refl;
      cut_24 = refl;
      translated = refl;
      translated_past = refl;
    }

pub control_registers : ControlRegisters
unfolding access_fresh page_fresh
control_registers =
    record {
      control_2_bit_32 = refl;
      control_2_bit_33 = refl;
      control_2_bit_57 = refl;
      control_2_bit_58 = refl;
      control_5_bit_32 = refl;
      control_5_bit_33 = refl;
      control_5_bit_57 = refl;
      control_5_bit_58 = refl;
      token_bit_6 = refl;
      token_bit_8 = refl;
      control_2_unused = refl;
      control_5_unused = refl;
      control_8_bit_31 = refl;
      control_8_bit_32 = refl;
      control_8_bit_47 = refl;
      control_8_bit_48 = refl;
    }

pub spaces : Spaces
unfolding access_fresh page_fresh
spaces =
    record {
      dat_off = refl;
      primary = refl;
      secondary = refl;
      home = refl;
      token_0 = refl;
      token_1 = refl;
      token_2 = refl;
      register_0 = refl;
    }

pub key_protection : KeyProtection
unfolding access_fresh page_fresh
key_protection =
    record {
      match_0_fetch = refl;
      match_0_store = refl;
      mismatch_0_fetch = refl;
      mismatch_0_store = refl;
      match_1_fetch = refl;
      match_1_store = refl;
      mismatch_1_fetch = refl;
      mismatch_1_store = refl;
      beside_0_fetch = refl;
      beside_1_fetch = refl;
      zero_fetch = refl;
      zero_store = refl;
      highest_match = refl;
      highest_mismatch = refl;
      lowest_match = refl;
      lowest_mismatch = refl;
    }

pub reaches : Reaches
unfolding access_fresh page_fresh
reaches =
    record {
      before_block = refl;
      first_of_block = refl;
      last_of_block = refl;
      past_block = refl;
      before_doubleword = refl;
      first_of_doubleword = refl;
      last_of_doubleword = refl;
      past_doubleword = refl;
    }

pub real_addresses : RealAddresses
unfolding access_fresh page_fresh
real_addresses =
    record {
      frame_bit_0 = refl;
      frame_bit_51 = refl;
      byte_bit_51 = refl;
      byte_bit_52 = refl;
      byte_bit_63 = refl;
      real_space = refl;
      segment_store = refl;
      segment_fetch = refl;
      page_store = refl;
      page_fetch = refl;
      fetch_only_store = refl;
      fetch_only_fetch = refl;
    }

pub prefix_exchange : PrefixExchange
prefix_exchange =
    record {
      first = refl;
      last = refl;
      past = refl;
      before_prefix = refl;
      at_prefix = refl;
      last_at_prefix = refl;
      past_prefix = refl;
      first_key = refl;
      last_key = refl;
      past_key = refl;
      before_prefix_key = refl;
      at_prefix_key = refl;
      last_at_prefix_key = refl;
      past_prefix_key = refl;
      none = refl;
      none_past = refl;
      bit_32 = refl;
      bit_33 = refl;
      bit_50 = refl;
      bit_51 = refl;
      highest = refl;
      highest_last = refl;
      highest_past = refl;
    }
