use Rattle.std.proofs.Common.{refl}
use Rattle.lookup.proofs.AccessLayouts.{token_layout, designation_layout, entry_layout, second_layout, aste_layout, authority_layout, access_limits}
use Rattle.lookup.proofs.PageLayouts.{element_layout, region_layout, table_types, segment_layout, page_layout, indexes, table_bounds, page_limits}
use Rattle.lookup.proofs.worked.worked_layouts.Goals as goal

pub returns : goal.returns
returns c =
    record {
      count = refl;
      hold = record {
        bit_numbers = record { bit_0 = refl; bit_31 = refl; bit_32 = refl; bit_63 = refl };
        token = token_layout;
        designation = designation_layout;
        entry = entry_layout;
        second = second_layout;
        aste = aste_layout;
        authority = authority_layout;
        access_limits = access_limits;
        element = element_layout;
        region = region_layout;
        types = table_types;
        segment = segment_layout;
        page = page_layout;
        indexes = indexes;
        bounds = table_bounds;
        page_limits = page_limits;
      };
    }
