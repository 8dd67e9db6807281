use Rattle.std.proofs.Common.{refl}
use Rattle.lookup.proofs.worked.worked_cases.Goals as goal

pub returns : goal.returns
unfolding Rattle.lookup.specs.Lookups.page_fresh Rattle.lookup.specs.Lookups.access_fresh
returns c =
    record {
      count = refl;
      hold = record {
        last_quarter = refl;
        past_length = (refl, refl);
        invalid_page = refl;
        reserved_page = refl;
        common_segment = refl;
        private_space = refl;
        before_offset = (refl, refl);
        from_offset = refl;
        last_entry = refl;
        past_list = (refl, refl);
      };
    }
