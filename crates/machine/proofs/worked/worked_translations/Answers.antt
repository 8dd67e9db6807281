use Rattle.std.proofs.Common.{refl}
use Rattle.machine.proofs.Cases.{address_sizes, low_addresses, control_registers, spaces, key_protection, reaches, real_addresses, prefix_exchange}
use Rattle.machine.proofs.worked.worked_translations.Goals as goal

pub returns : goal.returns
returns c =
    record {
      count = refl;
      hold = record {
        sizes = address_sizes;
        low_addresses = low_addresses;
        control_registers = control_registers;
        spaces = spaces;
        key_protection = key_protection;
        reaches = reaches;
        real_addresses = real_addresses;
        prefix_exchange = prefix_exchange;
      };
    }
