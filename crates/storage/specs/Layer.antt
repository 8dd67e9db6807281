-- What others may say of the prefix layer.
use Rattle.std.specs.Prelude.{ℕ}
use Rattle.storage.specs.declared.prefix.Prefixed.{Prefixed}

-- the prefix that it stands at
abbrev pub prefix_of : {S : Type 0} → Prefixed S → ℕ
prefix_of layer = layer.prefix
