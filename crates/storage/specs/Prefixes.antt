-- Prefixing: the 8,192 bytes at 0, and their keys, are exchanged with those at the prefix.
use Rattle.std.specs.Prelude.{◌≡◌, ℕ, ◌+◌, ◌-◌, ◌%◌, ◌^◌, Bool, cond, ◌&&◌, ◌==◌, nat_le, nat_lt}
use Rattle.storage.specs.Views.{View, block_of}

-- the bytes that are exchanged
abbrev pub area_bytes : ℕ
area_bytes = 8192

-- a prefix is a multiple of 8,192 below 2^31
abbrev pub lawful_prefix : ℕ → Bool
lawful_prefix p = p % area_bytes == 0 && nat_lt p (2 ^ 31)

-- the first n addresses exchanged with the n from p on
abbrev pub exchange : ℕ → ℕ → ℕ → ℕ
exchange n p a = cond (nat_lt a n) (a + p) (cond (nat_le p a && nat_lt a (p + n)) (a - p) a)

-- the absolute address of a real one, and the absolute block of a real one, at a prefix
abbrev pub absolute : ℕ → ℕ → ℕ
absolute p a = exchange area_bytes p a

abbrev pub absolute_block : ℕ → ℕ → ℕ
absolute_block p b = exchange (block_of area_bytes) (block_of p) b

abbrev pub prefixed : ℕ → View → View
prefixed p v = record { word = λ a. v.word (absolute p a); key = λ b. v.key (absolute_block p b) }

-- exchanged twice an address is itself again, and blocks stay whole: the block of an absolute
-- address is the absolute block
pub record Exchanges (p : ℕ) : Type 0 where
  pub twice : (a : ℕ) → absolute p (absolute p a) ≡ a
  pub whole : (a : ℕ) → absolute_block p (block_of a) ≡ block_of (absolute p a)
