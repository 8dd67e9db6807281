-- What a storage means.
use Rattle.std.specs.Prelude.{◌≡◌, ℕ, ◌/◌, ◌<◌, true, cond, is_some, Some, Ok, Err, Option, Result, ◌==◌}
use Rattle.arch.specs.declared.condition.Condition.{Condition}
use Rattle.arch.specs.declared.condition.Condition.TheVariants.{Addressing}

-- the value of the doubleword at each address, None where it is absent; the key of each block of 4,096
-- bytes, by its number, None where it has none
pub record View : Type 0 where
  pub word : ℕ → Option ℕ
  pub key : ℕ → Option ℕ

-- the block that an address lies in
abbrev pub block_of : ℕ → ℕ
block_of a = a / 4096

-- a present doubleword's block has a key, and every key is 0 to 1f
pub record Keyed (v : View) : Type 0 where
  pub present : (a x : ℕ) → v.word a ≡ Some x → is_some (v.key (block_of a)) ≡ true
  pub in_range : (b k : ℕ) → v.key b ≡ Some k → k < 32

-- one value set, all else as it was
abbrev pub stored : View → ℕ → ℕ → View
stored v a x = record { word = λ b. cond (b == a) (Some x) (v.word b); key = v.key }

-- a put sets the value of a present doubleword, and leaves the storage where it is absent
abbrev pub after_put : View → ℕ → ℕ → View
after_put v a x = cond (is_some (v.word a)) (stored v a x) v

abbrev pub put_result : View → ℕ → Result (Unit {0}) Condition
put_result v a = cond (is_some (v.word a)) (Ok tt) (Err Addressing)
