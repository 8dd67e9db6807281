-- What a sparse storage means: the first record that matches counts, and a doubleword needs both a value
-- and a block with a key.
use Rattle.std.specs.Prelude.{ℕ, cond, List, [], ◌∷◌, Some, None, Option, nat_eq, nat_lt, find, is_some}
use Rattle.std.specs.Option.{option_map}
use Rattle.arch.specs.declared.record.Word.{Word}
use Rattle.arch.specs.declared.record.BlockKey.{BlockKey}
use Rattle.storage.specs.Views.{View, block_of}

-- the value of the first record of an address
abbrev pub value_at : List Word → ℕ → Option ℕ
value_at ws a = option_map (λ w. w.value) (find (λ w. nat_eq w.address a) ws)

-- a key above 1f counts as none
abbrev pub lawful_key : Option BlockKey → Option ℕ
lawful_key None = None
lawful_key (Some k) = cond (nat_lt k.key 32) (Some k.key) None

-- the key of the first record of a block
abbrev pub key_at : List BlockKey → ℕ → Option ℕ
key_at ks b = lawful_key (find (λ k. nat_eq k.block b) ks)

abbrev pub only_with : {A : Type 0} → Option ℕ → Option A → Option A
only_with None v = None
only_with (Some k) v = v

abbrev pub sparse_view : List Word → List BlockKey → View
sparse_view ws ks = record { word = λ a. only_with (key_at ks (block_of a)) (value_at ws a); key = key_at ks }

-- the first record of an address with another value, and every other record as it was
abbrev pub with_value : List Word → ℕ → ℕ → List Word
with_value [] a x = []
with_value (w ∷ ws) a x = cond (nat_eq w.address a) (record w { value = x } ∷ ws) (w ∷ with_value ws a x)

-- the records after a put
abbrev pub words_after : List Word → List BlockKey → ℕ → ℕ → List Word
words_after ws ks a x = cond (is_some ((sparse_view ws ks).word a)) (with_value ws a x) ws
