-- One changed record of a sparse storage is one changed doubleword of what it means.
use Rattle.std.proofs.Common.{◌≡◌, ℕ, ◌<◌, ◌≤◌, Bool, true, false, cond, eqb, ltb, List, [], ◌∷◌, length, get_or, set, slice_index_or, slice_set, is_some, Some, None, Ok, Err, Option, Result, refl, arith}
use Rattle.std.specs.List.{position_or_len}
use Rattle.std.proofs.lemmas.Bool.Decides.{nat_tests}
use mathlib.Core.Path.{fun_ext}
use Rattle.std.specs.Option.{option_map}
use Rattle.arch.specs.declared.record.Word.{Word}
use Rattle.arch.specs.declared.record.BlockKey.{BlockKey}
use Rattle.arch.specs.declared.condition.Condition.{Condition}
use Rattle.arch.specs.declared.condition.Condition.TheVariants.{Addressing}
use Rattle.storage.specs.Views.{block_of, stored, after_put}
use Rattle.storage.specs.Records.{value_at, key_at, only_with, sparse_view, with_value, words_after}

abbrev none : Word
none = record { address = 0; value = 0 }

abbrev place : List Word → ℕ → ℕ
place ws a = position_or_len (λ w. eqb w.address a) ws

-- the write at the first record of an address
set_first : (ws : List Word) (a x : ℕ) → place ws a < length ws → set ws (place ws a) (record { address = (get_or ws (place ws a) none).address; value = x }) ≡ with_value ws a x
set_first [] a x within = absurd (omega arith)
set_first (w ∷ ws) a x within = let hyp = set_first ws a x in grind (arith, nat_tests, hyp)

none_set : (ws : List Word) (a x : ℕ) → length ws ≤ place ws a → with_value ws a x ≡ ws
none_set [] a x past = refl
none_set (w ∷ ws) a x past = let hyp = none_set ws a x in grind (arith, nat_tests, hyp)

has_first : (ws : List Word) (a : ℕ) → is_some (value_at ws a) ≡ ltb (place ws a) (length ws)
has_first [] a = refl
has_first (w ∷ ws) a = let hyp = has_first ws a in grind (arith, nat_tests, hyp)

value_with : (ws : List Word) (a x b : ℕ) → value_at (with_value ws a x) b ≡ cond (eqb b a) (option_map (λ _. x) (value_at ws a)) (value_at ws b)
value_with [] a x b = grind (arith, nat_tests)
value_with (w ∷ ws) a x b = let hyp = value_with ws a x b in grind (arith, nat_tests, hyp)

-- what comes of the search for the first record
abbrev searched : List Word → ℕ → Option ℕ
searched ws a = cond (ltb (place ws a) (length ws)) (Some (place ws a)) None

abbrev Put : List Word → ℕ → ℕ → Result (Unit {0}) Condition → List Word → Type 0
Put ws a x result after = record { result : result ≡ cond (is_some (value_at ws a)) (Ok tt) (Err Addressing); after : after ≡ with_value ws a x }

pub put_found : (ws : List Word) (a x i : ℕ) → Some i ≡ searched ws a → Put ws a x (Ok tt) (slice_set ws i (record { address = (slice_index_or ws i none).address; value = x }))
put_found ws a x i found =
    let has = has_first ws a in
    let set = set_first ws a x in
    record { result = grind (arith, nat_tests, has); after = grind (arith, nat_tests, set) }

pub put_missing : (ws : List Word) (a x : ℕ) → None ≡ searched ws a → Put ws a x (Err Addressing) ws
put_missing ws a x missing =
    let has = has_first ws a in
    let same = none_set ws a x in
    record { result = grind (arith, nat_tests, has); after = grind (arith, nat_tests, same) }

word_with : (k v : Option ℕ) (x : ℕ) → is_some (only_with k v) ≡ true → only_with k (option_map (λ _. x) v) ≡ Some x
word_with None v x e = absurd cc
word_with (Some k) None x e = absurd cc
word_with (Some k) (Some v) x e = refl

-- the records of a put that has a key for its block
pub words_put : (ws : List Word) (ks : List BlockKey) (a x : ℕ) → is_some (key_at ks (block_of a)) ≡ true → with_value ws a x ≡ words_after ws ks a x
words_put ws ks a x keyed = let has = has_first ws a in let same = none_set ws a x in grind (arith, nat_tests, has, same)

word_after : (ws : List Word) (ks : List BlockKey) (a x b : ℕ) → (sparse_view (words_after ws ks a x) ks).word b ≡ (after_put (sparse_view ws ks) a x).word b
word_after ws ks a x b = let with = value_with ws a x b in let present = word_with (key_at ks (block_of a)) (value_at ws a) x in grind (arith, nat_tests, with, present)

pub view_after : (ws : List Word) (ks : List BlockKey) (a x : ℕ) → sparse_view (words_after ws ks a x) ks ≡ after_put (sparse_view ws ks) a x
view_after ws ks a x = by (is_some ((sparse_view ws ks).word a)) (λ b. word_after ws ks a x b)
  where
    by : (t : Bool) → ((b : ℕ) → only_with (key_at ks (block_of b)) (value_at (cond t (with_value ws a x) ws) b) ≡ (cond t (stored (sparse_view ws ks) a x) (sparse_view ws ks)).word b) → sparse_view (cond t (with_value ws a x) ws) ks ≡ cond t (stored (sparse_view ws ks) a x) (sparse_view ws ks)
    by true words = λ j. record { word = fun_ext words j; key = key_at ks }
    by false words = λ j. record { word = fun_ext words j; key = key_at ks }

-- a refused put changes no record
pub refused_after : (ws : List Word) (ks : List BlockKey) (a x : ℕ) → (sparse_view ws ks).word a ≡ None → words_after ws ks a x ≡ ws
refused_after ws ks a x absent = rw absent refl
