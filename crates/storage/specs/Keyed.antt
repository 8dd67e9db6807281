-- Each storage here keeps the law of a storage. A law may cite specs/ alone, so its proof stands here.
use Rattle.std.specs.Prelude.{◌≡◌, ℕ, ◌%◌, ◌<◌, true, List, is_some, Some, None, Option, nat_eq, find, refl}
use Rattle.std.proofs.Common.{ap, ◌∙◌, arith}
use Rattle.std.proofs.lemmas.Bool.Decides.{nat_tests}
use Rattle.arch.specs.declared.record.Word.{Word}
use Rattle.arch.specs.declared.record.BlockKey.{BlockKey}
use Rattle.storage.specs.Views.{View, Keyed, block_of}
use Rattle.storage.specs.Records.{lawful_key, only_with, sparse_view}
use Rattle.storage.specs.Prefixes.{lawful_prefix, absolute, absolute_block, prefixed}

-- a key that counts is below 32
lawful_below : (e : Option BlockKey) (k : ℕ) → lawful_key e ≡ Some k → k < 32
lawful_below None k e = absurd cc
lawful_below (Some entry) k e = grind (arith, nat_tests)

needs_key : (k v : Option ℕ) (x : ℕ) → only_with k v ≡ Some x → is_some k ≡ true
needs_key None v x e = absurd cc
needs_key (Some k) v x e = refl

pub sparse_keyed : (ws : List Word) (ks : List BlockKey) → Keyed (sparse_view ws ks)
sparse_keyed ws ks = record {
  present = λ a x e. needs_key _ _ x e;
  in_range = λ b k e. lawful_below (find (λ entry. nat_eq entry.block b) ks) k e;
}

-- the block of an absolute address is the absolute block
exchange_block : (p a : ℕ) → p % 8192 ≡ 0 → absolute_block p (block_of a) ≡ block_of (absolute p a)
exchange_block p a even = grind (arith, nat_tests)

pub prefixed_keyed : (p : ℕ) (v : View) → p % 8192 ≡ 0 → Keyed v → Keyed (prefixed p v)
prefixed_keyed p v even keyed = record {
  present = λ a x e. ap (λ b. is_some (v.key b)) (exchange_block p a even) ∙ keyed.present (absolute p a) x e;
  in_range = λ b k e. keyed.in_range (absolute_block p b) k e;
}

pub lawful_even : (p : ℕ) → lawful_prefix p ≡ true → p % 8192 ≡ 0
lawful_even p lawful = grind (arith, nat_tests)
