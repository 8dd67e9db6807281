-- What a lookaside holds after it has noted an answer from beneath.
use Rattle.std.proofs.Common.{◌≡◌, ◌⊎◌, Some, None, Ok, Option, sym, refl, ap, ◌∙◌, subst, subst₂, inl, inr}
use Rattle.arch.specs.Walks.{Traced}
use Rattle.lookup.specs.Sources.{asked, Kept}
use Rattle.lookup.specs.declared.words.Words.{Words}
use Rattle.lookaside.specs.Layers.{InTable}

-- an answer from beneath was held there, or is fresh
from_beneath : {Answer : Type 0} (shown : Option Answer) (fresh : Traced Answer) (holds : Answer → Type 0) (a : Answer) → ((b : Answer) → shown ≡ Some b → holds b) → Ok a ≡ (asked shown fresh).result → holds a ⊎ (fresh.result ≡ Ok a)
from_beneath None fresh holds a held e = inr (sym e)
from_beneath (Some b) fresh holds a held e = let same : b ≡ a = cc in inl (subst holds same (held b refl))

module _ {Key Answer : Type 0} (fits : Key → Type 0) (fresh : Key → Traced Answer) (spelt : Key → Words) (written : Answer → Words) (meant : Words → Answer)
    (kept_before kept_after : Words → Words → Type 0) (held_before held_after : Key → Answer → Type 0) (shows : Key → Option Answer) (key : Key) (answer : Answer) where
  pub noted_kept :
      ((k a : Words) → kept_after k a → kept_before k a ⊎ ((k ≡ spelt key) × (a ≡ written answer)))
      → Kept fits fresh held_before held_after
      → Ok answer ≡ (asked (shows key) (fresh key)).result
      → ((a : Answer) → shows key ≡ Some a → held_before key a)
      → ((j : Key) → fits j → spelt j ≡ spelt key → j ≡ key)
      → meant (written answer) ≡ answer
      → Kept fits fresh (λ k a. InTable meant (kept_before (spelt k)) a ⊎ held_before k a) (λ k a. InTable meant (kept_after (spelt k)) a ⊎ held_after k a)
  noted_kept notes beneath gave shown distinct back k a fit (inr held) = by (beneath k a fit held)
    where
      by : held_before k a ⊎ ((fresh k).result ≡ Ok a) → (InTable meant (kept_before (spelt k)) a ⊎ held_before k a) ⊎ ((fresh k).result ≡ Ok a)
      by (inl h) = inl (inr h)
      by (inr f) = inr f
  noted_kept notes beneath gave shown distinct back k a fit (inl (w, (kept, means))) = by (notes (spelt k) w kept)
    where
      new : k ≡ key → a ≡ answer → held_before key answer ⊎ ((fresh key).result ≡ Ok answer) → (InTable meant (kept_before (spelt k)) a ⊎ held_before k a) ⊎ ((fresh k).result ≡ Ok a)
      new same_key same (inl h) = inl (inr (subst₂ held_before (sym same_key) (sym same) h))
      new same_key same (inr f) = inr (ap (λ j. (fresh j).result) same_key ∙ f ∙ ap Ok (sym same))

      by : kept_before (spelt k) w ⊎ ((spelt k ≡ spelt key) × (w ≡ written answer)) → (InTable meant (kept_before (spelt k)) a ⊎ held_before k a) ⊎ ((fresh k).result ≡ Ok a)
      by (inl h) = inl (inl (w, (h, means)))
      by (inr e) = new (distinct k fit e.0) (sym means ∙ ap meant e.1 ∙ back) (from_beneath (shows key) (fresh key) (held_before key) answer shown gave)
