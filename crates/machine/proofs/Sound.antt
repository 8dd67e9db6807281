-- What a source holds was fresh at a moment since its latest purge, and stays so from call to call.
use Rattle.std.proofs.Common.{◌≡◌, ℕ, ◌⊎◌, List, [], ◌∷◌, Some, None, Ok, Err, Option, sym, refl, ap, ◌∙◌, inl, inr}
use Rattle.arch.specs.declared.condition.Condition.{Condition}
use Rattle.arch.specs.Walks.{Traced, SeesOnlyItsTrace}
use Rattle.lookup.specs.Sources.{asked, Kept, Empty}
use Rattle.machine.specs.Law.{Once, FreshOnce, Steady, Sound}

module _ {Key Answer : Type 0} (fits : Key → Type 0) (fresh : (ℕ → Option ℕ) → Key → Traced Answer) where
  -- an empty source is sound at any moment
  pub sound_empty : (moments : List (ℕ → Option ℕ)) (holds : Key → Answer → Type 0) → Empty holds → Sound fits fresh moments holds
  sound_empty moments holds none k a fit h = absurd (none k a h)

  -- what is held afterwards was held before, or is fresh now
  pub sound_kept : (now : ℕ → Option ℕ) (earlier : List (ℕ → Option ℕ)) (before after : Key → Answer → Type 0) → Kept fits (fresh now) before after → Sound fits fresh (now ∷ earlier) before → Sound fits fresh (now ∷ earlier) after
  sound_kept now earlier before after kept sound k a fit h = by (kept k a fit h)
    where
      by : before k a ⊎ ((fresh now k).result ≡ Ok a) → Once (λ w. (fresh w k).result ≡ Ok a) (now ∷ earlier)
      by (inl held) = sound k a fit held
      by (inr f) = inl f

  -- one moment more
  pub sound_later : (new : ℕ → Option ℕ) (moments : List (ℕ → Option ℕ)) (holds : Key → Answer → Type 0) → Sound fits fresh moments holds → Sound fits fresh (new ∷ moments) holds
  sound_later new moments holds sound k a fit h = inr (sound k a fit h)

  -- what is shown is held, and so was fresh once
  pub sound_shown : (moments : List (ℕ → Option ℕ)) (shows : Key → Option Answer) (holds : Key → Answer → Type 0) → ((k : Key) (a : Answer) → shows k ≡ Some a → holds k a) → Sound fits fresh moments holds → FreshOnce fits fresh moments shows
  sound_shown moments shows holds shown sound k a fit e = sound k a fit (shown k a e)

-- an answer that was fresh once is fresh now, where what its walk fetches now has held one value
module _ {Answer : Type 0} (fresh : (ℕ → Option ℕ) → Traced Answer) (local : SeesOnlyItsTrace fresh) (now : ℕ → Option ℕ) where
  once_now : (moments : List (ℕ → Option ℕ)) (a : Answer) → Once (λ w. (fresh w).result ≡ Ok a) moments → Steady now moments (fresh now).trace → (fresh now).result ≡ Ok a
  once_now [] a never steady = absurd never
  once_now (w ∷ ws) a (inl here) steady = sym (ap (λ t. t.result) (local now w steady.0)) ∙ here
  once_now (w ∷ ws) a (inr later) steady = once_now ws a later steady.1

  pub asked_now : (shown : Option Answer) (moments : List (ℕ → Option ℕ)) → ((a : Answer) → shown ≡ Some a → Once (λ w. (fresh w).result ≡ Ok a) moments) → Steady now moments (fresh now).trace → (asked shown (fresh now)).result ≡ (fresh now).result
  asked_now None moments once steady = refl
  asked_now (Some a) moments once steady = sym (once_now moments a (once a refl) steady)

-- a condition that a source meets is fresh
pub met_fresh : {A : Type 0} (shown : Option A) (fresh : Traced A) (met : Condition) → (asked shown fresh).result ≡ Err met → fresh.result ≡ Err met
met_fresh None fresh met e = e
met_fresh (Some a) fresh met e = absurd cc
