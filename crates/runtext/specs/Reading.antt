-- What a function that reads says of its answer.
use Rattle.std.specs.Prelude.{◌≡◌, ℕ, List, ◌∷◌, ◌++◌, Some, None, Option, ◌≢◌}
use Rattle.std.specs.List.{AllByRecursion}

-- the answer is the value of V that is spelt b, if there is one
abbrev pub Reads : {A B : Type 0} → Option A → (A → Type 0) → (A → B) → B → Type 0
Reads {A} None V f b = (a : A) → V a → f a ≢ b
Reads (Some a) V f b = V a × (f a ≡ b)

-- the byte c does not stand in bs
abbrev pub Lacks : ℕ → List ℕ → Type 0
Lacks c bs = AllByRecursion (λ b. b ≢ c) bs

-- bs is front, or front with c and then after
abbrev pub Cut : ℕ → List ℕ → List ℕ → Option (List ℕ) → Type 0
Cut c bs front None = bs ≡ front
Cut c bs front (Some after) = bs ≡ front ++ (c ∷ after)
