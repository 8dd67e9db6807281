-- What a source gives when it is asked.
use Rattle.std.specs.Prelude.{◌≡◌, ◌⊎◌, Some, None, Ok, Option, ◌≢◌}
use Rattle.arch.specs.Walks.{Traced, given}

-- the shown answer, with no address asked for; where none is shown, what comes of the walk
abbrev pub asked : {A : Type 0} → Option A → Traced A → Traced A
asked None fresh = fresh
asked (Some a) fresh = given a

pub none_is_not_some : {A : Type 0} {a : A} → None ≢ Some a
none_is_not_some e = cc

-- every pair held after was held before, or is its key's fresh answer
abbrev pub Kept : {Key Answer : Type 0} → (Key → Type 0) → (Key → Traced Answer) → (Key → Answer → Type 0) → (Key → Answer → Type 0) → Type 0
Kept {Key} {Answer} fits fresh before after = (k : Key) (a : Answer) → fits k → after k a → before k a ⊎ ((fresh k).result ≡ Ok a)

-- no pair is held
abbrev pub Empty : {Key Answer : Type 0} → (Key → Answer → Type 0) → Type 0
Empty {Key} {Answer} holds = (k : Key) (a : Answer) → holds k a → ⊥

-- the state of a source after a call that asked it for this key, or did not ask it
abbrev pub Moved : {Key State : Type 0} → Option Key → (Key → State → Type 0) → State → State → Type 0
Moved None moves before after = after ≡ before
Moved (Some k) moves before after = moves k after

-- nothing is shown
abbrev pub Silent : {Key Answer : Type 0} → (Key → Option Answer) → Type 0
Silent {Key} shows = (k : Key) → shows k ≡ None
