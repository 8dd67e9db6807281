-- What the listing of a run text is.
use Rattle.std.specs.Prelude.{◌≡◌, ℕ, ◌+◌, ◌/◌, ◌⊎◌, List, map, length}
use Rattle.lines.specs.Refusals.{refusal_line}
use Rattle.machine.specs.declared.request.Outcome.{Outcome}
use Rattle.machine.specs.declared.request.Request.TheVariants.{Line}
use Rattle.machine.specs.declared.sources.Sources.{Sources}
use Rattle.machine.specs.Law.{Ran}
use Rattle.machine.specs.Scene.{AccessSource, PageSource}
use Rattle.runtext.specs.declared.Counts.{Counts}
use Rattle.runtext.specs.declared.Refusal.{Refusal}
use Rattle.runtext.specs.Runs.{Run, Spellable, Readable, Spells, word_limit, key_limit, byte_limit}
use Rattle.runtext.specs.Verdicts.{Refused}
use Rattle.storage.specs.Records.{sparse_view}
use Rattle.storage.specs.Views.{View}
use Rattle.listing.specs.Printing.{listing_of}

-- More calls than any text has: a call's line has four bytes or more.
abbrev pub call_limit : ℕ
call_limit = byte_limit / 4

-- the places that a listing has for what a text says
abbrev pub places : Counts
places = record { words = word_limit; keys = key_limit; calls = call_limit }

-- these are places enough for every run that has a text
abbrev pub RoomForAll : Type 0
RoomForAll = (q : Run) → Spellable q → Readable places q

-- the line of a run's first call: the header and a line for each record stand before it
abbrev pub first_call : Run → ℕ
first_call q = length q.words + length q.keys + 2

-- over two sources of any make
module _ {A P : Type 0} (a : AccessSource A) (p : PageSource P) where
  -- A RECORD OF A RUN. There is an outcome for each call, and the law of every run holds of them, over the storage that
  -- the run's own records make up; the sources go from these states to those.
  pub record Recorded (q : Run) (os : List Outcome) (b b' : Sources A P) : Type 0 where
    pub whole : length os ≡ length q.calls
    pub after : View
    pub ran : Ran a p (sparse_view q.words q.keys) b (map Line q.calls) os after b'

  -- The listing of a run has the lines of its record, each numbered as its call's line in the text.
  pub record ListsRun (q : Run) (out : List ℕ) (b b' : Sources A P) : Type 0 where
    pub outcomes : List Outcome
    pub recorded : Recorded q outcomes b b'
    pub bytes : out ≡ listing_of (first_call q) outcomes

  -- The listing of a text that a run spells, given these places, is the listing of that run.
  pub record ListsSpelt (room : Counts) (text out : List ℕ) (b b' : Sources A P) : Type 0 where
    pub run : Run
    pub spelt : Spells room text run
    pub listed : ListsRun run out b b'

  -- The listing of a text that is refused, given these places, is the line of its refusal. No run with places enough
  -- spells it, no call is made, and both sources are as they were.
  pub record ListsRefused (room : Counts) (text out : List ℕ) (b b' : Sources A P) : Type 0 where
    pub refusal : Refusal
    pub refused : Refused room text refusal
    pub unspelt : (q : Run) → Spells room text q → ⊥
    pub bytes : out ≡ refusal_line refusal.line refusal.condition 0
    pub sources : b' ≡ b

  -- the listing of a text
  abbrev pub Lists : Counts → List ℕ → List ℕ → Sources A P → Sources A P → Type 0
  Lists room text out b b' = ListsSpelt room text out b b' ⊎ ListsRefused room text out b b'
