-- What a lookaside means, over a table of words and the source beneath.
use Rattle.std.specs.Prelude.{◌≡◌, ◌⊎◌, Some, None, Ok, Err, Option, Result, refl}
use Rattle.std.proofs.Common.{inl, inr}
use Rattle.arch.specs.declared.condition.Condition.{Condition}
use Rattle.arch.specs.Walks.{Traced}
use Rattle.lookup.specs.declared.kind.Kind.{Ghosts as KindGhosts}
use Rattle.lookup.specs.declared.source.Source.{Ghosts as SourceGhosts}
use Rattle.lookup.specs.declared.words.Words.{Words}
use Rattle.lookup.specs.Sources.{asked}
use Rattle.lookaside.specs.declared.lookaside.Lookaside.{Lookaside}
use Rattle.lookaside.specs.declared.table.Table.{Ghosts as TableGhosts}

-- the answer of its own row, else what the source beneath shows
abbrev pub own_or_beneath : {Answer : Type 0} → (Words → Answer) → Option Words → Option Answer → Option Answer
own_or_beneath answer_of None beneath = beneath
own_or_beneath answer_of (Some w) beneath = Some (answer_of w)

-- a pair that the table keeps under the key's words
abbrev pub InTable : {Answer : Type 0} → (Words → Answer) → (Words → Type 0) → Answer → Type 0
InTable answer_of has_pair a = (w : Words) × (has_pair w × (answer_of w ≡ a))

-- the table after the source beneath was asked: its answer noted, and nothing at an exception
abbrev pub AfterAnswer : {Answer T : Type 0} → (Answer → Words) → (Words → T → Type 0) → T → Result Answer Condition → T → Type 0
AfterAnswer answer_words after_note before (Ok a) after = after_note (answer_words a) after
AfterAnswer answer_words after_note before (Err c) after = after ≡ before

-- a match alters nothing, and the source beneath is not asked; else it is, and its answer is noted
abbrev pub UnlessFound : Option Words → Type 0 → Type 0 → Type 0
UnlessFound None asks_beneath same = asks_beneath
UnlessFound (Some w) asks_beneath same = same

module _ {K Key Answer T B : Type 0} (kind : KindGhosts K Key Answer) (table : TableGhosts T) (beneath : SourceGhosts B K Key Answer) where
  abbrev pub layer_shows : Lookaside T B → Key → Option Answer
  layer_shows s k = own_or_beneath kind.answer_of (table.finds s.table (kind.key_words k)) (beneath.shows s.beneath k)

  abbrev pub LayerHolds : Lookaside T B → Key → Answer → Type 0
  LayerHolds s k a = InTable kind.answer_of (table.has_pair s.table (kind.key_words k)) a ⊎ beneath.holds s.beneath k a

  abbrev pub LayerAfterAsk : Lookaside T B → (Key → Traced Answer) → Key → Lookaside T B → Type 0
  LayerAfterAsk s fresh k s' =
      UnlessFound (table.finds s.table (kind.key_words k))
      (beneath.after_ask s.beneath fresh k s'.beneath
      × AfterAnswer kind.answer_words (table.after_note s.table (kind.key_words k)) s.table (asked (beneath.shows s.beneath k) (fresh k)).result s'.table)
      (s' ≡ s)

  abbrev pub LayerAfterPurge : Lookaside T B → Lookaside T B → Type 0
  LayerAfterPurge s s' = table.after_clear s'.table × beneath.after_purge s.beneath s'.beneath

-- a pair shown is held, by the table or beneath
pub shown_held : {Answer : Type 0} (answer_of : Words → Answer) (found : Option Words) (beneath : Option Answer) (has_pair : Words → Type 0) (holds : Answer → Type 0) → ((w : Words) → found ≡ Some w → has_pair w) → ((b : Answer) → beneath ≡ Some b → holds b) → (a : Answer) → own_or_beneath answer_of found beneath ≡ Some a → InTable answer_of has_pair a ⊎ holds a
shown_held answer_of None beneath has_pair holds kept held a e = inr (held a e)
shown_held answer_of (Some w) beneath has_pair holds kept held a e = inl (w, (kept w refl, cc))
