use Rattle.std.proofs.Common.{◌≡◌, ◌⊎◌, None, Ok, sym, ap, ◌∙◌, subst, subst₂}
use Rattle.arch.specs.Walks.{Gives}
use Rattle.lookup.specs.Sources.{asked}
use Rattle.lookup.specs.declared.words.Words.{Words}
use Rattle.lookaside.specs.Layers.{own_or_beneath, AfterAnswer, UnlessFound}
use Rattle.lookaside.proofs.Held.{noted_kept}
use Rattle.lookaside.proofs.lookaside.LookasideSource.ask.Goals as goal

pub returns : goal.returns
returns g c =
    let kind = g.K.Kind in
    let source = g.B.Source in
    let s = c.args.self.now in
    let key = c.args.key in
    let answer = c.in_ok-answer.answer in
    let table = c.note.new.self in
    let beneath = c.ask.new.self in
    let fresh = λ (k : g.row.K-Key.Denot). kind.fresh (g.S.Storage.view c.args.storage.now).word k in
    let words = c.spell-words.ensures.words in
    let none : g.T.Table.finds s.table (kind.key_words key) ≡ None = sym (c.in_default.ensures ∙ ap (g.T.Table.finds s.table) words) in
    let below = c.in_ok-answer.ensures in
    let gave = below.gives.result in
    let notes : (k a : Words) → g.T.Table.has_pair table k a → g.T.Table.has_pair s.table k a ⊎ ((k ≡ kind.key_words key) × (a ≡ kind.answer_words answer)) =
    subst₂ (λ x y. (k a : Words) → g.T.Table.has_pair table k a → g.T.Table.has_pair s.table k a ⊎ ((k ≡ x) × (a ≡ y))) words c.write.ensures c.note.ensures.pairs in
    let noted = subst₂ (λ x y. g.T.Table.after_note s.table x y table) words c.write.ensures c.note.ensures.rows in
    record {
      gives = subst (λ o. Gives kind.most_reads (asked (own_or_beneath kind.answer_of o (source.shows s.beneath key)) (fresh key)) (g.R.Trace.addresses c.args.trace.now) (g.R.Trace.addresses c.ask.new.trace) (Ok answer)) (sym none) below.gives;
      keeps = noted_kept kind.fits fresh kind.key_words kind.answer_words kind.answer_of (g.T.Table.has_pair s.table) (g.T.Table.has_pair table) (source.holds s.beneath) (source.holds beneath) (source.shows s.beneath) key answer
          notes below.keeps gave (λ a e. g.met.B.Source.shown_is_held s.beneath key a e) (λ j fit e. (g.met.K.Kind.distinct j key fit c.spell-words.ensures.fits).0 e) (g.met.K.Kind.answer_back answer);
      after = subst (λ o. UnlessFound o (source.after_ask s.beneath fresh key beneath × AfterAnswer kind.answer_words (g.T.Table.after_note s.table (kind.key_words key)) s.table (asked (source.shows s.beneath key) (fresh key)).result table) (record { table = table; beneath = beneath } ≡ s)) (sym none)
          (below.after, subst (λ r. AfterAnswer kind.answer_words (g.T.Table.after_note s.table (kind.key_words key)) s.table r table) gave noted);
    }
