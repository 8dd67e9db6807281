use Rattle.std.proofs.Common.{◌≡◌, is_some, true, refl, ◌∙◌, arith}
use Rattle.std.proofs.lemmas.Grind.{common_steps}
use Rattle.storage.specs.Records.{key_at}
use Rattle.storage.specs.Views.{block_of}
use Rattle.storage.proofs.Puts.{words_put, view_after, refused_after}
use Rattle.storage.proofs.sparse.SparseStorage.put.Goals as goal

pub returns-clause-words : goal.returns-clause-words
returns-clause-words c =
    let s = c.args.self.now in
    let keyed : is_some (key_at s.keys.now (block_of c.args.address)) ≡ true = grind (arith, common_steps) in
    c.set_value.ensures.after ∙ words_put s.words.now s.keys.now c.args.address c.args.value keyed

pub returns-clause-after : goal.returns-clause-after
returns-clause-after c =
    let s = c.args.self.now in
    rw (returns-clause-words c) (view_after s.words.now s.keys.now c.args.address c.args.value)

pub returns-clause-refused : goal.returns-clause-refused
returns-clause-refused c absent =
    let s = c.args.self.now in
    rw (returns-clause-words c, refused_after s.words.now s.keys.now c.args.address c.args.value absent) refl
