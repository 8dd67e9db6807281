use Rattle.std.proofs.Common.{◌≡◌, sym, ◌∙◌, arith}
use Rattle.runtext.specs.Lines.{Sound, fields}
use Rattle.runtext.specs.declared.line.Kind.TheVariants.{Key}
use Rattle.runtext.proofs.ByKind.{by_kind}
use Rattle.runtext.proofs.Cuts.{two_same}
use Rattle.runtext.proofs.line.block_key.Goals as goal

pub returns-in_err-block : goal.returns-in_err-block
returns-in_err-block c = rw c.from_residual.ensures (λ l v e.
    by_kind (λ l. Sound l → fields l ≡ c.args.bytes.now → ⊥) Key (λ k s f. c.in_err-block.ensures (k.block, k.key) (s.0, omega (arith, s.1)) f) l v.1 v.0 e)

pub returns-else-key-from : goal.returns-else-key-from
returns-else-key-from c = λ l v e.
    by_kind (λ l. Sound l → fields l ≡ c.args.bytes.now → ⊥) Key (λ k s f.
    omega (arith, s.1, (two_same _ _ k.block k.key c.in_ok-block.ensures.0.0 c.in_ok-block.ensures.0.1 (c.in_ok-block.ensures.1 ∙ sym f)).1)) l v.1 v.0 e
