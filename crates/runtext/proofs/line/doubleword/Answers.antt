use Rattle.std.proofs.Common.{◌≡◌, ◌%◌, sym, ap, ◌∙◌}
use Rattle.runtext.specs.Lines.{Sound, fields}
use Rattle.runtext.specs.declared.line.Kind.TheVariants.{Doubleword}
use Rattle.runtext.proofs.ByKind.{by_kind}
use Rattle.runtext.proofs.Cuts.{two_same}
use Rattle.runtext.proofs.line.doubleword.Goals as goal

pub returns-in_err-address : goal.returns-in_err-address
returns-in_err-address c = rw c.from_residual.ensures (λ l v e.
    by_kind (λ l. Sound l → fields l ≡ c.args.bytes.now → ⊥) Doubleword (λ w s f. c.in_err-address.ensures (w.address, w.value) (s.0, s.1) f) l v.1 v.0 e)

pub returns-else-address-eq0 : goal.returns-else-address-eq0
returns-else-address-eq0 c = λ l v e.
    by_kind (λ l. Sound l → fields l ≡ c.args.bytes.now → ⊥) Doubleword (λ w s f.
    c.if-address-eq0.false (ap (λ n. n % 8) (two_same _ _ w.address w.value c.in_ok-address.ensures.0.0 c.in_ok-address.ensures.0.1 (c.in_ok-address.ensures.1 ∙ sym f)).0 ∙ s.2)) l v.1 v.0 e
