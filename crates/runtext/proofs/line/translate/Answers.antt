use Rattle.std.proofs.Common.{◌≡◌, [], ◌∷◌, sym, ap, ◌∙◌}
use Rattle.std.specs.Option.{option_map}
use Rattle.runtext.specs.Lines.{SoundCall, access_letter, call_fields, two}
use Rattle.runtext.specs.declared.line.Verb.TheVariants.{Translate}
use Rattle.runtext.proofs.ByKind.{by_verb, access_lacks}
use Rattle.runtext.proofs.Cuts.{cut_finds}
use Rattle.runtext.proofs.line.translate.Goals as goal

pub returns-in_err-letter : goal.returns-in_err-letter
returns-in_err-letter c = rw c.from_residual.ensures (λ a v e.
    by_verb (λ a. SoundCall a → call_fields a ≡ c.args.bytes.now → ⊥) Translate (λ access register address s f.
    let found = cut_finds 9 _ _ _ (access_letter access ∷ []) (two register address) c.cut.ensures.lacks c.cut.ensures.parts (access_lacks access) f in
    c.in_err-letter.ensures (access_letter access) tt found.0) a v.1 v.0 e)

pub returns-in_err-register : goal.returns-in_err-register
returns-in_err-register c = rw c.from_residual-in_err-register.ensures (λ a v e.
    by_verb (λ a. SoundCall a → call_fields a ≡ c.args.bytes.now → ⊥) Translate (λ access register address s f.
    let found = cut_finds 9 _ _ _ (access_letter access ∷ []) (two register address) c.cut.ensures.lacks c.cut.ensures.parts (access_lacks access) f in
    c.in_err-register.ensures (register, address) s (sym (cc (sym (ap (option_map (λ x. x.now)) c.in_ok-after.was) ∙ found.1)))) a v.1 v.0 e)
