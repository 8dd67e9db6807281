use Rattle.std.proofs.Common.{◌≡◌, sym, ap, ◌∙◌}
use Rattle.std.specs.Option.{option_map}
use Rattle.runtext.specs.Lines.{SoundCall, call_fields, two}
use Rattle.runtext.specs.declared.line.Verb.TheVariants.{LoadMode}
use Rattle.runtext.proofs.ByKind.{by_verb}
use Rattle.runtext.proofs.Cuts.{number_cut}
use Rattle.runtext.proofs.line.load_mode.Goals as goal

pub returns-in_err-mode : goal.returns-in_err-mode
returns-in_err-mode c = rw c.from_residual.ensures (λ a v e.
    by_verb (λ a. SoundCall a → call_fields a ≡ c.args.bytes.now → ⊥) LoadMode (λ mode size key s f.
    let found = number_cut c.args.bytes.now c.cut.result.0.now (option_map (λ x. x.now) c.cut.result.1) mode (two size key) c.cut.ensures.lacks c.cut.ensures.parts f in
    c.in_err-mode.ensures mode s.0 found.0) a v.1 v.0 e)

pub returns-in_err-after : goal.returns-in_err-after
returns-in_err-after c = rw c.from_residual-in_err-after.ensures (λ a v e.
    by_verb (λ a. SoundCall a → call_fields a ≡ c.args.bytes.now → ⊥) LoadMode (λ mode size key s f.
    let found = number_cut c.args.bytes.now c.cut.result.0.now (option_map (λ x. x.now) c.cut.result.1) mode (two size key) c.cut.ensures.lacks c.cut.ensures.parts f in
    cc (sym (ap (option_map (λ x. x.now)) c.in_err-after.was) ∙ found.1)) a v.1 v.0 e)

pub returns-in_err-size : goal.returns-in_err-size
returns-in_err-size c = rw c.from_residual-in_err-size.ensures (λ a v e.
    by_verb (λ a. SoundCall a → call_fields a ≡ c.args.bytes.now → ⊥) LoadMode (λ mode size key s f.
    let found = number_cut c.args.bytes.now c.cut.result.0.now (option_map (λ x. x.now) c.cut.result.1) mode (two size key) c.cut.ensures.lacks c.cut.ensures.parts f in
    c.in_err-size.ensures (size, key) (s.1, s.2) (sym (cc (sym (ap (option_map (λ x. x.now)) c.in_ok-after.was) ∙ found.1)))) a v.1 v.0 e)
