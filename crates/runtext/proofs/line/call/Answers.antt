use Rattle.std.proofs.Common.{◌≡◌, ◌∙◌}
use Rattle.runtext.specs.Lines.{SoundCall, call_fields}
use Rattle.runtext.specs.declared.line.Verb.TheVariants.{LoadControl, LoadAccess, Put}
use Rattle.runtext.proofs.ByKind.{by_verb}
use Rattle.runtext.proofs.line.call.Goals as goal

pub returns-in_err-register-in-LoadControl : goal.returns-in_err-register-in-LoadControl
returns-in_err-register-in-LoadControl c = rw c.from_residual.ensures (λ a v e.
    by_verb (λ a. SoundCall a → call_fields a ≡ c.args.bytes.now → ⊥) LoadControl (λ register value. c.in_err-register-in-LoadControl.ensures (register, value)) a (v.1 ∙ c.in-LoadControl.is) v.0 e)

pub returns-in_err-register-in-LoadAccess : goal.returns-in_err-register-in-LoadAccess
returns-in_err-register-in-LoadAccess c = rw c.from_residual-in_err-register-in-LoadAccess.ensures (λ a v e.
    by_verb (λ a. SoundCall a → call_fields a ≡ c.args.bytes.now → ⊥) LoadAccess (λ register value. c.in_err-register-in-LoadAccess.ensures (register, value)) a (v.1 ∙ c.in-LoadAccess.is) v.0 e)

pub returns-in_err-address-in-Put : goal.returns-in_err-address-in-Put
returns-in_err-address-in-Put c = rw c.from_residual-in_err-address-in-Put.ensures (λ a v e.
    by_verb (λ a. SoundCall a → call_fields a ≡ c.args.bytes.now → ⊥) Put (λ address value. c.in_err-address-in-Put.ensures (address, value)) a (v.1 ∙ c.in-Put.is) v.0 e)
