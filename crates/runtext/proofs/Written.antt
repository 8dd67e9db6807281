-- The text that a writer leaves, and its refusals. Assumes nothing.
use Rattle.std.proofs.Common.{◌≡◌, ℕ, Bool, true, false, ltb, List, length, take, IfOk, IfErr, Ok, Err, MatchBool, Result, sym, ◌∙◌}
use Rattle.arch.specs.declared.condition.Condition.TheVariants.{TooMuch}
use Rattle.runtext.specs.declared.Counts.{Counts}
use Rattle.runtext.specs.declared.Refusal.{Refusal}
use Rattle.runtext.specs.Runs.{Run, spell, Spellable}
use Rattle.runtext.specs.Verdicts.{Refused}
use Rattle.runtext.specs.Writing.{Written, RefusedIn, ReadsBack}
use Rattle.runtext.proofs.OneRefusal.{one_refusal}
use Rattle.runtext.proofs.Runs.{text_same}

pub reads_back : (r : Run) (text : List ℕ) → Spellable r → text ≡ spell r → ReadsBack r text
reads_back r text s e = λ p h. ((record { spellable = s; words = h.words; keys = h.keys; calls = h.calls }, sym e), λ q h. text_same q r h.0.spellable (h.1 ∙ e))

-- what is written says the run
pub says_run : (r : Run) (before after : List ℕ) (o : Result ℕ Refusal) → IfOk o (Written r before after) → IfOk o (λ n. ReadsBack r (take n after))
says_run r before after (Ok n) w = reads_back r (take n after) w.spellable w.text
says_run r before after (Err e) w = tt

pub one_refused_in : (room : ℕ) (p : Counts) (text : List ℕ) (e d : Refusal) → RefusedIn room p text e → RefusedIn room p text d → e ≡ d
one_refused_in room p text e d = by_length (ltb room (length text))
  where
    Verdict : Bool → Refusal → Type 0
    Verdict t e = MatchBool t ((e.condition ≡ TooMuch) × (e.line ≡ 1)) (Refused p text e)

    by_length : (t : Bool) → Verdict t e → Verdict t d → e ≡ d
    by_length true a b = λ i. record { condition = (a.0 ∙ sym b.0) i; line = (a.1 ∙ sym b.1) i }
    by_length false a b = one_refusal p text e d a b

pub single_in : {A : Type 0} (room : ℕ) (p : Counts) (text : List ℕ) (o : Result A Refusal) → IfErr o (RefusedIn room p text) → IfErr o (λ e. (d : Refusal) → RefusedIn room p text d → d ≡ e)
single_in room p text (Ok n) r = tt
single_in room p text (Err e) r = λ d h. one_refused_in room p text d e h r
