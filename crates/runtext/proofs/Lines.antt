-- The lines of a run text can be told apart, and where they end. Assumes nothing.
use Rattle.std.proofs.Common.{◌≡◌, ℕ, ◌≤◌, cond, eqb, List, [], ◌∷◌, ◌++◌, Some, Option, sym, refl, ap, ◌∙◌, append_assoc, arith}
use Rattle.arch.specs.declared.call.Access.{Access}
use Rattle.arch.specs.declared.call.Access.TheVariants.{Fetch, Store}
use Rattle.arch.specs.declared.call.Call.{Call}
use Rattle.arch.specs.declared.call.Call.TheVariants as call
use Rattle.arch.specs.declared.call.SourceName.{SourceName}
use Rattle.arch.specs.declared.call.SourceName.TheVariants.{AccessRegister, Page}
use Rattle.std.proofs.ByRecursion.{All-append}
use Rattle.runtext.specs.declared.line.Kind.{Kind}
use Rattle.runtext.specs.declared.line.Kind.TheVariants as kind
use Rattle.runtext.specs.declared.line.Line.{Line}
use Rattle.runtext.specs.declared.line.Line.TheVariants as line
use Rattle.runtext.specs.declared.line.Verb.TheVariants as verb
use Rattle.runtext.specs.Lines.{letter, access_letter, source_letter, two, call_fields, fields, kind_of, spell_fields, spell_line}
use Rattle.runtext.specs.Numerals.{numeral}
use Rattle.runtext.specs.Reading.{Lacks, Cut}
use Rattle.runtext.proofs.Cuts.{cut_finds, numeral_lacks}

-- letters name one thing each
unletter : ℕ → Kind
unletter b =
    cond (eqb b 68) kind.Doubleword (cond (eqb b 75) kind.Key (cond (eqb b 67) (kind.Call verb.LoadControl) (cond (eqb b 65) (kind.Call verb.LoadAccess) (cond (eqb b 77) (kind.Call verb.LoadMode) (cond (eqb b 88) (kind.Call verb.SetPrefix) (cond (eqb b 84) (kind.Call verb.Translate) (cond (eqb b 87) (kind.Call verb.Put) (kind.Call verb.Purge))))))))

unletter_letter : (k : Kind) → unletter (letter k) ≡ k
unfolding unletter
unletter_letter kind.Doubleword = refl
unletter_letter kind.Key = refl
unletter_letter (kind.Call verb.LoadControl) = refl
unletter_letter (kind.Call verb.LoadAccess) = refl
unletter_letter (kind.Call verb.LoadMode) = refl
unletter_letter (kind.Call verb.SetPrefix) = refl
unletter_letter (kind.Call verb.Translate) = refl
unletter_letter (kind.Call verb.Put) = refl
unletter_letter (kind.Call verb.Purge) = refl

pub letter_same : (j k : Kind) → letter j ≡ letter k → j ≡ k
letter_same j k e = sym (unletter_letter j) ∙ ap unletter e ∙ unletter_letter k

pub letter_least : (k : Kind) → 48 ≤ letter k
letter_least kind.Doubleword = omega arith
letter_least kind.Key = omega arith
letter_least (kind.Call verb.LoadControl) = omega arith
letter_least (kind.Call verb.LoadAccess) = omega arith
letter_least (kind.Call verb.LoadMode) = omega arith
letter_least (kind.Call verb.SetPrefix) = omega arith
letter_least (kind.Call verb.Translate) = omega arith
letter_least (kind.Call verb.Put) = omega arith
letter_least (kind.Call verb.Purge) = omega arith

pub access_same : (a b : Access) → access_letter a ≡ access_letter b → a ≡ b
access_same Fetch Fetch e = refl
access_same Fetch Store e = absurd (omega arith)
access_same Store Fetch e = absurd (omega arith)
access_same Store Store e = refl

pub source_same : (a b : SourceName) → source_letter a ≡ source_letter b → a ≡ b
source_same AccessRegister AccessRegister e = refl
source_same AccessRegister Page e = absurd (omega arith)
source_same Page AccessRegister e = absurd (omega arith)
source_same Page Page e = refl

-- no line end stands in a line
two_lacks : (m n : ℕ) → Lacks 10 (two m n)
two_lacks m n = All-append (λ b. b ≡ 10 → ⊥) (numeral m) (9 ∷ numeral n) (numeral_lacks 10 m (omega arith)) (λ e. omega arith, numeral_lacks 10 n (omega arith))

access_end : (a : Access) → access_letter a ≡ 10 → ⊥
access_end Fetch e = omega arith
access_end Store e = omega arith

source_end : (a : SourceName) → source_letter a ≡ 10 → ⊥
source_end AccessRegister e = omega arith
source_end Page e = omega arith

call_lacks : (c : Call) → Lacks 10 (call_fields c)
call_lacks (call.LoadControl register value) = two_lacks register value
call_lacks (call.LoadAccess register value) = two_lacks register value
call_lacks (call.LoadMode mode size key) = All-append (λ b. b ≡ 10 → ⊥) (numeral mode) (9 ∷ two size key) (numeral_lacks 10 mode (omega arith)) (λ e. omega arith, two_lacks size key)
call_lacks (call.SetPrefix prefix) = numeral_lacks 10 prefix (omega arith)
call_lacks (call.Translate access register address) = (access_end access, (λ e. omega arith, two_lacks register address))
call_lacks (call.Put address value) = two_lacks address value
call_lacks (call.Purge source) = (source_end source, tt)

fields_lacks : (l : Line) → Lacks 10 (fields l)
fields_lacks (line.Doubleword w) = two_lacks w.address w.value
fields_lacks (line.Key k) = two_lacks k.block k.key
fields_lacks (line.Call c) = call_lacks c

pub spell_lacks : (l : Line) → Lacks 10 (spell_fields l)
spell_lacks l = (λ e. omega (arith, letter_least (kind_of l), e), (λ e. omega arith, fields_lacks l))

-- where the line l begins a text, these are its parts
pub record Parted (l : Line) (after first : List ℕ) (o q : Option (List ℕ)) : Type 0 where
  pub ends : o ≡ Some after
  pub begins : letter (kind_of l) ∷ [] ≡ first
  pub follows : q ≡ Some (fields l)

pub parted : (l : Line) (after rest bs first : List ℕ) (o q : Option (List ℕ)) → Lacks 10 bs → Cut 10 rest bs o → Lacks 9 first → Cut 9 bs first q → spell_line l ++ after ≡ rest → Parted l after first o q
parted l after rest bs first o q ll d lf f e =
    let a = cut_finds 10 rest bs o (spell_fields l) after ll d (spell_lacks l) (sym (append_assoc (spell_fields l) (10 ∷ []) after) ∙ e) in
    let b = cut_finds 9 bs first q (letter (kind_of l) ∷ []) (fields l) lf f (λ e. omega (arith, letter_least (kind_of l), e), tt) a.0 in
    record { ends = a.1; begins = b.0; follows = b.1 }

-- the first line
abbrev pub title : List ℕ
title = 82 ∷ 85 ∷ 78 ∷ 9 ∷ 49 ∷ []

pub title_lacks : Lacks 10 title
title_lacks = (λ e. omega arith, (λ e. omega arith, (λ e. omega arith, (λ e. omega arith, (λ e. omega arith, tt)))))
