-- What is of a kind, by what the kind is made of. Assumes nothing.
use Rattle.std.proofs.Common.{◌≡◌, ℕ, [], ◌∷◌, subst, arith}
use Rattle.arch.specs.declared.call.Access.{Access}
use Rattle.arch.specs.declared.call.Access.TheVariants.{Fetch, Store}
use Rattle.arch.specs.declared.call.Call.{Call}
use Rattle.arch.specs.declared.call.Call.TheVariants as call
use Rattle.arch.specs.declared.call.SourceName.{SourceName}
use Rattle.arch.specs.declared.record.BlockKey.{BlockKey}
use Rattle.arch.specs.declared.record.Word.{Word}
use Rattle.runtext.specs.declared.line.Kind.{Kind}
use Rattle.runtext.specs.declared.line.Kind.TheVariants as kind
use Rattle.runtext.specs.declared.line.Line.{Line}
use Rattle.runtext.specs.declared.line.Line.TheVariants as line
use Rattle.runtext.specs.declared.line.Verb.{Verb}
use Rattle.runtext.specs.declared.line.Verb.TheVariants as verb
use Rattle.runtext.specs.Lines.{access_letter, verb_of, kind_of}
use Rattle.runtext.specs.Reading.{Lacks}

-- P holds of each call of a verb
abbrev pub Calls : (Call → Type 0) → Verb → Type 0
Calls P verb.LoadControl = (register value : ℕ) → P (call.LoadControl register value)
Calls P verb.LoadAccess = (register value : ℕ) → P (call.LoadAccess register value)
Calls P verb.LoadMode = (mode size key : ℕ) → P (call.LoadMode mode size key)
Calls P verb.SetPrefix = (prefix : ℕ) → P (call.SetPrefix prefix)
Calls P verb.Translate = (access : Access) (register address : ℕ) → P (call.Translate access register address)
Calls P verb.Put = (address value : ℕ) → P (call.Put address value)
Calls P verb.Purge = (source : SourceName) → P (call.Purge source)

call_by : (P : Call → Type 0) (c : Call) → Calls P (verb_of c) → P c
call_by P (call.LoadControl register value) f = f register value
call_by P (call.LoadAccess register value) f = f register value
call_by P (call.LoadMode mode size key) f = f mode size key
call_by P (call.SetPrefix prefix) f = f prefix
call_by P (call.Translate access register address) f = f access register address
call_by P (call.Put address value) f = f address value
call_by P (call.Purge source) f = f source

pub by_verb : (P : Call → Type 0) (v : Verb) → Calls P v → (c : Call) → verb_of c ≡ v → P c
by_verb P v f c e = subst (λ w. Calls P w → P c) e (call_by P c) f

-- P holds of each line of a kind
abbrev pub OfKind : (Line → Type 0) → Kind → Type 0
OfKind P kind.Doubleword = (w : Word) → P (line.Doubleword w)
OfKind P kind.Key = (k : BlockKey) → P (line.Key k)
OfKind P (kind.Call v) = (c : Call) → verb_of c ≡ v → P (line.Call c)

line_by : (P : Line → Type 0) (l : Line) → OfKind P (kind_of l) → P l
line_by P (line.Doubleword w) f = f w
line_by P (line.Key k) f = f k
line_by P (line.Call c) f = f c (λ _. verb_of c)

pub by_kind : (P : Line → Type 0) (k : Kind) → OfKind P k → (l : Line) → kind_of l ≡ k → P l
by_kind P k f l e = subst (λ j. OfKind P j → P l) e (line_by P l) f

pub access_lacks : (a : Access) → Lacks 9 (access_letter a ∷ [])
access_lacks Fetch = (λ e. omega arith, tt)
access_lacks Store = (λ e. omega arith, tt)
