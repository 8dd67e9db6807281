-- The lines of a run text.
use Rattle.std.specs.Prelude.{◌≡◌, ℕ, ◌%◌, ◌^◌, ◌<◌, List, [], ◌∷◌, ◌++◌, codes, slice_index}
use Prim.Native.String.{String}
use Rattle.arch.specs.declared.call.Access.{Access}
use Rattle.arch.specs.declared.call.Access.TheVariants.{Fetch, Store}
use Rattle.arch.specs.declared.call.Call.{Call}
use Rattle.arch.specs.declared.call.Call.TheVariants as call
use Rattle.arch.specs.declared.call.SourceName.{SourceName}
use Rattle.arch.specs.declared.call.SourceName.TheVariants.{AccessRegister, Page}
use Rattle.runtext.specs.declared.line.Kind.{Kind}
use Rattle.runtext.specs.declared.line.Kind.TheVariants as kind
use Rattle.runtext.specs.declared.line.Line.{Line}
use Rattle.runtext.specs.declared.line.Line.TheVariants as line
use Rattle.runtext.specs.declared.line.Verb.{Verb}
use Rattle.runtext.specs.declared.line.Verb.TheVariants as verb
use Rattle.runtext.specs.Numerals.{numeral}

-- the bytes that part fields and end lines
abbrev pub tab : ℕ
tab = 9

abbrev pub line_end : ℕ
line_end = 10

-- the number of a one-letter text
abbrev pub byte : String → ℕ
byte s = slice_index (codes s) 0

abbrev pub verb_of : Call → Verb
verb_of (call.LoadControl register value) = verb.LoadControl
verb_of (call.LoadAccess register value) = verb.LoadAccess
verb_of (call.LoadMode mode size key) = verb.LoadMode
verb_of (call.SetPrefix prefix) = verb.SetPrefix
verb_of (call.Translate access register address) = verb.Translate
verb_of (call.Put address value) = verb.Put
verb_of (call.Purge source) = verb.Purge

abbrev pub kind_of : Line → Kind
kind_of (line.Doubleword w) = kind.Doubleword
kind_of (line.Key k) = kind.Key
kind_of (line.Call c) = kind.Call (verb_of c)

-- the letter that is the first field
abbrev pub letter : Kind → ℕ
letter kind.Doubleword = byte "D"
letter kind.Key = byte "K"
letter (kind.Call verb.LoadControl) = byte "C"
letter (kind.Call verb.LoadAccess) = byte "A"
letter (kind.Call verb.LoadMode) = byte "M"
letter (kind.Call verb.SetPrefix) = byte "X"
letter (kind.Call verb.Translate) = byte "T"
letter (kind.Call verb.Put) = byte "W"
letter (kind.Call verb.Purge) = byte "Z"

abbrev pub access_letter : Access → ℕ
access_letter Fetch = byte "F"
access_letter Store = byte "S"

abbrev pub source_letter : SourceName → ℕ
source_letter AccessRegister = byte "A"
source_letter Page = byte "T"

abbrev pub two : ℕ → ℕ → List ℕ
two m n = numeral m ++ (tab ∷ numeral n)

-- the fields after the first
abbrev pub call_fields : Call → List ℕ
call_fields (call.LoadControl register value) = two register value
call_fields (call.LoadAccess register value) = two register value
call_fields (call.LoadMode mode size key) = numeral mode ++ (tab ∷ two size key)
call_fields (call.SetPrefix prefix) = numeral prefix
call_fields (call.Translate access register address) = access_letter access ∷ tab ∷ two register address
call_fields (call.Put address value) = two address value
call_fields (call.Purge source) = source_letter source ∷ []

abbrev pub fields : Line → List ℕ
fields (line.Doubleword w) = two w.address w.value
fields (line.Key k) = two k.block k.key
fields (line.Call c) = call_fields c

-- a line without its end, and with it
abbrev pub spell_fields : Line → List ℕ
spell_fields l = letter (kind_of l) ∷ tab ∷ fields l

abbrev pub spell_line : Line → List ℕ
spell_line l = spell_fields l ++ (line_end ∷ [])

abbrev pub Number : ℕ → Type 0
Number n = n < 2 ^ 64

-- what a line may hold
abbrev pub SoundCall : Call → Type 0
SoundCall (call.LoadControl register value) = Number register × Number value
SoundCall (call.LoadAccess register value) = Number register × Number value
SoundCall (call.LoadMode mode size key) = Number mode × Number size × Number key
SoundCall (call.SetPrefix prefix) = Number prefix
SoundCall (call.Translate access register address) = Number register × Number address
SoundCall (call.Put address value) = Number address × Number value
SoundCall (call.Purge source) = Unit {0}

abbrev pub Sound : Line → Type 0
Sound (line.Doubleword w) = Number w.address × Number w.value × (w.address % 8 ≡ 0)
Sound (line.Key k) = Number k.block × (k.key < 32)
Sound (line.Call c) = SoundCall c
