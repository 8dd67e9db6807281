-- A call's line has four bytes or more.
use Rattle.std.proofs.Common.{ℕ, ◌*◌, ◌≤◌, List, [], ◌∷◌, map, length, arith, length-append}
use Rattle.arch.specs.declared.call.Call.{Call}
use Rattle.arch.specs.declared.call.Call.TheVariants as call
use Rattle.std.specs.List.{flat_map}
use Rattle.std.proofs.lemmas.Grind.{flat_map-append}
use Rattle.runtext.specs.declared.line.Line.TheVariants as line
use Rattle.runtext.specs.Lines.{call_fields, spell_line, two}
use Rattle.runtext.specs.Runs.{Run, spell}
use Rattle.runtext.proofs.Numerals.{numeral_some}

two_some : (m n : ℕ) → 1 ≤ length (two m n)
two_some m n = simp length-append (omega (arith, numeral_some m))

fields_some : (c : Call) → 1 ≤ length (call_fields c)
fields_some (call.LoadControl register value) = two_some register value
fields_some (call.LoadAccess register value) = two_some register value
fields_some (call.LoadMode mode size key) = simp length-append (omega (arith, numeral_some mode))
fields_some (call.SetPrefix prefix) = numeral_some prefix
fields_some (call.Translate access register address) = omega arith
fields_some (call.Put address value) = two_some address value
fields_some (call.Purge source) = omega arith

calls_long : (cs : List Call) → 4 * length cs ≤ length (flat_map spell_line (map line.Call cs))
calls_long [] = omega arith
calls_long (c ∷ cs) = simp length-append (omega (arith, fields_some c, calls_long cs))

-- so a text has at most a quarter as many calls as bytes
pub few_calls : (q : Run) → 4 * length q.calls ≤ length (spell q)
unfolding spell
few_calls q =
    simp (flat_map-append, length-append) (omega (arith, calls_long q.calls))
