-- Puts at real addresses, and the prefix layer after a call.
use Rattle.std.specs.Prelude.{◌≡◌, ℕ, ◌%◌, Bool, cond, MatchBool, Some, None, Ok, Err, Option, Result, ◌==◌}
use Rattle.arch.specs.declared.condition.Condition.{Condition}
use Rattle.arch.specs.declared.condition.Condition.TheVariants.{Unaligned}
use Rattle.arch.specs.declared.record.Word.{Word}
use Rattle.storage.specs.declared.prefix.Prefixed.{Prefixed}
use Rattle.storage.specs.Layer.{prefix_of}
use Rattle.storage.specs.Prefixes.{absolute}
use Rattle.storage.specs.Views.{View, after_put, put_result}

-- a put is refused at what is no multiple of 8, before everything
abbrev pub put_answer : View → ℕ → Result (Unit {0}) Condition
put_answer v a = cond (a % 8 == 0) (put_result v a) (Err Unaligned)

-- the doubleword that a put would set, none at what is no multiple of 8
abbrev pub put_of : ℕ → ℕ → Option Word
put_of a x = cond (a % 8 == 0) (Some (record { address = a; value = x })) None

-- and the one that a store would set, where its translation gives an address
abbrev pub stored_by : Result ℕ Condition → ℕ → Option Word
stored_by (Ok real) x = put_of real x
stored_by (Err c) x = None

-- a storage after a put
abbrev pub after_puts : Option Word → View → View
after_puts None v = v
after_puts (Some w) v = after_put v w.address w.value

-- the storage beneath a prefix after a put at a real address
abbrev pub after_puts_under : ℕ → Option Word → View → View
after_puts_under prefix None v = v
after_puts_under prefix (Some w) v = after_put v (absolute prefix w.address) w.value

-- the layer is as it was where the call is refused, and else stands at this prefix
abbrev pub LayerAfter : {S : Type 0} → Bool → ℕ → Prefixed S → Prefixed S → Type 0
LayerAfter refused prefix before after = MatchBool refused (after ≡ before) (prefix_of after ≡ prefix)
