-- A condition that is met where a test says so.
use Rattle.std.specs.Prelude.{Bool, cond, Ok, Err, Result}
use Rattle.arch.specs.declared.condition.Condition.{Condition}

abbrev pub checked : Condition → Bool → Result (Unit {0}) Condition
checked c applies = cond applies (Err c) (Ok tt)
