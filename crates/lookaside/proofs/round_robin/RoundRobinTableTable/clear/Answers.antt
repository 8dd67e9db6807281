use Rattle.lookaside.specs.Found.{first_found}
use Rattle.lookaside.proofs.Tables.{no_pairs, none_found}
use Rattle.lookaside.proofs.round_robin.RoundRobinTableTable.clear.Goals as goal

pub returns-clause-none : goal.returns-clause-none
returns-clause-none c = no_pairs 32 c.new.ensures.rows

pub returns-clause-nothing_found : goal.returns-clause-nothing_found
returns-clause-nothing_found c k = none_found _ (λ a e. no_pairs 32 c.new.ensures.rows k a (first_found _ k a e))
