use Rattle.lookaside.specs.Found.{at_found}
use Rattle.lookaside.proofs.Tables.{no_pairs, none_found}
use Rattle.lookaside.proofs.direct_mapped.DirectMappedTableTable.clear.Goals as goal

pub returns-clause-none : goal.returns-clause-none
returns-clause-none c = no_pairs 64 c.new.ensures

pub returns-clause-nothing_found : goal.returns-clause-nothing_found
returns-clause-nothing_found c k = none_found _ (λ a e. no_pairs 64 c.new.ensures k a (at_found _ _ k a e))
