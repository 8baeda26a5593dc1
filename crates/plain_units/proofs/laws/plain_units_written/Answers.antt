use Rattle.plain_units.proofs.Interfaces.{plain_written}
use Rattle.plain_units.proofs.laws.plain_units_written.Goals as goal

-- src/laws.rt
pub returns-clause-interface : goal.returns-clause-interface
returns-clause-interface c s t h are i u v a b k = (plain_written s t h are i u v a b k).interface_of

pub returns-clause-erased : goal.returns-clause-erased
returns-clause-erased c s t h are i u v a b k = (plain_written s t h are i u v a b k).erased_of

pub returns-clause-unmarked : goal.returns-clause-unmarked
returns-clause-unmarked c s t h are i u v a b k = (plain_written s t h are i u v a b k).unmarked_of

pub returns-clause-routine : goal.returns-clause-routine
returns-clause-routine c s t h are i u v a b k = (plain_written s t h are i u v a b k).routine_of
