use Rattle.column_scalars.proofs.Referring.{interface_kept}
use Rattle.column_scalars.proofs.Erasing.{erased_to_source}
use Rattle.column_scalars.proofs.Spreading.{statements_spread}
use Rattle.column_scalars.proofs.made.made_for_all_columns.Goals as goal

pub returns-clause-interface : goal.returns-clause-interface
returns-clause-interface c = interface_kept

pub returns-clause-erased : goal.returns-clause-erased
returns-clause-erased c = erased_to_source

pub returns-clause-spread : goal.returns-clause-spread
returns-clause-spread c = statements_spread
