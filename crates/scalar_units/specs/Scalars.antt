-- Trees of column scalars.
use Rattle.std.specs.Prelude.{◌≡◌}
use Rattle.fort_tree.specs.declared.unit.Unit.{Unit as TreeUnit}
use Rattle.claw_meaning.specs.Plain.{plain_unit}
use Rattle.column_scalars.specs.Scalars.{Scalars, IsScalars, source_unit}

-- the unit's plain tree is that of column scalars
pub record IsScalarsUnit (u : TreeUnit) : Type 0 where
  pub scalars : Scalars
  pub is : IsScalars scalars
  pub plain : plain_unit u ≡ source_unit scalars
