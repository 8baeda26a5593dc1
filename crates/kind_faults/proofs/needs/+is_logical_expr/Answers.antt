use Rattle.fort_names.specs.Sights.{means}
use Rattle.kind_faults.proofs.Logicals.{binary_logical}
use Rattle.kind_faults.proofs.needs.+is_logical_expr.Goals as goal

-- src/needs.rt
pub returns-in-Two : goal.returns-in-Two
returns-in-Two t c = binary_logical (means c.args.sight.now) c.args.expr.now c.in-Two.field-1 c.in-Two.field-2 c.in-Two.op c.is_arithmetic.result c.in-Two.is c.is_arithmetic.ensures
