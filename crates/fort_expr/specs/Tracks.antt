-- Values with their shapes beside them.
use Rattle.std.specs.Prelude.{[], ◌∷◌}
use Rattle.fort_tree.specs.declared.expr.Expr.{Expr}
use Rattle.fort_tree.specs.declared.place.Place.{Place}
use Rattle.fort_tree.specs.declared.statement.Token.{Token}
use Rattle.fort_grammar.specs.declared.table.Action.{Action}
use Rattle.fort_expr.specs.declared.build.Tracked.{Tracked}
use Rattle.fort_expr.specs.declared.value.Value.TheVariants.{Operand}
use Rattle.fort_expr.specs.Values.{shift, apply}
use Rattle.fort_expr.specs.Shapes.{shape, shift_shape, apply_shape}

abbrev pub shift_both : Token → Tracked → Tracked
shift_both t v = record { values = shift t v.values; shapes = shift_shape t v.shapes }

abbrev pub apply_both : Action → Tracked → Tracked
apply_both x v = record { values = apply x v.values; shapes = apply_shape x v.shapes }

abbrev pub no_values : Tracked
no_values = record { values = []; shapes = [] }

abbrev pub one_value : Expr → Place → Tracked
one_value e at = record { values = Operand e at ∷ []; shapes = shape (Operand e at) ∷ [] }
