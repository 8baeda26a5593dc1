-- Values without their trees: their sorts and depths.
use Rattle.std.specs.Prelude.{ℕ, ◌+◌, min, max, List, [], ◌∷◌, map, Option, option_map}
use Rattle.fort_tree.specs.declared.expr.Expr.{Expr}
use Rattle.fort_tree.specs.declared.expr.Sub.{Sub}
use Rattle.fort_tree.specs.declared.statement.Token.{Token}
use Rattle.fort_tree.specs.Expr.{depth_of, sub_depth_of, max_of, or_zero}
use Rattle.fort_grammar.specs.declared.table.Action.{Action}
use Rattle.fort_grammar.specs.declared.table.Action.TheVariants as act
use Rattle.fort_expr.specs.declared.value.Value.{Value}
use Rattle.fort_expr.specs.declared.value.Value.TheVariants as value
use Rattle.fort_expr.specs.declared.value.Shape.{Shape}
use Rattle.fort_expr.specs.declared.value.Shape.TheVariants.{Written, Operand, Bound, Subscript, Subscripts}

abbrev pub cap : ℕ → ℕ
cap d = min d 4294967295

abbrev pub subs_depth : List Sub → ℕ
subs_depth l = max_of (map sub_depth_of l)

abbrev pub bound_depth : Option Expr → ℕ
bound_depth b = or_zero (option_map depth_of b)

abbrev pub shape : Value → Shape
shape (value.Written w) = Written
shape (value.Operand e at) = Operand (cap (depth_of e))
shape (value.Bound b) = Bound (cap (bound_depth b))
shape (value.Subscript s) = Subscript (cap (sub_depth_of s))
shape (value.Subscripts l) = Subscripts (cap (subs_depth l))

abbrev pub rest_shapes : List Shape → List Shape
rest_shapes [] = []
rest_shapes (x ∷ xs) = xs

abbrev pub operand_depth : List Shape → ℕ
operand_depth (Operand d ∷ xs) = d
operand_depth _ = 1

-- of an expression or a subscript
abbrev pub top_depth : List Shape → ℕ
top_depth (Operand d ∷ xs) = d
top_depth (Subscript d ∷ xs) = d
top_depth _ = 1

abbrev pub bound_shape : List Shape → ℕ
bound_shape (Bound d ∷ xs) = d
bound_shape _ = 0

abbrev pub subscript_shape : List Shape → ℕ
subscript_shape (Subscript d ∷ xs) = d
subscript_shape _ = 0

abbrev pub subscripts_shape : List Shape → ℕ
subscripts_shape (Subscripts d ∷ xs) = d
subscripts_shape _ = 0

abbrev pub shift_shape : Token → List Shape → List Shape
shift_shape t v = Written ∷ v

-- what an action makes of the shapes
unfoldable pub apply_shape : Action → List Shape → List Shape
apply_shape act.Number v = Operand 1 ∷ rest_shapes v
apply_shape act.Truth v = Operand 1 ∷ rest_shapes v
apply_shape act.Bare v = Operand 1 ∷ rest_shapes v
apply_shape act.Subscripted v = Operand (cap (subscripts_shape (rest_shapes v) + 1)) ∷ rest_shapes (rest_shapes (rest_shapes (rest_shapes v)))
apply_shape act.Paren v = Operand (cap (operand_depth (rest_shapes v) + 1)) ∷ rest_shapes (rest_shapes (rest_shapes v))
apply_shape act.Not v = Operand (cap (operand_depth v + 1)) ∷ rest_shapes (rest_shapes v)
apply_shape act.Plus v = Operand (cap (operand_depth v + 1)) ∷ rest_shapes (rest_shapes v)
apply_shape act.Minus v = Operand (cap (operand_depth v + 1)) ∷ rest_shapes (rest_shapes v)
apply_shape act.Two v = Operand (cap (max (operand_depth (rest_shapes (rest_shapes v))) (operand_depth v) + 1)) ∷ rest_shapes (rest_shapes (rest_shapes v))
apply_shape act.NoSubs v = Subscripts 0 ∷ v
apply_shape act.FirstSub v = Subscripts (subscript_shape v) ∷ rest_shapes v
apply_shape act.NextSub v = Subscripts (max (subscripts_shape (rest_shapes (rest_shapes v))) (subscript_shape v)) ∷ rest_shapes (rest_shapes (rest_shapes v))
apply_shape act.OneSub v = Subscript (operand_depth v) ∷ rest_shapes v
apply_shape act.Section v = Subscript (max (operand_depth (rest_shapes (rest_shapes v))) (bound_shape v)) ∷ rest_shapes (rest_shapes (rest_shapes v))
apply_shape act.FromStart v = Subscript (bound_shape v) ∷ rest_shapes (rest_shapes v)
apply_shape act.Present v = Bound (operand_depth v) ∷ rest_shapes v
apply_shape _ v = Bound 0 ∷ v
