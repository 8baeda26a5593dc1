-- The pieces of an expression.
use Rattle.std.specs.Prelude.{Bool, true, false, List, Option, None, Some, option_map}
use Rattle.fort_arith.specs.declared.op.Op.{Op}
use Rattle.fort_arith.specs.declared.op.Op.TheVariants as op
use Rattle.fort_tree.specs.declared.expr.Unary.{Unary}
use Rattle.fort_tree.specs.declared.expr.Unary.TheVariants as unary
use Rattle.fort_tree.specs.declared.expr.Expr.{Expr}
use Rattle.fort_tree.specs.declared.expr.Sub.{Sub}
use Rattle.fort_tree.specs.declared.expr.Expr.TheOpen.{Expr-F, Sub-F}
use Rattle.fort_tree.specs.declared.expr.Expr.TheFolds.{fold-Expr, fold-Sub}
use Rattle.fort_spell.specs.declared.mark.Mark.{Mark}
use Rattle.fort_spell.specs.declared.mark.Mark.TheVariants as mark
use Rattle.fort_spell.specs.Pieces.{Piece, Spelling, word, number, sign, bracketed, span}

abbrev pub op_mark : Op → Mark
op_mark op.Pow = mark.Power
op_mark op.Mul = mark.Star
op_mark op.Div = mark.Slash
op_mark op.Add = mark.Plus
op_mark op.Sub = mark.Minus
op_mark op.Eq = mark.Equal
op_mark op.Ne = mark.NotEqual
op_mark op.Lt = mark.Less
op_mark op.Le = mark.LessEqual
op_mark op.Gt = mark.Greater
op_mark op.Ge = mark.GreaterEqual
op_mark op.And = mark.And
op_mark op.Or = mark.Or
op_mark op.Eqv = mark.Eqv
op_mark op.Neqv = mark.Neqv

-- Relations and logical operators have a blank on each side.
abbrev pub loose : Op → Bool
loose op.Pow = false
loose op.Mul = false
loose op.Div = false
loose op.Add = false
loose op.Sub = false
loose _ = true

abbrev pub unary_mark : Unary → Mark
unary_mark unary.Plus = mark.Plus
unary_mark unary.Minus = mark.Minus
unary_mark unary.Not = mark.Not

-- A blank stands behind `.not.`.
abbrev pub unary_loose : Unary → Bool
unary_loose unary.Plus = false
unary_loose unary.Minus = false
unary_loose unary.Not = true

abbrev pub truth_mark : Bool → Mark
truth_mark true = mark.True
truth_mark false = mark.False

-- subscripts or arguments in parentheses, where there are any
abbrev pub in_parens : Option (List Spelling) → List Piece → List Piece
in_parens None k = k
in_parens (Some fs) k = bracketed false fs false k

abbrev pub expr_step : Expr-F Spelling Spelling → Spelling
expr_step (Expr-F.Number n kind at) s k = number s n kind k
expr_step (Expr-F.Truth b at) s k = sign s (truth_mark b) k
expr_step (Expr-F.Ref name subs at) s k = word s name (in_parens subs k)
expr_step (Expr-F.«Expr::One» o a at) s k = sign s (unary_mark o) (a (unary_loose o) k)
expr_step (Expr-F.Two o a b) s k = a s (sign (loose o) (op_mark o) (b (loose o) k))
expr_step (Expr-F.Paren a at) s k = sign s mark.Open (a false (sign false mark.Close k))

abbrev pub sub_step : Sub-F Spelling Spelling → Spelling
sub_step (Sub-F.«Sub::One» e) s k = e s k
sub_step (Sub-F.Range a b at) s k = span a b s k

abbrev pub expr_pieces : Expr → Spelling
expr_pieces = fold-Expr Spelling Spelling expr_step sub_step

abbrev pub sub_pieces : Sub → Spelling
sub_pieces = fold-Sub Spelling Spelling expr_step sub_step

abbrev pub bound_pieces : Option Expr → Option Spelling
bound_pieces = option_map expr_pieces
