-- The expressions that can be written so that they are read again.
use Rattle.std.specs.Prelude.{◌≡◌, List, []}
use Rattle.fort_tree.specs.declared.statement.Token.{Token}
use Rattle.fort_tree.specs.declared.expr.Expr.{Expr}
use Rattle.fort_tree.specs.Unplaced.{unplaced}
use Rattle.fort_expr.specs.Expression.{IsExpr}

-- Some tokens derive the expression, places set aside, however it was written: each operand's level fits its place, and names and numbers are those of tokens.
pub record IsPrintable (e : Expr) : Type 0 where
  pub tokens : List Token
  pub rest : List Token
  pub written : Expr
  pub derive : IsExpr tokens rest written
  pub same : unplaced written ≡ unplaced e

-- the tokens are the expression, its places set aside
pub record AreExpression (tokens : List Token) (e : Expr) : Type 0 where
  pub tree : Expr
  pub derive : IsExpr tokens [] tree
  pub same : unplaced tree ≡ unplaced e
