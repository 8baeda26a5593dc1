-- Trees without their places.
use Rattle.fort_tree.specs.declared.place.Place.{Place}
use Rattle.fort_tree.specs.declared.expr.Expr.{Expr}
use Rattle.fort_tree.specs.declared.expr.Expr.TheFolds.{fold-Expr, fold-Sub}
use Rattle.fort_tree.specs.declared.expr.Expr.TheOpen.{Expr-F, Sub-F}
use Rattle.fort_tree.specs.declared.expr.Expr.TheViews.{roll-Expr, roll-Sub}
use Rattle.fort_tree.specs.declared.expr.Sub.{Sub}

-- the one place that stands for all
abbrev pub nowhere : Place
nowhere = record { file = 0; line = 0; column = 0 }

-- one level of an expression with that place
abbrev pub expr_level_nowhere : {A B : Type 0} → Expr-F A B → Expr-F A B
expr_level_nowhere (Expr-F.Number n kind at) = Expr-F.Number n kind nowhere
expr_level_nowhere (Expr-F.Truth b at) = Expr-F.Truth b nowhere
expr_level_nowhere (Expr-F.Ref name subs at) = Expr-F.Ref name subs nowhere
expr_level_nowhere (Expr-F.«Expr::One» op a at) = Expr-F.«Expr::One» op a nowhere
expr_level_nowhere (Expr-F.Two op a b) = Expr-F.Two op a b
expr_level_nowhere (Expr-F.Paren a at) = Expr-F.Paren a nowhere

abbrev pub sub_level_nowhere : {A B : Type 0} → Sub-F A B → Sub-F A B
sub_level_nowhere (Sub-F.«Sub::One» e) = Sub-F.«Sub::One» e
sub_level_nowhere (Sub-F.Range from to at) = Sub-F.Range from to nowhere

-- the tree with that place in all its parts
abbrev pub unplaced : Expr → Expr
unplaced = fold-Expr Expr Sub (λ x. roll-Expr (expr_level_nowhere x)) (λ x. roll-Sub (sub_level_nowhere x))

abbrev pub unplaced_sub : Sub → Sub
unplaced_sub = fold-Sub Expr Sub (λ x. roll-Expr (expr_level_nowhere x)) (λ x. roll-Sub (sub_level_nowhere x))
