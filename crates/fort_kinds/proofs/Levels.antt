-- The placed tree of each form of an expression.
use Rattle.std.proofs.Common.{◌≡◌, Option, None, Some, ap, sym, ◌∙◌}
use Rattle.fort_arith.specs.declared.op.Op.{Op}
use Rattle.fort_tree.specs.declared.expr.Expr as tree_expr
use Rattle.fort_tree.specs.declared.expr.Expr.TheOpen.{Expr-F, Sub-F}
use Rattle.fort_tree.specs.declared.expr.Expr.TheFolds.{fold-roll-Expr, fold-roll-Sub}
use Rattle.fort_tree.specs.declared.expr.Expr.TheVariants as expr
use Rattle.fort_tree.specs.declared.expr.Sub as tree_sub
use Rattle.fort_tree.specs.declared.expr.Sub.TheVariants as sub
use Rattle.fort_tree.specs.declared.place.Place.{Place}
use Rattle.sound_programs.specs.Placed.{Expr, Binary, Subscripts, One, Section}
use Rattle.sound_programs.specs.Placing.{Before, expr_step, sub_step, limit, placed_expr, placed_option, placed_sub}

pub of_two : (op : Op) (a b : tree_expr.Expr) → placed_expr (expr.Two op a b) ≡ Binary op (placed_expr a) (placed_expr b)
of_two op a b = ap placed_expr (sym (expr.rolls-Two op a b)) ∙ fold-roll-Expr Expr Before expr_step sub_step (Expr-F.Two op a b)

-- a subscript that is an expression, and a section
pub of_alone : (s : tree_sub.Sub) (e : tree_expr.Expr) → s ≡ sub.One e → (rest : Subscripts) → placed_sub s rest ≡ One (placed_expr e) rest
of_alone s e is rest =
    ap (λ (x : tree_sub.Sub). placed_sub x rest) is
    ∙ ap (λ (f : Before). f rest) (ap placed_sub (sym (sub.rolls-One e)) ∙ fold-roll-Sub Expr Before expr_step sub_step (Sub-F.«Sub::One» e))

of_section : (lower upper : Option tree_expr.Expr) (at : Place) (rest : Subscripts) →
    placed_sub (sub.Range lower upper at) rest ≡ Section (limit (placed_option lower)) (limit (placed_option upper)) at rest
of_section None None at rest = ap (λ (f : Before). f rest) (ap placed_sub (sym (sub.rolls-Range None None at)) ∙ fold-roll-Sub Expr Before expr_step sub_step (Sub-F.Range None None at))
of_section None (Some b) at rest = ap (λ (f : Before). f rest) (ap placed_sub (sym (sub.rolls-Range None (Some b) at)) ∙ fold-roll-Sub Expr Before expr_step sub_step (Sub-F.Range None (Some b) at))
of_section (Some a) None at rest = ap (λ (f : Before). f rest) (ap placed_sub (sym (sub.rolls-Range (Some a) None at)) ∙ fold-roll-Sub Expr Before expr_step sub_step (Sub-F.Range (Some a) None at))
of_section (Some a) (Some b) at rest = ap (λ (f : Before). f rest) (ap placed_sub (sym (sub.rolls-Range (Some a) (Some b) at)) ∙ fold-roll-Sub Expr Before expr_step sub_step (Sub-F.Range (Some a) (Some b) at))

pub of_range : (s : tree_sub.Sub) (lower upper : Option tree_expr.Expr) (at : Place) → s ≡ sub.Range lower upper at → (rest : Subscripts) →
    placed_sub s rest ≡ Section (limit (placed_option lower)) (limit (placed_option upper)) at rest
of_range s lower upper at is rest = ap (λ (x : tree_sub.Sub). placed_sub x rest) is ∙ of_section lower upper at rest
