-- An arithmetic operation and a signed expression are never LOGICAL.
use Rattle.std.proofs.Common.{◌≡◌, Bool, true, false, not, if◌then◌else◌, Option, None, Some, refl, sym, ap, ◌∙◌}
use Rattle.fort_arith.specs.declared.kind.Kind.{Kind}
use Rattle.fort_arith.specs.declared.kind.Kind.TheVariants.{I1, I2, I4, I8, Logical}
use Rattle.fort_arith.specs.declared.op.Op.{Op}
use Rattle.fort_arith.specs.Operators.{is_arithmetic}
use Rattle.fort_tree.specs.declared.expr.Expr as tree_expr
use Rattle.fort_tree.specs.declared.expr.Expr.TheVariants as expr
use Rattle.claw_meaning.specs.Syntax.{Text}
use Rattle.claw_meaning.specs.Scope.{Entity}
use Rattle.sound_programs.specs.Kinding.{kind, integer, is_logical, greater_of}
use Rattle.sound_programs.specs.Placing.{placed_expr}
use Rattle.fort_kinds.proofs.Levels.{of_two}

pub sign_never_logical : (a : Option Kind) → is_logical (integer a) ≡ false
sign_never_logical None = refl
sign_never_logical (Some I1) = refl
sign_never_logical (Some I2) = refl
sign_never_logical (Some I4) = refl
sign_never_logical (Some I8) = refl
sign_never_logical (Some Logical) = refl

pub never_logical : (a b : Option Kind) → is_logical (greater_of (integer a) (integer b)) ≡ false
never_logical None b = refl
never_logical (Some I1) None = refl
never_logical (Some I1) (Some I1) = refl
never_logical (Some I1) (Some I2) = refl
never_logical (Some I1) (Some I4) = refl
never_logical (Some I1) (Some I8) = refl
never_logical (Some I1) (Some Logical) = refl
never_logical (Some I2) None = refl
never_logical (Some I2) (Some I1) = refl
never_logical (Some I2) (Some I2) = refl
never_logical (Some I2) (Some I4) = refl
never_logical (Some I2) (Some I8) = refl
never_logical (Some I2) (Some Logical) = refl
never_logical (Some I4) None = refl
never_logical (Some I4) (Some I1) = refl
never_logical (Some I4) (Some I2) = refl
never_logical (Some I4) (Some I4) = refl
never_logical (Some I4) (Some I8) = refl
never_logical (Some I4) (Some Logical) = refl
never_logical (Some I8) None = refl
never_logical (Some I8) (Some I1) = refl
never_logical (Some I8) (Some I2) = refl
never_logical (Some I8) (Some I4) = refl
never_logical (Some I8) (Some I8) = refl
never_logical (Some I8) (Some Logical) = refl
never_logical (Some Logical) b = refl

pub binary_logical : (entity : Text → Entity) (e a b : tree_expr.Expr) (op : Op) (v : Bool) → e ≡ expr.Two op a b → v ≡ is_arithmetic op → not v ≡ is_logical (kind entity (placed_expr e))
binary_logical entity e a b op v is h =
    ap not h ∙ go (is_arithmetic op) ∙ ap (λ p. is_logical (kind entity p)) (sym (ap placed_expr is ∙ of_two op a b))
  where
    go : (w : Bool) → not w ≡ is_logical (if w then greater_of (integer (kind entity (placed_expr a))) (integer (kind entity (placed_expr b))) else Some Logical)
    go true = sym (never_logical (kind entity (placed_expr a)) (kind entity (placed_expr b)))
    go false = refl
