-- The depth of each form, one level at a time.
use Rattle.std.proofs.Common.{◌≡◌, ℕ, ◌+◌, max, Bool, List, [], ◌∷◌, ◌++◌, Option, None, Some, map, refl, sym, ap, ◌∙◌, arith}
use Rattle.std.specs.Prelude.{fold}
use Rattle.fort_arith.specs.declared.kind.Kind.{Kind}
use Rattle.fort_arith.specs.declared.op.Op.{Op}
use Rattle.fort_tree.specs.declared.place.Place.{Place}
use Rattle.fort_tree.specs.declared.expr.Unary.{Unary}
use Rattle.fort_tree.specs.declared.expr.Expr.{Expr}
use Rattle.fort_tree.specs.declared.expr.Sub.{Sub}
use Rattle.fort_tree.specs.declared.expr.Expr.TheOpen.{Expr-F, Sub-F}
use Rattle.fort_tree.specs.declared.expr.Expr.TheFolds.{fold-roll-Expr, fold-roll-Sub}
use Rattle.fort_tree.specs.declared.expr.Expr.TheVariants.{Number, Truth, Ref, One, Two, Paren, rolls-Number, rolls-Truth, rolls-Ref, rolls-One, rolls-Two, rolls-Paren}
use Rattle.fort_tree.specs.declared.expr.Sub.TheVariants.{One as Alone, rolls-One as rolls-Alone, Range, rolls-Range}
use Rattle.fort_tree.specs.Expr.{depth_of, sub_depth_of, depth_step, sub_depth_step}
use Rattle.fort_expr.specs.Shapes.{subs_depth, bound_depth}

pub depth-number : (n : ℕ) (kind : Option Kind) (at : Place) → depth_of (Number n kind at) ≡ 1
depth-number n kind at = ap depth_of (sym (rolls-Number n kind at)) ∙ fold-roll-Expr ℕ ℕ depth_step sub_depth_step (Expr-F.Number n kind at)

pub depth-truth : (b : Bool) (at : Place) → depth_of (Truth b at) ≡ 1
depth-truth b at = ap depth_of (sym (rolls-Truth b at)) ∙ fold-roll-Expr ℕ ℕ depth_step sub_depth_step (Expr-F.Truth b at)

pub depth-two : (o : Op) (a b : Expr) → depth_of (Two o a b) ≡ max (depth_of a) (depth_of b) + 1
depth-two o a b = ap depth_of (sym (rolls-Two o a b)) ∙ fold-roll-Expr ℕ ℕ depth_step sub_depth_step (Expr-F.Two o a b)

pub depth-one : (o : Unary) (a : Expr) (at : Place) → depth_of (One o a at) ≡ depth_of a + 1
depth-one o a at = ap depth_of (sym (rolls-One o a at)) ∙ fold-roll-Expr ℕ ℕ depth_step sub_depth_step (Expr-F.«Expr::One» o a at)

pub depth-paren : (a : Expr) (at : Place) → depth_of (Paren a at) ≡ depth_of a + 1
depth-paren a at = ap depth_of (sym (rolls-Paren a at)) ∙ fold-roll-Expr ℕ ℕ depth_step sub_depth_step (Expr-F.Paren a at)

pub depth-bare : (name : List ℕ) (at : Place) → depth_of (Ref name None at) ≡ 1
depth-bare name at = ap depth_of (sym (rolls-Ref name None at)) ∙ (fold-roll-Expr ℕ ℕ depth_step sub_depth_step (Expr-F.Ref name None at))

pub depth-subs : (name : List ℕ) (l : List Sub) (at : Place) → depth_of (Ref name (Some l) at) ≡ subs_depth l + 1
depth-subs name l at = ap depth_of (sym (rolls-Ref name (Some l) at)) ∙ fold-roll-Expr ℕ ℕ depth_step sub_depth_step (Expr-F.Ref name (Some l) at)

pub depth-single : (a : Expr) → sub_depth_of (Alone a) ≡ depth_of a
depth-single a = ap sub_depth_of (sym (rolls-Alone a)) ∙ fold-roll-Sub ℕ ℕ depth_step sub_depth_step (Sub-F.«Sub::One» a)

pub depth-range : (a b : Option Expr) (at : Place) → sub_depth_of (Range a b at) ≡ max (bound_depth a) (bound_depth b)
depth-range None None at = ap sub_depth_of (sym (rolls-Range None None at)) ∙ fold-roll-Sub ℕ ℕ depth_step sub_depth_step (Sub-F.Range None None at)
depth-range (Some a) None at = ap sub_depth_of (sym (rolls-Range (Some a) None at)) ∙ fold-roll-Sub ℕ ℕ depth_step sub_depth_step (Sub-F.Range (Some a) None at)
depth-range None (Some b) at = ap sub_depth_of (sym (rolls-Range None (Some b) at)) ∙ fold-roll-Sub ℕ ℕ depth_step sub_depth_step (Sub-F.Range None (Some b) at)
depth-range (Some a) (Some b) at = ap sub_depth_of (sym (rolls-Range (Some a) (Some b) at)) ∙ fold-roll-Sub ℕ ℕ depth_step sub_depth_step (Sub-F.Range (Some a) (Some b) at)

max-onto : (k : ℕ) (l : List Sub) (s : Sub) → fold max k (map sub_depth_of (l ++ s ∷ [])) ≡ max (fold max k (map sub_depth_of l)) (sub_depth_of s)
max-onto k [] s = refl
max-onto k (x ∷ l) s = max-onto (max k (sub_depth_of x)) l s

pub subs-more : (l : List Sub) (s : Sub) → subs_depth (l ++ s ∷ []) ≡ max (subs_depth l) (sub_depth_of s)
subs-more l s = max-onto 0 l s

pub subs-first : (s : Sub) → subs_depth (s ∷ []) ≡ sub_depth_of s
subs-first s = omega arith
