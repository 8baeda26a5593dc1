-- The pieces of each form of an expression.
use Rattle.std.proofs.Common.{◌≡◌, ℕ, List, [], ◌∷◌, ◌++◌, Option, None, Some, Bool, false, map, refl, sym, ap, ◌∙◌}
use Rattle.fort_arith.specs.declared.kind.Kind.{Kind}
use Rattle.fort_arith.specs.declared.op.Op.{Op}
use Rattle.fort_tree.specs.declared.place.Place.{Place}
use Rattle.fort_tree.specs.declared.expr.Unary.{Unary}
use Rattle.fort_tree.specs.declared.expr.Expr.{Expr}
use Rattle.fort_tree.specs.declared.expr.Sub.{Sub}
use Rattle.fort_tree.specs.declared.expr.Expr.TheOpen.{Expr-F, Sub-F}
use Rattle.fort_tree.specs.declared.expr.Expr.TheFolds.{fold-roll-Expr, fold-roll-Sub}
use Rattle.fort_tree.specs.declared.expr.Expr.TheVariants as expr
use Rattle.fort_tree.specs.declared.expr.Sub.TheVariants as sub
use Rattle.fort_spell.specs.declared.mark.Mark.TheVariants as mark
use Rattle.fort_spell.specs.Pieces.{Piece, Spelling, word, number, sign, bracketed, lower, or_none, items, more_items}
use Rattle.fort_spell.specs.Expressions.{expr_step, sub_step, expr_pieces, sub_pieces, loose, op_mark, truth_mark, unary_mark, unary_loose, bound_pieces}

at : {f g : Spelling} → f ≡ g → (s : Bool) (k : List Piece) → f s k ≡ g s k
at e s k = ap (λ h. h s k) e

pub number_pieces : (n : ℕ) (j : Option Kind) (p : Place) (s : Bool) (k : List Piece) → expr_pieces (expr.Number n j p) s k ≡ number s n j k
number_pieces n j p s k = at (ap expr_pieces (sym (expr.rolls-Number n j p)) ∙ fold-roll-Expr Spelling Spelling expr_step sub_step (Expr-F.Number n j p)) s k

pub truth_pieces : (b : Bool) (p : Place) (s : Bool) (k : List Piece) → expr_pieces (expr.Truth b p) s k ≡ sign s (truth_mark b) k
truth_pieces b p s k = at (ap expr_pieces (sym (expr.rolls-Truth b p)) ∙ fold-roll-Expr Spelling Spelling expr_step sub_step (Expr-F.Truth b p)) s k

pub name_pieces : (n : List ℕ) (p : Place) (s : Bool) (k : List Piece) → expr_pieces (expr.Ref n None p) s k ≡ word s n k
name_pieces n p s k = at (ap expr_pieces (sym (expr.rolls-Ref n None p)) ∙ fold-roll-Expr Spelling Spelling expr_step sub_step (Expr-F.Ref n None p)) s k

pub ref_pieces : (n : List ℕ) (l : List Sub) (p : Place) (s : Bool) (k : List Piece) → expr_pieces (expr.Ref n (Some l) p) s k ≡ word s n (bracketed false (map sub_pieces l) false k)
ref_pieces n l p s k = at (ap expr_pieces (sym (expr.rolls-Ref n (Some l) p)) ∙ fold-roll-Expr Spelling Spelling expr_step sub_step (Expr-F.Ref n (Some l) p)) s k

pub one_pieces : (o : Unary) (a : Expr) (p : Place) (s : Bool) (k : List Piece) → expr_pieces (expr.One o a p) s k ≡ sign s (unary_mark o) (expr_pieces a (unary_loose o) k)
one_pieces o a p s k = at (ap expr_pieces (sym (expr.rolls-One o a p)) ∙ fold-roll-Expr Spelling Spelling expr_step sub_step (Expr-F.«Expr::One» o a p)) s k

pub two_pieces : (o : Op) (a b : Expr) (s : Bool) (k : List Piece) → expr_pieces (expr.Two o a b) s k ≡ expr_pieces a s (sign (loose o) (op_mark o) (expr_pieces b (loose o) k))
two_pieces o a b s k = at (ap expr_pieces (sym (expr.rolls-Two o a b)) ∙ fold-roll-Expr Spelling Spelling expr_step sub_step (Expr-F.Two o a b)) s k

pub paren_pieces : (a : Expr) (p : Place) (s : Bool) (k : List Piece) → expr_pieces (expr.Paren a p) s k ≡ sign s mark.Open (expr_pieces a false (sign false mark.Close k))
paren_pieces a p s k = at (ap expr_pieces (sym (expr.rolls-Paren a p)) ∙ fold-roll-Expr Spelling Spelling expr_step sub_step (Expr-F.Paren a p)) s k

pub alone_pieces : (e : Expr) (s : Bool) (k : List Piece) → sub_pieces (sub.One e) s k ≡ expr_pieces e s k
alone_pieces e s k = at (ap sub_pieces (sym (sub.rolls-One e)) ∙ fold-roll-Sub Spelling Spelling expr_step sub_step (Sub-F.«Sub::One» e)) s k

pub range_pieces : (a b : Option Expr) (p : Place) (s : Bool) (k : List Piece) → sub_pieces (sub.Range a b p) s k ≡ lower (bound_pieces a) s (or_none (bound_pieces b) false k)
range_pieces None None p s k = at (ap sub_pieces (sym (sub.rolls-Range None None p)) ∙ fold-roll-Sub Spelling Spelling expr_step sub_step (Sub-F.Range None None p)) s k
range_pieces None (Some y) p s k = at (ap sub_pieces (sym (sub.rolls-Range None (Some y) p)) ∙ fold-roll-Sub Spelling Spelling expr_step sub_step (Sub-F.Range None (Some y) p)) s k
range_pieces (Some x) None p s k = at (ap sub_pieces (sym (sub.rolls-Range (Some x) None p)) ∙ fold-roll-Sub Spelling Spelling expr_step sub_step (Sub-F.Range (Some x) None p)) s k
range_pieces (Some x) (Some y) p s k = at (ap sub_pieces (sym (sub.rolls-Range (Some x) (Some y) p)) ∙ fold-roll-Sub Spelling Spelling expr_step sub_step (Sub-F.Range (Some x) (Some y) p)) s k

-- A list with one item more.

more_one : (gap : Bool) (fs : List Spelling) (f : Spelling) (k : List Piece) → more_items gap (fs ++ f ∷ []) k ≡ more_items gap fs (sign false mark.Comma (f gap k))
more_one gap [] f k = refl
more_one gap (g ∷ fs) f k = ap (λ x. sign false mark.Comma (g gap x)) (more_one gap fs f k)

pub items_one : (gap : Bool) (g : Spelling) (fs : List Spelling) (f : Spelling) (s : Bool) (k : List Piece) → items gap (g ∷ (fs ++ f ∷ [])) s k ≡ items gap (g ∷ fs) s (sign false mark.Comma (f gap k))
items_one gap g fs f s k = ap (λ x. g s x) (more_one gap fs f k)
