-- Trees of the same form at other places.
use Rattle.std.proofs.Common.{◌≡◌, ℕ, List, [], ◌∷◌, ◌++◌, Option, None, Some, Bool, map, option_map, refl, sym, ap, ◌∙◌}
use Rattle.fort_arith.specs.declared.kind.Kind.{Kind}
use Rattle.fort_arith.specs.declared.op.Op.{Op}
use Rattle.fort_tree.specs.declared.place.Place.{Place}
use Rattle.fort_tree.specs.declared.expr.Unary.{Unary}
use Rattle.fort_tree.specs.declared.expr.Expr.{Expr}
use Rattle.fort_tree.specs.declared.expr.Sub.{Sub}
use Rattle.fort_tree.specs.declared.expr.Expr.TheOpen.{Expr-F, Sub-F}
use Rattle.fort_tree.specs.declared.expr.Expr.TheFolds.{fold-roll-Expr, fold-roll-Sub}
use Rattle.fort_tree.specs.declared.expr.Expr.TheViews.{roll-Expr, roll-Sub}
use Rattle.fort_tree.specs.declared.expr.Expr.TheVariants as expr
use Rattle.fort_tree.specs.declared.expr.Sub.TheVariants as sub
use Rattle.fort_tree.specs.Unplaced.{nowhere, expr_level_nowhere, sub_level_nowhere, unplaced, unplaced_sub}

abbrev expr_bare : Expr-F Expr Sub → Expr
expr_bare x = roll-Expr (expr_level_nowhere x)

abbrev sub_bare : Sub-F Expr Sub → Sub
sub_bare x = roll-Sub (sub_level_nowhere x)

number_bare : (n : ℕ) (k : Option Kind) (at : Place) → unplaced (expr.Number n k at) ≡ roll-Expr (Expr-F.Number n k nowhere)
number_bare n k at = ap unplaced (sym (expr.rolls-Number n k at)) ∙ fold-roll-Expr Expr Sub expr_bare sub_bare (Expr-F.Number n k at)

truth_bare : (b : Bool) (at : Place) → unplaced (expr.Truth b at) ≡ roll-Expr (Expr-F.Truth b nowhere)
truth_bare b at = ap unplaced (sym (expr.rolls-Truth b at)) ∙ fold-roll-Expr Expr Sub expr_bare sub_bare (Expr-F.Truth b at)

name_bare : (n : List ℕ) (at : Place) → unplaced (expr.Ref n None at) ≡ roll-Expr (Expr-F.Ref n None nowhere)
name_bare n at = ap unplaced (sym (expr.rolls-Ref n None at)) ∙ fold-roll-Expr Expr Sub expr_bare sub_bare (Expr-F.Ref n None at)

ref_bare : (n : List ℕ) (l : List Sub) (at : Place) → unplaced (expr.Ref n (Some l) at) ≡ roll-Expr (Expr-F.Ref n (Some (map unplaced_sub l)) nowhere)
ref_bare n l at = ap unplaced (sym (expr.rolls-Ref n (Some l) at)) ∙ fold-roll-Expr Expr Sub expr_bare sub_bare (Expr-F.Ref n (Some l) at)

one_bare : (o : Unary) (a : Expr) (at : Place) → unplaced (expr.One o a at) ≡ roll-Expr (Expr-F.«Expr::One» o (unplaced a) nowhere)
one_bare o a at = ap unplaced (sym (expr.rolls-One o a at)) ∙ fold-roll-Expr Expr Sub expr_bare sub_bare (Expr-F.«Expr::One» o a at)

two_bare : (o : Op) (a b : Expr) → unplaced (expr.Two o a b) ≡ roll-Expr (Expr-F.Two o (unplaced a) (unplaced b))
two_bare o a b = ap unplaced (sym (expr.rolls-Two o a b)) ∙ fold-roll-Expr Expr Sub expr_bare sub_bare (Expr-F.Two o a b)

paren_bare : (a : Expr) (at : Place) → unplaced (expr.Paren a at) ≡ roll-Expr (Expr-F.Paren (unplaced a) nowhere)
paren_bare a at = ap unplaced (sym (expr.rolls-Paren a at)) ∙ fold-roll-Expr Expr Sub expr_bare sub_bare (Expr-F.Paren a at)

alone_bare : (e : Expr) → unplaced_sub (sub.One e) ≡ roll-Sub (Sub-F.«Sub::One» (unplaced e))
alone_bare e = ap unplaced_sub (sym (sub.rolls-One e)) ∙ fold-roll-Sub Expr Sub expr_bare sub_bare (Sub-F.«Sub::One» e)

range_bare : (a b : Option Expr) (at : Place) → unplaced_sub (sub.Range a b at) ≡ roll-Sub (Sub-F.Range (option_map unplaced a) (option_map unplaced b) nowhere)
range_bare None None at = ap unplaced_sub (sym (sub.rolls-Range None None at)) ∙ fold-roll-Sub Expr Sub expr_bare sub_bare (Sub-F.Range None None at)
range_bare None (Some y) at = ap unplaced_sub (sym (sub.rolls-Range None (Some y) at)) ∙ fold-roll-Sub Expr Sub expr_bare sub_bare (Sub-F.Range None (Some y) at)
range_bare (Some x) None at = ap unplaced_sub (sym (sub.rolls-Range (Some x) None at)) ∙ fold-roll-Sub Expr Sub expr_bare sub_bare (Sub-F.Range (Some x) None at)
range_bare (Some x) (Some y) at = ap unplaced_sub (sym (sub.rolls-Range (Some x) (Some y) at)) ∙ fold-roll-Sub Expr Sub expr_bare sub_bare (Sub-F.Range (Some x) (Some y) at)

-- Two trees of one form are the same where their parts are.

pub same_number : (m n : ℕ) (j k : Option Kind) (at bt : Place) → m ≡ n → j ≡ k → unplaced (expr.Number m j at) ≡ unplaced (expr.Number n k bt)
same_number m n j k at bt e f = number_bare m j at ∙ ap (λ x. roll-Expr (Expr-F.Number x j nowhere)) e ∙ ap (λ x. roll-Expr (Expr-F.Number n x nowhere)) f ∙ sym (number_bare n k bt)

pub same_truth : (a b : Bool) (at bt : Place) → a ≡ b → unplaced (expr.Truth a at) ≡ unplaced (expr.Truth b bt)
same_truth a b at bt e = truth_bare a at ∙ ap (λ x. roll-Expr (Expr-F.Truth x nowhere)) e ∙ sym (truth_bare b bt)

pub same_name : (m n : List ℕ) (at bt : Place) → m ≡ n → unplaced (expr.Ref m None at) ≡ unplaced (expr.Ref n None bt)
same_name m n at bt e = name_bare m at ∙ ap (λ x. roll-Expr (Expr-F.Ref x None nowhere)) e ∙ sym (name_bare n bt)

pub same_ref : (m n : List ℕ) (l r : List Sub) (at bt : Place) → m ≡ n → map unplaced_sub l ≡ map unplaced_sub r → unplaced (expr.Ref m (Some l) at) ≡ unplaced (expr.Ref n (Some r) bt)
same_ref m n l r at bt e f =
    ref_bare m l at ∙ ap (λ x. roll-Expr (Expr-F.Ref x (Some (map unplaced_sub l)) nowhere)) e ∙ ap (λ x. roll-Expr (Expr-F.Ref n (Some x) nowhere)) f ∙ sym (ref_bare n r bt)

pub same_one : (o : Unary) (a b : Expr) (at bt : Place) → unplaced a ≡ unplaced b → unplaced (expr.One o a at) ≡ unplaced (expr.One o b bt)
same_one o a b at bt e = one_bare o a at ∙ ap (λ x. roll-Expr (Expr-F.«Expr::One» o x nowhere)) e ∙ sym (one_bare o b bt)

pub same_two : (o p : Op) (a b c d : Expr) → o ≡ p → unplaced a ≡ unplaced c → unplaced b ≡ unplaced d → unplaced (expr.Two o a b) ≡ unplaced (expr.Two p c d)
same_two o p a b c d e f g =
    two_bare o a b ∙ ap (λ x. roll-Expr (Expr-F.Two x (unplaced a) (unplaced b))) e ∙ ap (λ x. roll-Expr (Expr-F.Two p x (unplaced b))) f ∙ ap (λ x. roll-Expr (Expr-F.Two p (unplaced c) x)) g ∙ sym (two_bare p c d)

pub same_paren : (a b : Expr) (at bt : Place) → unplaced a ≡ unplaced b → unplaced (expr.Paren a at) ≡ unplaced (expr.Paren b bt)
same_paren a b at bt e = paren_bare a at ∙ ap (λ x. roll-Expr (Expr-F.Paren x nowhere)) e ∙ sym (paren_bare b bt)

pub same_alone : (a b : Expr) → unplaced a ≡ unplaced b → unplaced_sub (sub.One a) ≡ unplaced_sub (sub.One b)
same_alone a b e = alone_bare a ∙ ap (λ x. roll-Sub (Sub-F.«Sub::One» x)) e ∙ sym (alone_bare b)

pub same_range : (a b c d : Option Expr) (at bt : Place) → option_map unplaced a ≡ option_map unplaced c → option_map unplaced b ≡ option_map unplaced d → unplaced_sub (sub.Range a b at) ≡ unplaced_sub (sub.Range c d bt)
same_range a b c d at bt e f =
    range_bare a b at ∙ ap (λ x. roll-Sub (Sub-F.Range x (option_map unplaced b) nowhere)) e ∙ ap (λ x. roll-Sub (Sub-F.Range (option_map unplaced c) x nowhere)) f ∙ sym (range_bare c d bt)

pub same_append : (k l m n : List Sub) → map unplaced_sub k ≡ map unplaced_sub m → map unplaced_sub l ≡ map unplaced_sub n → map unplaced_sub (k ++ l) ≡ map unplaced_sub (m ++ n)
same_append k l m n e f = map_append k l ∙ ap (λ x. x ++ map unplaced_sub l) e ∙ ap (λ x. map unplaced_sub m ++ x) f ∙ sym (map_append m n)
  where
    map_append : (k l : List Sub) → map unplaced_sub (k ++ l) ≡ map unplaced_sub k ++ map unplaced_sub l
    map_append [] l = refl
    map_append (x ∷ k) l = ap (λ y. unplaced_sub x ∷ y) (map_append k l)
