-- Equality of trees, places set aside.
use Rattle.std.specs.Prelude.{Bool, true, false, ◌&&◌, ◌==◌, List, [], ◌∷◌, Option, None, Some}
use Rattle.std.specs.Str.{bytes_eq}
use denote.Enum.Bare.{sameb}
use Rattle.fort_arith.specs.contracts.op.Op.{the_type as op_type}
use Rattle.fort_tree.specs.contracts.expr.Unary.{the_type as unary_type}
use Rattle.fort_tree.specs.declared.expr.Expr.{Expr, out-Expr}
use Rattle.fort_tree.specs.declared.expr.Expr.TheOpen.{Expr-F, Sub-F}
use Rattle.fort_tree.specs.declared.expr.Expr.TheFolds.{fold-Expr, fold-Sub}
use Rattle.fort_arith.specs.declared.kind.Kind.{Kind}
use Rattle.fort_arith.specs.contracts.kind.Kind.{the_type as kind_type}
use Rattle.fort_tree.specs.declared.expr.Sub.{Sub, out-Sub}

abbrev pub same_option : {A : Type 0} → Option (A → Bool) → Option A → Bool
same_option None None = true
same_option (Some f) (Some x) = f x
same_option _ _ = false

abbrev pub same_list : {A : Type 0} → List (A → Bool) → List A → Bool
same_list [] [] = true
same_list (f ∷ fs) (x ∷ xs) = f x && same_list fs xs
same_list _ _ = false

abbrev pub same_subs : Option (List (Sub → Bool)) → Option (List Sub) → Bool
same_subs None None = true
same_subs (Some fs) (Some xs) = same_list fs xs
same_subs _ _ = false

abbrev pub same_kind : Option Kind → Option Kind → Bool
same_kind None None = true
same_kind (Some a) (Some b) = sameb kind_type a b
same_kind _ _ = false

abbrev pub same_bool : Bool → Bool → Bool
same_bool true true = true
same_bool false false = true
same_bool _ _ = false

abbrev pub same_level : Expr-F (Expr → Bool) (Sub → Bool) → Expr-F Expr Sub → Bool
same_level (Expr-F.Number a j at) (Expr-F.Number b k bt) = a == b && same_kind j k
same_level (Expr-F.Truth a at) (Expr-F.Truth b bt) = same_bool a b
same_level (Expr-F.Ref a subs at) (Expr-F.Ref b others bt) = bytes_eq a b && same_subs subs others
same_level (Expr-F.«Expr::One» op a at) (Expr-F.«Expr::One» oq b bt) = sameb unary_type op oq && a b
same_level (Expr-F.Two op a b) (Expr-F.Two oq c d) = sameb op_type op oq && (a c && b d)
same_level (Expr-F.Paren a at) (Expr-F.Paren b bt) = a b
same_level _ _ = false

abbrev pub same_sub_level : Sub-F (Expr → Bool) (Sub → Bool) → Sub-F Expr Sub → Bool
same_sub_level (Sub-F.«Sub::One» a) (Sub-F.«Sub::One» b) = a b
same_sub_level (Sub-F.Range a b at) (Sub-F.Range c d bt) = same_option a c && same_option b d
same_sub_level _ _ = false

abbrev pub same_expr : Expr → Expr → Bool
same_expr = fold-Expr (Expr → Bool) (Sub → Bool) (λ x e. same_level x (out-Expr e)) (λ x s. same_sub_level x (out-Sub s))

abbrev pub same_sub : Sub → Sub → Bool
same_sub = fold-Sub (Expr → Bool) (Sub → Bool) (λ x e. same_level x (out-Expr e)) (λ x s. same_sub_level x (out-Sub s))
