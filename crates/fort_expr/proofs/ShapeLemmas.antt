-- Actions do to shapes what they do to values.
use Rattle.std.proofs.Common.{◌≡◌, ℕ, ◌+◌, max, List, [], ◌∷◌, Option, None, Some, refl, sym, ap, ◌∙◌, map, arith}
use Rattle.fort_tree.specs.declared.place.Place.{Place}
use Rattle.fort_tree.specs.declared.expr.Expr.TheVariants as expr
use Rattle.fort_tree.specs.declared.expr.Unary.{Unary}
use Rattle.fort_tree.specs.declared.expr.Unary.TheVariants as unary
use Rattle.fort_tree.specs.Expr.{depth_of, sub_depth_of}
use Rattle.fort_tree.specs.Unplaced.{nowhere}
use Rattle.std.specs.Prelude.{false}
use Rattle.fort_grammar.specs.declared.table.Action.{Action}
use Rattle.fort_grammar.specs.declared.table.Action.TheVariants as act
use Rattle.fort_expr.specs.declared.value.Value.{Value}
use Rattle.fort_expr.specs.declared.value.Value.TheVariants as value
use Rattle.fort_expr.specs.declared.value.Word.{Word}
use Rattle.fort_expr.specs.declared.value.Shape.{Shape}
use Rattle.fort_expr.specs.declared.value.Shape.TheVariants.{Operand, Bound, Subscript, Subscripts}
use Rattle.fort_expr.specs.Values.{rest, word, word_place, operand, operand_place, bound, subscript, subscripts, name, number, truth, operator, apply}
use Rattle.fort_expr.specs.Shapes.{cap, shape, subs_depth, bound_depth, rest_shapes, operand_depth, bound_shape, subscript_shape, subscripts_shape, apply_shape}
use Rattle.fort_expr.proofs.Depths.{depth-number, depth-truth, depth-two, depth-one, depth-paren, depth-bare, depth-subs, depth-single, depth-range, subs-more, subs-first}

rest-shape : (v : List Value) → map shape (rest v) ≡ rest_shapes (map shape v)
rest-shape [] = refl
rest-shape (x ∷ v) = refl

operand-shape : (v : List Value) → operand_depth (map shape v) ≡ cap (depth_of (operand v))
operand-shape [] = ap cap (sym (depth-truth false nowhere))
operand-shape (value.Operand e at ∷ v) = refl
operand-shape (x ∷ v) = ap cap (sym (depth-truth false nowhere))

bound-shape : (v : List Value) → bound_shape (map shape v) ≡ cap (bound_depth (bound v))
bound-shape [] = refl
bound-shape (value.Bound b ∷ v) = refl
bound-shape (x ∷ v) = refl

subscript-shape : (v : List Value) → subscript_shape (map shape v) ≡ cap (sub_depth_of (subscript v))
subscript-shape [] = ap cap (sym (depth-range None None nowhere))
subscript-shape (value.Subscript s ∷ v) = refl
subscript-shape (x ∷ v) = ap cap (sym (depth-range None None nowhere))

subscripts-shape : (v : List Value) → subscripts_shape (map shape v) ≡ cap (subs_depth (subscripts v))
subscripts-shape [] = refl
subscripts-shape (value.Subscripts s ∷ v) = refl
subscripts-shape (x ∷ v) = refl

number-depth : (w : Option Word) → depth_of (number w) ≡ 1
number-depth None = depth-truth _ _
number-depth (Some w) = depth-number _ _ _

truth-depth : (w : Option Word) → depth_of (truth w) ≡ 1
truth-depth None = depth-truth _ _
truth-depth (Some w) = depth-truth _ _

rest-two : (v : List Value) → map shape (rest (rest v)) ≡ rest_shapes (rest_shapes (map shape v))
rest-two v = rest-shape (rest v) ∙ ap rest_shapes (rest-shape v)

rest-three : (v : List Value) → map shape (rest (rest (rest v))) ≡ rest_shapes (rest_shapes (rest_shapes (map shape v)))
rest-three v = rest-shape (rest (rest v)) ∙ ap rest_shapes (rest-two v)

rest-four : (v : List Value) → map shape (rest (rest (rest (rest v)))) ≡ rest_shapes (rest_shapes (rest_shapes (rest_shapes (map shape v))))
rest-four v = rest-shape (rest (rest (rest v))) ∙ ap rest_shapes (rest-three v)

put : (f : ℕ → Shape) (m n : ℕ) (v w : List Shape) → m ≡ n → v ≡ w → f m ∷ v ≡ f n ∷ w
put f m n v w e h = ap (λ k. f k ∷ v) e ∙ ap (λ z. f n ∷ z) h

cap-more : (d : ℕ) → cap (d + 1) ≡ cap (cap d + 1)
cap-more d = omega arith

cap-max : (a b : ℕ) → cap (max a b) ≡ max (cap a) (cap b)
cap-max a b = omega arith

one-shape : (u : Unary) (at : Place) (v : List Value) → cap (depth_of (expr.One u (operand v) at)) ≡ cap (operand_depth (map shape v) + 1)
one-shape u at v = ap cap (depth-one u (operand v) at) ∙ (cap-more (depth_of (operand v)) ∙ ap (λ k. cap (k + 1)) (sym (operand-shape v)))

pub apply-shape : (x : Action) (v : List Value) → map shape (apply x v) ≡ apply_shape x (map shape v)
unfolding apply apply_shape
apply-shape act.Number v = put Operand _ _ _ _ (ap cap (number-depth (word v))) (rest-shape v)
apply-shape act.Truth v = put Operand _ _ _ _ (ap cap (truth-depth (word v))) (rest-shape v)
apply-shape act.Bare v = put Operand _ _ _ _ (ap cap (depth-bare (name (word v)) (word_place (word v)))) (rest-shape v)
apply-shape act.Subscripted v = put Operand _ _ _ _
    (ap cap (depth-subs (name (word (rest (rest (rest v))))) (subscripts (rest v)) (word_place (word (rest (rest (rest v)))))) ∙ (cap-more (subs_depth (subscripts (rest v))) ∙
    ap (λ k. cap (k + 1)) (sym (ap subscripts_shape (sym (rest-shape v)) ∙ subscripts-shape (rest v))))) (rest-four v)
apply-shape act.Paren v = put Operand _ _ _ _
    (ap cap (depth-paren (operand (rest v)) (word_place (word (rest (rest v))))) ∙ (cap-more (depth_of (operand (rest v))) ∙
    ap (λ k. cap (k + 1)) (sym (ap operand_depth (sym (rest-shape v)) ∙ operand-shape (rest v))))) (rest-three v)
apply-shape act.Not v = put Operand _ _ _ _ (one-shape unary.Not (word_place (word (rest v))) v) (rest-two v)
apply-shape act.Plus v = put Operand _ _ _ _ (one-shape unary.Plus (word_place (word (rest v))) v) (rest-two v)
apply-shape act.Minus v = put Operand _ _ _ _ (one-shape unary.Minus (word_place (word (rest v))) v) (rest-two v)
apply-shape act.Two v = put Operand _ _ _ _
    (ap cap (depth-two (operator (word (rest v))) (operand (rest (rest v))) (operand v)) ∙ (cap-more (max (depth_of (operand (rest (rest v)))) (depth_of (operand v))) ∙
    ap (λ k. cap (k + 1)) (cap-max (depth_of (operand (rest (rest v)))) (depth_of (operand v)) ∙
    (ap (λ k. max k (cap (depth_of (operand v)))) (sym (ap operand_depth (sym (rest-two v)) ∙ operand-shape (rest (rest v))))
    ∙ ap (λ k. max (operand_depth (rest_shapes (rest_shapes (map shape v)))) k) (sym (operand-shape v)))))) (rest-three v)
apply-shape act.NoSubs v = refl
apply-shape act.FirstSub v = put Subscripts _ _ _ _ (ap cap (subs-first (subscript v)) ∙ sym (subscript-shape v)) (rest-shape v)
apply-shape act.NextSub v = put Subscripts _ _ _ _
    (ap cap (subs-more (subscripts (rest (rest v))) (subscript v)) ∙ (cap-max (subs_depth (subscripts (rest (rest v)))) (sub_depth_of (subscript v)) ∙
    (ap (λ k. max k (cap (sub_depth_of (subscript v)))) (sym (ap subscripts_shape (sym (rest-two v)) ∙ subscripts-shape (rest (rest v))))
    ∙ ap (λ k. max (subscripts_shape (rest_shapes (rest_shapes (map shape v)))) k) (sym (subscript-shape v))))) (rest-three v)
apply-shape act.OneSub v = put Subscript _ _ _ _ (ap cap (depth-single (operand v)) ∙ sym (operand-shape v)) (rest-shape v)
apply-shape act.Section v = put Subscript _ _ _ _
    (ap cap (depth-range (Some (operand (rest (rest v)))) (bound v) (operand_place (rest (rest v)))) ∙ (cap-max (depth_of (operand (rest (rest v)))) (bound_depth (bound v)) ∙
    (ap (λ k. max k (cap (bound_depth (bound v)))) (sym (ap operand_depth (sym (rest-two v)) ∙ operand-shape (rest (rest v))))
    ∙ ap (λ k. max (operand_depth (rest_shapes (rest_shapes (map shape v)))) k) (sym (bound-shape v))))) (rest-three v)
apply-shape act.FromStart v = put Subscript _ _ _ _
    (ap cap (depth-range None (bound v) (word_place (word (rest v)))) ∙ ((let e : cap (max 0 (bound_depth (bound v))) ≡ cap (bound_depth (bound v)) = omega arith in e) ∙ sym (bound-shape v))) (rest-two v)
apply-shape act.Present v = put Bound _ _ _ _ (sym (operand-shape v)) (rest-shape v)
apply-shape _ v = refl
