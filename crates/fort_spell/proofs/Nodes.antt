-- The pieces of each kind of expression.
use Rattle.std.proofs.Common.{drop-cons}
use Rattle.std.proofs.Common.{◌≡◌, ℕ, ◌+◌, ◌<◌, suc, length, drop, get_or, arith, Bool, false, List, ◌∷◌, refl, sym, ap, ◌∙◌, map, Some, None}
use Rattle.std.specs.Prelude.{option_map}
use Rattle.std.specs.declared.option.Option.{Option}
use Rattle.fort_arith.specs.declared.op.Op.{Op}
use Rattle.fort_tree.specs.declared.place.Place.{Place}
use Rattle.fort_tree.specs.declared.expr.Unary.{Unary}
use Rattle.fort_tree.specs.declared.expr.Expr.{Expr}
use Rattle.fort_tree.specs.declared.expr.Expr.TheVariants as expr
use Rattle.fort_tree.specs.declared.expr.Sub.{Sub}
use Rattle.fort_tree.specs.declared.expr.Expr.TheOpen.{Expr-F, Sub-F}
use Rattle.fort_tree.specs.declared.expr.Expr.TheFolds.{fold-roll-Expr, fold-roll-Sub}
use Rattle.fort_tree.specs.declared.expr.Sub.TheVariants as sub
use Rattle.fort_spell.specs.declared.mark.Mark.TheVariants as mark
use Rattle.fort_spell.specs.Pieces.{Spelling, word, sign, bracketed, lower, or_none, more_items}
use Rattle.fort_spell.specs.Rows.{Block, all_rows}
use Rattle.fort_spell.specs.Units.{dimension}
use Rattle.fort_spell.specs.Expressions.{expr_step, sub_step, expr_pieces, sub_pieces, in_parens, loose, op_mark, unary_mark, unary_loose, bound_pieces}

pub one_is : (e : Expr) (o : Unary) (a : Expr) (p : Place) (s : Bool) → e ≡ expr.One o a p → expr_pieces e s ≡ (λ k. sign s (unary_mark o) (expr_pieces a (unary_loose o) k))
one_is e o a p s h = ap (λ e. expr_pieces e s) (h ∙ sym (expr.rolls-One o a p)) ∙ ap (λ f. f s) (fold-roll-Expr Spelling Spelling expr_step sub_step (Expr-F.«Expr::One» o a p))

pub two_is : (e : Expr) (o : Op) (a b : Expr) (s : Bool) → e ≡ expr.Two o a b → expr_pieces e s ≡ (λ k. expr_pieces a s (sign (loose o) (op_mark o) (expr_pieces b (loose o) k)))
two_is e o a b s h = ap (λ e. expr_pieces e s) (h ∙ sym (expr.rolls-Two o a b)) ∙ ap (λ f. f s) (fold-roll-Expr Spelling Spelling expr_step sub_step (Expr-F.Two o a b))

pub paren_is : (e a : Expr) (p : Place) (s : Bool) → e ≡ expr.Paren a p → expr_pieces e s ≡ (λ k. sign s mark.Open (expr_pieces a false (sign false mark.Close k)))
paren_is e a p s h = ap (λ e. expr_pieces e s) (h ∙ sym (expr.rolls-Paren a p)) ∙ ap (λ f. f s) (fold-roll-Expr Spelling Spelling expr_step sub_step (Expr-F.Paren a p))

ref_is : (e : Expr) (n x : List ℕ) (o : Option (List Sub)) (p : Place) (s : Bool) → e ≡ expr.Ref n o p → x ≡ n → expr_pieces e s ≡ (λ k. word s x (in_parens (option_map (map sub_pieces) o) k))
ref_is e n x None p s h b =
    ap (λ e. expr_pieces e s) (h ∙ ap (λ q. expr.Ref q None p) (sym b) ∙ sym (expr.rolls-Ref x None p)) ∙ ap (λ f. f s) (fold-roll-Expr Spelling Spelling expr_step sub_step (Expr-F.Ref x None p))
ref_is e n x (Some y) p s h b =
    ap (λ e. expr_pieces e s) (h ∙ ap (λ q. expr.Ref q (Some y) p) (sym b) ∙ sym (expr.rolls-Ref x (Some y) p)) ∙ ap (λ f. f s) (fold-roll-Expr Spelling Spelling expr_step sub_step (Expr-F.Ref x (Some y) p))

pub ref_some_is : (e : Expr) (n x : List ℕ) (o : Option (List Sub)) (p : Place) (l y : List Sub) (s : Bool) → e ≡ expr.Ref n o p → x ≡ n → o ≡ Some l → y ≡ l → expr_pieces e s ≡ (λ k. word s x (bracketed false (map sub_pieces y) false k))
ref_some_is e n x o p l y s h b a d = ref_is e n x o p s h b ∙ ap (λ q. λ k. word s x (in_parens (option_map (map sub_pieces) q) k)) (a ∙ ap (λ q. Some q) (sym d))

pub range_is : (e : Sub) (a b : Option Expr) (p : Place) (s : Bool) → e ≡ sub.Range a b p → sub_pieces e s ≡ (λ k. lower (bound_pieces a) s (or_none (bound_pieces b) false k))
range_is e None None p s h = ap (λ e. sub_pieces e s) (h ∙ sym (sub.rolls-Range None None p)) ∙ ap (λ f. f s) (fold-roll-Sub Spelling Spelling expr_step sub_step (Sub-F.Range None None p))
range_is e None (Some y) p s h = ap (λ e. sub_pieces e s) (h ∙ sym (sub.rolls-Range None (Some y) p)) ∙ ap (λ f. f s) (fold-roll-Sub Spelling Spelling expr_step sub_step (Sub-F.Range None (Some y) p))
range_is e (Some x) None p s h = ap (λ e. sub_pieces e s) (h ∙ sym (sub.rolls-Range (Some x) None p)) ∙ ap (λ f. f s) (fold-roll-Sub Spelling Spelling expr_step sub_step (Sub-F.Range (Some x) None p))
range_is e (Some x) (Some y) p s h = ap (λ e. sub_pieces e s) (h ∙ sym (sub.rolls-Range (Some x) (Some y) p)) ∙ ap (λ f. f s) (fold-roll-Sub Spelling Spelling expr_step sub_step (Sub-F.Range (Some x) (Some y) p))

-- A list, from the next item on.
pub next_item : {T : Type 0} (f : T → Spelling) (gap : Bool) (l : List T) (i : ℕ) (x : T) → i < length l → x ≡ get_or l i x →
    more_items gap (map f (drop i l)) ≡ (λ k. sign false mark.Comma (f x gap (more_items gap (map f (drop (i + 1) l)) k)))
next_item f gap l i x h e =
    let n : suc i ≡ i + 1 = omega arith in
    let d : drop i l ≡ x ∷ drop (i + 1) l = drop-cons l i x h ∙ ap (λ q. q ∷ drop (suc i) l) (sym e) ∙ ap (λ j. x ∷ drop j l) n in
    ap (λ q. more_items gap (map f q)) d

-- A list of blocks, from the next one on.
pub next_block : {T : Type 0} (f : T → Block) (n : ℕ) (l : List T) (i : ℕ) (x : T) → i < length l → x ≡ get_or l i x →
    all_rows (map f (drop i l)) n ≡ (λ rs. f x n (all_rows (map f (drop (i + 1) l)) n rs))
next_block f n l i x h e =
    let m : suc i ≡ i + 1 = omega arith in
    let d : drop i l ≡ x ∷ drop (i + 1) l = drop-cons l i x h ∙ ap (λ q. q ∷ drop (suc i) l) (sym e) ∙ ap (λ j. x ∷ drop j l) m in
    ap (λ q. all_rows (map f q) n) d

-- A dimension with a lower bound.
pub dimension_lower : (o : Option Expr) (l : Expr) (u : Option Spelling) (s : Bool) → o ≡ Some l → dimension (bound_pieces o) u s ≡ (λ k. lower (bound_pieces o) s (or_none u false k))
dimension_lower None l u s e = cc
dimension_lower (Some x) l u s e = refl

-- The same of items that are copied out of the list.
pub next_block_or : {T : Type 0} (f : T → Block) (n : ℕ) (l : List T) (i : ℕ) (d : T) → i < length l →
    all_rows (map f (drop i l)) n ≡ (λ rs. f (get_or l i d) n (all_rows (map f (drop (i + 1) l)) n rs))
next_block_or f n l i d h =
    let m : suc i ≡ i + 1 = omega arith in
    ap (λ q. all_rows (map f q) n) (drop-cons l i d h ∙ ap (λ j. get_or l i d ∷ drop j l) m)
