-- Where a portion stands in a statement's tokens, it stands on top of the symbols that are wanted when they are read.
use Rattle.std.proofs.Common.{◌≡◌, ℕ, true, List, [], ◌∷◌, ◌++◌, map, Some, refl}
use Rattle.fort_tree.specs.declared.expr.Expr.{Expr}
use Rattle.fort_tree.specs.declared.expr.Sub.{Sub}
use Rattle.fort_tree.specs.declared.statement.Token.{Token}
use Rattle.fort_tree.specs.Expr.{depth_of, sub_depth_of}
use Rattle.fort_grammar.specs.declared.class.Class.TheVariants as class
use Rattle.fort_grammar.specs.declared.table.Action.TheVariants as act
use Rattle.fort_grammar.specs.declared.table.Part.TheVariants as part
use Rattle.fort_grammar.specs.declared.table.Symbol.{Symbol}
use Rattle.fort_grammar.specs.declared.table.Symbol.TheVariants.{Take, Call, Build}
use Rattle.fort_grammar.specs.Derives.{In, here, there}
use Rattle.fort_grammar.specs.Derives as derives
use Rattle.fort_grammar.specs.Reads.{Reads, take, build, row}
use Rattle.fort_grammar.proofs.Readings.{above as on_symbols, cut}
use Rattle.fort_expr.specs.declared.value.Value.{Value}
use Rattle.fort_expr.specs.declared.value.Value.TheVariants.{Operand, Subscript, Subscripts}
use Rattle.fort_expr.specs.Expression.{IsExpr, IsSub, a_name, an_intrinsic}
use Rattle.fort_expr.specs.Machine.{Plain}
use Rattle.fort_expr.specs.Shapes.{cap, shape, top_depth}
use Rattle.fort_expr.specs.Values.{shift, apply}
use Rattle.fort_expr.specs.Words.{front_place}
use Rattle.fort_expr.proofs.Complete.{Grows, expr_tail, list_tail, ref_whole, sub_whole, derives-expr}
use Rattle.fort_stmt.specs.declared.limits.Cut.TheVariants as cuts
use Rattle.fort_stmt.specs.Cuts.{cut_of}
use Rattle.fort_stmt.specs.Form.{IsTarget, target, apart, together}
use Rattle.fort_stmt.specs.Limits.{Portion, left_side, expression, argument, HasDepth, side_depth, expression_depth, argument_depth, InAction, at_left_side, at_right_side, first_argument, next_argument, Stands, in_action, behind_if, behind_test, behind_else_if, do_first, do_second, do_third, behind_select}
use Rattle.fort_stmt.specs.Machine.{start}
use Rattle.fort_stmt.proofs.Portions.{plain, reads-plain, cut-under}

abbrev pub Rd : List Token → List Symbol → List Value → List Symbol → List Token → List Value → Type 0
Rd z b u ss w v = Reads (List Value) shift apply z b u ss w v

reading-grows : (z : List Token) (b : List Symbol) (u : List Value) → Grows (λ ss w v. Rd z b u ss w v)
reading-grows z b u = record { by_row = λ r i k. row r i k; by_take = λ t e k. take t e k; by_build = λ h k. build k }

deriving-grows : (u : List Value) → Grows (λ ss w v. Plain ss w v u)
deriving-grows u = record { by_row = λ r i k. derives.row r i k; by_take = λ t e k. derives.take t e k; by_build = λ h k. derives.build k }

-- The symbols that are wanted where a portion begins.
abbrev pub wanted : Portion → List Symbol → List Symbol
wanted left_side ss = Call part.Target ∷ ss
wanted expression ss = Call part.Expr ∷ Build act.Whole ∷ ss
wanted argument ss = Call part.Sub ∷ ss

-- an argument ends with the symbols behind it
abbrev pub Ends : Portion → List Symbol → Type 0
Ends argument ss = cut_of ss ≡ Some (cuts.Portion [])
Ends x ss = Unit {0}

-- What is read from the portion's beginning on is read from the symbols ss on.
pub record Reached (x : Portion) (ss : List Symbol) (w : List Token) (v : List Value) (y : List Token) : Type 0 where
  pub rest : List Symbol
  pub ends : Ends x rest
  pub values : List Value
  pub reach : (z : List Token) (b : List Symbol) (u : List Value) → Rd z b u (wanted x rest) y values → Rd z b u ss w v

module _ (z : List Token) (b : List Symbol) (u : List Value) where
  expr-read : {w y : List Token} {e : Expr} (ss : List Symbol) (v : List Value) → IsExpr w y e → Rd z b u ss y (Operand e (front_place w) ∷ v) → Rd z b u (Call part.Expr ∷ ss) w v
  expr-read ss v d k = expr_tail (λ ss w v. Rd z b u ss w v) (reading-grows z b u) d ss v (row _ (there here) k)

  target-read : {w y : List Token} {e : Expr} (ss : List Symbol) (v : List Value) → IsTarget w y e → Rd z b u ss y (apply act.Whole (Operand e (front_place w) ∷ v)) → Rd z b u (Call part.Target ∷ ss) w v
  target-read ss v (target t (a_name e) d) k = row _ here (take t e (ref_whole (λ ss w v. Rd z b u ss w v) (reading-grows z b u) t (a_name e) d (Build act.Whole ∷ ss) v (build k)))
  target-read ss v (target t (an_intrinsic e) d) k = row _ (there here) (take t e (ref_whole (λ ss w v. Rd z b u ss w v) (reading-grows z b u) t (an_intrinsic e) d (Build act.Whole ∷ ss) v (build k)))

-- In an action.

abbrev action_wanted : Portion → List Symbol → List Symbol
action_wanted argument ss = Take class.Call ∷ Take class.Name ∷ Call part.ArgumentsOption ∷ Build act.Call ∷ ss
action_wanted x ss = Call part.Assignment ∷ ss

-- what stands behind an argument
abbrev list_end : List Symbol → List Symbol
list_end ss = Call part.SubTail ∷ Take class.Close ∷ Build act.Arguments ∷ Build act.Call ∷ ss

action-reached : (x : Portion) (w y : List Token) (ss : List Symbol) (v : List Value) → InAction x w y → Reached x (action_wanted x ss) w v y
action-reached x w y ss v at_left_side = record {
  rest = Take class.Equals ∷ Call part.Expr ∷ Build act.Whole ∷ Build act.Assign ∷ ss;
  ends = tt;
  values = v;
  reach = λ z b u d. row _ here d;
}
action-reached x w y ss v (at_right_side {e = a} o s e) = record {
  rest = Build act.Assign ∷ ss;
  ends = tt;
  values = shift o (apply act.Whole (Operand a (front_place w) ∷ v));
  reach = λ z b u d. row _ here (target-read z b u (Take class.Equals ∷ Call part.Expr ∷ Build act.Whole ∷ Build act.Assign ∷ ss) v s (take o e d));
}
action-reached x w y ss v (first_argument c n p e f g) = record {
  rest = Build act.FirstSub ∷ list_end ss;
  ends = refl;
  values = shift p (shift n (shift c v));
  reach = λ z b u d. take c e (take n f (row _ here (take p g (row _ here d))));
}
action-reached x s y ss v (next_argument {w = w} {l = l} c n p k e f g d h) =
    let m : List Value = shift p (shift n (shift c v)) in
    record {
      rest = Build act.NextSub ∷ list_end ss;
      ends = refl;
      values = shift k (Subscripts l ∷ m);
      reach = λ z b u j. take c e (take n f (row _ here (take p g
          (list_tail (λ ss w v. Rd z b u ss w v) (reading-grows z b u) d (Take class.Close ∷ Build act.Arguments ∷ Build act.Call ∷ ss) m (row _ here (take k h j))))));
    }

module _ (z : List Token) (b : List Symbol) (u : List Value) where
  in-statement : (x : Portion) (w : List Token) (v : List Value) → Rd z b u (action_wanted x []) w v → Rd z b u start w v
  in-statement argument w v d = row _ (there (there (there (there (there (there (there (there (there (there (there (there (there (there (there here))))))))))))))) d
  in-statement left_side w v d = row _ (there (there (there (there (there (there (there (there (there (there (there (there (there (there here)))))))))))))) d
  in-statement expression w v d = row _ (there (there (there (there (there (there (there (there (there (there (there (there (there (there here)))))))))))))) d

  in-if : (x : Portion) (w : List Token) (v : List Value) (ss : List Symbol) → Rd z b u (action_wanted x ss) w v → Rd z b u (Call part.Action ∷ ss) w v
  in-if argument w v ss d = row _ (there here) d
  in-if left_side w v ss d = row _ here d
  in-if expression w v ss d = row _ here d

-- In a statement.

with-reach : {x : Portion} {ss ts : List Symbol} {w s y : List Token} {v u : List Value} → Reached x ss w v y → ((z : List Token) (b : List Symbol) (m : List Value) → Rd z b m ss w v → Rd z b m ts s u) → Reached x ts s u y
with-reach r f = record { rest = r.rest; ends = r.ends; values = r.values; reach = λ z b m d. f z b m (r.reach z b m d) }

abbrev do_head : Token → Token → Token → List Value
do_head d n o = shift o (shift n (shift d []))

pub stands-reached : (x : Portion) (w y : List Token) → Stands x w y → Reached x start w [] y
stands-reached x w y (in_action a) = with-reach (action-reached x w y [] [] a) (λ z b m d. in-statement z b m x w [] d)
stands-reached x w y (behind_if i p e f) = record {
  rest = Take class.Close ∷ Call part.IfRest ∷ [];
  ends = tt;
  values = shift p (shift i []);
  reach = λ z b u d. row _ (there (there (there (there (there (there (there (there (there (there (there (there (there (there (there (there here)))))))))))))))) (take i e (take p f d));
}
stands-reached x s y (behind_test {w = w} {y = k} {e = t} i p q e f d g a) =
    let v : List Value = shift p (shift i []) in
    let m : List Value = shift q (apply act.Whole (Operand t (front_place w) ∷ v)) in
    with-reach (action-reached x k y (Build act.IfAction ∷ []) m a) (λ z b u j.
    row _ (there (there (there (there (there (there (there (there (there (there (there (there (there (there (there (there here)))))))))))))))) (take i e (take p f (expr-read z b u (Build act.Whole ∷ Take class.Close ∷ Call part.IfRest ∷ []) v d (build (take q g (row _ (there here) (in-if z b u x k m (Build act.IfAction ∷ []) j))))))))
stands-reached x w y (behind_else_if p (apart t u e f) g) = record {
  rest = Take class.Close ∷ Take class.Then ∷ Build act.ElseIf ∷ [];
  ends = tt;
  values = shift p (shift u (shift t []));
  reach = λ z b m d. row _ (there (there (there (there (there (there (there (there (there (there (there (there (there (there (there (there (there here))))))))))))))))) (take t e (row _ here (take u f (take p g d))));
}
stands-reached x w y (behind_else_if p (together t e) g) = record {
  rest = Take class.Close ∷ Take class.Then ∷ Build act.ElseIf ∷ [];
  ends = tt;
  values = shift p (shift t []);
  reach = λ z b m d. row _ (there (there (there (there (there (there (there (there (there (there (there (there (there (there (there (there (there (there here)))))))))))))))))) (take t e (take p g d));
}
stands-reached x w y (do_first d n o e f g) = record {
  rest = Take class.Comma ∷ Call part.Expr ∷ Build act.Whole ∷ Call part.StepOption ∷ Build act.Do ∷ [];
  ends = tt;
  values = do_head d n o;
  reach = λ z b m k. row _ (there (there (there (there (there (there (there (there (there (there (there (there (there (there (there (there (there (there (there here))))))))))))))))))) (take d e (take n f (take o g k)));
}
stands-reached x s y (do_second {w = w} {a = a} d n o c e f g h i) = record {
  rest = Call part.StepOption ∷ Build act.Do ∷ [];
  ends = tt;
  values = shift c (apply act.Whole (Operand a (front_place w) ∷ do_head d n o));
  reach = λ z b m k. row _ (there (there (there (there (there (there (there (there (there (there (there (there (there (there (there (there (there (there (there here))))))))))))))))))) (take d e (take n f (take o g
      (expr-read z b m (Build act.Whole ∷ Take class.Comma ∷ Call part.Expr ∷ Build act.Whole ∷ Call part.StepOption ∷ Build act.Do ∷ []) (do_head d n o) h (build (take c i k))))));
}
stands-reached x s y (do_third {w = w} {x = j} {a = a} {b = l} d n o c k e f g h i r q) =
    let v : List Value = shift c (apply act.Whole (Operand a (front_place w) ∷ do_head d n o)) in
    record {
      rest = Build act.SomeStep ∷ Build act.Do ∷ [];
      ends = tt;
      values = shift k (apply act.Whole (Operand l (front_place j) ∷ v));
      reach = λ z b m u. row _ (there (there (there (there (there (there (there (there (there (there (there (there (there (there (there (there (there (there (there here))))))))))))))))))) (take d e (take n f (take o g
          (expr-read z b m (Build act.Whole ∷ Take class.Comma ∷ Call part.Expr ∷ Build act.Whole ∷ Call part.StepOption ∷ Build act.Do ∷ []) (do_head d n o) h (build (take c i
          (expr-read z b m (Build act.Whole ∷ Call part.StepOption ∷ Build act.Do ∷ []) v r (build (row _ here (take k q u))))))))));
    }
stands-reached x w y (behind_select p (apart t u e f) g) = record {
  rest = Take class.Close ∷ Build act.Select ∷ [];
  ends = tt;
  values = shift p (shift u (shift t []));
  reach = λ z b m d. row _ (there (there (there (there (there (there (there (there (there (there (there (there (there (there (there (there (there (there (there (there (there (there (there here))))))))))))))))))))))) (take t e (take u f (take p g d)));
}
stands-reached x w y (behind_select p (together t e) g) = record {
  rest = Take class.Close ∷ Build act.Select ∷ [];
  ends = tt;
  values = shift p (shift t []);
  reach = λ z b m d. row _ (there (there (there (there (there (there (there (there (there (there (there (there (there (there (there (there (there (there (there (there (there (there (there (there here)))))))))))))))))))))))) (take t e (take p g d));
}

-- The tokens up to z are read to a state whose cut z closes, and the portion has this depth there.
pub record Judged (z w : List Token) (d : ℕ) : Type 0 where
  pub symbols : List Symbol
  pub values : List Value
  pub read : Rd z symbols values start w []
  pub portion : List Symbol
  pub cut : cut_of symbols ≡ Some (cuts.Portion portion)
  pub after : List Value
  pub closed : Plain portion z values after
  pub shaped : top_depth (map shape after) ≡ cap d

module _ (z : List Token) (first : Token) (others : List Token) (w : List Token) where
  whole-judged : (y : List Token) → y ≡ first ∷ others ++ z → (rest ss : List Symbol) → cut_of rest ≡ Some (cuts.Portion []) → (v after : List Value) (d : ℕ) →
      ((b : List Symbol) (u : List Value) → Rd z b u (ss ++ rest) y v → Rd z b u start w []) → plain ss ≡ true → Plain ss y v after → top_depth (map shape after) ≡ cap d → Judged z w d
  whole-judged y same rest ss e v after d reach p k h =
      let c = cut (List Value) shift apply k first others z same in record {
        symbols = c.0 ++ rest;
        values = c.1;
        read = reach (c.0 ++ rest) c.1 (on_symbols (List Value) shift apply rest c.2);
        portion = c.0;
        cut = cut-under c.0 rest (reads-plain p c.2) e;
        after = after;
        closed = c.3;
        shaped = h;
      }

  side-judged : {y : List Token} {e : Expr} → y ≡ first ∷ others ++ z → IsTarget y [] e → Reached left_side start w [] y → Judged z w (depth_of e)
  side-judged {e = x} same (target {w = w} t (a_name e) d) r =
      whole-judged (t ∷ w) same (Build act.Whole ∷ r.rest) (Take class.Name ∷ Call part.RefTail ∷ []) refl r.values (Operand x t.at ∷ r.values) (depth_of x) (λ b u k. r.reach z b u (row _ here k)) refl
      (derives.take t e (ref_whole (λ ss w v. Plain ss w v (Operand x t.at ∷ r.values)) (deriving-grows (Operand x t.at ∷ r.values)) t (a_name e) d [] r.values derives.done)) refl
  side-judged {e = x} same (target {w = w} t (an_intrinsic e) d) r =
      whole-judged (t ∷ w) same (Build act.Whole ∷ r.rest) (Take class.Intrinsic ∷ Call part.RefTail ∷ []) refl r.values (Operand x t.at ∷ r.values) (depth_of x) (λ b u k. r.reach z b u (row _ (there here) k)) refl
      (derives.take t e (ref_whole (λ ss w v. Plain ss w v (Operand x t.at ∷ r.values)) (deriving-grows (Operand x t.at ∷ r.values)) t (an_intrinsic e) d [] r.values derives.done)) refl

  expr-judged : {y : List Token} {e : Expr} → y ≡ first ∷ others ++ z → IsExpr y [] e → Reached expression start w [] y → Judged z w (depth_of e)
  expr-judged {y = y} {e = x} same d r =
      whole-judged y same (Build act.Whole ∷ r.rest) (Call part.Expr ∷ []) refl r.values (Operand x (front_place y) ∷ r.values) (depth_of x) (λ b u k. r.reach z b u k) refl (derives-expr d r.values) refl

  sub-judged : {y : List Token} {a : Sub} → y ≡ first ∷ others ++ z → IsSub y [] a → Reached argument start w [] y → Judged z w (sub_depth_of a)
  sub-judged {y = y} {a = x} same d r =
      whole-judged y same r.rest (Call part.Sub ∷ []) r.ends r.values (Subscript x ∷ r.values) (sub_depth_of x) (λ b u k. r.reach z b u k) refl
      (sub_whole (λ ss w v. Plain ss w v (Subscript x ∷ r.values)) (deriving-grows (Subscript x ∷ r.values)) d [] r.values derives.done) refl

  pub judged : (x : Portion) (y : List Token) (d : ℕ) → y ≡ first ∷ others ++ z → Stands x w y → HasDepth x y d → Judged z w d
  judged x y d same s (side_depth t) = side-judged same t (stands-reached left_side w y s)
  judged x y d same s (expression_depth t) = expr-judged same t (stands-reached expression w y s)
  judged x y d same s (argument_depth t) = sub-judged same t (stands-reached argument w y s)
