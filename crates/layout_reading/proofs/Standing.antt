-- The pieces of a statement stand off from each other.
use Rattle.std.proofs.Common.{ℕ, List, [], ◌∷◌, Option, None, Some, Bool, true, false, map, refl, codes, bytes_eq}
use Rattle.fort_tree.specs.declared.expr.Expr.{Expr}
use Rattle.fort_tree.specs.declared.expr.Sub.{Sub}
use Rattle.fort_tree.specs.declared.statement.EndWord.{EndWord}
use Rattle.fort_tree.specs.declared.statement.EndWord.TheVariants as end_word
use Rattle.fort_tree.specs.declared.statement.Statement.{Statement, out-Statement}
use Rattle.fort_tree.specs.declared.statement.Statement.TheOpen.{Statement-F}
use Rattle.fort_tree.specs.declared.stmt.Head.{Head}
use Rattle.fort_tree.specs.declared.stmt.Named.{Named}
use Rattle.fort_tree.specs.declared.stmt.Range.{Range}
use Rattle.fort_tree.specs.Name.{IsName}
use Rattle.fort_expr.specs.Expression.{IsExpr}
use Rattle.fort_stmt.specs.Form.{IsTarget}
use Rattle.fort_spell.specs.declared.mark.Mark.TheVariants as mark
use Rattle.fort_spell.specs.Pieces.{Word, Sign, Piece, word, sign, bracketed, items}
use Rattle.fort_spell.specs.Expressions.{expr_pieces}
use Rattle.fort_spell.specs.Statements.{assign_pieces, argument_pieces, step_pieces, do_pieces, case_pieces}
use Rattle.fort_spell.specs.Units.{named_pieces, only_pieces, result_clause, function_clause}
use Rattle.layout_reading.specs.Readable.{AreBehind, ArePieces}
use Rattle.layout_reading.specs.Statements.{end_text, end_statement, action_pieces, statement_pieces, result_name, IsOneRow}
use Rattle.layout_reading.proofs.Gaps.{Starts, Follows, mark_starts, ends_follow}
use Rattle.layout_reading.proofs.Keywords
use Rattle.layout_reading.proofs.Keywords.{Free}
use Rattle.layout_reading.proofs.Parts.{Fit}
use Rattle.layout_reading.proofs.Lists.{NamesFit, names_behind, names_end, ranges_behind, ArgumentsFit, StepFit}
use Rattle.layout_reading.proofs.Declarations.{decl_stands}
use Rattle.layout_reading.proofs.Statements.{ActionFits, EndFits, OnlyFits, CaseFits, Fits}

starts_pieces : (k : List Piece) → Starts k → ArePieces k
starts_pieces [] s = absurd s
starts_pieces (p ∷ ps) s = (s.0, s.2)

close_end : (k : List Piece) → Follows k → Follows (sign false mark.Close k)
close_end k f = (tt, refl, ends_follow (Sign mark.Close) k refl f)

assign_starts : (l r : Expr) (s : Bool) → Fit IsTarget l → Fit IsExpr r → Starts (assign_pieces l r s [])
assign_starts l r s a b = a.stands s (sign true mark.Assign (expr_pieces r true [])) (tt, refl, mark_starts mark.Assign (expr_pieces r true []) (b.stands true [] tt))

call_tail : (n : List ℕ) (l : List Sub) → Free n → ArgumentsFit l → AreBehind (Word (codes "call")) (word true n (argument_pieces l []))
call_tail n l a b = (a.is_name, refl, b.stands n [] tt)

action_stands : (x : Statement-F Statement) → ActionFits x → ArePieces (action_pieces x false [])
action_stands (Statement-F.Assign l r) a = starts_pieces (assign_pieces l r false []) (assign_starts l r false a.0 a.1)
action_stands (Statement-F.Call n l) a = (Keywords.k_call.is_name, call_tail n.name l a.0 a.1)
action_stands Statement-F.Exit a = (Keywords.k_exit.is_name, tt)
action_stands Statement-F.Cycle a = (Keywords.k_cycle.is_name, tt)
action_stands Statement-F.Return a = (Keywords.k_return.is_name, tt)
action_stands _ a = absurd a

action_behind : (x : Statement-F Statement) → ActionFits x → AreBehind (Sign mark.Close) (action_pieces x true [])
action_behind (Statement-F.Assign l r) a = mark_starts mark.Close (assign_pieces l r true []) (assign_starts l r true a.0 a.1)
action_behind (Statement-F.Call n l) a = (Keywords.k_call.is_name, refl, call_tail n.name l a.0 a.1)
action_behind Statement-F.Exit a = (Keywords.k_exit.is_name, refl, tt)
action_behind Statement-F.Cycle a = (Keywords.k_cycle.is_name, refl, tt)
action_behind Statement-F.Return a = (Keywords.k_return.is_name, refl, tt)
action_behind _ a = absurd a

if_tail : (e : Expr) (k : List Piece) → Fit IsExpr e → AreBehind (Sign mark.Close) k → AreBehind (Word (codes "if")) (sign true mark.Open (expr_pieces e false (sign false mark.Close k)))
if_tail e k a b = (tt, refl, mark_starts mark.Open (expr_pieces e false (sign false mark.Close k)) (a.stands false (sign false mark.Close k) (tt, refl, b)))

then_tail : (e : Expr) → Fit IsExpr e → AreBehind (Word (codes "if")) (sign true mark.Open (expr_pieces e false (sign false mark.Close (word true (codes "then") []))))
then_tail e a = if_tail e (word true (codes "then") []) a (Keywords.k_then.is_name, refl, tt)

end_name : (w : EndWord) → IsName (end_text w)
end_name end_word.Module = Keywords.k_module.is_name
end_name end_word.Subroutine = Keywords.k_subroutine.is_name
end_name end_word.Function = Keywords.k_function.is_name

end_stands : (w : Option EndWord) (n : Option (List ℕ)) → EndFits w n → ArePieces (end_statement w n false [])
end_stands None None a = (Keywords.k_end.is_name, tt)
end_stands None (Some n) a = absurd a
end_stands (Some w) None a = (Keywords.k_end.is_name, (end_name w, refl, tt))
end_stands (Some w) (Some n) a = (Keywords.k_end.is_name, (end_name w, refl, (a.is_name, refl, tt)))

header_tail : (t n : List ℕ) (l : List Named) (k : List Piece) → Free n → NamesFit l → AreBehind (Sign mark.Close) k → AreBehind (Word t) (word true n (bracketed true (map named_pieces l) false k))
header_tail t n l k a b c = (a.is_name, refl, ends_follow (Word n) (bracketed true (map named_pieces l) false k) refl (tt, refl, names_behind l (sign false mark.Close k) b (refl, c)))

result_tail : (b : Bool) (r : List ℕ) → Free r → AreBehind (Sign mark.Close) (result_clause b r [])
result_tail true r a = tt
result_tail false r a = (
  Keywords.k_result.is_name,
  refl,
  ends_follow (Word (codes "result")) (sign false mark.Open (word false r (sign false mark.Close []))) refl
      (tt, refl, mark_starts mark.Open (word false r (sign false mark.Close [])) (a.is_name, refl, ends_follow (Word r) (sign false mark.Close []) refl (tt, refl, tt))),
)

only_tail : (n : List ℕ) (o : Option (List Named)) → OnlyFits o → AreBehind (Word n) (only_pieces o [])
only_tail n None a = tt
only_tail n (Some l) a =
    ends_follow (Word n) (only_pieces (Some l) []) refl
    (tt, refl, (Keywords.k_only.is_name, refl, ends_follow (Word (codes "only")) (sign false mark.Colon (items true (map named_pieces l) true [])) refl (tt, refl, names_end l a)))

do_tail : (head : Head) → Free head.var → Fit IsExpr head.from → Fit IsExpr head.to → StepFit head.step → ArePieces (do_pieces head false [])
do_tail head a b c d =
    let k1 : List Piece = step_pieces head.step [] in
    let k2 : List Piece = expr_pieces head.to true k1 in (
      Keywords.k_do.is_name,
      (
        a.is_name,
        refl,
        (
          tt,
          refl,
          mark_starts mark.Assign (expr_pieces head.from true (sign false mark.Comma k2))
              (b.stands true (sign false mark.Comma k2) (tt, refl, mark_starts mark.Comma k2 (c.stands true k1 (d.follows [] tt)))),
        ),
      ),
    )

case_stands : (l : List Range) → CaseFits l → ArePieces (case_pieces l false [])
case_stands [] a = absurd a
case_stands (r ∷ l) a = (Keywords.k_case.is_name, (tt, refl, ranges_behind r l (sign false mark.Close []) a (refl, tt)))

pub statement_stands : (x : Statement-F Statement) → Fits x → IsOneRow x → ArePieces (statement_pieces x false [])
statement_stands (Statement-F.Module n) a o = (Keywords.k_module.is_name, (a.is_name, refl, tt))
statement_stands Statement-F.Contains a o = (Keywords.k_contains.is_name, tt)
statement_stands (Statement-F.End w n) a o = end_stands w n a
statement_stands (Statement-F.Subroutine n l) a o = (Keywords.k_subroutine.is_name, header_tail (codes "subroutine") n.name l [] a.0 a.1 tt)
statement_stands (Statement-F.Function p n l r) a o =
    (Keywords.k_function.is_name, header_tail (codes "function") n.name l (function_clause n.name (Some (result_name n r)) []) a.0 a.1 (result_tail (bytes_eq (result_name n r).name n.name) (result_name n r).name a.2))
statement_stands (Statement-F.Using u) a o = (Keywords.k_use.is_name, (a.0.is_name, refl, only_tail u.name u.only a.1))
statement_stands Statement-F.ImplicitNone a o = (Keywords.k_implicit.is_name, (Keywords.k_none.is_name, refl, tt))
statement_stands (Statement-F.Declare []) a o = absurd o
statement_stands (Statement-F.Declare (d ∷ [])) a o = decl_stands d a.0
statement_stands (Statement-F.Declare (d ∷ e ∷ l)) a o = absurd o
statement_stands (Statement-F.Assign l r) a o = action_stands (Statement-F.Assign l r) a
statement_stands (Statement-F.Call n l) a o = action_stands (Statement-F.Call n l) a
statement_stands (Statement-F.IfAction e p s) a o = (Keywords.k_if.is_name, if_tail e (action_pieces (out-Statement s) true []) a.0 (action_behind (out-Statement s) a.1))
statement_stands (Statement-F.IfThen e) a o = (Keywords.k_if.is_name, then_tail e a)
statement_stands (Statement-F.ElseIf e) a o = (Keywords.k_else.is_name, (Keywords.k_if.is_name, refl, then_tail e a))
statement_stands Statement-F.Else a o = (Keywords.k_else.is_name, tt)
statement_stands Statement-F.EndIf a o = (Keywords.k_end.is_name, (Keywords.k_if.is_name, refl, tt))
statement_stands (Statement-F.Do head) a o = do_tail head a.0 a.1 a.2 a.3
statement_stands Statement-F.EndDo a o = (Keywords.k_end.is_name, (Keywords.k_do.is_name, refl, tt))
statement_stands Statement-F.Exit a o = (Keywords.k_exit.is_name, tt)
statement_stands Statement-F.Cycle a o = (Keywords.k_cycle.is_name, tt)
statement_stands Statement-F.Return a o = (Keywords.k_return.is_name, tt)
statement_stands (Statement-F.Select e) a o =
    (Keywords.k_select.is_name, (Keywords.k_case.is_name, refl, (tt, refl, mark_starts mark.Open (expr_pieces e false (sign false mark.Close [])) (a.stands false (sign false mark.Close []) (tt, refl, tt)))))
statement_stands Statement-F.EndSelect a o = (Keywords.k_end.is_name, (Keywords.k_select.is_name, refl, tt))
statement_stands (Statement-F.Case l) a o = case_stands l a
statement_stands Statement-F.CaseDefault a o = (Keywords.k_case.is_name, (Keywords.k_default.is_name, refl, tt))
