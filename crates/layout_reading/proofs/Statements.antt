-- Statements are read as they are written.
use Rattle.std.proofs.Common.{◌≡◌, ℕ, List, [], ◌∷◌, ◌++◌, Option, None, Some, Bool, true, false, map, option_map, refl, sym, ap, ◌∙◌, subst, codes, bytes_eq}
use Rattle.std.specs.Prelude.{⊤}
use Rattle.std.proofs.lemmas.Slice.Eq.{bytes_eq-Decides}
use Rattle.fort_arith.specs.declared.kind.Kind.{Kind}
use Rattle.fort_tree.specs.declared.place.Place.{Place}
use Rattle.fort_tree.specs.declared.expr.Expr.{Expr}
use Rattle.fort_tree.specs.declared.expr.Sub.{Sub}
use Rattle.fort_tree.specs.declared.statement.EndWord.{EndWord}
use Rattle.fort_tree.specs.declared.statement.EndWord.TheVariants as end_word
use Rattle.fort_tree.specs.declared.statement.Statement.{Statement, out-Statement}
use Rattle.fort_tree.specs.declared.statement.Statement.TheOpen.{Statement-F}
use Rattle.fort_tree.specs.declared.statement.Statement.TheVariants as statement
use Rattle.fort_tree.specs.declared.statement.Token.{Token}
use Rattle.fort_tree.specs.declared.stmt.Head.{Head}
use Rattle.fort_tree.specs.declared.stmt.Named.{Named}
use Rattle.fort_tree.specs.declared.stmt.Range.{Range}
use Rattle.fort_tree.specs.declared.unit.Decl.{Decl}
use Rattle.fort_tree.specs.declared.unit.Use.{Use}
use Rattle.fort_tree.specs.Name.{lowercase}
use Rattle.fort_tree.specs.Unplaced.{nowhere, unplaced}
use Rattle.fort_grammar.specs.declared.class.Class.{Class}
use Rattle.fort_grammar.specs.declared.class.Class.TheVariants as class
use Rattle.fort_grammar.specs.Token.{token_class}
use Rattle.fort_expr.specs.Expression.{IsExpr}
use Rattle.fort_expr.specs.Words.{front_place}
use Rattle.fort_stmt.specs.Form as f
use Rattle.fort_stmt.specs.Form.{named_of, IsWords, IsEndName, IsNamesOption, IsDummies, IsResult, IsFunction, IsTarget, IsAssignment, IsAction, IsForm, IsStatement}
use Rattle.fort_spell.specs.declared.mark.Mark.TheVariants as mark
use Rattle.fort_spell.specs.Text.{mark_text}
use Rattle.fort_spell.specs.Pieces.{Piece, word, sign, bracketed, items}
use Rattle.fort_spell.specs.Expressions.{expr_pieces}
use Rattle.fort_spell.specs.Statements.{assign_pieces, argument_pieces, call_pieces, if_pieces, then_pieces, step_pieces, do_pieces, select_pieces, case_pieces, range_pieces}
use Rattle.fort_spell.specs.Units.{named_pieces, only_pieces, result_clause, function_clause}
use Rattle.layout_reading.specs.Tokens.{texts, piece_texts, AreTokens}
use Rattle.layout_reading.specs.Statements
use Rattle.layout_reading.specs.Statements.{end_text, header, action_pieces, statement_pieces, result_name, names, bare_head, bare_range, bare_decl, SameStatement, same_module, same_contains, same_end, same_subroutine, same_function, same_use, same_implicit, same_declare, same_assign, same_call, same_if_action, same_if_then, same_else_if, same_else, same_end_if, same_do, same_end_do, same_exit, same_cycle, same_return, same_select, same_end_select, same_case, same_default, IsStatementOfTokens, AreStatement, IsOneRow}
use Rattle.layout_reading.proofs.Classes.{comma_class_is, colon_class_is, open_class_is, close_class_is, equals_class_is}
use Rattle.layout_reading.proofs.Expressions.{cut, all_read, real_first, real_rest, law_expr}
use Rattle.layout_reading.proofs.Keywords
use Rattle.layout_reading.proofs.Keywords.{Keyword, keyword, Free, token_free, free_lower}
use Rattle.layout_reading.proofs.Parts.{Fit, fit, law_target}
use Rattle.layout_reading.proofs.Lists.{NamesFit, names_option_fit, names_again, RangesFit, ranges_fit, ranges_again, ArgumentsFit, arguments_fit, StepFit, step_fit}
use Rattle.layout_reading.proofs.Declarations.{Each, DeclFit, declaration_fit, decl_again, dummies_fit, OptionFree, FunctionFit, function_fit, function_left}
use Rattle.layout_reading.proofs.Outs

-- WHAT FITS

abbrev pub ActionFits : Statement-F Statement → Type 0
ActionFits (Statement-F.Assign l r) = Fit IsTarget l × Fit IsExpr r
ActionFits (Statement-F.Call n args) = Free n.name × ArgumentsFit args
ActionFits Statement-F.Exit = ⊤
ActionFits Statement-F.Cycle = ⊤
ActionFits Statement-F.Return = ⊤
ActionFits _ = ⊥

abbrev pub EndFits : Option EndWord → Option (List ℕ) → Type 0
EndFits w None = ⊤
EndFits None (Some n) = ⊥
EndFits (Some w) (Some n) = Free n

abbrev pub OnlyFits : Option (List Named) → Type 0
OnlyFits None = ⊤
OnlyFits (Some l) = NamesFit l

abbrev pub CaseFits : List Range → Type 0
CaseFits [] = ⊥
CaseFits (r ∷ l) = RangesFit (r ∷ l)

-- Each part can be written in its place.
abbrev pub Fits : Statement-F Statement → Type 0
Fits (Statement-F.Module n) = Free n.name
Fits Statement-F.Contains = ⊤
Fits (Statement-F.End w n) = EndFits w n
Fits (Statement-F.Subroutine n l) = Free n.name × NamesFit l
Fits (Statement-F.Function p n l r) = Free n.name × NamesFit l × Free (result_name n r).name
Fits (Statement-F.Using u) = Free u.name × OnlyFits u.only
Fits Statement-F.ImplicitNone = ⊤
Fits (Statement-F.Declare l) = Each DeclFit l
Fits (Statement-F.Assign l r) = Fit IsTarget l × Fit IsExpr r
Fits (Statement-F.Call n args) = Free n.name × ArgumentsFit args
Fits (Statement-F.IfAction e p s) = Fit IsExpr e × ActionFits (out-Statement s)
Fits (Statement-F.IfThen e) = Fit IsExpr e
Fits (Statement-F.ElseIf e) = Fit IsExpr e
Fits Statement-F.Else = ⊤
Fits Statement-F.EndIf = ⊤
Fits (Statement-F.Do h) = Free h.var × Fit IsExpr h.from × Fit IsExpr h.to × StepFit h.step
Fits Statement-F.EndDo = ⊤
Fits Statement-F.Exit = ⊤
Fits Statement-F.Cycle = ⊤
Fits Statement-F.Return = ⊤
Fits (Statement-F.Select e) = Fit IsExpr e
Fits Statement-F.EndSelect = ⊤
Fits (Statement-F.Case l) = CaseFits l
Fits Statement-F.CaseDefault = ⊤

fits_as : (s : Statement) (x : Statement-F Statement) → out-Statement s ≡ x → Fits x → Fits (out-Statement s)
fits_as s x e h = subst Fits (sym e) h

action_as : (s : Statement) (x : Statement-F Statement) → out-Statement s ≡ x → ActionFits x → ActionFits (out-Statement s)
action_as s x e h = subst ActionFits (sym e) h

assignment_fits : {w z : List Token} {s : Statement} → IsAssignment w z s → AreTokens w → Fits (out-Statement s) × ActionFits (out-Statement s)
assignment_fits (f.assign {x = x} {z = z} {a = a} {b = b} e t h d) r =
    let l = law_target t r in
    let v = law_expr d (real_rest e x l.left) in
    let both : Fit IsTarget a × Fit IsExpr b = (fit IsTarget (e ∷ x) a l, fit IsExpr z b v) in
    (fits_as (statement.Assign a b) (Statement-F.Assign a b) (Outs.out_assign a b) both, action_as (statement.Assign a b) (Statement-F.Assign a b) (Outs.out_assign a b) both)

action_fits : {w z : List Token} {s : Statement} → IsAction w z s → AreTokens w → Fits (out-Statement s) × ActionFits (out-Statement s)
action_fits (f.assignment d) r = assignment_fits d r
action_fits (f.call {w = w} {l = l} c n a b d) r =
    let r' = real_rest c (n ∷ w) r in
    let both : Free (lowercase n.text) × ArgumentsFit l = (token_free n (real_first n w r') b, arguments_fit d (real_rest n w r')) in
    (fits_as (statement.Call (named_of n) l) (Statement-F.Call (named_of n) l) (Outs.out_call (named_of n) l) both, action_as (statement.Call (named_of n) l) (Statement-F.Call (named_of n) l) (Outs.out_call (named_of n) l) both)
action_fits (f.exit t h) r = (fits_as statement.Exit Statement-F.Exit Outs.out_exit tt, action_as statement.Exit Statement-F.Exit Outs.out_exit tt)
action_fits (f.cycle t h) r = (fits_as statement.Cycle Statement-F.Cycle Outs.out_cycle tt, action_as statement.Cycle Statement-F.Cycle Outs.out_cycle tt)
action_fits (f.return t h) r = (fits_as statement.Return Statement-F.Return Outs.out_return tt, action_as statement.Return Statement-F.Return Outs.out_return tt)

words_left : {a b c : Class} {w z : List Token} → IsWords a b c w z → AreTokens w → AreTokens z
words_left (f.apart {z = z} t u h i) r = real_rest u z (real_rest t (u ∷ z) r)
words_left (f.together {z = z} t h) r = real_rest t z r

end_fits : {w z : List Token} {n : Option (List ℕ)} (e : EndWord) → IsEndName w z n → AreTokens w → Fits (out-Statement (statement.End (Some e) n))
end_fits e f.no_name r = fits_as (statement.End (Some e) None) (Statement-F.End (Some e) None) (Outs.out_end (Some e) None) tt
end_fits e (f.some_name {z = z} t h) r =
    fits_as (statement.End (Some e) (Some (lowercase t.text))) (Statement-F.End (Some e) (Some (lowercase t.text))) (Outs.out_end (Some e) (Some (lowercase t.text))) (token_free t (real_first t z r) h)

result_free : (n : Named) (r : Option Named) → Free n.name → OptionFree r → Free (result_name n r).name
result_free n None a b = a
result_free n (Some r) a b = b

function_fits : (p : Option (Kind × Place)) (h : f.Header) → FunctionFit h → Fits (out-Statement (statement.Function p h.name h.dummies h.result))
function_fits p h a =
    fits_as (statement.Function p h.name h.dummies h.result) (Statement-F.Function p h.name h.dummies h.result) (Outs.out_function p h.name h.dummies h.result) (a.name, a.dummies, result_free h.name h.result a.name a.result)

ranges_some : {w z : List Token} {l : List Range} → f.IsRanges w z l → RangesFit l → CaseFits l
ranges_some (f.first_range d) a = a
ranges_some (f.next_range {l = l} {r = b} c d h e) a = at l b a
  where
    at : (l : List Range) (b : Range) → RangesFit (l ++ b ∷ []) → CaseFits (l ++ b ∷ [])
    at [] b a = a
    at (x ∷ l) b a = a

pub form_fits : {w z : List Token} {s : Statement} → IsForm w z s → AreTokens w → Fits (out-Statement s)
form_fits (f.a_module {z = z} m n a b) r = fits_as (statement.Module (named_of n)) (Statement-F.Module (named_of n)) (Outs.out_module (named_of n)) (token_free n (real_first n z (real_rest m (n ∷ z) r)) b)
form_fits (f.contains t h) r = fits_as statement.Contains Statement-F.Contains Outs.out_contains tt
form_fits (f.end_bare t h) r = fits_as (statement.End None None) (Statement-F.End None None) (Outs.out_end None None) tt
form_fits (f.end_module d n) r = end_fits end_word.Module n (words_left d r)
form_fits (f.end_subroutine d n) r = end_fits end_word.Subroutine n (words_left d r)
form_fits (f.end_function d n) r = end_fits end_word.Function n (words_left d r)
form_fits (f.subroutine {w = w} {l = l} s n a b d) r =
    let r' = real_rest s (n ∷ w) r in
    fits_as (statement.Subroutine (named_of n) l) (Statement-F.Subroutine (named_of n) l) (Outs.out_subroutine (named_of n) l) (token_free n (real_first n w r') b, (dummies_fit d (real_rest n w r')).0)
form_fits (f.function {w = w} {h = h} t a d) r = function_fits None h (function_fit d (real_rest t w r))
form_fits (f.prefixed {w = w} {x = x} {k = k} {h = h} t i a d) r = function_fits (Some (k, front_place w)) h (function_fit d (real_rest t x (function_left i r)))
form_fits (f.use_all {z = z} u n a b) r =
    let line : Use = record { name = lowercase n.text; only = None; at = n.at } in fits_as (statement.Using line) (Statement-F.Using line) (Outs.out_using line) (token_free n (real_first n z (real_rest u (n ∷ z) r)) b, tt)
form_fits (f.use_only {w = w} {l = l} u n c o k a b d e g i) r =
    let line : Use = record { name = lowercase n.text; only = Some l; at = n.at } in
    let r1 = real_rest u (n ∷ c ∷ o ∷ k ∷ w) r in
    let r2 = real_rest k w (real_rest o (k ∷ w) (real_rest c (o ∷ k ∷ w) (real_rest n (c ∷ o ∷ k ∷ w) r1))) in
    fits_as (statement.Using line) (Statement-F.Using line) (Outs.out_using line) (token_free n (real_first n (c ∷ o ∷ k ∷ w) r1) b, (names_option_fit i r2).0)
form_fits (f.implicit_none i n a b) r = fits_as statement.ImplicitNone Statement-F.ImplicitNone Outs.out_implicit tt
form_fits (f.declare {l = l} d) r = fits_as (statement.Declare l) (Statement-F.Declare l) (Outs.out_declare l) (declaration_fit d r)
form_fits (f.action d) r = (action_fits d r).0
form_fits (f.if_then {w = w} {z = z} {e = e} i p q t a b d c g) r =
    fits_as (statement.IfThen e) (Statement-F.IfThen e) (Outs.out_if_then e) (fit IsExpr (q ∷ t ∷ z) e (law_expr d (real_rest p w (real_rest i (p ∷ w) r))))
form_fits (f.if_action {w = w} {x = x} {e = e} {s = s} i p q a b d c g) r =
    let l = law_expr d (real_rest p w (real_rest i (p ∷ w) r)) in
    fits_as (statement.IfAction e (front_place x) s) (Statement-F.IfAction e (front_place x) s) (Outs.out_if_action e (front_place x) s) (fit IsExpr (q ∷ x) e l, (action_fits g (real_rest q x l.left)).1)
form_fits (f.else_if {x = x} {z = z} {e = e} p q t d a i b c) r = fits_as (statement.ElseIf e) (Statement-F.ElseIf e) (Outs.out_else_if e) (fit IsExpr (q ∷ t ∷ z) e (law_expr i (real_rest p x (words_left d r))))
form_fits (f.else_bare t h) r = fits_as statement.Else Statement-F.Else Outs.out_else tt
form_fits (f.end_if d) r = fits_as statement.EndIf Statement-F.EndIf Outs.out_end_if tt
form_fits (f.a_do {w = w} {x = x} {y = y} {z = z} {a = a} {b = b} {c = c} d n e o hd hn he i ho j k) r =
    let r1 = real_rest d (n ∷ e ∷ w) r in
    let l = law_expr i (real_rest e w (real_rest n (e ∷ w) r1)) in
    let m = law_expr j (real_rest o x l.left) in
    let head : Head = record { var = lowercase n.text; at = n.at; from = a; to = b; step = c } in
    fits_as (statement.Do head) (Statement-F.Do head) (Outs.out_do head) (token_free n (real_first n (e ∷ w) r1) hn, fit IsExpr (o ∷ x) a l, fit IsExpr y b m, step_fit k m.left)
form_fits (f.end_do d) r = fits_as statement.EndDo Statement-F.EndDo Outs.out_end_do tt
form_fits (f.select {x = x} {z = z} {e = e} p q d a i b) r = fits_as (statement.Select e) (Statement-F.Select e) (Outs.out_select e) (fit IsExpr (q ∷ z) e (law_expr i (real_rest p x (words_left d r))))
form_fits (f.end_select d) r = fits_as statement.EndSelect Statement-F.EndSelect Outs.out_end_select tt
form_fits (f.case {w = w} {l = l} c p q a b d e) r = fits_as (statement.Case l) (Statement-F.Case l) (Outs.out_case l) (ranges_some d (ranges_fit d (real_rest p w (real_rest c (p ∷ w) r))).0)
form_fits (f.case_default c d a b) r = fits_as statement.CaseDefault Statement-F.CaseDefault Outs.out_default tt

-- READ AGAIN

pub record Said (x : Statement-F Statement) (ws : List Token) : Type 0 where
  pub statement : Statement
  pub form : IsStatement ws statement
  pub same : SameStatement (out-Statement statement) x

said : (x y : Statement-F Statement) (ws : List Token) (s : Statement) → out-Statement s ≡ y → SameStatement y x → IsStatement ws s → Said x ws
said x y ws s e h d = record { statement = s; form = d; same = subst (λ q. SameStatement q x) (sym e) h }

record Action (x : Statement-F Statement) (ws : List Token) : Type 0 where
  statement : Statement
  form : IsAction ws [] statement
  same : SameStatement (out-Statement statement) x

action : (x y : Statement-F Statement) (ws : List Token) (s : Statement) → out-Statement s ≡ y → SameStatement y x → IsAction ws [] s → Action x ws
action x y ws s e h d = record { statement = s; form = d; same = subst (λ q. SameStatement q x) (sym e) h }

-- the only token, and the only two
record OneWord (ws : List Token) (text : List ℕ) : Type 0 where
  first : Token
  is : ws ≡ first ∷ []
  text_is : first.text ≡ text

one_word : (ws : List Token) (text : List ℕ) → texts ws ≡ text ∷ [] → OneWord ws text
one_word ws text h = let c = cut ws text [] h in record { first = c.first; is = c.is ∙ ap (λ y. c.first ∷ y) (all_read c.others c.have); text_is = c.text }

record TwoWords (ws : List Token) (a b : List ℕ) : Type 0 where
  first : Token
  second : Token
  is : ws ≡ first ∷ second ∷ []
  first_is : first.text ≡ a
  second_is : second.text ≡ b

two_words : (ws : List Token) (a b : List ℕ) → texts ws ≡ a ∷ b ∷ [] → TwoWords ws a b
two_words ws a b h =
    let c = cut ws a (b ∷ []) h in
    let d = one_word c.others b c.have in
    record { first = c.first; second = d.first; is = c.is ∙ ap (λ y. c.first ∷ y) d.is; first_is = c.text; second_is = d.text_is }

two_apart : (ws : List Token) (a b : List ℕ) (c d e : Class) → Keyword a c → Keyword b d → texts ws ≡ a ∷ b ∷ [] → IsWords c d e ws []
two_apart ws a b c d e k l h =
    let t = two_words ws a b h in subst (λ y. IsWords c d e y []) (sym t.is) (f.apart t.first t.second (keyword t.first a c k t.first_is) (keyword t.second b d l t.second_is))

exit_again : (ws : List Token) → texts ws ≡ codes "exit" ∷ [] → IsAction ws [] statement.Exit
exit_again ws h = let t = one_word ws (codes "exit") h in subst (λ y. IsAction y [] statement.Exit) (sym t.is) (f.exit t.first (keyword t.first (codes "exit") class.Exit Keywords.k_exit t.text_is))

cycle_again : (ws : List Token) → texts ws ≡ codes "cycle" ∷ [] → IsAction ws [] statement.Cycle
cycle_again ws h = let t = one_word ws (codes "cycle") h in subst (λ y. IsAction y [] statement.Cycle) (sym t.is) (f.cycle t.first (keyword t.first (codes "cycle") class.Cycle Keywords.k_cycle t.text_is))

return_again : (ws : List Token) → texts ws ≡ codes "return" ∷ [] → IsAction ws [] statement.Return
return_again ws h = let t = one_word ws (codes "return") h in subst (λ y. IsAction y [] statement.Return) (sym t.is) (f.return t.first (keyword t.first (codes "return") class.Return Keywords.k_return t.text_is))

assign_again : (l r : Expr) (s : Bool) (ws : List Token) → Fit IsTarget l → Fit IsExpr r → texts ws ≡ piece_texts (assign_pieces l r s []) → Action (Statement-F.Assign l r) ws
assign_again l r s ws a b h =
    let u = a.again s (sign true mark.Assign (expr_pieces r true [])) ws h in
    let c = cut u.rest (mark_text mark.Assign) (piece_texts (expr_pieces r true [])) u.have in
    let v = b.again true [] c.others c.have in
    let whole : IsAssignment ws [] (statement.Assign u.tree v.tree) =
    f.assign c.first (subst (λ y. IsTarget ws y u.tree) c.is u.is) (equals_class_is c.first c.text) (subst (λ y. IsExpr c.others y v.tree) (all_read v.rest v.have) v.is) in
    action (Statement-F.Assign l r) (Statement-F.Assign u.tree v.tree) ws (statement.Assign u.tree v.tree) (Outs.out_assign u.tree v.tree) (same_assign u.same v.same) (f.assignment whole)

call_again : (n : Named) (l : List Sub) (s : Bool) (ws : List Token) → Free n.name → ArgumentsFit l → texts ws ≡ piece_texts (call_pieces n.name l s []) → Action (Statement-F.Call n l) ws
call_again n l s ws a b h =
    let c = cut ws (codes "call") (piece_texts (word true n.name (argument_pieces l []))) h in
    let d = cut c.others n.name (piece_texts (argument_pieces l [])) c.have in
    let v = b.again [] d.others d.have in
    let whole : IsAction (c.first ∷ d.first ∷ d.others) v.rest (statement.Call (named_of d.first) v.trees) =
    f.call c.first d.first (keyword c.first (codes "call") class.Call Keywords.k_call c.text) (keyword d.first n.name class.Name a d.text) v.is in
    action (Statement-F.Call n l) (Statement-F.Call (named_of d.first) v.trees) ws (statement.Call (named_of d.first) v.trees) (Outs.out_call (named_of d.first) v.trees) (same_call (free_lower d.first n.name a d.text) v.same)
    (subst (λ y. IsAction y [] (statement.Call (named_of d.first) v.trees)) (sym (c.is ∙ ap (λ y. c.first ∷ y) d.is)) (subst (λ y. IsAction (c.first ∷ d.first ∷ d.others) y (statement.Call (named_of d.first) v.trees)) (all_read v.rest v.have) whole))

action_again : (x : Statement-F Statement) (s : Bool) (ws : List Token) → ActionFits x → texts ws ≡ piece_texts (action_pieces x s []) → Action x ws
action_again (Statement-F.Assign l r) s ws a h = assign_again l r s ws a.0 a.1 h
action_again (Statement-F.Call n l) s ws a h = call_again n l s ws a.0 a.1 h
action_again Statement-F.Exit s ws a h = action Statement-F.Exit Statement-F.Exit ws statement.Exit Outs.out_exit same_exit (exit_again ws h)
action_again Statement-F.Cycle s ws a h = action Statement-F.Cycle Statement-F.Cycle ws statement.Cycle Outs.out_cycle same_cycle (cycle_again ws h)
action_again Statement-F.Return s ws a h = action Statement-F.Return Statement-F.Return ws statement.Return Outs.out_return same_return (return_again ws h)
action_again _ s ws a h = absurd a

by_action : (x : Statement-F Statement) (ws : List Token) → Action x ws → Said x ws
by_action x ws a = record { statement = a.statement; form = f.action a.form; same = a.same }

-- ENDS

abbrev end_class : EndWord → Class
end_class end_word.Module = class.Module
end_class end_word.Subroutine = class.Subroutine
end_class end_word.Function = class.Function

abbrev end_joined : EndWord → Class
end_joined end_word.Module = class.Endmodule
end_joined end_word.Subroutine = class.Endsubroutine
end_joined end_word.Function = class.Endfunction

end_keyword : (w : EndWord) → Keyword (end_text w) (end_class w)
end_keyword end_word.Module = Keywords.k_module
end_keyword end_word.Subroutine = Keywords.k_subroutine
end_keyword end_word.Function = Keywords.k_function

end_form : (w : EndWord) (x y z : List Token) (n : Option (List ℕ)) → IsWords class.End (end_class w) (end_joined w) x y → IsEndName y z n → IsForm x z (statement.End (Some w) n)
end_form end_word.Module x y z n d e = f.end_module d e
end_form end_word.Subroutine x y z n d e = f.end_subroutine d e
end_form end_word.Function x y z n d e = f.end_function d e

end_again : (w : Option EndWord) (n : Option (List ℕ)) (s : Bool) (ws : List Token) → EndFits w n → texts ws ≡ piece_texts (Statements.end_statement w n s []) → Said (Statement-F.End w n) ws
end_again None None s ws a h =
    let t = one_word ws (codes "end") h in
    said (Statement-F.End None None) (Statement-F.End None None) ws (statement.End None None) (Outs.out_end None None) (same_end refl)
    (subst (λ y. IsStatement y (statement.End None None)) (sym t.is) (f.end_bare t.first (keyword t.first (codes "end") class.End Keywords.k_end t.text_is)))
end_again None (Some n) s ws a h = absurd a
end_again (Some w) None s ws a h =
    said (Statement-F.End (Some w) None) (Statement-F.End (Some w) None) ws (statement.End (Some w) None) (Outs.out_end (Some w) None) (same_end refl)
    (end_form w ws [] [] None (two_apart ws (codes "end") (end_text w) class.End (end_class w) (end_joined w) Keywords.k_end (end_keyword w) h) f.no_name)
end_again (Some w) (Some n) s ws a h =
    let b = cut ws (codes "end") (end_text w ∷ n ∷ []) h in
    let c = cut b.others (end_text w) (n ∷ []) b.have in
    let d = one_word c.others n c.have in
    let begins : IsWords class.End (end_class w) (end_joined w) (b.first ∷ c.first ∷ c.others) c.others =
    f.apart b.first c.first (keyword b.first (codes "end") class.End Keywords.k_end b.text) (keyword c.first (end_text w) (end_class w) (end_keyword w) c.text) in
    let ends : IsEndName c.others [] (Some (lowercase d.first.text)) = subst (λ y. IsEndName y [] (Some (lowercase d.first.text))) (sym d.is) (f.some_name d.first (keyword d.first n class.Name a d.text_is)) in
    said (Statement-F.End (Some w) (Some n)) (Statement-F.End (Some w) (Some (lowercase d.first.text))) ws (statement.End (Some w) (Some (lowercase d.first.text))) (Outs.out_end (Some w) (Some (lowercase d.first.text)))
    (same_end (ap (λ x. Some x) (free_lower d.first n a d.text_is)))
    (subst (λ y. IsStatement y (statement.End (Some w) (Some (lowercase d.first.text)))) (sym (b.is ∙ ap (λ y. b.first ∷ y) c.is)) (end_form w (b.first ∷ c.first ∷ c.others) c.others [] (Some (lowercase d.first.text)) begins ends))

-- HEADERS

record Bracket (l : List Named) (ws : List Token) (ks : List Piece) : Type 0 where
  opening : Token
  inside : List Token
  closing : Token
  rest : List Token
  list : List Named
  is : ws ≡ opening ∷ inside
  opens : token_class opening ≡ class.Open
  names_are : IsNamesOption inside (closing ∷ rest) list
  closes : token_class closing ≡ class.Close
  same : names list ≡ names l
  have : texts rest ≡ piece_texts ks

bracket_again : (l : List Named) (ks : List Piece) (ws : List Token) → NamesFit l → texts ws ≡ piece_texts (bracketed true (map named_pieces l) false ks) → Bracket l ws ks
bracket_again l ks ws a h =
    let c = cut ws (mark_text mark.Open) (piece_texts (items true (map named_pieces l) false (sign false mark.Close ks))) h in
    let u = names_again false l (sign false mark.Close ks) c.others a c.have in
    let d = cut u.rest (mark_text mark.Close) (piece_texts ks) u.have in
    record {
      opening = c.first;
      inside = c.others;
      closing = d.first;
      rest = d.others;
      list = u.item;
      is = c.is;
      opens = open_class_is c.first c.text;
      names_are = subst (λ y. IsNamesOption c.others y u.item) d.is u.is;
      closes = close_class_is d.first d.text;
      same = u.same;
      have = d.have;
    }

subroutine_again : (n : Named) (l : List Named) (ws : List Token) → Free n.name → NamesFit l → texts ws ≡ piece_texts (header (codes "subroutine") n.name l (λ k. k) false []) → Said (Statement-F.Subroutine n l) ws
subroutine_again n l ws a b h =
    let c = cut ws (codes "subroutine") (piece_texts (word true n.name (bracketed true (map named_pieces l) false []))) h in
    let d = cut c.others n.name (piece_texts (bracketed true (map named_pieces l) false [])) c.have in
    let p = bracket_again l [] d.others b d.have in
    let m : Named = named_of d.first in
    let dummies : IsDummies (p.opening ∷ p.inside) p.rest p.list = f.dummies p.opening p.closing p.opens p.names_are p.closes in
    let whole : IsForm (c.first ∷ d.first ∷ p.opening ∷ p.inside) p.rest (statement.Subroutine m p.list) =
    f.subroutine c.first d.first (keyword c.first (codes "subroutine") class.Subroutine Keywords.k_subroutine c.text) (keyword d.first n.name class.Name a d.text) dummies in
    said (Statement-F.Subroutine n l) (Statement-F.Subroutine m p.list) ws (statement.Subroutine m p.list) (Outs.out_subroutine m p.list) (same_subroutine (free_lower d.first n.name a d.text) p.same)
    (subst (λ y. IsStatement y (statement.Subroutine m p.list)) (sym (c.is ∙ ap (λ y. c.first ∷ y) (d.is ∙ ap (λ y. d.first ∷ y) p.is)))
    (subst (λ y. IsForm (c.first ∷ d.first ∷ p.opening ∷ p.inside) y (statement.Subroutine m p.list)) (all_read p.rest p.have) whole))

-- the result's name, where it isn't the function's
record Result (m : Named) (name : List ℕ) (ws : List Token) : Type 0 where
  result : Option Named
  is : IsResult ws [] result
  same : (result_name m result).name ≡ name

result_at : (b : Bool) (m r : Named) (ws : List Token) → (b ≡ true → m.name ≡ r.name) → Free r.name → texts ws ≡ piece_texts (result_clause b r.name []) → Result m r.name ws
result_at true m r ws e a h = record { result = None; is = subst (λ y. IsResult y [] None) (sym (all_read ws h)) f.no_result; same = e refl }
result_at false m r ws e a h =
    let c = cut ws (codes "result") (mark_text mark.Open ∷ r.name ∷ mark_text mark.Close ∷ []) h in
    let d = cut c.others (mark_text mark.Open) (r.name ∷ mark_text mark.Close ∷ []) c.have in
    let t = two_words d.others r.name (mark_text mark.Close) d.have in
    record {
      result = Some (named_of t.first);
      is = subst (λ y. IsResult y [] (Some (named_of t.first))) (sym (c.is ∙ ap (λ y. c.first ∷ y) (d.is ∙ ap (λ y. d.first ∷ y) t.is)))
          (f.some_result c.first d.first t.first t.second (keyword c.first (codes "result") class.Result Keywords.k_result c.text) (open_class_is d.first d.text) (keyword t.first r.name class.Name a t.first_is) (close_class_is t.second t.second_is));
      same = free_lower t.first r.name a t.first_is;
    }

function_again : (p : Option (Kind × Place)) (n : Named) (l : List Named) (r : Option Named) (ws : List Token) → Free n.name → NamesFit l → Free (result_name n r).name →
    texts ws ≡ piece_texts (header (codes "function") n.name l (function_clause n.name (Some (result_name n r))) false []) → Said (Statement-F.Function p n l r) ws
function_again p n l r ws a b g h =
    let s : Named = result_name n r in
    let c = cut ws (codes "function") (piece_texts (word true n.name (bracketed true (map named_pieces l) false (function_clause n.name (Some s) [])))) h in
    let d = cut c.others n.name (piece_texts (bracketed true (map named_pieces l) false (function_clause n.name (Some s) []))) c.have in
    let q = bracket_again l (function_clause n.name (Some s) []) d.others b d.have in
    let m : Named = named_of d.first in
    let named : m.name ≡ n.name = free_lower d.first n.name a d.text in
    let u = result_at (bytes_eq s.name n.name) m s q.rest (λ e. named ∙ sym ((bytes_eq-Decides s.name n.name).0 e)) g q.have in
    let inner : IsFunction (d.first ∷ q.opening ∷ q.inside) [] (record { name = m; dummies = q.list; result = u.result }) =
    f.a_function d.first q.opening q.closing (keyword d.first n.name class.Name a d.text) q.opens q.names_are q.closes u.is in
    let whole : IsForm (c.first ∷ d.first ∷ q.opening ∷ q.inside) [] (statement.Function None m q.list u.result) =
    f.function c.first (keyword c.first (codes "function") class.Function Keywords.k_function c.text) inner in
    said (Statement-F.Function p n l r) (Statement-F.Function None m q.list u.result) ws (statement.Function None m q.list u.result) (Outs.out_function None m q.list u.result) (same_function named q.same u.same)
    (subst (λ y. IsStatement y (statement.Function None m q.list u.result)) (sym (c.is ∙ ap (λ y. c.first ∷ y) (d.is ∙ ap (λ y. d.first ∷ y) q.is))) whole)

-- USE

use_again : (u : Use) (o : Option (List Named)) (ws : List Token) → u.only ≡ o → Free u.name → OnlyFits o → texts ws ≡ piece_texts (word false (codes "use") (word true u.name (only_pieces o []))) → Said (Statement-F.Using u) ws
use_again u None ws e a b h =
    let t = two_words ws (codes "use") u.name h in
    let line : Use = record { name = lowercase t.second.text; only = None; at = t.second.at } in
    said (Statement-F.Using u) (Statement-F.Using line) ws (statement.Using line) (Outs.out_using line) (same_use (free_lower t.second u.name a t.second_is) (ap (option_map names) (sym e)))
    (subst (λ y. IsStatement y (statement.Using line)) (sym t.is) (f.use_all t.first t.second (keyword t.first (codes "use") class.Use Keywords.k_use t.first_is) (keyword t.second u.name class.Name a t.second_is)))
use_again u (Some l) ws e a b h =
    let k1 : List Piece = items true (map named_pieces l) true [] in
    let c = cut ws (codes "use") (u.name ∷ mark_text mark.Comma ∷ codes "only" ∷ mark_text mark.Colon ∷ piece_texts k1) h in
    let d = cut c.others u.name (mark_text mark.Comma ∷ codes "only" ∷ mark_text mark.Colon ∷ piece_texts k1) c.have in
    let g = cut d.others (mark_text mark.Comma) (codes "only" ∷ mark_text mark.Colon ∷ piece_texts k1) d.have in
    let i = cut g.others (codes "only") (mark_text mark.Colon ∷ piece_texts k1) g.have in
    let j = cut i.others (mark_text mark.Colon) (piece_texts k1) i.have in
    let v = names_again true l [] j.others b j.have in
    let line : Use = record { name = lowercase d.first.text; only = Some v.item; at = d.first.at } in
    let whole : IsForm (c.first ∷ d.first ∷ g.first ∷ i.first ∷ j.first ∷ j.others) [] (statement.Using line) =
    f.use_only c.first d.first g.first i.first j.first (keyword c.first (codes "use") class.Use Keywords.k_use c.text) (keyword d.first u.name class.Name a d.text) (comma_class_is g.first g.text)
    (keyword i.first (codes "only") class.Only Keywords.k_only i.text) (colon_class_is j.first j.text) (subst (λ y. IsNamesOption j.others y v.item) (all_read v.rest v.have) v.is) in
    said (Statement-F.Using u) (Statement-F.Using line) ws (statement.Using line) (Outs.out_using line) (same_use (free_lower d.first u.name a d.text) (ap (λ x. Some x) v.same ∙ ap (option_map names) (sym e)))
    (subst (λ y. IsStatement y (statement.Using line)) (sym (c.is ∙ ap (λ y. c.first ∷ y) (d.is ∙ ap (λ y. d.first ∷ y) (g.is ∙ ap (λ y. g.first ∷ y) (i.is ∙ ap (λ y. i.first ∷ y) j.is))))) whole)

-- IF, DO, SELECT AND CASE

-- `if ( e )`, and what stands behind it
record Tested (e : Expr) (ws : List Token) (ks : List Piece) : Type 0 where
  word_of : Token
  opening : Token
  inside : List Token
  closing : Token
  rest : List Token
  tree : Expr
  is : ws ≡ word_of ∷ opening ∷ inside
  is_if : token_class word_of ≡ class.If
  opens : token_class opening ≡ class.Open
  derive : IsExpr inside (closing ∷ rest) tree
  closes : token_class closing ≡ class.Close
  same : unplaced tree ≡ unplaced e
  have : texts rest ≡ piece_texts ks

test_again : (e : Expr) (s : Bool) (ks : List Piece) (ws : List Token) → Fit IsExpr e → texts ws ≡ piece_texts (if_pieces e s ks) → Tested e ws ks
test_again e s ks ws a h =
    let k1 : List Piece = sign false mark.Close ks in
    let c = cut ws (codes "if") (piece_texts (sign true mark.Open (expr_pieces e false k1))) h in
    let d = cut c.others (mark_text mark.Open) (piece_texts (expr_pieces e false k1)) c.have in
    let v = a.again false k1 d.others d.have in
    let g = cut v.rest (mark_text mark.Close) (piece_texts ks) v.have in
    record {
      word_of = c.first;
      opening = d.first;
      inside = d.others;
      closing = g.first;
      rest = g.others;
      tree = v.tree;
      is = c.is ∙ ap (λ y. c.first ∷ y) d.is;
      is_if = keyword c.first (codes "if") class.If Keywords.k_if c.text;
      opens = open_class_is d.first d.text;
      derive = subst (λ y. IsExpr d.others y v.tree) g.is v.is;
      closes = close_class_is g.first g.text;
      same = v.same;
      have = g.have;
    }

if_then_again : (e : Expr) (ws : List Token) → Fit IsExpr e → texts ws ≡ piece_texts (then_pieces e false []) → Said (Statement-F.IfThen e) ws
if_then_again e ws a h =
    let t = test_again e false (word true (codes "then") []) ws a h in
    let n = one_word t.rest (codes "then") t.have in
    said (Statement-F.IfThen e) (Statement-F.IfThen t.tree) ws (statement.IfThen t.tree) (Outs.out_if_then t.tree) (same_if_then t.same)
    (subst (λ y. IsStatement y (statement.IfThen t.tree)) (sym t.is)
    (f.if_then t.word_of t.opening t.closing n.first t.is_if t.opens (subst (λ y. IsExpr t.inside (t.closing ∷ y) t.tree) n.is t.derive) t.closes (keyword n.first (codes "then") class.Then Keywords.k_then n.text_is)))

else_if_again : (e : Expr) (ws : List Token) → Fit IsExpr e → texts ws ≡ codes "else" ∷ piece_texts (then_pieces e true []) → Said (Statement-F.ElseIf e) ws
else_if_again e ws a h =
    let c = cut ws (codes "else") (piece_texts (then_pieces e true [])) h in
    let t = test_again e true (word true (codes "then") []) c.others a c.have in
    let n = one_word t.rest (codes "then") t.have in
    let words : IsWords class.Else class.If class.Elseif (c.first ∷ t.word_of ∷ t.opening ∷ t.inside) (t.opening ∷ t.inside) =
    f.apart c.first t.word_of (keyword c.first (codes "else") class.Else Keywords.k_else c.text) t.is_if in
    said (Statement-F.ElseIf e) (Statement-F.ElseIf t.tree) ws (statement.ElseIf t.tree) (Outs.out_else_if t.tree) (same_else_if t.same)
    (subst (λ y. IsStatement y (statement.ElseIf t.tree)) (sym (c.is ∙ ap (λ y. c.first ∷ y) t.is))
    (f.else_if t.opening t.closing n.first words t.opens (subst (λ y. IsExpr t.inside (t.closing ∷ y) t.tree) n.is t.derive) t.closes (keyword n.first (codes "then") class.Then Keywords.k_then n.text_is)))

if_action_again : (e : Expr) (p : Place) (x : Statement) (ws : List Token) → Fit IsExpr e → ActionFits (out-Statement x) → texts ws ≡ piece_texts (if_pieces e false (action_pieces (out-Statement x) true [])) →
    Said (Statement-F.IfAction e p x) ws
if_action_again e p x ws a b h =
    let t = test_again e false (action_pieces (out-Statement x) true []) ws a h in
    let n = action_again (out-Statement x) true t.rest b t.have in
    said (Statement-F.IfAction e p x) (Statement-F.IfAction t.tree (front_place t.rest) n.statement) ws (statement.IfAction t.tree (front_place t.rest) n.statement) (Outs.out_if_action t.tree (front_place t.rest) n.statement)
    (same_if_action t.same n.same)
    (subst (λ y. IsStatement y (statement.IfAction t.tree (front_place t.rest) n.statement)) (sym t.is) (f.if_action t.word_of t.opening t.closing t.is_if t.opens t.derive t.closes n.form))

same_head : (m n : List ℕ) (a b c d : Expr) (o p : Option Expr) → m ≡ n → a ≡ c → b ≡ d → o ≡ p →
    ◌≡◌ {A = Head} (record { var = m; at = nowhere; from = a; to = b; step = o }) (record { var = n; at = nowhere; from = c; to = d; step = p })
same_head m n a b c d o p e g h i =
    ap (λ x. record { var = x; at = nowhere; from = a; to = b; step = o }) e
    ∙ ap (λ x. record { var = n; at = nowhere; from = x; to = b; step = o }) g
    ∙ ap (λ x. record { var = n; at = nowhere; from = c; to = x; step = o }) h
    ∙ ap (λ x. record { var = n; at = nowhere; from = c; to = d; step = x }) i

do_again : (head : Head) (ws : List Token) → Free head.var → Fit IsExpr head.from → Fit IsExpr head.to → StepFit head.step → texts ws ≡ piece_texts (do_pieces head false []) → Said (Statement-F.Do head) ws
do_again head ws a b c d h =
    let k1 : List Piece = step_pieces head.step [] in
    let k2 : List Piece = expr_pieces head.to true k1 in
    let k3 : List Piece = expr_pieces head.from true (sign false mark.Comma k2) in
    let w = cut ws (codes "do") (head.var ∷ mark_text mark.Assign ∷ piece_texts k3) h in
    let n = cut w.others head.var (mark_text mark.Assign ∷ piece_texts k3) w.have in
    let q = cut n.others (mark_text mark.Assign) (piece_texts k3) n.have in
    let u = b.again true (sign false mark.Comma k2) q.others q.have in
    let o = cut u.rest (mark_text mark.Comma) (piece_texts k2) u.have in
    let v = c.again true k1 o.others o.have in
    let t = d.again [] v.rest v.have in
    let read : Head = record { var = lowercase n.first.text; at = n.first.at; from = u.tree; to = v.tree; step = t.tree } in
    let whole : IsForm (w.first ∷ n.first ∷ q.first ∷ q.others) t.rest (statement.Do read) =
    f.a_do w.first n.first q.first o.first (keyword w.first (codes "do") class.Do Keywords.k_do w.text) (keyword n.first head.var class.Name a n.text) (equals_class_is q.first q.text)
    (subst (λ y. IsExpr q.others y u.tree) o.is u.is) (comma_class_is o.first o.text) v.is t.is in
    said (Statement-F.Do head) (Statement-F.Do read) ws (statement.Do read) (Outs.out_do read)
    (same_do (same_head (lowercase n.first.text) head.var (unplaced u.tree) (unplaced v.tree) (unplaced head.from) (unplaced head.to) (option_map unplaced t.tree) (option_map unplaced head.step) (free_lower n.first head.var a n.text) u.same v.same t.same))
    (subst (λ y. IsStatement y (statement.Do read)) (sym (w.is ∙ ap (λ y. w.first ∷ y) (n.is ∙ ap (λ y. n.first ∷ y) q.is)))
    (subst (λ y. IsForm (w.first ∷ n.first ∷ q.first ∷ q.others) y (statement.Do read)) (all_read t.rest t.have) whole))

select_again : (e : Expr) (ws : List Token) → Fit IsExpr e → texts ws ≡ piece_texts (select_pieces e false []) → Said (Statement-F.Select e) ws
select_again e ws a h =
    let k1 : List Piece = expr_pieces e false (sign false mark.Close []) in
    let c = cut ws (codes "select") (codes "case" ∷ mark_text mark.Open ∷ piece_texts k1) h in
    let d = cut c.others (codes "case") (mark_text mark.Open ∷ piece_texts k1) c.have in
    let g = cut d.others (mark_text mark.Open) (piece_texts k1) d.have in
    let v = a.again false (sign false mark.Close []) g.others g.have in
    let q = one_word v.rest (mark_text mark.Close) v.have in
    let words : IsWords class.Select class.Case class.Selectcase (c.first ∷ d.first ∷ g.first ∷ g.others) (g.first ∷ g.others) =
    f.apart c.first d.first (keyword c.first (codes "select") class.Select Keywords.k_select c.text) (keyword d.first (codes "case") class.Case Keywords.k_case d.text) in
    said (Statement-F.Select e) (Statement-F.Select v.tree) ws (statement.Select v.tree) (Outs.out_select v.tree) (same_select v.same)
    (subst (λ y. IsStatement y (statement.Select v.tree)) (sym (c.is ∙ ap (λ y. c.first ∷ y) (d.is ∙ ap (λ y. d.first ∷ y) g.is)))
    (f.select g.first q.first words (open_class_is g.first g.text) (subst (λ y. IsExpr g.others y v.tree) q.is v.is) (close_class_is q.first q.text_is)))

case_again : (r : Range) (l : List Range) (ws : List Token) → RangesFit (r ∷ l) → texts ws ≡ piece_texts (case_pieces (r ∷ l) false []) → Said (Statement-F.Case (r ∷ l)) ws
case_again r l ws a h =
    let k1 : List Piece = items true (map range_pieces (r ∷ l)) false (sign false mark.Close []) in
    let c = cut ws (codes "case") (mark_text mark.Open ∷ piece_texts k1) h in
    let d = cut c.others (mark_text mark.Open) (piece_texts k1) c.have in
    let v = ranges_again false r l (sign false mark.Close []) d.others a d.have in
    let q = one_word v.rest (mark_text mark.Close) v.have in
    said (Statement-F.Case (r ∷ l)) (Statement-F.Case v.item) ws (statement.Case v.item) (Outs.out_case v.item) (same_case v.same)
    (subst (λ y. IsStatement y (statement.Case v.item)) (sym (c.is ∙ ap (λ y. c.first ∷ y) d.is))
    (f.case c.first d.first q.first (keyword c.first (codes "case") class.Case Keywords.k_case c.text) (open_class_is d.first d.text) (subst (λ y. f.IsRanges d.others y v.item) q.is v.is) (close_class_is q.first q.text_is)))

case_of_again : (l : List Range) (ws : List Token) → CaseFits l → texts ws ≡ piece_texts (case_pieces l false []) → Said (Statement-F.Case l) ws
case_of_again [] ws a h = absurd a
case_of_again (r ∷ l) ws a h = case_again r l ws a h

declare_again : (d : Decl) (ws : List Token) → DeclFit d → texts ws ≡ piece_texts (statement_pieces (Statement-F.Declare (d ∷ [])) false []) → Said (Statement-F.Declare (d ∷ [])) ws
declare_again d ws a h =
    let u = decl_again d ws a h in
    said (Statement-F.Declare (d ∷ [])) (Statement-F.Declare (u.decl ∷ [])) ws (statement.Declare (u.decl ∷ [])) (Outs.out_declare (u.decl ∷ [])) (same_declare u.same) (f.declare u.is)

pub statement_again : (x : Statement-F Statement) (ws : List Token) → Fits x → IsOneRow x → texts ws ≡ piece_texts (statement_pieces x false []) → Said x ws
statement_again (Statement-F.Module n) ws a o h =
    let t = two_words ws (codes "module") n.name h in
    said (Statement-F.Module n) (Statement-F.Module (named_of t.second)) ws (statement.Module (named_of t.second)) (Outs.out_module (named_of t.second)) (same_module (free_lower t.second n.name a t.second_is))
    (subst (λ y. IsStatement y (statement.Module (named_of t.second))) (sym t.is) (f.a_module t.first t.second (keyword t.first (codes "module") class.Module Keywords.k_module t.first_is) (keyword t.second n.name class.Name a t.second_is)))
statement_again Statement-F.Contains ws a o h =
    let t = one_word ws (codes "contains") h in
    said Statement-F.Contains Statement-F.Contains ws statement.Contains Outs.out_contains same_contains (subst (λ y. IsStatement y statement.Contains) (sym t.is) (f.contains t.first (keyword t.first (codes "contains") class.Contains Keywords.k_contains t.text_is)))
statement_again (Statement-F.End w n) ws a o h = end_again w n false ws a h
statement_again (Statement-F.Subroutine n l) ws a o h = subroutine_again n l ws a.0 a.1 h
statement_again (Statement-F.Function p n l r) ws a o h = function_again p n l r ws a.0 a.1 a.2 h
statement_again (Statement-F.Using u) ws a o h = use_again u u.only ws refl a.0 a.1 h
statement_again Statement-F.ImplicitNone ws a o h =
    let t = two_words ws (codes "implicit") (codes "none") h in
    said Statement-F.ImplicitNone Statement-F.ImplicitNone ws statement.ImplicitNone Outs.out_implicit same_implicit
    (subst (λ y. IsStatement y statement.ImplicitNone) (sym t.is) (f.implicit_none t.first t.second (keyword t.first (codes "implicit") class.Implicit Keywords.k_implicit t.first_is) (keyword t.second (codes "none") class.None Keywords.k_none t.second_is)))
statement_again (Statement-F.Declare []) ws a o h = absurd o
statement_again (Statement-F.Declare (d ∷ [])) ws a o h = declare_again d ws a.0 h
statement_again (Statement-F.Declare (d ∷ e ∷ l)) ws a o h = absurd o
statement_again (Statement-F.Assign l r) ws a o h = by_action (Statement-F.Assign l r) ws (assign_again l r false ws a.0 a.1 h)
statement_again (Statement-F.Call n l) ws a o h = by_action (Statement-F.Call n l) ws (call_again n l false ws a.0 a.1 h)
statement_again (Statement-F.IfAction e p s) ws a o h = if_action_again e p s ws a.0 a.1 h
statement_again (Statement-F.IfThen e) ws a o h = if_then_again e ws a h
statement_again (Statement-F.ElseIf e) ws a o h = else_if_again e ws a h
statement_again Statement-F.Else ws a o h =
    let t = one_word ws (codes "else") h in
    said Statement-F.Else Statement-F.Else ws statement.Else Outs.out_else same_else (subst (λ y. IsStatement y statement.Else) (sym t.is) (f.else_bare t.first (keyword t.first (codes "else") class.Else Keywords.k_else t.text_is)))
statement_again Statement-F.EndIf ws a o h =
    said Statement-F.EndIf Statement-F.EndIf ws statement.EndIf Outs.out_end_if same_end_if (f.end_if (two_apart ws (codes "end") (codes "if") class.End class.If class.Endif Keywords.k_end Keywords.k_if h))
statement_again (Statement-F.Do head) ws a o h = do_again head ws a.0 a.1 a.2 a.3 h
statement_again Statement-F.EndDo ws a o h =
    said Statement-F.EndDo Statement-F.EndDo ws statement.EndDo Outs.out_end_do same_end_do (f.end_do (two_apart ws (codes "end") (codes "do") class.End class.Do class.Enddo Keywords.k_end Keywords.k_do h))
statement_again Statement-F.Exit ws a o h = by_action Statement-F.Exit ws (action_again Statement-F.Exit false ws tt h)
statement_again Statement-F.Cycle ws a o h = by_action Statement-F.Cycle ws (action_again Statement-F.Cycle false ws tt h)
statement_again Statement-F.Return ws a o h = by_action Statement-F.Return ws (action_again Statement-F.Return false ws tt h)
statement_again (Statement-F.Select e) ws a o h = select_again e ws a h
statement_again Statement-F.EndSelect ws a o h =
    said Statement-F.EndSelect Statement-F.EndSelect ws statement.EndSelect Outs.out_end_select same_end_select
    (f.end_select (two_apart ws (codes "end") (codes "select") class.End class.Select class.Endselect Keywords.k_end Keywords.k_select h))
statement_again (Statement-F.Case l) ws a o h = case_of_again l ws a h
statement_again Statement-F.CaseDefault ws a o h =
    let t = two_words ws (codes "case") (codes "default") h in
    said Statement-F.CaseDefault Statement-F.CaseDefault ws statement.CaseDefault Outs.out_default same_default
    (subst (λ y. IsStatement y statement.CaseDefault) (sym t.is) (f.case_default t.first t.second (keyword t.first (codes "case") class.Case Keywords.k_case t.first_is) (keyword t.second (codes "default") class.Default Keywords.k_default t.second_is)))
