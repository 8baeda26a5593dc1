-- The outline that the rows build is that of the statement, and with the first name it gives the statement's sort.
use Rattle.std.proofs.Common.{◌≡◌, ℕ, true, false, List, ◌∷◌, ◌↔◌, ◌+◌, suc, add-one, drop, Option, None, Some, refl, sym, ◌∙◌, ap, subst}
use Rattle.std.specs.Prelude.{IsTrue, IsSome, IfSome}
use Rattle.std.proofs.lemmas.Bool.{cond-true, cond-false, false≢true}
use Rattle.std.proofs.lemmas.Option.{get_or_from_slice_get, slice_get_within}
use Rattle.std.proofs.Math.Seq.{drop-cons}
use Rattle.std.specs.List.{slice_get}
use Rattle.fort_tree.specs.Name.{is_name, lowercase}
use Rattle.fort_grammar.specs.declared.class.Class.{Class}
use Rattle.fort_grammar.specs.declared.class.Class.TheVariants as class
use Rattle.fort_grammar.specs.Choose.{same}
use Rattle.fort_grammar.specs.Token.{token_class}
use Rattle.fort_grammar.proofs.Theory.{same-eq}
use Rattle.fort_expr.specs.Expression.{a_name}
use Rattle.fort_expr.proofs.Names.{referred-name}
use Rattle.fort_tree.specs.declared.statement.Statement.{Statement, out-Statement}
use Rattle.fort_tree.specs.declared.statement.Statement.TheOpen.{Statement-F}
use Rattle.fort_tree.specs.declared.statement.Statement.TheVariants as statement
use Rattle.fort_tree.specs.declared.statement.Statement.TheViews.{roll-Statement, out-roll-Statement}
use Rattle.fort_tree.specs.declared.statement.Token.{Token}
use Rattle.fort_tree.specs.declared.place.Place.{Place}
use Rattle.fort_tree.specs.declared.expr.Expr.{Expr}
use Rattle.fort_tree.specs.declared.expr.Sub.{Sub}
use Rattle.fort_tree.specs.declared.statement.EndWord.{EndWord}
use Rattle.fort_tree.specs.declared.stmt.Head.{Head}
use Rattle.fort_tree.specs.declared.stmt.Named.{Named}
use Rattle.fort_tree.specs.declared.stmt.Range.{Range}
use Rattle.fort_tree.specs.declared.unit.Decl.{Decl}
use Rattle.fort_tree.specs.declared.unit.Use.{Use}
use Rattle.fort_arith.specs.declared.kind.Kind.{Kind}
use Rattle.fort_grammar.specs.declared.table.Action.{Action}
use Rattle.fort_grammar.specs.declared.table.Action.TheVariants as act
use Rattle.fort_grammar.specs.declared.table.Symbol.{Symbol}
use Rattle.fort_grammar.specs.Derives.{Derives, done, take, build, row}
use Rattle.fort_tree.specs.declared.statement.EndWord.TheVariants as word
use Rattle.fort_stmt.specs.declared.outline.Outline.{Outline}
use Rattle.fort_stmt.specs.declared.value.Draft.{Draft}
use Rattle.fort_stmt.specs.Form.{IsStatement, IsForm, IsAction, IsAssignment, IsWords, IsEndName, IsType, IsKind, IsFunction, Header}
use Rattle.fort_stmt.specs.Form.{apart, together, no_name, some_name, a_function, no_kind, a_kind, keyword_kind, integer, logical, assign, assignment, call, exit, cycle, return}
use Rattle.fort_stmt.specs.Form.{a_module, contains, end_bare, end_module, end_subroutine, end_function, subroutine, function, prefixed, use_all, use_only, implicit_none, declare, action, if_then, if_action, else_if, else_bare, end_if, a_do, end_do, select, end_select, case, case_default}
use Rattle.fort_stmt.specs.Machine.{Spelled, start}
use Rattle.fort_stmt.specs.Outline.{outline_of, outline_of_level, acting, sketch_on, pass, first_name, sort_with}
use Rattle.fort_stmt.specs.declared.outline.Outline.TheVariants as outline
use Rattle.fort_stmt.specs.Sort.{action_of_level, sort_of, sort_of_level}
use Rattle.fort_stmt.specs.Values.{act_on, take_in, with_prefix, blank}
use Rattle.fort_stmt.proofs.Complete.{derives-form}
use Rattle.fort_stmt.proofs.Sound.{form-derived}

-- The outermost level of each statement.

opened : (s : Statement) (l : Statement-F Statement) → roll-Statement l ≡ s → out-Statement s ≡ l
opened s l e = ap out-Statement (sym e) ∙ out-roll-Statement l

out-Module : (name : Named) → out-Statement (statement.Module name) ≡ (Statement-F.Module name)
out-Module name = opened (statement.Module name) (Statement-F.Module name) (statement.rolls-Module name)

out-Contains : out-Statement statement.Contains ≡ Statement-F.Contains
out-Contains = opened statement.Contains Statement-F.Contains statement.rolls-Contains

out-End : (w : Option EndWord) (name : Option (List ℕ)) → out-Statement (statement.End w name) ≡ (Statement-F.End w name)
out-End w name = opened (statement.End w name) (Statement-F.End w name) (statement.rolls-End w name)

out-Subroutine : (name : Named) (dummies : List Named) → out-Statement (statement.Subroutine name dummies) ≡ (Statement-F.Subroutine name dummies)
out-Subroutine name dummies = opened (statement.Subroutine name dummies) (Statement-F.Subroutine name dummies) (statement.rolls-Subroutine name dummies)

out-Function : (p : Option (Kind × Place)) (name : Named) (dummies : List Named) (r : Option Named) → out-Statement (statement.Function p name dummies r) ≡ (Statement-F.Function p name dummies r)
out-Function p name dummies r = opened (statement.Function p name dummies r) (Statement-F.Function p name dummies r) (statement.rolls-Function p name dummies r)

out-Using : (line : Use) → out-Statement (statement.Using line) ≡ (Statement-F.Using line)
out-Using line = opened (statement.Using line) (Statement-F.Using line) (statement.rolls-Using line)

out-ImplicitNone : out-Statement statement.ImplicitNone ≡ Statement-F.ImplicitNone
out-ImplicitNone = opened statement.ImplicitNone Statement-F.ImplicitNone statement.rolls-ImplicitNone

out-Declare : (line : List Decl) → out-Statement (statement.Declare line) ≡ (Statement-F.Declare line)
out-Declare line = opened (statement.Declare line) (Statement-F.Declare line) (statement.rolls-Declare line)

out-Assign : (left right : Expr) → out-Statement (statement.Assign left right) ≡ (Statement-F.Assign left right)
out-Assign left right = opened (statement.Assign left right) (Statement-F.Assign left right) (statement.rolls-Assign left right)

out-Call : (name : Named) (args : List Sub) → out-Statement (statement.Call name args) ≡ (Statement-F.Call name args)
out-Call name args = opened (statement.Call name args) (Statement-F.Call name args) (statement.rolls-Call name args)

out-IfAction : (e : Expr) (at : Place) (s : Statement) → out-Statement (statement.IfAction e at s) ≡ (Statement-F.IfAction e at s)
out-IfAction e at s = opened (statement.IfAction e at s) (Statement-F.IfAction e at s) (statement.rolls-IfAction e at s)

out-IfThen : (e : Expr) → out-Statement (statement.IfThen e) ≡ (Statement-F.IfThen e)
out-IfThen e = opened (statement.IfThen e) (Statement-F.IfThen e) (statement.rolls-IfThen e)

out-ElseIf : (e : Expr) → out-Statement (statement.ElseIf e) ≡ (Statement-F.ElseIf e)
out-ElseIf e = opened (statement.ElseIf e) (Statement-F.ElseIf e) (statement.rolls-ElseIf e)

out-Else : out-Statement statement.Else ≡ Statement-F.Else
out-Else = opened statement.Else Statement-F.Else statement.rolls-Else

out-EndIf : out-Statement statement.EndIf ≡ Statement-F.EndIf
out-EndIf = opened statement.EndIf Statement-F.EndIf statement.rolls-EndIf

out-Do : (h : Head) → out-Statement (statement.Do h) ≡ (Statement-F.Do h)
out-Do h = opened (statement.Do h) (Statement-F.Do h) (statement.rolls-Do h)

out-EndDo : out-Statement statement.EndDo ≡ Statement-F.EndDo
out-EndDo = opened statement.EndDo Statement-F.EndDo statement.rolls-EndDo

out-Exit : out-Statement statement.Exit ≡ Statement-F.Exit
out-Exit = opened statement.Exit Statement-F.Exit statement.rolls-Exit

out-Cycle : out-Statement statement.Cycle ≡ Statement-F.Cycle
out-Cycle = opened statement.Cycle Statement-F.Cycle statement.rolls-Cycle

out-Return : out-Statement statement.Return ≡ Statement-F.Return
out-Return = opened statement.Return Statement-F.Return statement.rolls-Return

out-Select : (e : Expr) → out-Statement (statement.Select e) ≡ (Statement-F.Select e)
out-Select e = opened (statement.Select e) (Statement-F.Select e) (statement.rolls-Select e)

out-EndSelect : out-Statement statement.EndSelect ≡ Statement-F.EndSelect
out-EndSelect = opened statement.EndSelect Statement-F.EndSelect statement.rolls-EndSelect

out-Case : (l : List Range) → out-Statement (statement.Case l) ≡ (Statement-F.Case l)
out-Case l = opened (statement.Case l) (Statement-F.Case l) (statement.rolls-Case l)

out-CaseDefault : out-Statement statement.CaseDefault ≡ Statement-F.CaseDefault
out-CaseDefault = opened statement.CaseDefault Statement-F.CaseDefault statement.rolls-CaseDefault

-- What an action of the grammar makes.

acting-level : (s : Statement-F Statement) → action_of_level s ≡ acting (outline_of_level s)
acting-level (Statement-F.Assign l r) = refl
acting-level (Statement-F.Call n l) = refl
acting-level Statement-F.Exit = refl
acting-level Statement-F.Cycle = refl
acting-level _ = refl

prefix-outline : (k : Kind) (at : Place) (s : Statement) → outline_of (with_prefix k at s) ≡ outline_of s
prefix-outline k at (statement.Function p n d r) = ap outline_of_level (out-Function (Some (k, at)) n d r) ∙ sym (ap outline_of_level (out-Function p n d r))
prefix-outline k at _ = refl

pub act-outline : (x : Action) (p : Draft) → outline_of (act_on x p).statement ≡ sketch_on x (outline_of p.statement)
unfolding act_on sketch_on
act-outline act.Module p = ap outline_of_level (out-Module _)
act-outline act.Contains p = ap outline_of_level (out-Contains)
act-outline act.End p = ap outline_of_level (out-End _ _)
act-outline act.EndModule p = ap outline_of_level (out-End _ _)
act-outline act.EndSubroutine p = ap outline_of_level (out-End _ _)
act-outline act.EndFunction p = ap outline_of_level (out-End _ _)
act-outline act.Subroutine p = ap outline_of_level (out-Subroutine _ _)
act-outline act.Function p = ap outline_of_level (out-Function _ _ _ _)
act-outline act.Only p = ap outline_of_level (out-Using _)
act-outline act.All p = ap outline_of_level (out-Using _)
act-outline act.ImplicitNone p = ap outline_of_level (out-ImplicitNone)
act-outline act.Declare p = ap outline_of_level (out-Declare _)
act-outline act.DeclareParameter p = ap outline_of_level (out-Declare _)
act-outline act.DeclareIntent p = ap outline_of_level (out-Declare _)
act-outline act.DeclareShape p = ap outline_of_level (out-Declare _)
act-outline act.DeclareIntentShape p = ap outline_of_level (out-Declare _)
act-outline act.DeclareShapeIntent p = ap outline_of_level (out-Declare _)
act-outline act.CaseRanges p = ap outline_of_level (out-Case _)
act-outline act.CaseDefault p = ap outline_of_level (out-CaseDefault)
act-outline act.Assign p = ap outline_of_level (out-Assign _ _)
act-outline act.Call p = ap outline_of_level (out-Call _ _)
act-outline act.Exit p = ap outline_of_level (out-Exit)
act-outline act.Cycle p = ap outline_of_level (out-Cycle)
act-outline act.Return p = ap outline_of_level (out-Return)
act-outline act.IfThen p = ap outline_of_level (out-IfThen _)
act-outline act.ElseIf p = ap outline_of_level (out-ElseIf _)
act-outline act.Else p = ap outline_of_level (out-Else)
act-outline act.EndIf p = ap outline_of_level (out-EndIf)
act-outline act.Do p = ap outline_of_level (out-Do _)
act-outline act.EndDo p = ap outline_of_level (out-EndDo)
act-outline act.Select p = ap outline_of_level (out-Select _)
act-outline act.EndSelect p = ap outline_of_level (out-EndSelect)
act-outline act.IfAction p = ap outline_of_level (out-IfAction _ _ _) ∙ ap outline.IfAct (acting-level (out-Statement p.statement))
act-outline act.Prefixed p = prefix-outline p.kind p.type_at p.statement
act-outline _ p = refl

-- Derivations of drafts and of outlines.

abbrev pub Sketched : List Symbol → List Token → Outline → Outline → Type 0
Sketched = Derives Outline pass sketch_on

sketch-of : {s : List Symbol} {w : List Token} {p q : Draft} → Spelled s w p q → Sketched s w (outline_of p.statement) (outline_of q.statement)
sketch-of done = done
sketch-of (take t e d) = take t e (sketch-of d)
sketch-of (build {x = x} {rest = ss} {w = w} {v = p} {u = q} d) = build (subst (λ o. Sketched ss w o (outline_of q.statement)) (act-outline x p) (sketch-of d))
sketch-of (row r i d) = row r i (sketch-of d)

-- an outline's derivation at any draft that has the outline
draft-of : {s : List Symbol} {w : List Token} {o u : Outline} → Sketched s w o u → (p : Draft) → outline_of p.statement ≡ o → (q : Draft) × Spelled s w p q × (outline_of q.statement ≡ u)
draft-of done p e = (p, done, e)
draft-of (take t h d) p e = let r = draft-of d (take_in t p) e in (r.0, take t h r.1, r.2)
draft-of (build {x = x} d) p e = let r = draft-of d (act_on x p) (act-outline x p ∙ ap (sketch_on x) e) in (r.0, build r.1, r.2)
draft-of (row r i d) p e = let q = draft-of d p e in (q.0, row r i q.1, q.2)

blank-outline : outline_of blank.statement ≡ outline.Contains
blank-outline = ap outline_of_level out-Contains

pub derives-outline : {w : List Token} {s : Statement} → IsStatement w s → Sketched start w outline.Contains (outline_of s)
derives-outline {w = w} d =
    let u = derives-form d blank in
    let k : Sketched start w outline.Contains (outline_of u.0.statement) = subst (λ o. Sketched start w o (outline_of u.0.statement)) blank-outline (sketch-of u.1) in
    subst (λ x. Sketched start w outline.Contains x) (ap outline_of u.2) k

pub outline-derived : (w : List Token) (u : Outline) → Sketched start w outline.Contains u → (s : Statement) × IsStatement w s × (outline_of s ≡ u)
outline-derived w u d =
    let q = draft-of d blank blank-outline in
    let s = form-derived w blank q.0 q.1 in
    (s.0, s.1, ap outline_of (sym s.2) ∙ q.2)

-- The first name.

skip : (t : Token) (c : Class) (w : List Token) → token_class t ≡ c → same c class.Name ≡ false → first_name (t ∷ w) ≡ first_name w
skip t c w e f = cond-false (same (token_class t) class.Name) (Some (lowercase t.text)) (first_name w) (ap (λ q. same q class.Name) e ∙ f)

found : (t : Token) (w : List Token) → token_class t ≡ class.Name → first_name (t ∷ w) ≡ Some (lowercase t.text)
found t w e = cond-true (same (token_class t) class.Name) (Some (lowercase t.text)) (first_name w) (ap (λ q. same q class.Name) e)

skip-words : {a b c : Class} {w z : List Token} → IsWords a b c w z → same a class.Name ≡ false → same b class.Name ≡ false → same c class.Name ≡ false → first_name w ≡ first_name z
skip-words {a = a} {b = b} (apart {z = z} t u e f) h j k = skip t a (u ∷ z) e h ∙ skip u b z f j
skip-words {c = c} (together {z = z} t e) h j k = skip t c z e k

end-name : {w z : List Token} {n : Option (List ℕ)} → IsEndName w z n → first_name z ≡ None → first_name w ≡ n
end-name no_name h = h
end-name (some_name {z = z} t e) h = found t z e

skip-kind : {w z : List Token} {k : Kind} → IsKind w z k → first_name w ≡ first_name z
skip-kind no_kind = refl
skip-kind (a_kind {z = z} p t q e f g) = skip p class.Open (t ∷ q ∷ z) e refl ∙ (skip t class.KindNumber (q ∷ z) f refl ∙ skip q class.Close z g refl)
skip-kind (keyword_kind {z = z} p k e t q a b c d f) =
    skip p class.Open (k ∷ e ∷ t ∷ q ∷ z) a refl ∙ (skip k class.Kind (e ∷ t ∷ q ∷ z) b refl ∙ (skip e class.Equals (t ∷ q ∷ z) c refl ∙ (skip t class.KindNumber (q ∷ z) d refl ∙ skip q class.Close z f refl)))

skip-type : {w z : List Token} {k : Kind} → IsType w z k → first_name w ≡ first_name z
skip-type (integer {w = w} t e d) = skip t class.Integer w e refl ∙ skip-kind d
skip-type (logical {z = z} t e) = skip t class.Logical z e refl

function-name : {w z : List Token} {h : Header} → IsFunction w z h → first_name w ≡ Some h.name.name
function-name (a_function {w = w} t p q e f d g r) = found t (p ∷ w) e

-- the sort of the statement, whatever stands behind, if that has no name
abbrev Sorted : List Token → Statement → Type 0
Sorted w s = sort_with (outline_of s) (first_name w) ≡ Some (sort_of s)

by-level : (w : List Token) (s : Statement) (l : Statement-F Statement) → out-Statement s ≡ l → sort_with (outline_of_level l) (first_name w) ≡ Some (sort_of_level l) → Sorted w s
by-level w s l e h = subst (λ q. sort_with (outline_of_level q) (first_name w) ≡ Some (sort_of_level q)) (sym e) h

assign-sorted : {w z : List Token} {s : Statement} (x : List Token) → IsAssignment w z s → Sorted x s
assign-sorted x (assign q d e f) = by-level x _ _ (out-Assign _ _) refl

action-sorted : {w z : List Token} {s : Statement} (x : List Token) → IsAction w z s → Sorted x s
action-sorted x (assignment d) = assign-sorted x d
action-sorted x (call c n e f d) = by-level x _ _ (out-Call _ _) refl
action-sorted x (exit t e) = by-level x _ _ out-Exit refl
action-sorted x (cycle t e) = by-level x _ _ out-Cycle refl
action-sorted x (return t e) = by-level x _ _ out-Return refl

form-sorted : {w z : List Token} {s : Statement} → IsForm w z s → first_name z ≡ None → Sorted w s
form-sorted {w = w} (a_module {z = z} m n e f) h = by-level w _ _ (out-Module _) (ap (sort_with outline.Module) (skip m class.Module (n ∷ z) e refl ∙ found n z f))
form-sorted {w = w} (contains t e) h = by-level w _ _ out-Contains refl
form-sorted {w = w} (end_bare {z = z} t e) h = by-level w _ _ (out-End _ _) (ap (sort_with (outline.End None)) (skip t class.End z e refl ∙ h))
form-sorted {w = w} (end_module d n) h = by-level w _ _ (out-End _ _) (ap (sort_with (outline.End (Some word.Module))) (skip-words d refl refl refl ∙ end-name n h))
form-sorted {w = w} (end_subroutine d n) h = by-level w _ _ (out-End _ _) (ap (sort_with (outline.End (Some word.Subroutine))) (skip-words d refl refl refl ∙ end-name n h))
form-sorted {w = w} (end_function d n) h = by-level w _ _ (out-End _ _) (ap (sort_with (outline.End (Some word.Function))) (skip-words d refl refl refl ∙ end-name n h))
form-sorted {w = w} (subroutine {w = x} s n e f d) h = by-level w _ _ (out-Subroutine _ _) (ap (sort_with outline.Subroutine) (skip s class.Subroutine (n ∷ x) e refl ∙ found n x f))
form-sorted {w = w} (function {w = x} f e d) h = by-level w _ _ (out-Function _ _ _ _) (ap (sort_with outline.Function) (skip f class.Function x e refl ∙ function-name d))
form-sorted {w = w} (prefixed {x = x} f d e g) h = by-level w _ _ (out-Function _ _ _ _) (ap (sort_with outline.Function) (skip-type d ∙ (skip f class.Function x e refl ∙ function-name g)))
form-sorted {w = w} (use_all u n e f) h = by-level w _ _ (out-Using _) refl
form-sorted {w = w} (use_only u n c o k e f g i j d) h = by-level w _ _ (out-Using _) refl
form-sorted {w = w} (implicit_none i n e f) h = by-level w _ _ out-ImplicitNone refl
form-sorted {w = w} (declare d) h = by-level w _ _ (out-Declare _) refl
form-sorted {w = w} (action d) h = action-sorted w d
form-sorted {w = w} (if_then i p q t e f d g j) h = by-level w _ _ (out-IfThen _) refl
form-sorted {w = w} (if_action i p q e f d g a) h = by-level w _ _ (out-IfAction _ _ _) refl
form-sorted {w = w} (else_if p q t d e f g j) h = by-level w _ _ (out-ElseIf _) refl
form-sorted {w = w} (else_bare t e) h = by-level w _ _ out-Else refl
form-sorted {w = w} (end_if d) h = by-level w _ _ out-EndIf refl
form-sorted {w = w} (a_do d n e o a b c f g i j) h = by-level w _ _ (out-Do _) refl
form-sorted {w = w} (end_do d) h = by-level w _ _ out-EndDo refl
form-sorted {w = w} (select p q d e f g) h = by-level w _ _ (out-Select _) refl
form-sorted {w = w} (end_select d) h = by-level w _ _ out-EndSelect refl
form-sorted {w = w} (case c p q e f d g) h = by-level w _ _ (out-Case _) refl
form-sorted {w = w} (case_default c d e f) h = by-level w _ _ out-CaseDefault refl

pub statement-sorted : {w : List Token} {s : Statement} → IsStatement w s → sort_with (outline_of s) (first_name w) ≡ Some (sort_of s)
statement-sorted d = form-sorted d refl

-- The code that reads the first name.

name-read : (text : List ℕ) (r : Option (List ℕ)) → (IsSome r ↔ IsTrue (is_name text)) → IfSome r (λ n. n ≡ lowercase text) → is_name text ≡ true → r ≡ Some (lowercase text)
name-read text None h v e = absurd (false≢true (h.1 e))
name-read text (Some n) h v e = ap Some v

pub read-at : (tokens : List Token) (i : ℕ) (t : Token) (r : Option (List ℕ)) → slice_get tokens i ≡ Some t → first_name tokens ≡ first_name (drop i tokens) → same (token_class t) class.Name ≡ true →
    (IsSome r ↔ IsTrue (is_name t.text)) → IfSome r (λ n. n ≡ lowercase t.text) → r ≡ first_name tokens
read-at tokens i t r g e c h v =
    let k : token_class t ≡ class.Name = same-eq (token_class t) class.Name c in
    let at : drop i tokens ≡ t ∷ drop (i + 1) tokens =
    drop-cons tokens i t (slice_get_within tokens i t g) ∙ (ap (λ q. q ∷ drop (suc i) tokens) (get_or_from_slice_get tokens i t t g) ∙ ap (λ n. t ∷ drop n tokens) (sym (add-one i))) in
    name-read t.text r h v (referred-name t.text (a_name k)) ∙ sym (e ∙ (ap first_name at ∙ found t (drop (i + 1) tokens) k))
