-- What the forms of a header say can be said otherwise: declarations one by one, and a FUNCTION without its type.
use Rattle.std.proofs.Common.{◌≡◌, List, [], ◌∷◌, Option, None, Some, refl, sym, ap, subst}
use Rattle.std.specs.Prelude.{⊤, IsTrue, codes}
use Rattle.std.specs.List.{AllByRecursion}
use Rattle.fort_arith.specs.declared.kind.Kind.{Kind}
use Rattle.fort_tree.specs.declared.place.Place.{Place}
use Rattle.fort_tree.specs.declared.statement.EndWord.TheVariants as word
use Rattle.fort_tree.specs.declared.statement.Statement.{Statement, out-Statement}
use Rattle.fort_tree.specs.declared.statement.Statement.TheOpen.{Statement-F}
use Rattle.fort_tree.specs.declared.statement.Statement.TheVariants as statement
use Rattle.fort_tree.specs.declared.statement.Token.{Token}
use Rattle.fort_tree.specs.declared.stmt.Head.{Head}
use Rattle.fort_tree.specs.declared.stmt.Named.{Named}
use Rattle.fort_tree.specs.declared.unit.Decl.{Decl}
use Rattle.fort_tree.specs.declared.unit.Use.{Use}
use Rattle.fort_tree.specs.Name.{lowercase}
use Rattle.fort_grammar.specs.declared.class.Class.TheVariants as class
use Rattle.fort_grammar.specs.Token.{token_class, text_class}
use Rattle.fort_expr.specs.Words.{front_place}
use Rattle.fort_stmt.specs.Form as f
use Rattle.fort_stmt.specs.Form.{IsForm, IsAction, IsAssignment, IsFunction, IsResult, IsType, Header, named_of, declared}
use Rattle.claw_meaning.specs.Plain.{plain_decl, plain_expr}
use Rattle.claw_meaning.specs.Syntax as plain
use Rattle.sound_programs.specs.Forms.{is_entity}
use Rattle.written_programs.proofs.DeclaredAlone.{IsAlone, declarations_alone, declarations_free, result_alone}
use Rattle.layout_reading.specs.WideUnits.{IsFreeName, IsDerived}
use Rattle.layout_reading.proofs.FreeNames.{HasFreeName, token_free}
use Rattle.layout_reading.proofs.Outs
use Rattle.layout_reading.proofs.ScalarUnits.{GivesNames}
use Rattle.written_programs.proofs.SaidForms.{IsSaid, IsSaidForm}

-- tokens declare it alone
pub record CanDeclare (d : plain.Decl) : Type 0 where
  pub tree : Decl
  pub alone : IsAlone tree
  pub entity : IsTrue (is_entity tree)
  pub same : plain_decl tree ≡ d

pub say_alone : (d : Decl) → IsAlone d → IsSaid (Statement-F.Declare (d ∷ []))
say_alone d a = record { tokens = a.put []; statement = statement.Declare (d ∷ []); form = f.declare (a.is []); same = Outs.out_declare (d ∷ []) }

-- the name of a result, where RESULT is absent that of the function
abbrev pub result_named : Named → Option Named → Named
result_named name None = name
result_named name (Some result) = result

abbrev pub result_decl : Named → Kind → plain.Decl
result_decl n k = record { name = n.name; kind = k; intent = None; shape = []; value = None }

abbrev pub CanDeclareResult : Named → Option (Kind × Place) → Type 0
CanDeclareResult n None = ⊤
CanDeclareResult n (Some p) = CanDeclare (result_decl n p.0)

-- What a header says otherwise
abbrev pub SaidOtherwise : Statement-F Statement → Type 0
SaidOtherwise (Statement-F.Declare l) = AllByRecursion IsAlone l × AllByRecursion HasFreeName l
SaidOtherwise (Statement-F.Subroutine name dummies) = IsFreeName name.name
SaidOtherwise (Statement-F.Assign left right) = IsDerived (plain_expr right)
SaidOtherwise (Statement-F.Function prefix name dummies result) = IsSaid (Statement-F.Function None name dummies result) × CanDeclareResult (result_named name result) prefix
SaidOtherwise _ = ⊤

otherwise_as : (s : Statement) (level : Statement-F Statement) → out-Statement s ≡ level → SaidOtherwise level → SaidOtherwise (out-Statement s)
otherwise_as s level e h = subst SaidOtherwise (sym e) h

assignment_otherwise : {w z : List Token} {s : Statement} → IsAssignment w z s → SaidOtherwise (out-Statement s)
assignment_otherwise (f.assign {x = x} {z = z} {a = a} {b = b} e t h i) =
    otherwise_as (statement.Assign a b) (Statement-F.Assign a b) (Outs.out_assign a b) (record { tokens = x; rest = z; tree = b; derive = i; same = refl })

action_otherwise : {w z : List Token} {s : Statement} → IsAction w z s → SaidOtherwise (out-Statement s)
action_otherwise (f.assignment a) = assignment_otherwise a
action_otherwise (f.call {l = l} c n h k a) = otherwise_as (statement.Call (named_of n) l) (Statement-F.Call (named_of n) l) (Outs.out_call (named_of n) l) tt
action_otherwise (f.exit t h) = otherwise_as statement.Exit Statement-F.Exit Outs.out_exit tt
action_otherwise (f.cycle t h) = otherwise_as statement.Cycle Statement-F.Cycle Outs.out_cycle tt
action_otherwise (f.return t h) = otherwise_as statement.Return Statement-F.Return Outs.out_return tt

-- ---- A FUNCTION

-- the token of a result's name
record ResultToken (name : Named) (result : Option Named) : Type 0 where
  token : Token
  class_is : token_class token ≡ class.Name
  named : named_of token ≡ result_named name result

result_token : {w z : List Token} {r : Option Named} (n : Token) → token_class n ≡ class.Name → IsResult w z r → ResultToken (named_of n) r
result_token n h f.no_result = record { token = n; class_is = h; named = refl }
result_token n h (f.some_result r p t q a b c d) = record { token = t; class_is = c; named = refl }

function_token : {w z : List Token} {h : Header} → IsFunction w z h → ResultToken h.name h.result
function_token (f.a_function t p q a b c d r) = result_token t a r

function_alone : {w : List Token} {h : Header} (t : Token) → token_class t ≡ class.Function → IsFunction w [] h → IsSaid (Statement-F.Function None h.name h.dummies h.result)
function_alone {w = w} {h = h} t c d = record { tokens = t ∷ w; statement = statement.Function None h.name h.dummies h.result; form = f.function t c d; same = Outs.out_function None h.name h.dummies h.result }

declare_result : {w z : List Token} {k : Kind} {name : Named} {result : Option Named} → IsType w z k → ResultToken name result → CanDeclare (result_decl (result_named name result) k)
declare_result {k = k} t r = record {
  tree = declared k None [] (record { name = lowercase r.token.text; at = r.token.at; shape = []; value = None });
  alone = result_alone r.token t r.class_is;
  entity = refl;
  same = ap (λ n. result_decl n k) r.named;
}

function_otherwise : {w : List Token} (prefix : Option (Kind × Place)) (h : Header) (t : Token) → token_class t ≡ class.Function → IsFunction w [] h → CanDeclareResult (result_named h.name h.result) prefix →
    SaidOtherwise (out-Statement (statement.Function prefix h.name h.dummies h.result))
function_otherwise prefix h t c d r =
    otherwise_as (statement.Function prefix h.name h.dummies h.result) (Statement-F.Function prefix h.name h.dummies h.result) (Outs.out_function prefix h.name h.dummies h.result) (function_alone t c d, r)

-- ---- All forms

form_otherwise : {w z : List Token} {s : Statement} → IsForm w z s → z ≡ [] → SaidOtherwise (out-Statement s)
form_otherwise (f.a_module m n a b) e = otherwise_as (statement.Module (named_of n)) (Statement-F.Module (named_of n)) (Outs.out_module (named_of n)) tt
form_otherwise (f.contains t h) e = otherwise_as statement.Contains Statement-F.Contains Outs.out_contains tt
form_otherwise (f.end_bare t h) e = otherwise_as (statement.End None None) (Statement-F.End None None) (Outs.out_end None None) tt
form_otherwise (f.end_module {n = n} d k) e = otherwise_as (statement.End (Some word.Module) n) (Statement-F.End (Some word.Module) n) (Outs.out_end (Some word.Module) n) tt
form_otherwise (f.end_subroutine {n = n} d k) e = otherwise_as (statement.End (Some word.Subroutine) n) (Statement-F.End (Some word.Subroutine) n) (Outs.out_end (Some word.Subroutine) n) tt
form_otherwise (f.end_function {n = n} d k) e = otherwise_as (statement.End (Some word.Function) n) (Statement-F.End (Some word.Function) n) (Outs.out_end (Some word.Function) n) tt
form_otherwise (f.subroutine {l = l} s n a b d) e = otherwise_as (statement.Subroutine (named_of n) l) (Statement-F.Subroutine (named_of n) l) (Outs.out_subroutine (named_of n) l) (token_free n b)
form_otherwise (f.function {w = w} {h = h} t a d) e = function_otherwise None h t a (subst (λ x. IsFunction w x h) e d) tt
form_otherwise (f.prefixed {w = w} {x = x} {k = k} {h = h} t i a d) e = function_otherwise (Some (k, front_place w)) h t a (subst (λ y. IsFunction x y h) e d) (declare_result i (function_token d))
form_otherwise (f.use_all u n a b) e =
    let line : Use = record { name = lowercase n.text; only = None; at = n.at } in otherwise_as (statement.Using line) (Statement-F.Using line) (Outs.out_using line) tt
form_otherwise (f.use_only {l = l} u n c o k a b d g h i) e =
    let line : Use = record { name = lowercase n.text; only = Some l; at = n.at } in otherwise_as (statement.Using line) (Statement-F.Using line) (Outs.out_using line) tt
form_otherwise (f.implicit_none i n a b) e = otherwise_as statement.ImplicitNone Statement-F.ImplicitNone Outs.out_implicit tt
form_otherwise (f.declare {l = l} d) e = otherwise_as (statement.Declare l) (Statement-F.Declare l) (Outs.out_declare l) (declarations_alone d, declarations_free d)
form_otherwise (f.action a) e = action_otherwise a
form_otherwise (f.if_then {e = test} i p q t a b d c g) e = otherwise_as (statement.IfThen test) (Statement-F.IfThen test) (Outs.out_if_then test) tt
form_otherwise (f.if_action {x = x} {e = test} {s = s} i p q a b d c g) e =
    otherwise_as (statement.IfAction test (front_place x) s) (Statement-F.IfAction test (front_place x) s) (Outs.out_if_action test (front_place x) s) tt
form_otherwise (f.else_if {e = test} p q t d a i b c) e = otherwise_as (statement.ElseIf test) (Statement-F.ElseIf test) (Outs.out_else_if test) tt
form_otherwise (f.else_bare t h) e = otherwise_as statement.Else Statement-F.Else Outs.out_else tt
form_otherwise (f.end_if d) e = otherwise_as statement.EndIf Statement-F.EndIf Outs.out_end_if tt
form_otherwise (f.a_do {a = a} {b = b} {c = c} d n q o hd hn he i ho j k) e =
    let head : Head = record { var = lowercase n.text; at = n.at; from = a; to = b; step = c } in otherwise_as (statement.Do head) (Statement-F.Do head) (Outs.out_do head) tt
form_otherwise (f.end_do d) e = otherwise_as statement.EndDo Statement-F.EndDo Outs.out_end_do tt
form_otherwise (f.select {e = on} p q d a i b) e = otherwise_as (statement.Select on) (Statement-F.Select on) (Outs.out_select on) tt
form_otherwise (f.end_select d) e = otherwise_as statement.EndSelect Statement-F.EndSelect Outs.out_end_select tt
form_otherwise (f.case {l = l} c p q a b d h) e = otherwise_as (statement.Case l) (Statement-F.Case l) (Outs.out_case l) tt
form_otherwise (f.case_default c d a b) e = otherwise_as statement.CaseDefault Statement-F.CaseDefault Outs.out_default tt

pub said_otherwise : {level : Statement-F Statement} → IsSaid level → SaidOtherwise level
said_otherwise s = subst SaidOtherwise s.same (form_otherwise s.form refl)

-- forms that are said give free names and derived sums
pub said_gives : GivesNames IsSaidForm
said_gives = record {
  declared = λ at l h. (said_otherwise h).1;
  assigned = λ at left right h. said_otherwise h;
  named = λ at name dummies h. said_otherwise h;
  defined = λ d h. h;
}

-- ---- An END

-- a bare END at a place
pub end_at : Place → Token
unfolding text_class
end_at p = record { text = codes "end"; at = p; whole = refl }

end_class : (p : Place) → token_class (end_at p) ≡ class.End
unfolding text_class end_at
end_class p = refl

pub say_end : (p : Place) → IsSaid (Statement-F.End None None)
say_end p = record { tokens = end_at p ∷ []; statement = statement.End None None; form = f.end_bare (end_at p) (end_class p); same = Outs.out_end None None }

pub end_stands : (p : Place) → (front_place (say_end p).tokens).file ≡ p.file
unfolding say_end end_at
end_stands p = refl
