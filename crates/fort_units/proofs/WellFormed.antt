-- The statement of tokens has of itself what forms have.
use Rattle.std.proofs.Common.{◌≡◌, ℕ, Bool, true, false, ◌&&◌, List, [], ◌∷◌, ◌++◌, map, Option, None, Some, refl, sym, ◌∙◌, ap}
use Rattle.std.specs.List.{list_all}
use Rattle.std.proofs.lemmas.Bool.{false≢true, and_parts}
use Rattle.fort_arith.specs.declared.kind.Kind.{Kind}
use Rattle.fort_tree.specs.declared.expr.Expr.{Expr}
use Rattle.fort_tree.specs.declared.expr.Expr.TheOpen.{Expr-F}
use Rattle.fort_tree.specs.declared.expr.Expr.TheVariants as expr
use Rattle.fort_tree.specs.declared.expr.Expr.TheViews.{out-roll-Expr}
use Rattle.fort_tree.specs.declared.expr.Sub.{Sub}
use Rattle.fort_tree.specs.declared.place.Place.{Place}
use Rattle.fort_tree.specs.declared.statement.Statement.{Statement, out-Statement}
use Rattle.fort_tree.specs.declared.statement.Statement.TheOpen.{Statement-F}
use Rattle.fort_tree.specs.declared.statement.Statement.TheVariants as statement
use Rattle.fort_tree.specs.declared.statement.Statement.TheViews.{roll-Statement, out-roll-Statement}
use Rattle.fort_tree.specs.declared.statement.Token.{Token}
use Rattle.fort_tree.specs.declared.stmt.Range.{Range}
use Rattle.fort_tree.specs.declared.unit.Bound.{Bound}
use Rattle.fort_tree.specs.declared.unit.Decl.{Decl}
use Rattle.fort_tree.specs.declared.unit.Intent.{Intent}
use Rattle.fort_tree.specs.Name.{lowercase}
use Rattle.sound_programs.specs.Forms.{is_reference, is_reference_level, is_entity, is_range}
use Rattle.fort_expr.specs.Expression.{IsRef, bare, subscripted}
use Rattle.fort_stmt.specs.declared.value.Entity.{Entity}
use Rattle.fort_stmt.specs.Form.{IsForm, IsAction, IsAssignment, target, assign, assignment, call, exit, cycle, return, IsEntity, entity, IsEntities, first_entity, next_entity, IsConstant, constant, IsConstants, first_constant, next_constant, declared, IsDeclaration, variables, constants, IsRange, one_value, to_value, span, IsRanges, first_range, next_range}
use Rattle.fort_stmt.specs.Form.{a_module, contains, end_bare, end_module, end_subroutine, end_function, subroutine, function, prefixed, use_all, use_only, implicit_none, declare, action, if_then, if_action, else_if, else_bare, end_if, a_do, end_do, select, end_select, case, case_default}
use Rattle.fort_units.specs.Shown.{is_level, is_action_level}

opened : (s : Statement) (l : Statement-F Statement) → roll-Statement l ≡ s → out-Statement s ≡ l
opened s l e = ap out-Statement (sym e) ∙ out-roll-Statement l

pub both : (a b : Bool) → a ≡ true → b ≡ true → (a && b) ≡ true
both true b h k = k
both false b h k = absurd (false≢true h)

pub all_append : {A : Type 0} (p : A → Bool) (a b : List A) → list_all p a ≡ true → list_all p b ≡ true → list_all p (a ++ b) ≡ true
all_append p [] b h k = k
all_append p (x ∷ a) b h k = let parts = and_parts (p x) (list_all p a) h in both (p x) (list_all p (a ++ b)) parts.0 (all_append p a b parts.1 k)

all_map : {A B : Type 0} (p : B → Bool) (f : A → B) (xs : List A) → list_all (λ x. p (f x)) xs ≡ true → list_all p (map f xs) ≡ true
all_map p f [] h = refl
all_map p f (x ∷ xs) h = let parts = and_parts (p (f x)) (list_all (λ y. p (f y)) xs) h in both (p (f x)) (list_all p (map f xs)) parts.0 (all_map p f xs parts.1)

one_more : {A : Type 0} (p : A → Bool) (xs : List A) (x : A) → list_all p xs ≡ true → p x ≡ true → list_all p (xs ++ x ∷ []) ≡ true
one_more p xs x h k = all_append p xs (x ∷ []) h (both (p x) true k refl)

-- left sides

refers : (x : List ℕ) (subs : Option (List Sub)) (at : Place) → is_reference (expr.Ref x subs at) ≡ true
refers x None at = ap is_reference (sym (expr.rolls-Ref x None at)) ∙ ap is_reference_level (out-roll-Expr (Expr-F.Ref x None at))
refers x (Some subs) at = ap is_reference (sym (expr.rolls-Ref x (Some subs) at)) ∙ ap is_reference_level (out-roll-Expr (Expr-F.Ref x (Some subs) at))

a_reference : {t : Token} {w z : List Token} {e : Expr} → IsRef t w z e → is_reference e ≡ true
a_reference (bare {t = t}) = refers (lowercase t.text) None t.at
a_reference (subscripted {l = l} {t = t} p q a b c) = refers (lowercase t.text) (Some l) t.at

-- declarations

abbrev declares_so : Kind → Option Intent → List Bound → Entity → Bool
declares_so k i l e = is_entity (declared k i l e)

a_variable : {w z : List Token} {e : Entity} (k : Kind) (i : Option Intent) (l : List Bound) → IsEntity w z e → declares_so k i l e ≡ true
a_variable k i l (entity t c shape) = refl

some_variables : {w z : List Token} {es : List Entity} (k : Kind) (i : Option Intent) (l : List Bound) → IsEntities w z es → list_all (declares_so k i l) es ≡ true
some_variables k i l (first_entity {d = d} e) = one_more (declares_so k i l) [] d refl (a_variable k i l e)
some_variables k i l (next_entity {l = fs} {d = f} c es d e) = one_more (declares_so k i l) fs f (some_variables k i l es) (a_variable k i l e)

a_constant : {w z : List Token} {e : Entity} (k : Kind) → IsConstant w z e → declares_so k None [] e ≡ true
a_constant k (constant t q c d v) = refl

some_constants : {w z : List Token} {es : List Entity} (k : Kind) → IsConstants w z es → list_all (declares_so k None []) es ≡ true
some_constants k (first_constant {d = d} e) = one_more (declares_so k None []) [] d refl (a_constant k e)
some_constants k (next_constant {l = fs} {d = f} c es d e) = one_more (declares_so k None []) fs f (some_constants k es) (a_constant k e)

declarations : {w z : List Token} {l : List Decl} → IsDeclaration w z l → list_all is_entity l ≡ true
declarations (variables {k = k} {i = i} {l = l} {d = d} t a es) = all_map is_entity (declared k i l) d (some_variables k i l es)
declarations (constants {k = k} {d = d} c p b t x y v es) = all_map is_entity (declared k None []) d (some_constants k es)

-- cases

a_range : {w z : List Token} {r : Range} → IsRange w z r → is_range r ≡ true
a_range (one_value v) = refl
a_range (to_value c d v) = refl
a_range (span c v d b) = refl

some_ranges : {w z : List Token} {l : List Range} → IsRanges w z l → list_all is_range l ≡ true
some_ranges (first_range {r = x} r) = one_more is_range [] x refl (a_range r)
some_ranges (next_range {l = xs} {r = x} c l d r) = one_more is_range xs x (some_ranges l) (a_range r)

-- actions

acts_so : (s : Statement) (l : Statement-F Statement) → roll-Statement l ≡ s → is_action_level l ≡ true → is_action_level (out-Statement s) ≡ true
acts_so s l e h = ap is_action_level (opened s l e) ∙ h

an_assignment : {w z : List Token} {s : Statement} → IsAssignment w z s → is_action_level (out-Statement s) ≡ true
an_assignment (assign {a = a} {b = b} e (target t r f) c x) = acts_so (statement.Assign a b) (Statement-F.Assign a b) (statement.rolls-Assign a b) (a_reference f)

an_action : {w z : List Token} {s : Statement} → IsAction w z s → is_action_level (out-Statement s) ≡ true
an_action (assignment a) = an_assignment a
an_action (call c n p q a) = acts_so _ _ (statement.rolls-Call _ _) refl
an_action (exit t c) = acts_so _ _ statement.rolls-Exit refl
an_action (cycle t c) = acts_so _ _ statement.rolls-Cycle refl
an_action (return t c) = acts_so _ _ statement.rolls-Return refl

an_action_is : (l : Statement-F Statement) → is_action_level l ≡ true → is_level l ≡ true
an_action_is (Statement-F.Assign left right) h = h
an_action_is (Statement-F.Call name args) h = refl
an_action_is Statement-F.Exit h = refl
an_action_is Statement-F.Cycle h = refl
an_action_is Statement-F.Return h = refl
an_action_is l h = absurd (false≢true h)

-- all statements

stands_so : (s : Statement) (l : Statement-F Statement) → roll-Statement l ≡ s → is_level l ≡ true → is_level (out-Statement s) ≡ true
stands_so s l e h = ap is_level (opened s l e) ∙ h

pub well_formed : {w z : List Token} {s : Statement} → IsForm w z s → is_level (out-Statement s) ≡ true
well_formed (a_module m n a b) = stands_so _ _ (statement.rolls-Module _) refl
well_formed (contains t a) = stands_so _ _ statement.rolls-Contains refl
well_formed (end_bare t a) = stands_so _ _ (statement.rolls-End _ _) refl
well_formed (end_module a b) = stands_so _ _ (statement.rolls-End _ _) refl
well_formed (end_subroutine a b) = stands_so _ _ (statement.rolls-End _ _) refl
well_formed (end_function a b) = stands_so _ _ (statement.rolls-End _ _) refl
well_formed (subroutine s n a b l) = stands_so _ _ (statement.rolls-Subroutine _ _) refl
well_formed (function f a h) = stands_so _ _ (statement.rolls-Function _ _ _ _) refl
well_formed (prefixed f t a h) = stands_so _ _ (statement.rolls-Function _ _ _ _) refl
well_formed (use_all u n a b) = stands_so _ _ (statement.rolls-Using _) refl
well_formed (use_only u n c o k a b d e f l) = stands_so _ _ (statement.rolls-Using _) refl
well_formed (implicit_none i n a b) = stands_so _ _ statement.rolls-ImplicitNone refl
well_formed (declare {l = l} d) = stands_so (statement.Declare l) (Statement-F.Declare l) (statement.rolls-Declare l) (declarations d)
well_formed (action {s = s} a) = an_action_is (out-Statement s) (an_action a)
well_formed (if_then i p q t a b e c d) = stands_so _ _ (statement.rolls-IfThen _) refl
well_formed (if_action i p q a b e c x) = stands_so _ _ (statement.rolls-IfAction _ _ _) (an_action x)
well_formed (else_if p q t w a e b c) = stands_so _ _ (statement.rolls-ElseIf _) refl
well_formed (else_bare t a) = stands_so _ _ statement.rolls-Else refl
well_formed (end_if a) = stands_so _ _ statement.rolls-EndIf refl
well_formed (a_do d n e o a b c x f y g) = stands_so _ _ (statement.rolls-Do _) refl
well_formed (end_do a) = stands_so _ _ statement.rolls-EndDo refl
well_formed (select p q w a e b) = stands_so _ _ (statement.rolls-Select _) refl
well_formed (end_select a) = stands_so _ _ statement.rolls-EndSelect refl
well_formed (case {l = l} c p q a b r d) = stands_so (statement.Case l) (Statement-F.Case l) (statement.rolls-Case l) (some_ranges r)
well_formed (case_default c d a b) = stands_so _ _ statement.rolls-CaseDefault refl
