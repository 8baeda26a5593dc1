-- The trees that are made for the program of all columns, as plain trees.
use Rattle.std.proofs.Common.{◌≡◌, ◌<◌, ◌≤◌, ℕ, ◌+◌, List, [], ◌∷◌, ◌++◌, take, None, Some, map, length, get_or, refl, ap, sym, subst, ◌∙◌}
use Rattle.std.proofs.lemmas.List.{map-append, take_more, take_all}
use Rattle.fort_arith.specs.declared.op.Op.TheVariants.{Lt}
use Rattle.fort_tree.specs.declared.place.Place.{Place}
use Rattle.fort_tree.specs.declared.expr.Expr.{Expr}
use Rattle.fort_tree.specs.declared.expr.Expr.TheVariants.{Ref, Two}
use Rattle.fort_tree.specs.declared.expr.Sub.{Sub}
use Rattle.fort_tree.specs.declared.expr.Sub.TheVariants.{One as Alone}
use Rattle.fort_tree.specs.declared.stmt.Arm.{Arm}
use Rattle.fort_tree.specs.declared.stmt.Directive.{Directive}
use Rattle.fort_tree.specs.declared.stmt.Head.{Head}
use Rattle.fort_tree.specs.declared.stmt.Named.{Named}
use Rattle.fort_tree.specs.declared.unit.Decl.{Decl}
use Rattle.fort_tree.specs.declared.unit.Use.{Use}
use Rattle.fort_tree.specs.declared.unit.Unit as tree
use Rattle.fort_tree.specs.declared.stmt.Stmt.{Stmt}
use Rattle.fort_tree.specs.declared.stmt.Stmt.TheVariants.{If, Loop, Return}
use Rattle.claw_meaning.specs.Syntax as plain
use Rattle.claw_meaning.specs.Syntax.{Text, Reference, At, Binary, No_arm, No_more, Nothing_else, Done, Then}
use Rattle.claw_meaning.specs.Plain.{plain_expr, plain_option, plain_head, plain_stmt, plain_stmts, plain_directive, plain_use, plain_decl, plain_unit, in_a_row}
use Rattle.claw_meaning.proofs.PlainTrees.{arm, plain_name, plain_reference, plain_at, plain_two, plain_if, plain_loop, plain_return, plain_an_arm}
use Rattle.column_scalars.specs.Scalars.{in_column}
use Rattle.column_scalars.specs.Widened.{wide_stmt, wide_stmts, first_name, bound_or_one, wide_decl_by, guard_by, loop_by, looped_by}

pub element_is : (x id : Text) (at : Place) (subs : List Sub) → subs ≡ Alone (Ref id None at) ∷ [] → plain_expr (Ref x (Some subs) at) ≡ in_column id x
element_is x id at subs e =
    rw e (plain_reference x (Alone (Ref id None at) ∷ []) at
    ∙ ap (Reference x) (plain_at (Ref id None at) No_more ∙ ap (λ e. At e No_more) (plain_name id at)))

-- `if (upper < lower) return`
pub guard_is :
    (at : Place) (upper lower : Expr) (body : List Stmt) (arms : List Arm) (u l : plain.Expr) → plain_expr upper ≡ u → plain_expr lower ≡ l →
    body ≡ Return at ∷ [] → arms ≡ arm (Two Lt upper lower) body ∷ [] →
    plain_stmt (If at arms None) ≡ plain.If (plain.Arm (Binary Lt u l) (Then plain.Return Done) No_arm) Nothing_else
guard_is at upper lower body arms u l up low of_body of_arms =
    let test : plain_expr (Two Lt upper lower) ≡ Binary Lt u l = plain_two Lt upper lower ∙ ap (λ e. Binary Lt e (plain_expr lower)) up ∙ ap (Binary Lt u) low in
    let row : plain_stmts body ≡ Then plain.Return Done = ap plain_stmts of_body ∙ ap (λ s. Then s Done) (plain_return at) in
    ap (λ arms. plain_stmt (If at arms None)) of_arms
    ∙ plain_if at (arm (Two Lt upper lower) body ∷ [])
    ∙ ap (λ arms. plain.If arms Nothing_else)
    (plain_an_arm (Two Lt upper lower) body No_arm ∙ ap (λ e. plain.Arm e (plain_stmts body) No_arm) test ∙ ap (λ b. plain.Arm (Binary Lt u l) b No_arm) row)

row_is : (id : Text) (body : List Stmt) → in_a_row (map (λ s. wide_stmt id (plain_stmt s)) body) ≡ wide_stmts id (plain_stmts body)
row_is id [] = refl
row_is id (s ∷ rest) = ap (Then (wide_stmt id (plain_stmt s))) (row_is id rest)

pub statements_are : (id : Text) (body wide : List Stmt) → map plain_stmt wide ≡ map (λ s. wide_stmt id (plain_stmt s)) body → plain_stmts wide ≡ wide_stmts id (plain_stmts body)
statements_are id body wide e = ap in_a_row e ∙ row_is id body

-- The body

-- a loop that has taken one more item, and one that has taken all
pub one_more :
    {A B : Type 0} → (f g : A → B) (made more xs items : List A) (new item : A) (i : ℕ) → items ≡ xs → i < length items → item ≡ get_or items i item →
    map f made ≡ map g (take i xs) → f new ≡ g item → more ≡ made ++ new ∷ [] → map f more ≡ map g (take (i + 1) xs)
one_more f g made more xs items new item i are below is so_far one grown =
    let lt : i < length xs = subst (λ l. i < length l) are below in
    let at : item ≡ get_or xs i item = subst (λ l. item ≡ get_or l i item) are is in
    ap (map f) grown
    ∙ map-append f made (new ∷ [])
    ∙ ap (λ l. l ++ f new ∷ []) so_far
    ∙ ap (λ y. map g (take i xs) ++ y ∷ []) one
    ∙ sym (map-append g (take i xs) (item ∷ []))
    ∙ ap (λ y. map g (take i xs ++ y ∷ [])) at
    ∙ ap (map g) (sym (take_more xs i item lt))

pub all_taken : {A B : Type 0} → (f g : A → B) (made xs items : List A) (i : ℕ) → items ≡ xs → length items ≤ i → map f made ≡ map g (take i xs) → map f made ≡ map g xs
all_taken f g made xs items i are whole so_far = so_far ∙ ap (map g) (take_all i xs (subst (λ l. length l ≤ i) are whole))

pub guard_alone : (d : plain.Directive) (body wide : List Stmt) (guard : Stmt) → plain_stmt guard ≡ guard_by d → body ≡ [] → wide ≡ guard ∷ [] → plain_stmts wide ≡ Then (guard_by d) (looped_by d (plain_stmts body))
guard_alone d body wide guard is none of_wide = ap plain_stmts of_wide ∙ ap (λ s. Then s Done) is ∙ ap (λ b. Then (guard_by d) (looped_by d (plain_stmts b))) (sym none)

looped_is : (d : plain.Directive) (body : List Stmt) → (body ≡ [] → ⊥) → Then (loop_by d (wide_stmts (first_name d.names) (plain_stmts body))) Done ≡ looped_by d (plain_stmts body)
looped_is d [] some = absurd (some refl)
looped_is d (s ∷ rest) some = refl

pub guard_and_loop :
    (d : plain.Directive) (body wide : List Stmt) (guard loop : Stmt) → plain_stmt guard ≡ guard_by d → plain_stmt loop ≡ loop_by d (wide_stmts (first_name d.names) (plain_stmts body)) →
    (body ≡ [] → ⊥) → wide ≡ guard ∷ loop ∷ [] → plain_stmts wide ≡ Then (guard_by d) (looped_by d (plain_stmts body))
guard_and_loop d body wide guard loop is loops some of_wide =
    ap plain_stmts of_wide ∙ ap (λ s. Then s (Then (plain_stmt loop) Done)) is ∙ ap (λ s. Then (guard_by d) (Then s Done)) loops ∙ ap (Then (guard_by d)) (looped_is d body some)

-- the loop over the columns
pub loop_is :
    (d : plain.Directive) (at : Place) (head : Head) (body wide : List Stmt) → head.var ≡ first_name d.names → plain_expr head.from ≡ bound_or_one d.lower → plain_expr head.to ≡ bound_or_one d.upper → head.step ≡ None →
    map plain_stmt wide ≡ map (λ s. wide_stmt head.var (plain_stmt s)) body →
    plain_stmt (Loop at head wide None) ≡ loop_by d (wide_stmts (first_name d.names) (plain_stmts body))
loop_is d at head body wide var from to step rows =
    plain_loop at head wide None
    ∙ ap (λ b. plain.Do (plain_head head) b None) (statements_are head.var body wide rows)
    ∙ ap (λ x. plain.Do (record { variable = x; from = plain_expr head.from; to = plain_expr head.to; step = plain_option head.step }) (wide_stmts x (plain_stmts body)) None) var
    ∙ ap (λ e. plain.Do (record { variable = first_name d.names; from = e; to = plain_expr head.to; step = plain_option head.step }) (wide_stmts (first_name d.names) (plain_stmts body)) None) from
    ∙ ap (λ e. plain.Do (record { variable = first_name d.names; from = bound_or_one d.lower; to = e; step = plain_option head.step }) (wide_stmts (first_name d.names) (plain_stmts body)) None) to
    ∙ ap (λ e. plain.Do (record { variable = first_name d.names; from = bound_or_one d.lower; to = bound_or_one d.upper; step = plain_option e }) (wide_stmts (first_name d.names) (plain_stmts body)) None) step

-- The unit

pub decls_are : (d : plain.Directive) (decls : List Decl) → map (λ decl. wide_decl_by d (plain_decl decl)) decls ≡ map (wide_decl_by d) (map plain_decl decls)
decls_are d [] = refl
decls_are d (decl ∷ rest) = ap (λ ds. wide_decl_by d (plain_decl decl) ∷ ds) (decls_are d rest)

abbrev subroutine : Text → List Text → List plain.Use → List plain.Decl → List plain.Directive → plain.Stmts → plain.Unit
subroutine name dummies uses decls marks body = record { name = name; dummies = dummies; result = None; uses = uses; decls = decls; marks = marks; body = body; host = None }

abbrev pub tree_of : Text → Place → List Named → List Use → List Decl → List Directive → List Stmt → tree.Unit
tree_of name at dummies uses decls marks body = record { name = name; at = at; dummies = dummies; result = None; uses = uses; decls = decls; marks = marks; body = body; host = None }

pub unit_is :
    (name : Text) (at : Place) (dummies : List Named) (uses : List Use) (decls : List Decl) (marks : List Directive) (body : List Stmt)
    (all : List Text) (declared : List plain.Decl) (statements : plain.Stmts) →
    map (λ d. d.name) dummies ≡ all → uses ≡ [] → map plain_decl decls ≡ declared → marks ≡ [] → plain_stmts body ≡ statements →
    plain_unit (tree_of name at dummies uses decls marks body) ≡ subroutine name all [] declared [] statements
unit_is name at dummies uses decls marks body all declared statements e no_use f no_mark g =
    ap (λ x. subroutine name x (map plain_use uses) (map plain_decl decls) (map plain_directive marks) (plain_stmts body)) e
    ∙ ap (λ x. subroutine name all (map plain_use x) (map plain_decl decls) (map plain_directive marks) (plain_stmts body)) no_use
    ∙ ap (λ x. subroutine name all [] x (map plain_directive marks) (plain_stmts body)) f
    ∙ ap (λ x. subroutine name all [] declared (map plain_directive x) (plain_stmts body)) no_mark
    ∙ ap (λ x. subroutine name all [] declared [] x) g
