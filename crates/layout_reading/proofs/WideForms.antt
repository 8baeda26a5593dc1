-- A unit of column scalars for all columns has forms that fit and nest into it.
use Rattle.std.proofs.Common.{◌≡◌, ℕ, ◌<◌, ◌^◌, List, [], ◌∷◌, ◌++◌, Option, None, Some, true, map, refl, sym, ap, ◌∙◌, subst, arith}
use Rattle.std.specs.List.{AllByRecursion}
use Rattle.std.proofs.lemmas.Bool.{and_from}
use Rattle.std.proofs.lemmas.List.Elements.{recursion_from_All}
use Rattle.fort_arith.specs.declared.kind.Kind.TheVariants.{I4}
use Rattle.fort_arith.specs.declared.op.Op.TheVariants as op
use Rattle.fort_tree.specs.declared.choice.Mode.TheVariants.{Target}
use Rattle.fort_tree.specs.declared.expr.Expr.{Expr}
use Rattle.fort_tree.specs.declared.expr.Expr.TheOpen.{Expr-F}
use Rattle.fort_tree.specs.declared.expr.Expr.TheViews.{out-roll-Expr}
use Rattle.fort_tree.specs.declared.expr.Expr.TheVariants.{Ref, Two, rolls-Ref}
use Rattle.fort_tree.specs.declared.expr.Sub.TheVariants.{One as Alone}
use Rattle.fort_tree.specs.declared.place.Place.{Place}
use Rattle.fort_tree.specs.declared.statement.EndWord.TheVariants as end_word
use Rattle.fort_tree.specs.declared.statement.Statement.{out-Statement}
use Rattle.fort_tree.specs.declared.statement.Statement.TheOpen.{Statement-F}
use Rattle.fort_tree.specs.declared.statement.Statement.TheVariants as statement
use Rattle.fort_tree.specs.declared.statement.Token.{Token}
use Rattle.fort_tree.specs.declared.stmt.Head.{Head}
use Rattle.fort_tree.specs.declared.stmt.Named.{Named}
use Rattle.fort_tree.specs.declared.stmt.Stmt.{Stmt}
use Rattle.fort_tree.specs.declared.stmt.Stmt.TheVariants as tree
use Rattle.fort_tree.specs.declared.unit.Bound.{Bound}
use Rattle.fort_tree.specs.declared.unit.Decl.{Decl}
use Rattle.fort_tree.specs.declared.unit.File.{File}
use Rattle.fort_tree.specs.declared.unit.Intent.{Intent}
use Rattle.fort_tree.specs.declared.unit.Intent.TheVariants.{In}
use Rattle.fort_tree.specs.declared.unit.Item.TheVariants as tree_item
use Rattle.fort_tree.specs.declared.unit.Unit as tree_unit
use Rattle.fort_tree.specs.Name.{lowercase}
use Rattle.fort_tree.specs.Unplaced.{nowhere}
use Rattle.fort_grammar.specs.declared.class.Class.TheVariants as class
use Rattle.fort_grammar.specs.Token.{text_class}
use Rattle.fort_expr.specs.Expression as g
use Rattle.fort_expr.specs.Expression.{IsExpr}
use Rattle.fort_expr.specs.Words.{operator_of}
use Rattle.fort_stmt.specs.Form as f
use Rattle.fort_stmt.specs.Form.{IsTarget}
use Rattle.fort_spell.specs.declared.mark.Mark.TheVariants as mark
use Rattle.fort_spell.specs.Text.{mark_text}
use Rattle.claw_meaning.specs.Plain as p
use Rattle.claw_meaning.specs.Plain.{plain_expr, plain_stmt, plain_stmts, plain_decl, plain_file}
use Rattle.claw_meaning.specs.Syntax as plain
use Rattle.claw_meaning.proofs.PlainTrees.{plain_two}
use Rattle.column_scalars.specs.Scalars.{Scalars, IsScalars, AreSums, IsSum, program_of, wide_unit, wide_sum, wide_assignments, wide_decl, wide_decls, number, guard, looped, local_decl, in_column, dummy_decl}
use Rattle.sound_programs.specs.Forms.{Form, Says, is_reference, is_reference_level, is_entity}
use Rattle.sound_programs.specs.Nesting as nesting
use Rattle.sound_programs.specs.Nesting.{Inside, in_unit, in_loop, arm, Simple, Body, One, Declares, Nests}
use Rattle.layout_reading.specs.WideUnits.{IsFreeName, IsDerived, AreWritable}
use Rattle.layout_reading.proofs.Bodies.{FormFits}
use Rattle.layout_reading.proofs.Classes.{colon_class_is}
use Rattle.layout_reading.proofs.Declarations.{Each, DeclFit, variable}
use Rattle.layout_reading.proofs.Expressions.{law_expr, all_real}
use Rattle.layout_reading.proofs.Keywords.{Free}
use Rattle.layout_reading.proofs.Lists.{NamesFit, name_fit, ShapeFit, shape_fit, step_fit}
use Rattle.layout_reading.proofs.Numbers.{number_class_is}
use Rattle.layout_reading.proofs.Outs
use Rattle.layout_reading.proofs.Parts.{Fit, fit, law_target}
use Rattle.layout_reading.proofs.PrintedTrees
use Rattle.layout_reading.proofs.Statements.{ActionFits}
use Rattle.layout_reading.proofs.WideSums.{word_token, mark_token, number_token, as_sum, as_expr, name_primary, plain_of_name, number_tree, number_primary, plain_of_number, in_column_tree, wide_reference, plain_in_column, wide_expr}

-- ---- Parts

free_of : {x : plain.Text} → IsFreeName x → Free x
free_of f = record { class_is = f.class_is; is_name = f.is_name }

abbrev named : plain.Text → Named
named x = record { name = x; at = nowhere }

-- tokens of an expression make it fit
expr_fits : {w z : List Token} {e : Expr} → IsExpr w z e → Fit IsExpr e
expr_fits {w = w} {z = z} {e = e} d = fit IsExpr z e (law_expr d (all_real w))

less_class : text_class (mark_text mark.Less) ≡ class.Relation
unfolding text_class
less_class = refl

less_operator : operator_of (mark_text mark.Less) ≡ op.Lt
unfolding operator_of
less_operator = refl

names_fit : (xs : List plain.Text) → AllByRecursion IsFreeName xs → NamesFit (map named xs)
names_fit [] h = tt
names_fit (x ∷ xs) h = (name_fit (named x) (free_of h.0), names_fit xs h.1)

-- ---- Statements

-- a statement, its forms before others, and its plain tree
record Given (around : Inside) (rest : List Form) (s : plain.Stmts) : Type 0 where
  stmts : List Stmt
  forms : List Form
  nest : Body Target around forms stmts rest
  fits : Each FormFits rest → Each FormFits forms
  same : plain_stmts stmts ≡ s

module _ (names : List plain.Text) (id : plain.Text) (free : IsFreeName id) where
  abbrev column : List ℕ → Place → Expr
  column x at = in_column_tree names id free x at

  is_element : (x : List ℕ) (at : Place) → is_reference (column x at) ≡ true
  is_element x at =
      let subs = Some (Alone (Ref (lowercase id) None nowhere) ∷ []) in ap is_reference (sym (rolls-Ref x subs at)) ∙ ap is_reference_level (out-roll-Expr (Expr-F.Ref x subs at))

  target_fits : (x : plain.Text) (h : IsFreeName x) → Fit IsTarget (column (lowercase x) nowhere)
  target_fits x h =
      let t = word_token x h.is_name in
      fit IsTarget [] (column (lowercase x) nowhere) (law_target (f.target t (g.a_name h.class_is) (wide_reference names id free t [])) (all_real (t ∷ mark_token mark.Open ∷ word_token id free.is_name ∷ mark_token mark.Close ∷ [])))

  target_same : (x : plain.Text) → IsFreeName x → plain_expr (column (lowercase x) nowhere) ≡ in_column id x
  target_same x h = plain_in_column names id free (lowercase x) nowhere ∙ ap (in_column id) h.is_name.lower

  assignments_given : (around : Inside) (rest : List Form) (assigned : List (plain.Text × plain.Expr)) → AreSums names assigned → AllByRecursion (λ (a : plain.Text × plain.Expr). IsFreeName a.0 × IsDerived a.1) assigned →
      Given around rest (wide_assignments id assigned)
  assignments_given around rest [] s h = record { stmts = []; forms = rest; nest = nesting.done; fits = λ r. r; same = refl }
  assignments_given around rest (a ∷ assigned) s h =
      let d = h.0.1 in
      let v = wide_expr names id free d.derive (subst (IsSum names) (sym d.same) s.1) [] in
      let left = column (lowercase a.0) nowhere in
      let more = assignments_given around rest assigned s.2 h.1 in
      record {
        stmts = tree.Assign nowhere left v.tree ∷ more.stmts;
        forms = Says nowhere (Statement-F.Assign left v.tree) ∷ more.forms;
        nest = nesting.more (nesting.simple (nesting.assigns left v.tree (is_element (lowercase a.0) nowhere))) more.nest;
        fits = λ r. ((target_fits a.0 h.0.0, expr_fits v.derive), more.fits r);
        same = ap (λ s. plain.Then s (plain_stmts more.stmts)) (PrintedTrees.plain_assign nowhere left v.tree)
            ∙ (ap (λ e. plain.Then (plain.Assign e (plain_expr v.tree)) (plain_stmts more.stmts)) (target_same a.0 h.0.0)
            ∙ (ap (λ e. plain.Then (plain.Assign (in_column id a.0) e) (plain_stmts more.stmts)) (v.same ∙ ap (wide_sum id) d.same)
            ∙ ap (plain.Then (plain.Assign (in_column id a.0) (wide_sum id a.1))) more.same));
      }

-- ---- The guard

abbrev guard_test : ℕ → plain.Text → Expr
guard_test lower upper = Two (operator_of (mark_text mark.Less)) (Ref (lowercase upper) None nowhere) (number_tree lower)

test_fits : (lower : ℕ) (upper : plain.Text) → lower < 2 ^ 63 → IsFreeName upper → Fit IsExpr (guard_test lower upper)
test_fits lower upper h f =
    let o = mark_token mark.Less in
    expr_fits {w = word_token upper f.is_name ∷ o ∷ number_token lower h ∷ []} {z = []}
    (g.disj (g.conj (g.neg (g.rel (g.relation o (as_sum (name_primary upper f (o ∷ number_token lower h ∷ []))) less_class (as_sum (number_primary lower h [])))))))

test_same : (lower : ℕ) (upper : plain.Text) → lower < 2 ^ 63 → IsFreeName upper → plain_expr (guard_test lower upper) ≡ plain.Binary op.Lt (plain.Name upper) (number lower)
test_same lower upper h f =
    plain_two (operator_of (mark_text mark.Less)) (Ref (lowercase upper) None nowhere) (number_tree lower)
    ∙ (ap (λ o. plain.Binary o (plain_expr (Ref (lowercase upper) None nowhere)) (plain_expr (number_tree lower))) less_operator
    ∙ (ap (λ e. plain.Binary op.Lt e (plain_expr (number_tree lower))) (plain_of_name upper f) ∙ ap (plain.Binary op.Lt (plain.Name upper)) (plain_of_number lower h)))

abbrev guard_tree : ℕ → plain.Text → Stmt
guard_tree lower upper = tree.If nowhere (arm (guard_test lower upper) (tree.Return nowhere ∷ []) ∷ []) None

guard_same : (lower : ℕ) (upper : plain.Text) → lower < 2 ^ 63 → IsFreeName upper → plain_stmt (guard_tree lower upper) ≡ guard lower upper
guard_same lower upper h f =
    PrintedTrees.plain_if nowhere (arm (guard_test lower upper) (tree.Return nowhere ∷ []) ∷ []) None
    ∙ (ap (λ a. plain.If a plain.Nothing_else) (PrintedTrees.plain_an_arm (guard_test lower upper) (tree.Return nowhere ∷ []) plain.No_arm)
    ∙ (ap (λ e. plain.If (plain.Arm e (plain_stmts (tree.Return nowhere ∷ [])) plain.No_arm) plain.Nothing_else) (test_same lower upper h f)
    ∙ ap (λ s. plain.If (plain.Arm (plain.Binary op.Lt (plain.Name upper) (number lower)) (plain.Then s plain.Done) plain.No_arm) plain.Nothing_else) (PrintedTrees.plain_return nowhere)))

-- ---- The loop

abbrev columns_head : ℕ → plain.Text → plain.Text → Head
columns_head lower upper id = record { var = id; at = nowhere; from = number_tree lower; to = Ref (lowercase upper) None nowhere; step = None }

loop_given : (names : List plain.Text) (id upper : plain.Text) (lower : ℕ) (rest : List Form) (assigned : List (plain.Text × plain.Expr)) → IsFreeName id → IsFreeName upper → lower < 2 ^ 63 → AreSums names assigned →
    AllByRecursion (λ (a : plain.Text × plain.Expr). IsFreeName a.0 × IsDerived a.1) assigned → Given in_unit rest (looped lower upper id assigned)
loop_given names id upper lower rest [] i u l s h = record { stmts = []; forms = rest; nest = nesting.done; fits = λ r. r; same = refl }
loop_given names id upper lower rest (a ∷ assigned) i u l s h = by_body (assignments_given names id i (in_loop in_unit) (Says nowhere Statement-F.EndDo ∷ rest) (a ∷ assigned) s h)
  where
    by_body : Given (in_loop in_unit) (Says nowhere Statement-F.EndDo ∷ rest) (wide_assignments id (a ∷ assigned)) → Given in_unit rest (looped lower upper id (a ∷ assigned))
    by_body b =
        let head = columns_head lower upper id in
        record {
          stmts = tree.Loop nowhere head b.stmts None ∷ [];
          forms = Says nowhere (Statement-F.Do head) ∷ b.forms;
          nest = nesting.more (nesting.loops b.nest) nesting.done;
          fits = λ r. ((free_of i, expr_fits {w = number_token lower l ∷ []} {z = []} (as_expr (number_primary lower l [])), expr_fits {w = word_token upper u.is_name ∷ []} {z = []} (as_expr (name_primary upper u [])), step_fit {w = []} {z = []} f.no_step refl), b.fits (tt, r));
          same = ap (λ s. plain.Then s plain.Done) (PrintedTrees.plain_loop nowhere head b.stmts None
              ∙ (ap (λ e. plain.Do (record { variable = id; from = e; to = plain_expr (Ref (lowercase upper) None nowhere); step = None }) (plain_stmts b.stmts) None) (plain_of_number lower l)
              ∙ (ap (λ e. plain.Do (record { variable = id; from = number lower; to = e; step = None }) (plain_stmts b.stmts) None) (plain_of_name upper u)
              ∙ ap (λ s. plain.Do (record { variable = id; from = number lower; to = plain.Name upper; step = None }) s None) b.same)));
        }

-- ---- Declarations

abbrev dummy_tree : plain.Text → Option Intent → List Bound → Decl
dummy_tree x i shape = record { name = x; at = nowhere; kind = I4; intent = i; shape = shape; value = None }

abbrev column_bound : ℕ → plain.Text → Bound
column_bound lower upper = record { lower = Some (number_tree lower); upper = Some (Ref (lowercase upper) None nowhere) }

bound_fits : (lower : ℕ) (upper : plain.Text) → lower < 2 ^ 63 → IsFreeName upper → ShapeFit (column_bound lower upper ∷ [])
bound_fits lower upper l u =
    let c = mark_token mark.Colon in
    (shape_fit {w = number_token lower l ∷ c ∷ word_token upper u.is_name ∷ []} {z = []}
    (f.first_dimension
    (f.bounds c (f.bound_number (number_token lower l) (number_class_is (number_token lower l) lower None l refl)) (colon_class_is c refl) (f.some_bound (f.bound_name (word_token upper u.is_name) u.class_is))))
    (all_real (number_token lower l ∷ c ∷ word_token upper u.is_name ∷ []))).0

-- declarations, a line for each
abbrev decl_forms : List Decl → List Form → List Form
decl_forms [] rest = rest
decl_forms (d ∷ ds) rest = Says nowhere (Statement-F.Declare (d ∷ [])) ∷ decl_forms ds rest

abbrev IsVariable : Decl → Type 0
IsVariable d = (is_entity d ≡ true) × DeclFit d

decls_nest : (ds : List Decl) (rest : List Form) → Each IsVariable ds → Declares Target (decl_forms ds rest) ds [] rest
decls_nest [] rest h = nesting.no_more_decls
decls_nest (d ∷ ds) rest h = nesting.declares (and_from (is_entity d) true h.0.0 refl) (decls_nest ds rest h.1)

decls_fit : (ds : List Decl) (rest : List Form) → Each IsVariable ds → Each FormFits rest → Each FormFits (decl_forms ds rest)
decls_fit [] rest h r = r
decls_fit (d ∷ ds) rest h r = ((h.0.1, tt), decls_fit ds rest h.1 r)

abbrev wide_tree : Scalars → plain.Text × Intent → Decl
wide_tree u d = dummy_tree d.0 (Some d.1) (column_bound u.lower u.upper ∷ [])

wide_same : (u : Scalars) (d : plain.Text × Intent) → u.lower < 2 ^ 63 → IsFreeName u.upper → plain_decl (wide_tree u d) ≡ wide_decl u.lower u.upper d
wide_same u d l f =
    ap (λ e. record (dummy_decl d.0 d.1) { shape = record { lower = Some e; upper = Some (plain_expr (Ref (lowercase u.upper) None nowhere)) } ∷ [] }) (plain_of_number u.lower l)
    ∙ ap (λ e. record (dummy_decl d.0 d.1) { shape = record { lower = Some (number u.lower); upper = Some e } ∷ [] }) (plain_of_name u.upper f)

all_same : (u : Scalars) (ds : List (plain.Text × Intent)) → u.lower < 2 ^ 63 → IsFreeName u.upper → map plain_decl (map (wide_tree u) ds ++ dummy_tree u.id None [] ∷ []) ≡ wide_decls u.lower u.upper ds ++ local_decl u.id ∷ []
all_same u [] l f = refl
all_same u (d ∷ ds) l f =
    ap (λ x. x ∷ map plain_decl (map (wide_tree u) ds ++ dummy_tree u.id None [] ∷ [])) (wide_same u d l f) ∙ ap (λ x. wide_decl u.lower u.upper d ∷ x) (all_same u ds l f)

all_variables : (u : Scalars) (ds : List (plain.Text × Intent)) → u.lower < 2 ^ 63 → IsFreeName u.upper → IsFreeName u.id → AllByRecursion (λ (d : plain.Text × Intent). IsFreeName d.0) ds →
    Each IsVariable (map (wide_tree u) ds ++ dummy_tree u.id None [] ∷ [])
all_variables u [] l f i h = ((refl, variable (free_of i) tt), tt)
all_variables u (d ∷ ds) l f i h = ((refl, variable (free_of h.0) (bound_fits u.lower u.upper l f)), all_variables u ds l f i h.1)

-- ---- The unit

same_names : (xs : List plain.Text) → map (λ (n : Named). n.name) (map named xs) ≡ xs
same_names [] = refl
same_names (x ∷ xs) = ap (λ ys. x ∷ ys) (same_names xs)

joined_names : (xs : List plain.Text) (x : plain.Text) → AllByRecursion IsFreeName xs → IsFreeName x → AllByRecursion IsFreeName (xs ++ x ∷ [])
joined_names [] x h f = (f, tt)
joined_names (y ∷ xs) x h f = (h.0, joined_names xs x h.1 f)

abbrev all_decls : Scalars → List Decl
all_decls u = dummy_tree u.upper (Some In) [] ∷ (map (wide_tree u) u.declared ++ dummy_tree u.id None [] ∷ [])

-- the forms of the unit, and what they are
pub record Written (u : Scalars) : Type 0 where
  pub forms : List Form
  pub file : File
  pub nest : Nests Target forms file
  pub fits : Each FormFits forms
  pub same : plain_file file ≡ program_of (wide_unit u)

module _ (u : Scalars) (s : IsScalars u) (w : AreWritable u) where
  few : u.lower < 2 ^ 63
  few = let h = s.lower in omega arith

  abbrev ending : List Form
  ending = Says nowhere (Statement-F.End (Some end_word.Subroutine) (Some u.name)) ∷ []

  body_given : Given in_unit ending (looped u.lower u.upper u.id u.assigned)
  body_given = loop_given u.dummies u.id u.upper u.lower ending u.assigned w.id w.upper few s.assigned (recursion_from_All _ u.assigned w.assigned)

  abbrev guard_form : Form
  guard_form = Says nowhere (Statement-F.IfAction (guard_test u.lower u.upper) nowhere statement.Return)

  returns_out : Simple in_unit nowhere (out-Statement statement.Return) (tree.Return nowhere)
  returns_out = subst (λ x. Simple in_unit nowhere x (tree.Return nowhere)) (sym Outs.out_return) (nesting.returns refl)

  decls_are : Each IsVariable (all_decls u)
  decls_are = ((refl, variable (free_of w.upper) tt), all_variables u u.declared few w.upper w.id (recursion_from_All _ u.declared w.declared))

  guard_nests : {rest : List Form} → One Target in_unit (guard_form ∷ rest) (guard_tree u.lower u.upper) rest
  guard_nests = nesting.if_action returns_out

  guard_fits : FormFits guard_form
  guard_fits = (test_fits u.lower u.upper few w.upper, subst ActionFits (sym Outs.out_return) tt)

  abbrev written_unit : List Stmt → tree_unit.Unit
  written_unit body = record {
    name = u.name;
    at = nowhere;
    dummies = map named (u.dummies ++ u.upper ∷ []);
    result = None;
    uses = [];
    decls = all_decls u;
    marks = [];
    body = body;
    host = None;
  }

  unit_same : (body : List Stmt) → plain_stmts body ≡ plain.Then (guard u.lower u.upper) (looped u.lower u.upper u.id u.assigned) → p.plain_unit (written_unit body) ≡ wide_unit u
  unit_same body r =
      let d = same_names (u.dummies ++ u.upper ∷ []) in
      let q = ap (λ x. dummy_decl u.upper In ∷ x) (all_same u u.declared few w.upper) in
      λ t. record { name = u.name; dummies = d t; result = None; uses = []; decls = q t; marks = []; body = r t; host = None }

  by_body : Given in_unit ending (looped u.lower u.upper u.id u.assigned) → Written u
  by_body b =
      let body = guard_tree u.lower u.upper ∷ b.stmts in
      let lines = guard_form ∷ b.forms in
      record {
        forms = Says nowhere (Statement-F.Subroutine (named u.name) (map named (u.dummies ++ u.upper ∷ []))) ∷ decl_forms (all_decls u) lines;
        file = record { modules = []; units = written_unit body ∷ []; order = tree_item.Unit 0 ∷ [] };
        nest = nesting.unit_first
            (nesting.subroutine
            (record {
              after_uses = decl_forms (all_decls u) lines;
              after_implicit = decl_forms (all_decls u) lines;
              after_decls = lines;
              among_uses = [];
              among_decls = [];
              used = nesting.no_more_uses;
              implicit = nesting.unsaid;
              declared = decls_nest (all_decls u) lines decls_are;
              paired = refl;
              marked = nesting.unmarked;
            })
            nesting.unpaired (nesting.more guard_nests b.nest) (nesting.with_name refl))
            nesting.no_more;
        fits = (
          (free_of w.name, names_fit (u.dummies ++ u.upper ∷ []) (joined_names u.dummies u.upper (recursion_from_All _ u.dummies w.dummies) w.upper)),
          decls_fit (all_decls u) lines decls_are (guard_fits, b.fits (free_of w.name, tt)),
        );
        same = ap program_of (unit_same body
            (ap (λ s. plain.Then s (plain_stmts b.stmts)) (guard_same u.lower u.upper few w.upper) ∙ ap (plain.Then (guard u.lower u.upper)) b.same));
      }

  pub unit_written : Written u
  unit_written = by_body body_given
