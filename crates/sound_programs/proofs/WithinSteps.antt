-- Where all places of a tree have a property, so have those of the parts of its expressions, of the steps of its statements, of
-- the references to units in them and of their actual arguments.
use Rattle.std.proofs.Common.{List, [], ◌∷◌, ◌++◌, map, Option, None, Some}
use Rattle.std.specs.Prelude.{flat_map}
use Rattle.std.specs.List.{filter}
use Rattle.std.specs.Option.{option_to_list}
use Rattle.fort_tree.specs.declared.place.Place.{Place}
use Rattle.claw_meaning.specs.Syntax as plain
use Rattle.claw_meaning.specs.Syntax.{Text}
use Rattle.claw_meaning.specs.Scope.{Entity}
use Rattle.sound_programs.specs.Laws.{Each}
use Rattle.sound_programs.specs.Placed.{Expr, Numeral, Boolean, Name, Reference, Signed, Binary, Paren, Subscripts, No_more, One, Section, Limit, Unbounded, Bounded, Dimension, Decl, Directive, Head, Range, Single, Span, Stmt, Assign, Call, If, Select, Do, Block, Piece, Exit, Cycle, Return, Stmts, Done, Then, Arms, No_arm, Arm, Cases, No_case, Case, Otherwise, Nothing_else, Else, Unit, first}
use Rattle.sound_programs.specs.Scopes.{unit_of}
use Rattle.sound_programs.specs.Walks.{Step, Assigns, Calls, Tests, Chooses, Repeats, Stands, ranges_of, steps, steps_in, steps_in_arms, steps_in_cases, steps_in_otherwise, steps_of, in_limit, in_subscripts, section_bounds, single_subscripts, section_places, beside, in_range, in_head, read_by, left_of, parts, parts_in, parts_in_limit, parts_read, parts_of, named, name_in, bare_name, name_before_parenthesis, call_name, loop_variable, has_private_list, names_of_mark, private_names, names_in, bounds_of, bounds_in, Site, reference, call_site, is_function_site, sites, Actual, matched, actuals_of, name_of_actual, actuals}
use Rattle.sound_programs.specs.Within.{InOption, AllInExpr, AllInSubscripts, AllInLimit, AllInDimension, AllInDecl, AllInDirective, AllInHead, AllInRange, AtNamed, AllInStmt, AllInStmts, AllInArms, AllInCases, AllInOtherwise, AllInUnit}
use Rattle.sound_programs.proofs.WithinLists.{each_append, each_of_each, each_chosen, each_kept, each_in_option}

module _ (P : Place → Type 0) where
  -- ---- Expressions

  pub at_first : (e : Expr) → AllInExpr P e → P (first e)
  at_first (Numeral n kind at) h = h
  at_first (Boolean b at) h = h
  at_first (Name x at) h = h
  at_first (Reference x subs at) h = h.0
  at_first (Signed sign e at) h = h.0
  at_first (Binary op a b) h = at_first a h.0
  at_first (Paren e at) h = h.0

  mutual
    pub each_part : (e : Expr) → AllInExpr P e → Each (parts e) (AllInExpr P)
    each_part (Numeral n kind at) h = (h, tt)
    each_part (Boolean b at) h = (h, tt)
    each_part (Name x at) h = (h, tt)
    each_part (Reference x subs at) h = (h, each_part_in subs h.1)
    each_part (Signed sign e at) h = (h, each_part e h.1)
    each_part (Binary op a b) h = (h, each_append (AllInExpr P) (parts a) (parts b) (each_part a h.0) (each_part b h.1))
    each_part (Paren e at) h = (h, each_part e h.1)

    pub each_part_in : (subs : Subscripts) → AllInSubscripts P subs → Each (parts_in subs) (AllInExpr P)
    each_part_in No_more h = tt
    each_part_in (One e rest) h = each_append (AllInExpr P) (parts e) (parts_in rest) (each_part e h.0) (each_part_in rest h.1)
    each_part_in (Section lower upper at rest) h =
        each_append (AllInExpr P) (parts_in_limit lower) (parts_in_limit upper ++ parts_in rest) (each_part_in_limit lower h.1.0)
        (each_append (AllInExpr P) (parts_in_limit upper) (parts_in rest) (each_part_in_limit upper h.1.1.0) (each_part_in rest h.1.1.1))

    pub each_part_in_limit : (l : Limit) → AllInLimit P l → Each (parts_in_limit l) (AllInExpr P)
    each_part_in_limit Unbounded h = tt
    each_part_in_limit (Bounded e) h = each_part e h

  pub each_part_of : (es : List Expr) → Each es (AllInExpr P) → Each (flat_map parts es) (AllInExpr P)
  each_part_of es all = each_of_each (AllInExpr P) (AllInExpr P) parts es each_part all

  each_of_limit : (l : Limit) → AllInLimit P l → Each (in_limit l) (AllInExpr P)
  each_of_limit Unbounded h = tt
  each_of_limit (Bounded e) h = (h, tt)

  pub each_subscript : (subs : Subscripts) → AllInSubscripts P subs → Each (in_subscripts subs) (AllInExpr P)
  each_subscript No_more h = tt
  each_subscript (One e rest) h = (h.0, each_subscript rest h.1)
  each_subscript (Section lower upper at rest) h =
      each_append (AllInExpr P) (in_limit lower) (in_limit upper ++ in_subscripts rest) (each_of_limit lower h.1.0)
      (each_append (AllInExpr P) (in_limit upper) (in_subscripts rest) (each_of_limit upper h.1.1.0) (each_subscript rest h.1.1.1))

  pub each_section_bound : (subs : Subscripts) → AllInSubscripts P subs → Each (section_bounds subs) (AllInExpr P)
  each_section_bound No_more h = tt
  each_section_bound (One e rest) h = each_section_bound rest h.1
  each_section_bound (Section lower upper at rest) h =
      each_append (AllInExpr P) (in_limit lower) (in_limit upper ++ section_bounds rest) (each_of_limit lower h.1.0)
      (each_append (AllInExpr P) (in_limit upper) (section_bounds rest) (each_of_limit upper h.1.1.0) (each_section_bound rest h.1.1.1))

  pub each_single_subscript : (subs : Subscripts) → AllInSubscripts P subs → Each (single_subscripts subs) (AllInExpr P)
  each_single_subscript No_more h = tt
  each_single_subscript (One e rest) h = (h.0, each_single_subscript rest h.1)
  each_single_subscript (Section lower upper at rest) h = each_single_subscript rest h.1.1.1

  pub each_section_place : (subs : Subscripts) → AllInSubscripts P subs → Each (section_places subs) P
  each_section_place No_more h = tt
  each_section_place (One e rest) h = each_section_place rest h.1
  each_section_place (Section lower upper at rest) h = (h.0, each_section_place rest h.1.1.1)

  -- ---- Names in expressions

  pub each_name : (e : Expr) → AllInExpr P e → Each (name_in e) (AtNamed P)
  each_name (Name x at) h = (h, tt)
  each_name (Reference x subs at) h = (h.0, tt)
  each_name other h = tt

  pub each_bare_name : (e : Expr) → AllInExpr P e → Each (bare_name e) (AtNamed P)
  each_bare_name (Name x at) h = (h, tt)
  each_bare_name other h = tt

  pub each_name_before_parenthesis : (e : Expr) → AllInExpr P e → Each (name_before_parenthesis e) (AtNamed P)
  each_name_before_parenthesis (Reference x subs at) h = (h.0, tt)
  each_name_before_parenthesis other h = tt

  pub each_name_of : (es : List Expr) → Each es (AllInExpr P) → Each (flat_map name_in es) (AtNamed P)
  each_name_of es all = each_of_each (AllInExpr P) (AtNamed P) name_in es each_name all

  -- ---- Steps

  abbrev pub AllInStep : Step → Type 0
  AllInStep (Assigns left right) = AllInExpr P left × AllInExpr P right
  AllInStep (Calls name args) = AtNamed P name × AllInSubscripts P args
  AllInStep (Tests e) = AllInExpr P e
  AllInStep (Chooses e ranges) = AllInExpr P e × Each ranges (AllInRange P)
  AllInStep (Repeats head mark) = AllInHead P head × InOption (AllInDirective P) mark

  abbrev pub AllInStands : Stands → Type 0
  AllInStands s = AllInStep s.step

  each_range : (cases : Cases) → AllInCases P cases → Each (ranges_of cases) (AllInRange P)
  each_range No_case h = tt
  each_range (Case ranges body rest) h = each_append (AllInRange P) ranges (ranges_of rest) h.0 (each_range rest h.1.1)

  mutual
    each_step : (loops : List Text) (s : Stmt) → AllInStmt P s → Each (steps loops s) AllInStands
    each_step loops (Assign at left right) h = (h.1, tt)
    each_step loops (Call at name args forward) h = (h.1, tt)
    each_step loops (If at arms other) h =
        each_append AllInStands (steps_in_arms loops arms) (steps_in_otherwise loops other) (each_step_in_arms loops arms h.1.0) (each_step_in_otherwise loops other h.1.1)
    each_step loops (Select at on cases other) h = (
      (h.1.0, each_range cases h.1.1.0),
      each_append AllInStands (steps_in_cases loops cases) (steps_in_otherwise loops other) (each_step_in_cases loops cases h.1.1.0) (each_step_in_otherwise loops other h.1.1.1),
    )
    each_step loops (Do at head body mark) h = ((h.1.0, h.1.1.1), each_step_in (head.variable ∷ loops) body h.1.1.0)
    each_step loops (Block at mark body) h = each_step_in loops body h.1.1
    each_step loops (Piece body) h = each_step_in loops body h
    each_step loops (Exit at) h = tt
    each_step loops (Cycle at) h = tt
    each_step loops (Return at) h = tt

    each_step_in : (loops : List Text) (body : Stmts) → AllInStmts P body → Each (steps_in loops body) AllInStands
    each_step_in loops Done h = tt
    each_step_in loops (Then s rest) h = each_append AllInStands (steps loops s) (steps_in loops rest) (each_step loops s h.0) (each_step_in loops rest h.1)

    each_step_in_arms : (loops : List Text) (arms : Arms) → AllInArms P arms → Each (steps_in_arms loops arms) AllInStands
    each_step_in_arms loops No_arm h = tt
    each_step_in_arms loops (Arm test body rest) h = (
      h.0,
      each_append AllInStands (steps_in loops body) (steps_in_arms loops rest) (each_step_in loops body h.1.0) (each_step_in_arms loops rest h.1.1),
    )

    each_step_in_cases : (loops : List Text) (cases : Cases) → AllInCases P cases → Each (steps_in_cases loops cases) AllInStands
    each_step_in_cases loops No_case h = tt
    each_step_in_cases loops (Case ranges body rest) h =
        each_append AllInStands (steps_in loops body) (steps_in_cases loops rest) (each_step_in loops body h.1.0) (each_step_in_cases loops rest h.1.1)

    each_step_in_otherwise : (loops : List Text) (other : Otherwise) → AllInOtherwise P other → Each (steps_in_otherwise loops other) AllInStands
    each_step_in_otherwise loops Nothing_else h = tt
    each_step_in_otherwise loops (Else body) h = each_step_in loops body h

  pub each_step_of : (u : Unit) → AllInUnit P u → Each (steps_of u) AllInStands
  each_step_of u h = each_step_in [] u.body h.body

  -- ---- Expressions of steps

  each_beside : (e : Expr) → AllInExpr P e → Each (beside e) (AllInExpr P)
  each_beside (Reference x subs at) h = each_subscript subs h.1
  each_beside other h = tt

  each_of_range : (r : Range) → AllInRange P r → Each (in_range r) (AllInExpr P)
  each_of_range (Single e) h = (h, tt)
  each_of_range (Span lower upper) h =
      each_append (AllInExpr P) (option_to_list lower) (option_to_list upper) (each_in_option (AllInExpr P) lower h.0) (each_in_option (AllInExpr P) upper h.1)

  pub each_in_head : (head : Head) → AllInHead P head → Each (in_head head) (AllInExpr P)
  each_in_head head h = (h.1.0, (h.1.1.0, each_in_option (AllInExpr P) head.step h.1.1.1))

  each_in_step_read : (step : Step) → AllInStep step → Each (read_by step) (AllInExpr P)
  each_in_step_read (Assigns left right) h = each_append (AllInExpr P) (beside left) (right ∷ []) (each_beside left h.0) (h.1, tt)
  each_in_step_read (Calls name args) h = each_subscript args h.1
  each_in_step_read (Tests e) h = (h, tt)
  each_in_step_read (Chooses e ranges) h = (h.0, each_of_each (AllInRange P) (AllInExpr P) in_range ranges each_of_range h.1)
  each_in_step_read (Repeats head mark) h = each_in_head head h.0

  pub each_left : (step : Step) → AllInStep step → Each (left_of step) (AllInExpr P)
  each_left (Assigns left right) h = (h.0, tt)
  each_left (Calls name args) h = tt
  each_left (Tests e) h = tt
  each_left (Chooses e ranges) h = tt
  each_left (Repeats head mark) h = tt

  pub each_part_read : (step : Step) → AllInStep step → Each (parts_read step) (AllInExpr P)
  each_part_read step h = each_part_of (read_by step) (each_in_step_read step h)

  pub each_part_of_step : (step : Step) → AllInStep step → Each (parts_of step) (AllInExpr P)
  each_part_of_step step h = each_append (AllInExpr P) (left_of step) (parts_read step) (each_left step h) (each_part_read step h)

  -- ---- Names of steps

  pub each_call_name : (step : Step) → AllInStep step → Each (call_name step) (AtNamed P)
  each_call_name (Assigns left right) h = tt
  each_call_name (Calls name args) h = (h.0, tt)
  each_call_name (Tests e) h = tt
  each_call_name (Chooses e ranges) h = tt
  each_call_name (Repeats head mark) h = tt

  pub each_loop_variable : (step : Step) → AllInStep step → Each (loop_variable step) (AtNamed P)
  each_loop_variable (Assigns left right) h = tt
  each_loop_variable (Calls name args) h = tt
  each_loop_variable (Tests e) h = tt
  each_loop_variable (Chooses e ranges) h = tt
  each_loop_variable (Repeats head mark) h = (h.0.0, tt)

  -- each stands at the mark
  each_marked : (names : List Text) (at : Place) → P at → Each (map (λ x. named x at) names) (AtNamed P)
  each_marked [] at h = tt
  each_marked (x ∷ names) at h = (h, each_marked names at h)

  each_of_mark : (mark : Option Directive) → InOption (AllInDirective P) mark → Each (names_of_mark mark) (AtNamed P)
  each_of_mark None h = tt
  each_of_mark (Some d) h = each_chosen (AtNamed P) (has_private_list d.word) (map (λ x. named x d.at) d.names) [] (each_marked d.names d.at h.0) tt

  pub each_private_name : (step : Step) → AllInStep step → Each (private_names step) (AtNamed P)
  each_private_name (Assigns left right) h = tt
  each_private_name (Calls name args) h = tt
  each_private_name (Tests e) h = tt
  each_private_name (Chooses e ranges) h = tt
  each_private_name (Repeats head mark) h = each_of_mark mark h.1

  pub each_name_in_step : (step : Step) → AllInStep step → Each (names_in step) (AtNamed P)
  each_name_in_step step h = each_append (AtNamed P) (call_name step) (flat_map name_in (parts_of step)) (each_call_name step h) (each_name_of (parts_of step) (each_part_of_step step h))

  -- ---- Bounds of declarations

  each_bound : (d : Dimension) → AllInDimension P d → Each (bounds_of d) (AllInExpr P)
  each_bound d h =
      each_append (AllInExpr P) (option_to_list d.lower) (option_to_list d.upper) (each_in_option (AllInExpr P) d.lower h.0) (each_in_option (AllInExpr P) d.upper h.1)

  pub each_bound_in : (decls : List Decl) → Each decls (AllInDecl P) → Each (bounds_in decls) (AllInExpr P)
  each_bound_in decls all =
      each_of_each (AllInDecl P) (AllInExpr P) (λ d. flat_map bounds_of d.shape) decls
      (λ d h. each_of_each (AllInDimension P) (AllInExpr P) bounds_of d.shape each_bound h.1.0)
      all

  -- ---- References to units

  abbrev pub AllInSite : Site → Type 0
  AllInSite s = AtNamed P s.name × AllInSubscripts P s.args

  pub each_reference : (e : Expr) → AllInExpr P e → Each (reference e) AllInSite
  each_reference (Reference x subs at) h = (h, tt)
  each_reference other h = tt

  each_call_site : (step : Step) → AllInStep step → Each (call_site step) AllInSite
  each_call_site (Assigns left right) h = tt
  each_call_site (Calls name args) h = (h, tt)
  each_call_site (Tests e) h = tt
  each_call_site (Chooses e ranges) h = tt
  each_call_site (Repeats head mark) h = tt

  pub each_site : (entity : Text → Entity) (step : Step) → AllInStep step → Each (sites entity step) AllInSite
  each_site entity step h =
      let references = flat_map reference (parts_read step) in
      each_append AllInSite (call_site step) (filter (is_function_site entity) references) (each_call_site step h)
      (each_kept AllInSite (is_function_site entity) references (each_of_each (AllInExpr P) AllInSite reference (parts_read step) each_reference (each_part_read step h)))

  abbrev pub AllInActual : Actual → Type 0
  AllInActual a = P a.at × InOption (AllInExpr P) a.expr

  each_matched : (names : List Text) (decls : List plain.Decl) (args : Subscripts) → AllInSubscripts P args → Each (matched names decls args) AllInActual
  each_matched [] decls args h = tt
  each_matched (x ∷ xs) decls No_more h = tt
  each_matched (x ∷ xs) decls (One e rest) h = ((at_first e h.0, h.0), each_matched xs decls rest h.1)
  each_matched (x ∷ xs) decls (Section lower upper at rest) h = ((h.0, tt), each_matched xs decls rest h.1.1.1)

  each_actual_of : (v : Option plain.Unit) (args : Subscripts) → AllInSubscripts P args → Each (actuals_of v args) AllInActual
  each_actual_of None args h = tt
  each_actual_of (Some v) args h = each_matched v.dummies v.decls args h

  pub each_actual : (entity : Text → Entity) (s : Site) → AllInSite s → Each (actuals entity s) AllInActual
  each_actual entity s h = each_actual_of (unit_of (entity s.name.name)) s.args h.1

  pub each_actual_in_step : (entity : Text → Entity) (step : Step) → AllInStep step → Each (flat_map (actuals entity) (sites entity step)) AllInActual
  each_actual_in_step entity step h = each_of_each AllInSite AllInActual (actuals entity) (sites entity step) (each_actual entity) (each_site entity step h)

  pub each_name_of_actual : (e : Option Expr) → InOption (AllInExpr P) e → Each (name_of_actual e) (AtNamed P)
  each_name_of_actual None h = tt
  each_name_of_actual (Some e) h = each_name e h
