-- The places of faults of DO variables, gathered step by step, are those of the unit.
use Rattle.std.proofs.Common.{◌≡◌, ℕ, suc, ◌+◌, ◌<◌, length, get_or, drop, drop-cons, add-one, Bool, true, false, not, ◌&&◌, ◌||◌, List, [], ◌∷◌, ◌++◌, map, refl, sym, ap, ◌∙◌, append_assoc}
use Rattle.std.specs.List.{filter, flat_map, list_any}
use Rattle.std.specs.Str.{bytes_eq}
use Rattle.std.proofs.lemmas.Grind.{flat_map-append}
use Rattle.std.proofs.lemmas.List.Elements.{filter-append}
use Rattle.std.proofs.lemmas.List.Folds.{flat_map-map}
use Rattle.std.proofs.lemmas.Cmp.{nat_list_eq_equiv}
use Rattle.fort_tree.specs.declared.place.Place.{Place}
use Rattle.fort_tree.specs.declared.stmt.Named.{Named}
use Rattle.fort_tree.specs.declared.unit.Unit as tree_unit
use Rattle.claw_meaning.specs.Scope.{Entity}
use Rattle.claw_meaning.specs.Syntax.{Text}
use Rattle.claw_meaning.specs.Units.{is_listed}
use Rattle.sound_programs.specs.LoopFaults.{is_local_integer, loop_variables, loop_faults_in_step, loop_faults_in_unit, named_in_bounds}
use Rattle.sound_programs.specs.NameFaults.{places_where}
use Rattle.sound_programs.specs.Placed.{Stmt, Assign, Call, If, Select, Do, Block, Piece, Exit, Cycle, Return, Stmts, Done, Then, Arms, No_arm, Arm, Cases, No_case, Case, Otherwise, Nothing_else, Else, Unit}
use Rattle.sound_programs.specs.Placing.{placed_unit}
use Rattle.sound_programs.specs.Walks.{Step, Chooses, Repeats, Tests, Site, Actual, Stands, ranges_of, steps, steps_in, steps_in_arms, steps_in_cases, steps_in_otherwise, steps_of, parts, bounds_in, left_of, name_in, names_in, loop_variable, actuals, is_written, name_of_actual, reference, call_site, is_function_site, parts_read, sites}
use Rattle.fort_names.specs.NameLists.{has}
use Rattle.fort_names.specs.Sharing.{inserted}
use Rattle.fort_names.proofs.Covering.{has_inserted}
use Rattle.name_faults.specs.LoopSteps.{step_faults, places_in_bounds, in_stmt, in_stmts, in_arms, in_cases, in_otherwise}
use Rattle.name_faults.specs.Passing.{written_at, written_at_all, passed_names}

-- ---- statements

module _ (faults : List Text → Step → List Place) where
  abbrev all : List Stands → List Place
  all list = flat_map (λ t. faults t.loops t.step) list

  two : (xs ys : List Stands) (first rest : List Place) → first ≡ all xs → rest ≡ all ys → first ++ rest ≡ all (xs ++ ys)
  two xs ys first rest e h = (λ t. e t ++ h t) ∙ sym (flat_map-append (λ (t : Stands). faults t.loops t.step) xs ys)

  nothing_more : (xs : List Place) → xs ≡ xs ++ []
  nothing_more [] = refl
  nothing_more (x ∷ xs) = ap (λ l. x ∷ l) (nothing_more xs)

  mutual
    stmt_is : (loops : List Text) (s : Stmt) → in_stmt faults loops s ≡ all (steps loops s)
    stmt_is loops (Assign at left right) = nothing_more _
    stmt_is loops (Call at name args forward) = nothing_more _
    stmt_is loops (If at arms other) = two (steps_in_arms loops arms) (steps_in_otherwise loops other) _ _ (arms_are loops arms) (otherwise_is loops other)
    stmt_is loops (Select at on cases other) =
        ap (λ l. faults loops (Chooses on (ranges_of cases)) ++ l) (two (steps_in_cases loops cases) (steps_in_otherwise loops other) _ _ (cases_are loops cases) (otherwise_is loops other))
    stmt_is loops (Do at head body mark) = ap (λ l. faults loops (Repeats head mark) ++ l) (stmts_are (head.variable ∷ loops) body)
    stmt_is loops (Block at mark body) = stmts_are loops body
    stmt_is loops (Piece body) = stmts_are loops body
    stmt_is loops (Exit at) = refl
    stmt_is loops (Cycle at) = refl
    stmt_is loops (Return at) = refl

    pub stmts_are : (loops : List Text) (ss : Stmts) → in_stmts faults loops ss ≡ all (steps_in loops ss)
    stmts_are loops Done = refl
    stmts_are loops (Then s rest) = two (steps loops s) (steps_in loops rest) _ _ (stmt_is loops s) (stmts_are loops rest)

    arms_are : (loops : List Text) (arms : Arms) → in_arms faults loops arms ≡ all (steps_in_arms loops arms)
    arms_are loops No_arm = refl
    arms_are loops (Arm test body rest) = ap (λ l. faults loops (Tests test) ++ l) (two (steps_in loops body) (steps_in_arms loops rest) _ _ (stmts_are loops body) (arms_are loops rest))

    cases_are : (loops : List Text) (cases : Cases) → in_cases faults loops cases ≡ all (steps_in_cases loops cases)
    cases_are loops No_case = refl
    cases_are loops (Case ranges body rest) = two (steps_in loops body) (steps_in_cases loops rest) _ _ (stmts_are loops body) (cases_are loops rest)

    otherwise_is : (loops : List Text) (other : Otherwise) → in_otherwise faults loops other ≡ all (steps_in_otherwise loops other)
    otherwise_is loops Nothing_else = refl
    otherwise_is loops (Else body) = stmts_are loops body

-- ---- the set of variables

any_by : (x : Text) (xs : List Text) → list_any (bytes_eq x) xs ≡ is_listed xs x
any_by x [] = refl
any_by x (y ∷ ys) = λ i. nat_list_eq_equiv.symm x y i || any_by x ys i

pub has_listed : (xs : List Text) (x : Text) → has (inserted [] xs) x ≡ is_listed xs x
has_listed xs x = has_inserted [] xs x ∙ any_by x xs

-- ---- passed names

written_of : (entity : Text → Entity) (list : List Site) → flat_map (λ a. name_of_actual a.expr) (filter is_written (flat_map (actuals entity) list)) ≡ written_at_all entity list
written_of entity [] = refl
written_of entity (s ∷ rest) =
    ap (flat_map (λ (a : Actual). name_of_actual a.expr)) (filter-append is_written (actuals entity s) (flat_map (actuals entity) rest))
    ∙ flat_map-append (λ (a : Actual). name_of_actual a.expr) (filter is_written (actuals entity s)) (filter is_written (flat_map (actuals entity) rest))
    ∙ ap (λ l. written_at entity s ++ l) (written_of entity rest)

passed_are : (entity : Text → Entity) (step : Step) → flat_map (λ a. name_of_actual a.expr) (filter is_written (flat_map (actuals entity) (sites entity step))) ≡ passed_names entity step
passed_are entity step =
    written_of entity (sites entity step)
    ∙ flat_map-append (written_at entity) (call_site step) (filter (is_function_site entity) (flat_map reference (parts_read step)))

-- ---- units

module _ (entity : Text → Entity) (u : Unit) (variables : List Text) (are : variables ≡ inserted [] (loop_variables u)) where
  known : (x : Text) → has variables x ≡ is_listed (loop_variables u) x
  known x = ap (λ l. has l x) are ∙ has_listed (loop_variables u) x

  step_is : (t : Stands) → step_faults entity u variables t.loops t.step ≡ loop_faults_in_step entity u t
  unfolding step_faults
  step_is t = λ i.
      places_where (λ n. not (is_local_integer u n.name)) (loop_variable t.step)
      ++ (places_where (λ n. known n.name i && not (is_listed t.loops n.name)) (names_in t.step)
      ++ (places_where (λ n. is_listed t.loops n.name) (flat_map name_in (left_of t.step))
      ++ (places_where (λ n. is_listed t.loops n.name) (sym (passed_are entity t.step) i) ++ places_where (λ n. is_listed t.loops n.name) (loop_variable t.step))))

  and_true : (b : Bool) → (b && true) ≡ b
  and_true true = refl
  and_true false = refl

  bounds_are : places_in_bounds variables u.decls ≡ named_in_bounds u
  bounds_are = ap (λ p. places_where p (flat_map name_in (flat_map parts (bounds_in u.decls)))) (λ i n. (and_true (has variables n.name) ∙ known n.name) i)

  pub unit_is : in_stmts (step_faults entity u variables) [] u.body ++ places_in_bounds variables u.decls ≡ loop_faults_in_unit entity u
  unit_is = (λ i. stmts_are (step_faults entity u variables) [] u.body i ++ bounds_are i) ∙ ap (λ g. flat_map g (steps_of u) ++ named_in_bounds u) (λ i t. step_is t i)

-- the variables of the steps, without the DOs around them
pub variables_are : (u : Unit) (list : List Step) → list ≡ map (λ s. s.step) (steps_of u) → map (λ n. n.name) (flat_map loop_variable list) ≡ loop_variables u
variables_are u list e = ap (map (λ (n : Named). n.name)) (ap (flat_map loop_variable) e ∙ flat_map-map loop_variable (λ (s : Stands). s.step) (steps_of u))

-- one more unit of a list
pub next_unit : (F : Unit → List Place) (units : List tree_unit.Unit) (i : ℕ) (u : tree_unit.Unit) → i < length units → u ≡ get_or units i u → (whole old new : List Place)
    → old ++ flat_map F (map placed_unit (drop i units)) ≡ whole → new ≡ old ++ F (placed_unit u) → new ++ flat_map F (map placed_unit (drop (i + 1) units)) ≡ whole
next_unit F units i u within is whole old new before step =
    let at : drop i units ≡ u ∷ drop (i + 1) units = rw (add-one, drop-cons units i u) (ap (λ x. x ∷ drop (suc i) units) (sym is)) in
    let rest = flat_map F (map placed_unit (drop (i + 1) units)) in
    ap (λ l. l ++ rest) step ∙ append_assoc old (F (placed_unit u)) rest ∙ ap (λ l. old ++ flat_map F (map placed_unit l)) (sym at) ∙ before
