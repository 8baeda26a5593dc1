-- The number of arguments, variables that a call would reach by two ways, and writes. Each clause lists the places at which
-- it holds.
use Rattle.std.specs.Prelude.{ℕ, List, [], ◌∷◌, ◌++◌, map, length, Option, Some, None, Bool, true, false, ◌&&◌, ◌||◌, not, is_some, is_none, nat_eq, nat_le, flat_map, if◌then◌else◌}
use Rattle.std.specs.List.{filter, list_any}
use Rattle.std.specs.Option.{option_to_list}
use Rattle.std.specs.Str.{bytes_eq}
use Rattle.fort_arith.specs.declared.op.Intrinsic.{Intrinsic}
use Rattle.fort_arith.specs.declared.op.Intrinsic.TheVariants.{Abs, Int, Max, Min, Mod, Modulo, Sign, Size, Sum}
use Rattle.fort_tree.specs.declared.place.Place.{Place}
use Rattle.fort_tree.specs.declared.stmt.Named.{Named}
use Rattle.fort_tree.specs.Intrinsic.{intrinsic_named}
use Rattle.claw_meaning.specs.Syntax as plain
use Rattle.claw_meaning.specs.Syntax.{Text}
use Rattle.claw_meaning.specs.Scope.{Entity, Unknown, Variable, Constant, Procedure}
use Rattle.claw_meaning.specs.Units.{is_intent_in}
use Rattle.sound_programs.specs.Places.{where_place}
use Rattle.sound_programs.specs.Links.{leads}
use Rattle.sound_programs.specs.Placed.{Expr, Name, Reference, Unit, Program, first, bare_program}
use Rattle.sound_programs.specs.Scopes.{Of_unit, entity_in, is_variable, is_in_dummy, is_dummy, module_variable, unit_of, is_written_intent}
use Rattle.sound_programs.specs.Walks.{Step, steps_of, parts_of, left_of, name_in, names_in, private_names, loop_variable, reference, count_of, Site, sites, Actual, actuals, is_written}
use Rattle.sound_programs.specs.CallFaults.{calls, sites_of}
use Rattle.sound_programs.specs.NameFaults.{places_where}

-- The number of arguments

-- ABS and SUM take one, INT and SIZE one or two, MAX and MIN two or more, MOD, MODULO and SIGN two
abbrev pub takes : Intrinsic → ℕ → Bool
takes Abs n = nat_eq n 1
takes Sum n = nat_eq n 1
takes Int n = nat_eq n 1 || nat_eq n 2
takes Size n = nat_eq n 1 || nat_eq n 2
takes Max n = nat_le 2 n
takes Min n = nat_le 2 n
takes Mod n = nat_eq n 2
takes Modulo n = nat_eq n 2
takes Sign n = nat_eq n 2

abbrev pub unit_takes : Option plain.Unit → ℕ → Bool
unit_takes None n = true
unit_takes (Some v) n = nat_eq n (length v.dummies)

abbrev pub intrinsic_takes : Option Intrinsic → ℕ → Bool
intrinsic_takes None n = true
intrinsic_takes (Some which) n = takes which n

module _ (entity : Text → Entity) where
  -- a CALL or a reference to a function with another number of arguments than it has dummies
  abbrev pub unit_count_differs : Step → List Place
  unit_count_differs step =
      flat_map (λ s. where_place (not (unit_takes (unit_of (entity s.name.name)) (count_of s.args))) s.name.at) (sites entity step)

  -- a reference to an intrinsic with a number of arguments that it doesn't take
  abbrev pub intrinsic_count_differs : Step → List Place
  intrinsic_count_differs step =
      flat_map (λ s. where_place (not (intrinsic_takes (intrinsic_named s.name.name) (count_of s.args))) s.name.at)
      (flat_map reference (parts_of step))

  abbrev pub counts_differ : Step → List Place
  counts_differ step = unit_count_differs step ++ intrinsic_count_differs step

-- E37: the number of arguments differs.
abbrev pub count_faults : Program → List Place
count_faults p = flat_map (λ u. flat_map (λ s. counts_differ (entity_in (bare_program p) (Of_unit u)) s.step) (steps_of u)) p.units

-- Alias

-- A bare name, an element and a section are references to their variable, so all elements of an array are one variable. What
-- stands in parentheses, or is no name, is none; a PARAMETER is no variable.
abbrev pub variable_of : (Text → Entity) → Actual → List Named
variable_of entity a = filter (λ n. is_variable (entity n.name)) (flat_map name_in (option_to_list a.expr))

-- they refer to one variable: in one unit that is one name
abbrev pub same_variable : (Text → Entity) → Actual → Actual → Bool
same_variable entity a b = list_any (λ m. list_any (λ n. bytes_eq m.name n.name) (variable_of entity b)) (variable_of entity a)

-- two actuals that refer to one variable, one of them for OUT or INOUT: at the later
abbrev pub share : (Text → Entity) → Actual → Actual → List Place
share entity a b = where_place (same_variable entity a b && (is_written a || is_written b)) b.at

abbrev pub shared_actuals : (Text → Entity) → List Actual → List Place
shared_actuals entity [] = []
shared_actuals entity (a ∷ rest) = flat_map (share entity a) rest ++ shared_actuals entity rest

-- the names of a unit: anywhere in its statements, inside SIZE too, and in private lists; not in USE lines and directives
abbrev pub names_of_step : Step → List Named
names_of_step step = names_in step ++ (loop_variable step ++ private_names step)

abbrev pub same_pair : Text × Text → Text × Text → Bool
same_pair a b = bytes_eq a.0 b.0 && bytes_eq a.1 b.1

-- the module variables that names are
abbrev pub module_variables : (Text → Entity) → Text → List Named → List (Text × Text)
module_variables entity unit names = flat_map (λ n. option_to_list (module_variable unit n.name (entity n.name))) names

abbrev pub module_variables_of : plain.Program → Unit → List (Text × Text)
module_variables_of q u = module_variables (entity_in q (Of_unit u)) u.name (flat_map (λ s. names_of_step s.step) (steps_of u))

-- the unit, and the units that it reaches by references
abbrev pub reached_from : Program → Text → List Unit
reached_from p x = filter (λ u. leads (calls p) x u.name) p.units

-- a module variable that the called unit or one that it reaches names
abbrev pub is_named_by : Program → plain.Program → Text → Text × Text → Bool
is_named_by p q callee v = list_any (λ u. list_any (same_pair v) (module_variables_of q u)) (reached_from p callee)

-- an OUT or INOUT actual that refers to such a variable, its subscripts set aside
abbrev pub named_behind : Program → plain.Program → Unit → Text → Actual → List Place
named_behind p q u callee a =
    where_place (is_written a && list_any (is_named_by p q callee) (module_variables (entity_in q (Of_unit u)) u.name (flat_map name_in (option_to_list a.expr)))) a.at

abbrev pub behind_site : Program → plain.Program → Unit → Site → Option plain.Unit → List Place
behind_site p q u s None = []
behind_site p q u s (Some v) = flat_map (named_behind p q u v.name) (actuals (entity_in q (Of_unit u)) s)

abbrev pub alias_at_site : Program → plain.Program → Unit → Site → List Place
alias_at_site p q u s =
    let entity = entity_in q (Of_unit u) in
    shared_actuals entity (actuals entity s) ++ behind_site p q u s (unit_of (entity s.name.name))

-- E38: two actuals are references to one variable and one is for OUT or INOUT; or an OUT or INOUT actual is a reference to a
-- module variable that the called unit or one that it reaches names.
abbrev pub alias_faults : Program → List Place
alias_faults p =
    let q = bare_program p in
    flat_map (λ u. flat_map (alias_at_site p q u) (sites_of (entity_in q (Of_unit u)) u)) p.units

-- Writes

abbrev pub is_fixed : Entity → Bool
is_fixed Unknown = false
is_fixed (Variable home d) = is_intent_in d.intent
is_fixed (Constant d) = true
is_fixed (Procedure v) = false

-- an INTENT(IN) dummy or a PARAMETER that is assigned
abbrev pub assigns_fixed : (Text → Entity) → Step → List Place
assigns_fixed entity step = places_where (λ n. is_fixed (entity n.name)) (flat_map name_in (left_of step))

-- What may be passed to OUT or INOUT is a reference to a variable that isn't an INTENT(IN) dummy: so no PARAMETER, nothing in
-- parentheses, no function. A range by itself is a fault of rank alone.
abbrev pub may_be_written : Entity → Bool
may_be_written e = is_variable e && not (is_in_dummy e)

abbrev pub is_writable : (Text → Entity) → Expr → Bool
is_writable entity (Name x at) = may_be_written (entity x)
is_writable entity (Reference x subs at) = is_none (intrinsic_named x) && may_be_written (entity x)
is_writable entity other = false

abbrev pub passes_fixed : (Text → Entity) → Step → List Place
passes_fixed entity step =
    flat_map (λ a. flat_map (λ e. where_place (not (is_writable entity e)) (first e)) (option_to_list a.expr))
    (filter is_written (flat_map (actuals entity) (sites entity step)))

abbrev pub writes_fixed : (Text → Entity) → Step → List Place
writes_fixed entity step = assigns_fixed entity step ++ passes_fixed entity step

-- a function's dummy that isn't INTENT(IN), at its entity
abbrev pub function_dummies : Unit → List Place
function_dummies u =
    if is_some u.result then map (λ d. d.at) (filter (λ d. is_dummy (Of_unit u) d.name && is_written_intent d.intent) u.decls) else []

-- the names that a step writes: those assigned, and those of actuals for OUT or INOUT
abbrev pub names_written : (Text → Entity) → Step → List Named
names_written entity step =
    flat_map name_in (left_of step)
    ++ flat_map (λ a. flat_map name_in (option_to_list a.expr)) (filter is_written (flat_map (actuals entity) (sites entity step)))

-- where a unit writes a module variable
abbrev pub module_writes : plain.Program → Unit → List Place
module_writes q u =
    let entity = entity_in q (Of_unit u) in
    places_where (λ n. is_some (module_variable u.name n.name (entity n.name))) (flat_map (λ s. names_written entity s.step) (steps_of u))

-- a module variable that a function, or a unit that it reaches, writes: where it is written
abbrev pub function_writes : Program → plain.Program → Unit → List Place
function_writes p q u = if is_some u.result then flat_map (module_writes q) (reached_from p u.name) else []

abbrev pub write_faults_in_unit : Program → plain.Program → Unit → List Place
write_faults_in_unit p q u =
    flat_map (λ s. writes_fixed (entity_in q (Of_unit u)) s.step) (steps_of u) ++ (function_dummies u ++ function_writes p q u)

-- E3A: an INTENT(IN) dummy or PARAMETER is assigned or passed to OUT or INOUT; an actual for these is no variable; a function
-- has a dummy that isn't INTENT(IN), or it or what it reaches writes a module variable.
abbrev pub write_faults : Program → List Place
write_faults p = flat_map (write_faults_in_unit p (bare_program p)) p.units
