-- How the variable of a DO may be used. Each clause lists the places at which it holds.
use Rattle.std.specs.Prelude.{List, [], ◌∷◌, ◌++◌, map, Bool, true, false, ◌&&◌, not, is_none, flat_map}
use Rattle.std.specs.List.{filter, list_any}
use Rattle.std.specs.Str.{bytes_eq}
use Rattle.fort_arith.specs.Range.{is_whole}
use Rattle.fort_tree.specs.declared.place.Place.{Place}
use Rattle.claw_meaning.specs.Syntax.{Text}
use Rattle.claw_meaning.specs.Scope.{Entity}
use Rattle.claw_meaning.specs.Units.{is_listed}
use Rattle.sound_programs.specs.Placed.{Decl, Dimension, Unit, Program, bare_program}
use Rattle.sound_programs.specs.Scopes.{Of_unit, entity_in, is_dummy}
use Rattle.sound_programs.specs.Walks.{Stands, steps_of, parts, left_of, name_in, names_in, loop_variable, bounds_in, sites, actuals, is_written, name_of_actual}
use Rattle.sound_programs.specs.NameFaults.{places_where}

abbrev pub has_no_dimensions : List Dimension → Bool
has_no_dimensions [] = true
has_no_dimensions (d ∷ ds) = false

-- a declaration of an INTEGER scalar variable
abbrev pub declares_integer_scalar : Text → Decl → Bool
declares_integer_scalar x d = bytes_eq d.name x && (is_whole d.kind && (has_no_dimensions d.shape && is_none d.value))

-- A local is declared in the unit and is no dummy. A function's result is a local.
abbrev pub is_local_integer : Unit → Text → Bool
is_local_integer u x = not (is_dummy (Of_unit u) x) && list_any (declares_integer_scalar x) u.decls

-- the variables of the unit's DOs, in whichever scope they are declared
abbrev pub loop_variables : Unit → List Text
loop_variables u = map (λ n. n.name) (flat_map (λ s. loop_variable s.step) (steps_of u))

-- a DO variable that isn't a local INTEGER scalar
abbrev pub no_local_integer : Unit → Stands → List Place
no_local_integer u s = places_where (λ n. not (is_local_integer u n.name)) (loop_variable s.step)

-- A DO variable that is named in a statement outside the bodies of its loops, before its DO too. The head of its own loop is
-- outside the body. Its own place in a head isn't a naming, and private lists, headers and directive lines are set aside.
abbrev pub named_outside : Unit → Stands → List Place
named_outside u s = places_where (λ n. is_listed (loop_variables u) n.name && not (is_listed s.loops n.name)) (names_in s.step)

-- a DO variable that is named in a bound of a declaration
abbrev pub named_in_bounds : Unit → List Place
named_in_bounds u = places_where (λ n. is_listed (loop_variables u) n.name) (flat_map name_in (flat_map parts (bounds_in u.decls)))

-- a DO variable that is assigned in its loop
abbrev pub assigned_inside : Stands → List Place
assigned_inside s = places_where (λ n. is_listed s.loops n.name) (flat_map name_in (left_of s.step))

-- a DO variable that is passed to OUT or INOUT in its loop
abbrev pub passed_inside : (Text → Entity) → Stands → List Place
passed_inside entity s =
    places_where (λ n. is_listed s.loops n.name)
    (flat_map (λ a. name_of_actual a.expr) (filter is_written (flat_map (actuals entity) (sites entity s.step))))

-- a second DO in the loop with its variable
abbrev pub used_again_inside : Stands → List Place
used_again_inside s = places_where (λ n. is_listed s.loops n.name) (loop_variable s.step)

abbrev pub loop_faults_in_step : (Text → Entity) → Unit → Stands → List Place
loop_faults_in_step entity u s =
    no_local_integer u s ++ (named_outside u s ++ (assigned_inside s ++ (passed_inside entity s ++ used_again_inside s)))

abbrev pub loop_faults_in_unit : (Text → Entity) → Unit → List Place
loop_faults_in_unit entity u = flat_map (loop_faults_in_step entity u) (steps_of u) ++ named_in_bounds u

-- E39: a DO variable isn't a local INTEGER scalar, or is named outside the bodies of its loops, or is assigned, passed to OUT
-- or INOUT or used by a second DO in its loop.
abbrev pub loop_faults : Program → List Place
loop_faults p = flat_map (λ u. loop_faults_in_unit (entity_in (bare_program p) (Of_unit u)) u) p.units
