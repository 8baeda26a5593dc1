-- Names that are used and not declared, and names that are called or referred to and are no unit. Each clause lists the
-- places at which it holds.
use Rattle.std.specs.Prelude.{List, ◌++◌, map, Bool, ◌&&◌, ◌||◌, not, is_some, flat_map}
use Rattle.std.specs.List.{filter}
use Rattle.std.specs.Option.{option_to_list}
use Rattle.fort_tree.specs.declared.place.Place.{Place}
use Rattle.fort_tree.specs.declared.stmt.Named.{Named}
use Rattle.fort_tree.specs.Intrinsic.{intrinsic_named}
use Rattle.claw_meaning.specs.Syntax as plain
use Rattle.claw_meaning.specs.Syntax.{Text}
use Rattle.claw_meaning.specs.Scope.{Entity}
use Rattle.claw_meaning.specs.Units.{is_listed}
use Rattle.sound_programs.specs.Placed.{Decl, Unit, Program, bare_program}
use Rattle.sound_programs.specs.Scopes.{Scope, Of_unit, Of_module, scopes, entity_in, is_variable, is_variable_or_constant, is_array, is_function, is_subroutine}
use Rattle.sound_programs.specs.Walks.{Step, steps_of, parts, parts_read, left_of, name_in, bare_name, name_before_parenthesis, call_name, loop_variable, private_names, bounds_in}

-- the places of the names that pass the test
abbrev pub places_where : (Named → Bool) → List Named → List Place
places_where test names = map (λ n. n.at) (filter test names)

abbrev pub in_each_step : (Step → List Place) → Unit → List Place
in_each_step faults u = flat_map (λ s. faults s.step) (steps_of u)

module _ (entity : Text → Entity) where
  abbrev pub is_no_value : Named → Bool
  is_no_value n = not (is_variable_or_constant (entity n.name))

  -- A name without parentheses in what a step reads is used as a variable or constant; so is the name of a left side, with
  -- parentheses or without, be it that of a function or of an intrinsic; and so is the variable of a DO. The name that SIZE
  -- asks about is one too. Names in directive lines aren't used so.
  abbrev pub undeclared_in_step : Step → List Place
  undeclared_in_step step =
      places_where is_no_value (flat_map bare_name (parts_read step))
      ++ (places_where is_no_value (flat_map name_in (left_of step)) ++ places_where is_no_value (loop_variable step))

  -- a name in a bound of a declaration
  abbrev pub undeclared_in_bounds : List Decl → List Place
  undeclared_in_bounds decls = places_where is_no_value (flat_map name_in (flat_map parts (bounds_in decls)))

  -- a name in a mark's private list, at the mark, where it is no variable
  abbrev pub undeclared_private : Step → List Place
  undeclared_private step = places_where (λ n. not (is_variable (entity n.name))) (private_names step)

-- A dummy or a result that the unit doesn't declare. A type before FUNCTION declares the result.
abbrev pub undeclared_dummies : Unit → List Place
undeclared_dummies u = places_where (λ n. not (is_listed (map (λ d. d.name) u.decls) n.name)) (u.dummies ++ option_to_list u.result)

abbrev pub undeclared_in_scope : plain.Program → Scope → List Place
undeclared_in_scope q (Of_unit u) =
    let entity = entity_in q (Of_unit u) in
    in_each_step (undeclared_in_step entity) u
    ++ (undeclared_in_bounds entity u.decls ++ (undeclared_dummies u ++ in_each_step (undeclared_private entity) u))
undeclared_in_scope q (Of_module n m) = undeclared_in_bounds (entity_in q (Of_module n m)) m.decls

-- E30: a name used as a variable or constant isn't visible as one; a dummy or result isn't declared; a mark's private list
-- has a name that isn't visible as a variable.
abbrev pub undeclared_names : Program → List Place
undeclared_names p = flat_map (undeclared_in_scope (bare_program p)) (scopes p)

module _ (entity : Text → Entity) where
  -- a CALL names no SUBROUTINE
  abbrev pub calls_no_subroutine : Step → List Place
  calls_no_subroutine step = places_where (λ n. not (is_subroutine (entity n.name))) (call_name step)

  -- A reference with parentheses that is read names no array, function or intrinsic: so a scalar, a PARAMETER, a SUBROUTINE
  -- or nothing.
  abbrev pub refers_to_nothing : Step → List Place
  refers_to_nothing step =
      places_where (λ n. not (is_some (intrinsic_named n.name) || (is_array (entity n.name) || is_function (entity n.name))))
      (flat_map name_before_parenthesis (parts_read step))

  -- A left side with parentheses names a scalar or a PARAMETER. One that names no variable or constant is an undeclared name.
  abbrev pub assigns_to_no_array : Step → List Place
  assigns_to_no_array step =
      places_where (λ n. is_variable_or_constant (entity n.name) && not (is_array (entity n.name)))
      (flat_map name_before_parenthesis (left_of step))

  abbrev pub unit_faults_in_step : Step → List Place
  unit_faults_in_step step = calls_no_subroutine step ++ (refers_to_nothing step ++ assigns_to_no_array step)

-- E35: a CALL names no SUBROUTINE, or a reference with parentheses names no array, function or intrinsic, or names a
-- SUBROUTINE.
abbrev pub unit_faults : Program → List Place
unit_faults p = flat_map (λ u. in_each_step (unit_faults_in_step (entity_in (bare_program p) (Of_unit u))) u) p.units
