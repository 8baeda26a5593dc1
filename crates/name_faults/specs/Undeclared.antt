-- Names that are used as variables or constants, and the places in a unit where they aren't visible as such.
use Rattle.std.specs.Prelude.{ℕ, ◌+◌, List, [], ◌∷◌, ◌++◌, flat_map}
use Rattle.fort_tree.specs.declared.place.Place.{Place}
use Rattle.fort_tree.specs.declared.stmt.Named.{Named}
use Rattle.fort_tree.specs.declared.unit.File.{File}
use Rattle.fort_tree.specs.declared.unit.Module as tree_module
use Rattle.fort_tree.specs.declared.unit.Unit as tree_unit
use Rattle.claw_meaning.specs.Scope.{Entity}
use Rattle.claw_meaning.specs.Syntax.{Text}
use Rattle.sound_programs.specs.NameFaults.{in_each_step, undeclared_dummies, undeclared_in_bounds, undeclared_in_scope, undeclared_in_step, undeclared_private}
use Rattle.sound_programs.specs.Placed.{Unit, bare_program}
use Rattle.sound_programs.specs.Placing.{placed, placed_module, placed_unit}
use Rattle.sound_programs.specs.Scopes.{Of_unit, Of_module}
use Rattle.sound_programs.specs.Walks.{Step, bare_name, left_of, loop_variable, name_in, parts_read}

-- the names that a step uses so
abbrev pub values_in : Step → List Named
values_in step = flat_map bare_name (parts_read step) ++ (flat_map name_in (left_of step) ++ loop_variable step)

-- where the names of the unit's scope are these
abbrev pub undeclared_in_unit : (Text → Entity) → Unit → List Place
undeclared_in_unit entity u =
    in_each_step (undeclared_in_step entity) u
    ++ (undeclared_in_bounds entity u.decls ++ (undeclared_dummies u ++ in_each_step (undeclared_private entity) u))

-- the places of each module, by its number
abbrev pub numbered : (ℕ → tree_module.Module → List Place) → ℕ → List tree_module.Module → List Place
numbered places n [] = []
numbered places n (m ∷ ms) = places n m ++ numbered places (n + 1) ms

abbrev pub undeclared_in_a_module : File → ℕ → tree_module.Module → List Place
undeclared_in_a_module f n m = undeclared_in_scope (bare_program (placed f)) (Of_module n (placed_module m))

abbrev pub undeclared_in_a_unit : File → tree_unit.Unit → List Place
undeclared_in_a_unit f u = undeclared_in_scope (bare_program (placed f)) (Of_unit (placed_unit u))
