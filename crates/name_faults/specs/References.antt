-- What a reference with parentheses that is read may not name.
use Rattle.std.specs.Prelude.{Bool, ◌||◌, not, is_some, List}
use Rattle.fort_tree.specs.Intrinsic.{intrinsic_named}
use Rattle.fort_tree.specs.declared.place.Place.{Place}
use Rattle.fort_tree.specs.declared.unit.File.{File}
use Rattle.fort_tree.specs.declared.unit.Unit as tree_unit
use Rattle.claw_meaning.specs.Scope.{Entity}
use Rattle.claw_meaning.specs.Syntax.{Text}
use Rattle.sound_programs.specs.NameFaults.{in_each_step, unit_faults_in_step}
use Rattle.sound_programs.specs.Placed.{bare_program}
use Rattle.sound_programs.specs.Placing.{placed, placed_unit}
use Rattle.sound_programs.specs.Scopes.{Of_unit, entity_in, is_array, is_function}

-- no array, no function and no intrinsic
abbrev pub is_nothing : (Text → Entity) → Text → Bool
is_nothing entity x = not (is_some (intrinsic_named x) || (is_array (entity x) || is_function (entity x)))

-- names in a unit of the file that are called or referred to and are no unit
abbrev pub faults_in_a_unit : File → tree_unit.Unit → List Place
faults_in_a_unit f u = in_each_step (unit_faults_in_step (entity_in (bare_program (placed f)) (Of_unit (placed_unit u)))) (placed_unit u)
