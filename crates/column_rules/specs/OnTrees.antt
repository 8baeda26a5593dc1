-- The rules on the trees of a file, of which its placed program is made.
use Rattle.std.specs.Prelude.{Bool, not, ◌||◌, List, map, flat_map}
use Rattle.fort_tree.specs.declared.place.Place.{Place}
use Rattle.fort_tree.specs.declared.unit.File.{File}
use Rattle.fort_tree.specs.declared.unit.Unit as tree
use Rattle.claw_meaning.specs.Syntax.{Text}
use Rattle.claw_meaning.specs.Scope.{Entity}
use Rattle.claw_meaning.specs.Plain.{plain_unit}
use Rattle.claw_meaning.specs.Units.{is_column_unit}
use Rattle.sound_programs.specs.Placed.{bare_program}
use Rattle.sound_programs.specs.Placing.{placed, placed_unit}
use Rattle.sound_programs.specs.Scopes.{Of_unit, entity_in}
use Rattle.scalar_units.specs.Unbuilt.{unless}
use Rattle.column_rules.specs.Rules as rules

abbrev pub entity_from : File → tree.Unit → Text → Entity
entity_from file u = entity_in (bare_program (placed file)) (Of_unit (placed_unit u))

abbrev pub module_names : File → List Text
module_names file = map (λ m. m.name) file.modules

unfoldable pub writes_no_module : File → tree.Unit → Bool
writes_no_module file u = rules.writes_no_module (placed file) (placed_unit u)

abbrev pub has_shared_bounds : tree.Unit → Bool
has_shared_bounds u = rules.are_shared (plain_unit u) (rules.names_in_bounds (placed_unit u))

unfoldable pub keeps_rules : File → tree.Unit → Bool
keeps_rules file u =
    rules.keeps_all (plain_unit u) (writes_no_module file u) (entity_from file u) (module_names file) (rules.names_in_bounds (placed_unit u))

unfoldable pub of_unit : File → tree.Unit → List Place
of_unit file u = unless (not (is_column_unit (plain_unit u)) || keeps_rules file u) u.at

abbrev pub broken : File → List Place
broken file = flat_map (of_unit file) file.units
