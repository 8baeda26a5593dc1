-- The rules on trees are those on placed programs.
use Rattle.std.proofs.Common.{◌≡◌, List, [], ◌∷◌, ◌++◌, map, refl, sym, ap, ◌∙◌, Option}
use Rattle.std.specs.Prelude.{flat_map, not, ◌||◌}
use mathlib.Core.Path.{ap₂}
use Rattle.fort_tree.specs.declared.place.Place.{Place}
use Rattle.fort_tree.specs.declared.unit.File.{File}
use Rattle.fort_tree.specs.declared.unit.Module as tree_module
use Rattle.fort_tree.specs.declared.unit.Unit as tree
use Rattle.claw_meaning.specs.Syntax as plain
use Rattle.claw_meaning.specs.Syntax.{Text}
use Rattle.claw_meaning.specs.Units.{is_column_unit}
use Rattle.sound_programs.specs.Placing.{placed, placed_unit, placed_module}
use Rattle.sound_programs.proofs.BareTrees.{unit_bare}
use Rattle.scalar_units.specs.Unbuilt.{unless, noted}
use Rattle.column_rules.specs.Rules as rules
use Rattle.column_rules.specs.OnTrees as trees
use Rattle.column_rules.specs.OnTrees.{of_unit, keeps_rules, writes_no_module}

names_same : (ms : List tree_module.Module) → map (λ m. m.name) (map placed_module ms) ≡ map (λ m. m.name) ms
names_same [] = refl
names_same (m ∷ ms) = ap (λ (l : List Text). m.name ∷ l) (names_same ms)

-- where a column unit with these names of modules breaks a rule
abbrev of_plain : File → tree.Unit → plain.Unit → List Text → List Place
of_plain file u v modules =
    unless (not (is_column_unit v) || rules.keeps_all v (rules.writes_no_module (placed file) (placed_unit u)) (trees.entity_from file u) modules (rules.names_in_bounds (placed_unit u))) u.at

unit_same : (file : File) (u : tree.Unit) → rules.of_unit (placed file) (placed_unit u) ≡ of_unit file u
unfolding of_unit keeps_rules writes_no_module
unit_same file u = ap₂ (of_plain file u) (unit_bare u) (names_same file.modules)

units_same : (file : File) (us : List tree.Unit) → flat_map (rules.of_unit (placed file)) (map placed_unit us) ≡ flat_map (of_unit file) us
units_same file [] = refl
units_same file (u ∷ us) = ap₂ (λ (x y : List Place). x ++ y) (unit_same file u) (units_same file us)

pub noted_is_broken : (file : File) (least first : Option Place) → first ≡ noted (trees.broken file) least → first ≡ noted (rules.broken file) least
noted_is_broken file least first e = e ∙ ap (λ (places : List Place). noted places least) (sym (units_same file file.units))
