-- What names mean where a program is seen from.
use Rattle.std.specs.Prelude.{ℕ}
use Rattle.fort_tree.specs.declared.unit.File.{File}
use Rattle.fort_tree.specs.declared.unit.Module as tree_module
use Rattle.fort_tree.specs.declared.unit.Unit as tree_unit
use Rattle.claw_meaning.specs.Scope.{Entity as Meant}
use Rattle.claw_meaning.specs.Syntax.{Text}
use Rattle.sound_programs.specs.Placed.{bare_program}
use Rattle.sound_programs.specs.Placing.{placed, placed_unit, placed_module}
use Rattle.sound_programs.specs.Scopes.{Scope, Of_unit, Of_module, entity_in}

-- a unit, or the module of this number
pub data From : Type 0 where
  From_unit : tree_unit.Unit → From
  From_module : ℕ → tree_module.Module → From

-- a file, and from where it is seen
pub record Seeing : Type 0 where
  pub file : File
  pub from : From

abbrev pub file_of : Seeing → File
file_of s = s.file

-- the scope of the program that it is
abbrev pub scope_of : From → Scope
scope_of (From_unit u) = Of_unit (placed_unit u)
scope_of (From_module n m) = Of_module n (placed_module m)

-- the entity of the program that a name is there
unfoldable pub means : Seeing → Text → Meant
means s = entity_in (bare_program (placed s.file)) (scope_of s.from)
