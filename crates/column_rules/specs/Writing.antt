-- Which units write module variables.
use Rattle.std.specs.Prelude.{◌≡◌, ℕ, List, length, Option, None, Some, is_none, slice_get, slice_index_or}
use Rattle.fort_tree.specs.declared.unit.File.{File}
use Rattle.fort_tree.specs.declared.unit.Unit as tree
use Rattle.fort_names.specs.declared.least.At.{At}
use Rattle.column_rules.specs.OnTrees.{writes_no_module}

-- there is a write for just those units of the file that write a module variable, or reach a unit that does
pub record AreWriting (file : File) (writes : List (Option At)) : Type 0 where
  pub same_length : length writes ≡ length file.units
  pub each : (n : ℕ) (u : tree.Unit) → slice_get file.units n ≡ Some u → is_none (slice_index_or writes n None) ≡ writes_no_module file u
