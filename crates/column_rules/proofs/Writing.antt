-- The first writes of units tell which units write module variables.
use Rattle.std.proofs.Common.{◌≡◌, ℕ, List, Option, None, Some}
use Rattle.std.specs.Prelude.{slice_get, slice_index_or, is_none}
use Rattle.fort_tree.specs.declared.unit.File.{File}
use Rattle.fort_tree.specs.declared.unit.Unit as tree
use Rattle.sound_programs.specs.Placing.{placed, placed_unit}
use Rattle.fort_names.specs.declared.least.At.{At}
use Rattle.argument_faults.specs.Reaching.{AreWrittenFrom}
use Rattle.column_rules.specs.Rules as rules
use Rattle.column_rules.specs.OnTrees.{writes_no_module}
use Rattle.column_rules.specs.Writing.{AreWriting}
use Rattle.column_rules.proofs.Writes.{none_or_empty}

pub are_writing : (file : File) (writes : List (Option At)) → AreWrittenFrom file writes → AreWriting file writes
unfolding writes_no_module rules.writes_no_module
are_writing file writes h = record { same_length = h.same_length; each = λ n u there. one n u there }
  where
    one : (n : ℕ) (u : tree.Unit) → slice_get file.units n ≡ Some u → is_none (slice_index_or writes n None) ≡ writes_no_module file u
    one n u there = none_or_empty (rules.module_writes_from (placed file) (placed_unit u)) (slice_index_or writes n None) (h.written n u there).same
