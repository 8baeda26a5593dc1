-- Programs without faults, with what their names are and the units to which each unit refers.
use Rattle.fort_tree.specs.declared.choice.Mode.{Mode}
use Rattle.fort_tree.specs.declared.unit.File.{File}
use Rattle.fort_names.specs.declared.symbols.Symbols.{Symbols}
use Rattle.fort_names.specs.Scoping.{AreSymbolsOf}
use Rattle.call_graph.specs.CallGraphs.{CallGraph, IsCallGraph}
use Rattle.sound_programs.specs.Sound.{Sound}

-- a program in its mode, what each name is in each of its scopes, and its calls
pub record Program : Type 0 where
  pub mode : Mode
  pub file : File
  pub symbols : Symbols
  pub graph : CallGraph

-- It is sound, and the two tables are its own.
pub record IsChecked (program : Program) : Type 0 where
  pub sound : Sound program.mode program.file
  pub symbols : AreSymbolsOf program.file program.symbols
  pub graph : IsCallGraph program.file program.graph
