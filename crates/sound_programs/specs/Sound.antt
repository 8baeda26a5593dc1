-- What a sound program is.
use Rattle.fort_tree.specs.declared.choice.Mode.{Mode}
use Rattle.fort_tree.specs.declared.place.Place.{Place}
use Rattle.fort_tree.specs.declared.unit.File.{File}
use Rattle.std.specs.Prelude.{List}
use Rattle.sound_programs.specs.Forms.{Form}
use Rattle.sound_programs.specs.Nesting.{Nests}
use Rattle.sound_programs.specs.Faults.{UndeclaredName, DeclaredTwice, ModuleFault, UnitFault, LoopVariableFault, IntentFault, Recursion, UnitsOrDepth, KindFault, RankFault, ArgumentCount, Alias, WriteFault}

-- at no place
abbrev pub Nowhere : (Place → Type 0) → Type 0
Nowhere Fault = (place : Place) → ¬ (Fault place)

-- some forms nest into the file
abbrev pub IsNested : Mode → File → Type 0
IsNested mode file = (forms : List Form) × Nests mode forms file

-- Some forms nest into the file, limits on tokens, nesting and depth set aside, and it has no fault of names, calls and kinds.
-- The mode says whether directives or marks may stand in it, and the limit on rank.
pub record Sound (mode : Mode) (file : File) : Type 0 where
  pub nested : IsNested mode file
  -- names
  pub each_name_is_declared : Nowhere (UndeclaredName file)
  pub none_is_declared_twice : Nowhere (DeclaredTwice file)
  pub uses_bring : Nowhere (ModuleFault file)
  pub calls_name_units : Nowhere (UnitFault file)
  pub loop_variables_are_their_loops' : Nowhere (LoopVariableFault file)
  pub dummies_have_intent : Nowhere (IntentFault file)
  -- calls
  pub calls_have_no_cycle : Nowhere (Recursion file)
  pub units_and_depth_are_in_their_limits : Nowhere (UnitsOrDepth file)
  -- kinds and ranks
  pub kinds_fit : Nowhere (KindFault file)
  pub ranks_fit : Nowhere (RankFault mode file)
  pub arguments_are_counted : Nowhere (ArgumentCount file)
  pub written_actuals_have_no_alias : Nowhere (Alias file)
  pub writes_are_allowed : Nowhere (WriteFault file)
