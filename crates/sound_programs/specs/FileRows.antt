-- The small programs as files: the sound one is Sound, and for each fault its predicate holds of the smallest file that has it,
-- at its place.
use Rattle.fort_tree.specs.declared.choice.Mode.TheVariants.{Source}
use Rattle.fort_tree.specs.declared.fault.Code.TheVariants.{E30, E36}
use Rattle.sound_programs.specs.Faults.{UndeclaredName, DeclaredTwice, ModuleFault, UnitFault, LoopVariableFault, IntentFault, Recursion, UnitsOrDepth, KindFault, RankFault, ArgumentCount, Alias, WriteFault, FirstFault}
use Rattle.sound_programs.specs.Writing.{file_of}
use Rattle.sound_programs.specs.Rows.{fault}
use Rattle.sound_programs.specs.SmallPrograms.{place, many_units}
use Rattle.sound_programs.specs.NameRows.{undeclared_variable, two_declarations, uses_in_circle, no_subroutine, named_after_loop, dummy_without_intent}
use Rattle.sound_programs.specs.CallRows.{calls_in_circle, three_phases, two_phases}
use Rattle.sound_programs.specs.KindRows.{integer_test}
use Rattle.sound_programs.specs.RankRows.{ranks_differ, rank_4}
use Rattle.sound_programs.specs.ArgumentRows.{argument_left_out, one_variable_twice, in_dummy_assigned}

pub record FaultyFiles : Type 0 where
  pub undeclared : UndeclaredName (file_of undeclared_variable) (place 3 7)
  pub twice : DeclaredTwice (file_of two_declarations) (place 2 32)
  pub circle : ModuleFault (file_of uses_in_circle) (place 2 7)
  pub no_unit : UnitFault (file_of no_subroutine) (place 2 8)
  pub loop : LoopVariableFault (file_of named_after_loop) (place 7 7)
  pub no_intent : IntentFault (file_of dummy_without_intent) (place 2 14)
  pub recursion : Recursion (file_of calls_in_circle) (place 4 10)
  pub too_many : UnitsOrDepth (file_of many_units) (place 2001 12)
  pub kind : KindFault (file_of integer_test) (place 3 7)
  pub rank : RankFault Source (file_of ranks_differ) (place 4 9)
  pub rank_limit : RankFault Source (file_of rank_4) (place 2 29)
  pub count : ArgumentCount (file_of argument_left_out) (place 3 8)
  pub alias : Alias (file_of one_variable_twice) (place 3 13)
  pub write : WriteFault (file_of in_dummy_assigned) (place 3 3)

-- a fault of names comes before one of calls, and that before one of kinds, wherever they stand; at one place the smaller code
pub record FirstFaults : Type 0 where
  pub names_first : FirstFault Source (file_of three_phases) (fault E30 5 7)
  pub calls_first : FirstFault Source (file_of two_phases) (fault E36 4 8)
