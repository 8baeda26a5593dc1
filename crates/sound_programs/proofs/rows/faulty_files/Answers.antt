use Rattle.std.proofs.Common.{refl}
use Rattle.fort_arith.specs.Range.{in_kind, least, greatest}
use Rattle.fort_tree.specs.declared.choice.Mode.TheVariants.{Source}
use Rattle.sound_programs.specs.Places.{At}
use Rattle.sound_programs.specs.NameFaults.{undeclared_names, unit_faults}
use Rattle.sound_programs.specs.DeclarationFaults.{declared_twice, module_faults, intent_faults}
use Rattle.sound_programs.specs.LoopFaults.{loop_faults}
use Rattle.sound_programs.specs.CallFaults.{recursions, size_faults}
use Rattle.sound_programs.specs.KindFaults.{kind_faults}
use Rattle.sound_programs.specs.RankFaults.{rank_faults}
use Rattle.sound_programs.specs.ArgumentFaults.{count_faults, alias_faults, write_faults}
use Rattle.sound_programs.specs.SmallPrograms.{place, many_units}
use Rattle.sound_programs.specs.NameRows.{undeclared_variable, two_declarations, uses_in_circle, no_subroutine, named_after_loop, dummy_without_intent}
use Rattle.sound_programs.specs.CallRows.{calls_in_circle}
use Rattle.sound_programs.specs.KindRows.{integer_test}
use Rattle.sound_programs.specs.RankRows.{ranks_differ, rank_4}
use Rattle.sound_programs.specs.ArgumentRows.{argument_left_out, one_variable_twice, in_dummy_assigned}
use Rattle.sound_programs.proofs.OnFiles.{on_file}
use Rattle.sound_programs.proofs.rows.faulty_files.Goals as goal

-- src/rows.rt
pub returns : goal.returns
unfolding in_kind least greatest
returns c = record {
  undeclared = on_file (λ p. At (undeclared_names p) (place 3 7)) undeclared_variable refl;
  twice = on_file (λ p. At (declared_twice p) (place 2 32)) two_declarations refl;
  circle = on_file (λ p. At (module_faults p) (place 2 7)) uses_in_circle refl;
  no_unit = on_file (λ p. At (unit_faults p) (place 2 8)) no_subroutine refl;
  loop = on_file (λ p. At (loop_faults p) (place 7 7)) named_after_loop refl;
  no_intent = on_file (λ p. At (intent_faults p) (place 2 14)) dummy_without_intent refl;
  recursion = on_file (λ p. At (recursions p) (place 4 10)) calls_in_circle refl;
  too_many = on_file (λ p. At (size_faults p) (place 2001 12)) many_units refl;
  kind = on_file (λ p. At (kind_faults p) (place 3 7)) integer_test refl;
  rank = on_file (λ p. At (rank_faults Source p) (place 4 9)) ranks_differ refl;
  rank_limit = on_file (λ p. At (rank_faults Source p) (place 2 29)) rank_4 refl;
  count = on_file (λ p. At (count_faults p) (place 3 8)) argument_left_out refl;
  alias = on_file (λ p. At (alias_faults p) (place 3 13)) one_variable_twice refl;
  write = on_file (λ p. At (write_faults p) (place 3 3)) in_dummy_assigned refl;
}
