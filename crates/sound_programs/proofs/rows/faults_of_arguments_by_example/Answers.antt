use Rattle.std.proofs.Common.{refl}
use Rattle.fort_arith.specs.Range.{in_kind, least, greatest}
use Rattle.sound_programs.proofs.rows.faults_of_arguments_by_example.Goals as goal

-- src/rows.rt
pub returns : goal.returns
unfolding in_kind least greatest
returns c = record {
  argument_left_out_is_found = refl;
  abs_of_two_is_found = refl;
  max_of_one_is_found = refl;
  abs_of_none_is_found = refl;
  one_variable_twice_is_found = refl;
  value_and_variable_is_sound = refl;
  subscript_and_variable_is_sound = refl;
  two_elements_is_found = refl;
  module_variable_named_behind_is_found = refl;
  module_variable_not_named_is_sound = refl;
  in_dummy_assigned_is_found = refl;
  constant_assigned_is_found = refl;
  value_for_out_is_found = refl;
  in_dummy_passed_to_out_is_found = refl;
  function_with_out_is_found = refl;
  function_writes_module_is_found = refl;
  subroutine_writes_module_is_sound = refl;
}
