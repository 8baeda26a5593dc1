use Rattle.std.proofs.Common.{refl}
use Rattle.fort_arith.specs.Range.{in_kind, least, greatest}
use Rattle.sound_programs.proofs.rows.faults_of_names_by_example.Goals as goal

-- src/rows.rt
pub returns : goal.returns
unfolding in_kind least greatest
returns c = record {
  undeclared_variable_is_found = refl;
  declared_variable_is_sound = refl;
  assigned_function_is_found = refl;
  assigned_intrinsic_is_found = refl;
  undeclared_in_subscript_is_found = refl;
  undeclared_bound_is_found = refl;
  undeclared_dummy_is_found = refl;
  undeclared_result_is_found = refl;
  constant_in_private_is_found = refl;
  variable_in_private_is_sound = refl;
  variable_of_host_is_sound = refl;
  used_through_two_is_sound = refl;
  not_in_only_is_found = refl;
  two_declarations_is_found = refl;
  two_dummies_is_found = refl;
  dummy_and_result_is_found = refl;
  declared_and_used_is_found = refl;
  host_hidden_is_sound = refl;
  variable_and_unit_of_module_is_found = refl;
  two_units_is_found = refl;
  module_and_unit_is_found = refl;
  two_uses_is_found = refl;
  one_entity_twice_is_sound = refl;
  own_name_declared_is_sound = refl;
  no_module_is_found = refl;
  no_name_in_module_is_found = refl;
  uses_in_circle_is_found = refl;
  module_uses_itself_is_found = refl;
  own_module_used_is_sound = refl;
  no_subroutine_is_found = refl;
  function_called_is_found = refl;
  scalar_with_parentheses_is_found = refl;
  scalar_assigned_with_parentheses_is_found = refl;
  unknown_with_parentheses_is_found = refl;
  subroutine_referred_is_found = refl;
  dummy_as_loop_variable_is_found = refl;
  named_after_loop_is_found = refl;
  named_before_loop_is_found = refl;
  named_in_own_head_is_found = refl;
  assigned_in_loop_is_found = refl;
  second_loop_inside_is_found = refl;
  loops_in_a_row_is_sound = refl;
  passed_in_loop_is_found = refl;
  result_as_loop_variable_is_sound = refl;
  dummy_without_intent_is_found = refl;
  intent_without_dummy_is_found = refl;
  intent_in_module_is_found = refl;
  used_constant_in_bound_is_sound = refl;
  prefix_and_use_is_found = refl;
  loop_variable_in_bound_is_found = refl;
  later_use_of_circle_is_found = refl;
}
