use Rattle.std.proofs.Common.{refl}
use Rattle.fort_arith.specs.Range.{in_kind, least, greatest}
use Rattle.sound_programs.proofs.rows.faults_of_kinds_by_example.Goals as goal

-- src/rows.rt
pub returns : goal.returns
unfolding in_kind least greatest
returns c = record {
  literal_too_great_is_found = refl;
  literal_of_kind_8_is_sound = refl;
  least_written_is_found = refl;
  value_not_in_kind_is_found = refl;
  least_value_in_kind_is_sound = refl;
  truth_for_number_is_found = refl;
  integer_test_is_found = refl;
  logical_assigned_is_found = refl;
  logical_operand_is_found = refl;
  logical_bound_of_loop_is_found = refl;
  relation_of_truths_is_found = refl;
  equivalence_of_truths_is_sound = refl;
  logical_subscript_is_found = refl;
  actual_of_other_kind_is_found = refl;
  int_by_name_is_found = refl;
  int_of_kind_8_is_sound = refl;
  arguments_differ_is_found = refl;
  logical_argument_is_found = refl;
  suffixed_bound_is_found = refl;
  bound_by_local_is_found = refl;
  bound_by_dummy_is_sound = refl;
  bound_of_kind_8_is_found = refl;
  bound_by_later_constant_is_sound = refl;
  case_by_variable_is_found = refl;
  case_not_in_kind_is_found = refl;
  case_of_kind_8_is_sound = refl;
  cases_overlap_is_found = refl;
  ranges_of_one_case_overlap_is_found = refl;
  empty_range_is_sound = refl;
  selected_truth_is_found = refl;
  unary_of_truth_is_found = refl;
  not_of_number_is_found = refl;
  kind_of_greater_is_sound = refl;
  literal_in_bound_is_found = refl;
  logical_actual_is_found = refl;
}
