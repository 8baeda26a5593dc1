use Rattle.std.proofs.Common.{refl}
use Rattle.fort_arith.specs.Range.{in_kind, least, greatest}
use Rattle.sound_programs.proofs.rows.faults_of_ranks_by_example.Goals as goal

-- src/rows.rt
pub returns : goal.returns
unfolding in_kind least greatest
returns c = record {
  wrong_subscripts_is_found = refl;
  array_to_scalar_is_found = refl;
  array_as_test_is_found = refl;
  array_as_subscript_is_found = refl;
  ranks_differ_is_found = refl;
  section_of_rank_1_is_sound = refl;
  ranks_differ_in_sum_is_found = refl;
  arrays_under_sum_is_sound = refl;
  elemental_arguments_is_found = refl;
  actual_of_other_rank_is_found = refl;
  computed_array_actual_is_found = refl;
  section_actual_is_sound = refl;
  range_as_argument_is_found = refl;
  sum_of_scalar_is_found = refl;
  size_without_dimension_is_found = refl;
  size_of_third_is_found = refl;
  size_of_second_is_sound = refl;
  rank_4_is_found = refl;
  rank_5_in_target_is_sound = refl;
  rank_6_in_target_is_found = refl;
  assumed_local_is_found = refl;
  assumed_beside_explicit_is_found = refl;
  array_result_is_found = refl;
  array_in_head_is_found = refl;
  array_section_bound_is_found = refl;
  range_of_intrinsic_is_found = refl;
  array_to_function_is_found = refl;
  scalar_spreads_is_sound = refl;
}
