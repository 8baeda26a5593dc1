use Rattle.std.proofs.Common.{refl}
use Rattle.column_rules.specs.Rules.{writes_no_module}
use Rattle.column_rules.proofs.rows.rules_by_example.Goals as goal

-- src/rows.rt
pub returns : goal.returns
unfolding writes_no_module
returns c = record {
  column_dummy_written = refl;
  shared_dummy_written = refl;
  no_data = refl;
  module_variable_written = refl;
  module_variable_written_behind = refl;
  module_variable_not_reached = refl;
  no_dummy_listed = refl;
  listed_twice = refl;
  both_listed = refl;
  behind_colon = refl;
  only_colon = refl;
  dimension_twice = refl;
  other_name = refl;
  dimension_declared = refl;
  dimension_of_host = refl;
  dimension_is_module = refl;
  other_module = refl;
  dimension_is_upper = refl;
  negative_lower = refl;
  suffixed_lower = refl;
  literal_upper = refl;
  negative_upper = refl;
  suffixed_upper = refl;
  shared_upper = refl;
  column_dummy_upper = refl;
  module_upper = refl;
  wide_upper = refl;
  constant_upper = refl;
  unit_upper = refl;
  column_dummy_in_bound = refl;
  shared_dummy_in_bound = refl;
  return_in_if = refl;
  no_column_unit = refl;
}
