use Rattle.std.proofs.Common.{refl}
use Rattle.fort_arith.specs.Range.{in_kind, least, greatest}
use Rattle.sound_programs.proofs.rows.faults_of_calls_by_example.Goals as goal

-- src/rows.rt
pub returns : goal.returns
unfolding in_kind least greatest
returns c = record {
  calls_itself_is_found = refl;
  calls_in_circle_is_found = refl;
  function_refers_to_itself_is_found = refl;
  result_refers_to_itself_is_found = refl;
  calls_twice_is_sound = refl;
  three_phases_is_found = refl;
  two_phases_is_found = refl;
}
