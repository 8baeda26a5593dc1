use Rattle.std.proofs.Common.{refl, ◌≡◌, []}
use Rattle.fort_arith.specs.Range.{in_kind, least, greatest}
use Rattle.fort_tree.specs.declared.fault.Code.TheVariants.{E30, E36}
use Rattle.sound_programs.specs.Faults.{IsLeast, faults_of_names, faults_of_calls, of_names, of_calls}
use Rattle.sound_programs.specs.Rows.{fault}
use Rattle.sound_programs.specs.CallRows.{three_phases, two_phases}
use Rattle.sound_programs.proofs.OnFiles.{on_file}
use Rattle.sound_programs.proofs.rows.first_faults.Goals as goal

-- src/rows.rt
pub returns : goal.returns
unfolding in_kind least greatest
returns c = record {
  names_first = of_names (on_file (λ p. IsLeast (faults_of_names p) (fault E30 5 7)) three_phases (record { among = refl; least = refl }));
  calls_first =
      of_calls (on_file (λ p. faults_of_names p ≡ []) two_phases refl)
      (on_file (λ p. IsLeast (faults_of_calls p) (fault E36 4 8)) two_phases (record { among = refl; least = refl }));
}
