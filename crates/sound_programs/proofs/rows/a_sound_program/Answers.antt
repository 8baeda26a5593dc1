use Rattle.std.proofs.Common.{refl, ◌≡◌, []}
use Rattle.fort_arith.specs.Range.{in_kind, least, greatest}
use Rattle.fort_tree.specs.declared.choice.Mode.TheVariants.{Source}
use Rattle.sound_programs.specs.NameFaults.{undeclared_names, unit_faults}
use Rattle.sound_programs.specs.DeclarationFaults.{declared_twice, module_faults, intent_faults}
use Rattle.sound_programs.specs.LoopFaults.{loop_faults}
use Rattle.sound_programs.specs.CallFaults.{recursions, size_faults}
use Rattle.sound_programs.specs.KindFaults.{kind_faults}
use Rattle.sound_programs.specs.RankFaults.{rank_faults}
use Rattle.sound_programs.specs.ArgumentFaults.{count_faults, alias_faults, write_faults}
use Rattle.sound_programs.specs.Placing.{placed}
use Rattle.sound_programs.specs.Writing.{file_of}
use Rattle.sound_programs.specs.SmallPrograms.{sound}
use Rattle.sound_programs.specs.SoundRow.{sound_forms}
use Rattle.sound_programs.proofs.OnFiles.{on_file, nowhere}
use Rattle.sound_programs.proofs.NestingOfSound.{sound-nests}
use Rattle.sound_programs.proofs.rows.a_sound_program.Goals as goal

-- src/rows.rt
pub returns : goal.returns
unfolding in_kind least greatest
returns c = record {
  nested = sound-nests;
  no_fault = refl;
  sound_file = record {
    nested = (sound_forms, sound-nests);
    each_name_is_declared = nowhere (undeclared_names (placed (file_of sound))) (on_file (λ p. undeclared_names p ≡ []) sound refl);
    none_is_declared_twice = nowhere (declared_twice (placed (file_of sound))) (on_file (λ p. declared_twice p ≡ []) sound refl);
    uses_bring = nowhere (module_faults (placed (file_of sound))) (on_file (λ p. module_faults p ≡ []) sound refl);
    calls_name_units = nowhere (unit_faults (placed (file_of sound))) (on_file (λ p. unit_faults p ≡ []) sound refl);
    loop_variables_are_their_loops' = nowhere (loop_faults (placed (file_of sound))) (on_file (λ p. loop_faults p ≡ []) sound refl);
    dummies_have_intent = nowhere (intent_faults (placed (file_of sound))) (on_file (λ p. intent_faults p ≡ []) sound refl);
    calls_have_no_cycle = nowhere (recursions (placed (file_of sound))) (on_file (λ p. recursions p ≡ []) sound refl);
    units_and_depth_are_in_their_limits = nowhere (size_faults (placed (file_of sound))) (on_file (λ p. size_faults p ≡ []) sound refl);
    kinds_fit = nowhere (kind_faults (placed (file_of sound))) (on_file (λ p. kind_faults p ≡ []) sound refl);
    ranks_fit = nowhere (rank_faults Source (placed (file_of sound))) (on_file (λ p. rank_faults Source p ≡ []) sound refl);
    arguments_are_counted = nowhere (count_faults (placed (file_of sound))) (on_file (λ p. count_faults p ≡ []) sound refl);
    written_actuals_have_no_alias = nowhere (alias_faults (placed (file_of sound))) (on_file (λ p. alias_faults p ≡ []) sound refl);
    writes_are_allowed = nowhere (write_faults (placed (file_of sound))) (on_file (λ p. write_faults p ≡ []) sound refl);
  };
}
