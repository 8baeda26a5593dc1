use Rattle.std.proofs.Common.{ap, ◌∙◌}
use Rattle.fort_tree.specs.declared.fault.Code.TheVariants.{E3A}
use Rattle.sound_programs.specs.Faults.{found}
use Rattle.sound_programs.specs.Placing.{placed_unit}
use Rattle.fort_names.specs.Leasts.{noted}
use Rattle.fort_names.specs.Sights.{means}
use Rattle.argument_faults.specs.ModuleWrites.{module_writes_in}
use Rattle.argument_faults.proofs.Merging.{first_write}
use Rattle.argument_faults.proofs.module_writes.first_module_write.Goals as goal

-- src/module_writes.rt
pub returns : goal.returns
returns c =
    let places = module_writes_in (means c.args.sight.now) (placed_unit c.args.unit.now) in
    first_write places c.note_module_writes.new.least c.first.result c.first.ensures (c.in_ok-note_module_writes.ensures ∙ ap (noted (found E3A places)) c.new-least.ensures)
