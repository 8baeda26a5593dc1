use Rattle.fort_tree.specs.declared.fault.Code.TheVariants.{E34}
use Rattle.fort_names.proofs.LinesAre.{all_uses}
use Rattle.fort_names.proofs.uses.note_uses.Goals as goal

-- src/uses.rt
pub returns : goal.returns
returns c =
    all_uses c.args.file.now E34 c.args.shared.now c.items.result.now c.items-2.result.now c.args.least.now c.note_module_uses.new.least c.note_unit_uses.new.least
    c.requires c.items.ensures c.items-2.ensures c.note_module_uses.ensures c.note_unit_uses.ensures
