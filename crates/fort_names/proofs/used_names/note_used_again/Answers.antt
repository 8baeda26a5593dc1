use Rattle.std.specs.Str.{bytes_eq}
use Rattle.indexmap.specs.IndexMap.{get}
use Rattle.fort_tree.specs.declared.fault.Code.TheVariants.{E31}
use Rattle.fort_names.proofs.UsedSame.{noted_again}
use Rattle.fort_names.proofs.used_names.note_used_again.Goals as goal

-- src/used_names.rt
pub returns : goal.returns
returns c =
    noted_again c.args.shared.now c.args.declared.now (get bytes_eq c.args.firsts.now) c.requires c.args.lines.now E31 c.args.least.now c.note_used_by_lines.new.least c.note_used_by_lines.ensures
