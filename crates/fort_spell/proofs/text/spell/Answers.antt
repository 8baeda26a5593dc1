use Rattle.std.proofs.Common.{map}
use Rattle.fort_spell.specs.Rows.{all_rows}
use Rattle.fort_spell.specs.Units.{item_rows}
use Rattle.fort_spell.proofs.Streams.{ended}
use Rattle.fort_spell.proofs.text.spell.Goals as goal

pub returns : goal.returns
returns g c = let e = ended _ _ _ _ _ (λ rs. all_rows (map (item_rows c.args.file.now) c.args.file.now.order) 0 rs) c.put_file.ensures in
    record { faults_later = e.later; took = e.took; part = e.part; failed = e.rose }
