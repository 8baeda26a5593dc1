use Rattle.fort_spell.proofs.Streams.{put_both}
use Rattle.fort_spell.proofs.units.put_module.Goals as goal

pub returns : goal.returns
returns g c = put_both _ _ (put_both _ _ (put_both _ _ c.put_module_row-so_far.ensures c.put_module_inside-so_far.ensures) c.put_contained-so_far.ensures) c.put_end_row.ensures
