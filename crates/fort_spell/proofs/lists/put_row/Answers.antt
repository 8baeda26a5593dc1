use Rattle.fort_spell.proofs.Streams.{row_of}
use Rattle.fort_spell.proofs.lists.put_row.Goals as goal

pub returns : goal.returns
returns g c = row_of _ c.of_statement-margin.ensures c.open_row-reached.ensures c.put-reached.ensures c.close_row.ensures
