use Rattle.fort_spell.proofs.Streams.{row_of}
use Rattle.fort_spell.proofs.lists.put_word_row.Goals as goal

pub returns : goal.returns
returns g c = row_of _ c.of_statement-margin.ensures c.open_row-reached.ensures c.put_word-reached.ensures c.close_row.ensures
