use Rattle.fort_tokens.proofs.Feeding.{reads}
use Rattle.fort_tokens.proofs.laws.each_line_is_read.Goals as goal

pub returns : goal.returns
returns c line = reads line
