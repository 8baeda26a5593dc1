use Rattle.fort_tokens.proofs.Feeding.{reads}
use Rattle.fort_lex.proofs.Passing.{goes}
use Rattle.fort_lex.proofs.laws.each_text_is_gone_over.Goals as goal

pub returns : goal.returns
returns c = goes reads
