use Rattle.fort_tokens.proofs.TextLemmas.{begins-short}
use Rattle.fort_tokens.proofs.words.+begins_with.Goals as goal

pub returns-in-None : goal.returns-in-None
returns-in-None t c = begins-short c.args.word.now c.args.text.now c.args.byte c.in-None.ensures.cases
