use Rattle.std.proofs.Common.{sym}
use Rattle.std.proofs.lemmas.List.{append-nil}
use Rattle.fort_spell.specs.Pieces.{Word}
use Rattle.fort_spell.proofs.put.put_word.Goals as goal

pub returns : goal.returns
returns g c = c.put_token.ensures (Word c.args.text.now) (sym (append-nil c.args.text.now))
