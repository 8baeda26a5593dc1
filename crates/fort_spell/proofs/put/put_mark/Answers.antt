use Rattle.std.proofs.Common.{sym, ◌∙◌}
use Rattle.std.proofs.lemmas.List.{append-nil}
use Rattle.fort_spell.specs.Pieces.{Sign}
use Rattle.fort_spell.proofs.put.put_mark.Goals as goal

pub returns : goal.returns
returns g c = c.put_token.ensures (Sign c.args.mark) (sym (append-nil c.text.result.now ∙ c.text.ensures))
