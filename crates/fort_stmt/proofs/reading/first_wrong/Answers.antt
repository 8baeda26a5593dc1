use Rattle.fort_stmt.proofs.Firsts.{combined-by}
use Rattle.fort_stmt.proofs.reading.first_wrong.Goals as goal

pub returns : goal.returns
returns c = combined-by c.args.mode c.args.tokens.now c.in_ok-form.form c.earlier.result c.in_ok-past.past c.requires c.in_ok-form.ensures c.in_ok-past.ensures c.earlier.ensures
