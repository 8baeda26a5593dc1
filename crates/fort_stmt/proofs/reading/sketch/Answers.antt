use Rattle.fort_stmt.specs.declared.judging.Judgement.TheVariants as judgement
use Rattle.fort_stmt.proofs.Firsts.{judges-at, not-outside, none-of}
use Rattle.fort_stmt.proofs.reading.sketch.Goals as goal

pub returns-in-Form : goal.returns-in-Form
returns-in-Form c =
    let h = judges-at c.args.line.now.mode c.args.line.now.tokens c.items.result.now c.in_ok-sort.field-0 (judgement.Form c.in-Form.sort) c.items.ensures c.in-Form.is c.in_ok-sort.ensures in
    record { sort = h.0; inside = h.1; finished = none-of c.args.line.now.unfinished c.is_some.result c.is_some.ensures c.if-is_some.false }

pub returns-in-Outside : goal.returns-in-Outside
returns-in-Outside c k s =
    let h = judges-at c.args.line.now.mode c.args.line.now.tokens c.items.result.now c.in_ok-sort.field-0 (judgement.Outside c.in-Outside.field-0 c.in-Outside.field-1) c.items.ensures c.in-Outside.is c.in_ok-sort.ensures in
    not-outside c.args.line.now.mode c.args.line.now.tokens c.in-Outside.field-0 c.in-Outside.field-1 h s.inside
