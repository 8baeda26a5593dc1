use Rattle.fort_stmt.proofs.Verdicts.{form-end, no-name}
use Rattle.fort_stmt.proofs.judging.judged.Goals as goal

pub returns-in-Some : goal.returns-in-Some
returns-in-Some c = form-end c.args.mode c.args.tokens.now c.outlined.new.outline c.first_name.result c.sort_with.result c.in-Some.sort c.in_ok-outlined.field-0
    c.in-Whole.is c.in_ok-outlined.ensures c.first_name.ensures c.sort_with.ensures c.in-Some.is

pub unreachable-requires : goal.unreachable-requires
unreachable-requires c = no-name c.args.mode c.args.tokens.now c.outlined.new.outline c.first_name.result c.sort_with.result c.in_ok-outlined.field-0
    c.in-Whole.is c.in_ok-outlined.ensures c.first_name.ensures c.sort_with.ensures c.in-None.is
