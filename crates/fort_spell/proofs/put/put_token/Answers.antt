use Rattle.std.proofs.Common.{arith, length, ◌+◌}
use Rattle.fort_spell.specs.Rows.{laid}
use Rattle.fort_spell.specs.Text.{margin_text}
use Rattle.fort_spell.proofs.Streams.{shown_put, shown_broken, token_beside, token_broken}
use Rattle.fort_spell.proofs.put.put_token.Goals as goal

pub returns-in_err-put_beside : goal.returns-in_err-put_beside
returns-in_err-put_beside g c = λ t e. shown_broken (laid c.args.margin) _ _ c.in_ok-column.column c.saturating_add-end.result _ _ _ _ _ _ _ _ c.in_ok-column.was c.in_err-put_beside.was c.from_residual-in_err-put_beside.ensures.0
    (token_beside c.args.margin c.in_ok-column.column c.saturating_add-end.result c.args.spaced t c.args.text.now c.args.ending.now e
    (omega (arith, c.lead_width.ensures, c.saturating_add.ensures, c.saturating_add-2.ensures, c.saturating_add-end.ensures, c.if-end-le130.true)) c.if-end-le130.true)
    c.put_beside.ensures

pub returns-in_ok-put_beside : goal.returns-in_ok-put_beside
returns-in_ok-put_beside g c = λ t e. shown_put (laid c.args.margin) _ c.in_ok-column.column c.saturating_add-end.result _ _ _ _ _ _ _ _ c.in_ok-column.was c.in_ok-put_beside.was
    (token_beside c.args.margin c.in_ok-column.column c.saturating_add-end.result c.args.spaced t c.args.text.now c.args.ending.now e
    (omega (arith, c.lead_width.ensures, c.saturating_add.ensures, c.saturating_add-2.ensures, c.saturating_add-end.ensures, c.if-end-le130.true)) c.if-end-le130.true)
    c.put_beside.ensures

pub returns-in_err-put_broken : goal.returns-in_err-put_broken
returns-in_err-put_broken g c = λ t e. shown_broken (laid c.args.margin) _ _ c.in_ok-column.column (length (margin_text c.args.margin) + length c.args.text.now + length c.args.ending.now) _ _ _ _ _ _ _ _ c.in_ok-column.was c.in_err-put_broken.was c.from_residual-in_err-put_broken.ensures.0
    (token_broken c.args.margin c.in_ok-column.column _ c.args.spaced t c.args.text.now c.args.ending.now e (omega arith)
    (omega (arith, c.lead_width.ensures, c.saturating_add.ensures, c.saturating_add-2.ensures, c.saturating_add-end.ensures, c.if-end-le130.false)))
    c.put_broken.ensures

pub returns-in_ok-put_broken : goal.returns-in_ok-put_broken
returns-in_ok-put_broken g c = λ t e. shown_put (laid c.args.margin) _ c.in_ok-column.column (c.width.result + length c.args.text.now + length c.args.ending.now) _ _ _ _ _ _ _ _ c.in_ok-column.was c.in_ok-put_broken.was
    (token_broken c.args.margin c.in_ok-column.column _ c.args.spaced t c.args.text.now c.args.ending.now e (omega (arith, c.width.ensures.value))
    (omega (arith, c.lead_width.ensures, c.saturating_add.ensures, c.saturating_add-2.ensures, c.saturating_add-end.ensures, c.if-end-le130.false)))
    c.put_broken.ensures
