use Rattle.std.proofs.Common.{[], sym, ◌∙◌, subst}
use Rattle.layout_reading.specs.Readable.{AreReadable}
use Rattle.layout_reading.specs.FormLines.{AreLinesOf}
use Rattle.layout_reading.proofs.Bodies.{all_fit, statements_nest, statements_stand}
use Rattle.layout_reading.proofs.PlainRows.{same_stmts_rows}
use Rattle.layout_reading.proofs.laws.bodies_nest_again.Goals as goal

pub returns-clause-apart : goal.returns-clause-apart
returns-clause-apart c around statements indent k h =
    subst (λ b. AreReadable (b indent [])) (same_stmts_rows h.written statements h.same) (statements_stand 0 around h.written indent k h.nest (all_fit 0 h.have))

pub returns-clause-nested : goal.returns-clause-nested
returns-clause-nested c around statements indent file lines h k =
    let a =
    statements_nest file around h.written indent lines h.nest (all_fit file h.have) (subst (λ b. AreLinesOf file (b indent []) lines) (sym (same_stmts_rows h.written statements h.same)) k) in
    record { forms = a.forms; body = a.body; have = a.have; nest = a.nest; same = a.same ∙ h.same }
