use Rattle.std.proofs.Common.{sym, ◌∙◌}
use Rattle.fort_names.proofs.Rounds.{same_rows}
use Rattle.fort_names.proofs.rows.is_same.Goals as goal

-- src/rows.rt
pub returns : goal.returns
returns c = λ h. sym (same_rows c.args.row.now c.args.next.now (sym c.eq.ensures ∙ h))
