use Rattle.std.proofs.Common.{◌≡◌, drop}
use Rattle.fort_names.specs.Tables.{lines_origin}
use Rattle.fort_names.proofs.rows.lines_origin.Given as goal

abbrev pub invariant-loop-line : goal.invariant-loop-line
invariant-loop-line l = lines_origin l.names l.row (drop l.line-index l.lines) l.name ≡ lines_origin l.names l.row l.fn.lines l.name
