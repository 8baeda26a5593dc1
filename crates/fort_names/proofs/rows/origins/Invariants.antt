use Rattle.std.proofs.Common.{◌≡◌}
use Rattle.fort_names.specs.Tables.{rounds}
use Rattle.fort_names.proofs.rows.origins.Given as goal

abbrev pub invariant-loop-round : goal.invariant-loop-round
invariant-loop-round l = l.row ≡ rounds l.declared l.modules l._round l.name
