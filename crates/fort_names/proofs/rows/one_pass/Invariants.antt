use Rattle.std.proofs.Common.{take, drop}
use Rattle.fort_names.proofs.Passes.{Passing}
use Rattle.fort_names.proofs.rows.one_pass.Given as goal

abbrev pub invariant-loop-number : goal.invariant-loop-number
invariant-loop-number l = Passing l.declared l.modules l.name (take l.number-index l.order) (drop l.number-index l.order) l.row.items
