use Rattle.std.proofs.Common.{◌≡◌, drop}
use Rattle.fort_names.specs.Using.{first_number}
use Rattle.fort_names.proofs.double_uses.first_number.Given as goal

abbrev pub invariant-loop-number : goal.invariant-loop-number
invariant-loop-number l = first_number (drop l.number-index l.row) ≡ first_number l.fn.row
