use Rattle.std.proofs.Common.{◌≡◌, drop}
use Rattle.argument_faults.specs.Marking.{some_mark}
use Rattle.argument_faults.proofs.marks.has_mark.Given as goal

abbrev pub invariant-loop-number : goal.invariant-loop-number
invariant-loop-number l = some_mark l.rows (drop l.number-index l.numbers) l.place ≡ some_mark l.rows l.numbers l.place
