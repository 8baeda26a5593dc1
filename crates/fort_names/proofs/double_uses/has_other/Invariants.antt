use Rattle.std.proofs.Common.{◌≡◌, drop}
use Rattle.std.specs.List.{list_any}
use Rattle.fort_names.specs.TwoUses.{is_other}
use Rattle.fort_names.proofs.double_uses.has_other.Given as goal

abbrev pub invariant-loop-other : goal.invariant-loop-other
invariant-loop-other l = list_any (is_other l.number) (drop l.other-index l.row) ≡ list_any (is_other l.number) l.fn.row
