use Rattle.std.proofs.Common.{◌≡◌, take}
use Rattle.fort_tree.proofs.copy.+copy_expr.Given as goal

abbrev pub invariant-copy_subs-loop-sub : goal.invariant-copy_subs-loop-sub
invariant-copy_subs-loop-sub l = l.copy ≡ take l.sub-index l.subs
