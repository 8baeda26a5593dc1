use Rattle.std.proofs.Common.{◌-◌}
use Rattle.kind_faults.proofs.spans.+apart_between.Given as goal

abbrev pub decreases-apart_between : goal.decreases-apart_between
decreases-apart_between l = l.high - l.low
