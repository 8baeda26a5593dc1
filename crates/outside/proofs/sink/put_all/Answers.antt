use Rattle.std.proofs.Common.{arith}
use Rattle.outside.proofs.Puts.{one_more, one_more-within}
use Rattle.outside.proofs.sink.put_all.Goals as goal

pub loop-at-preserved : goal.loop-at-preserved
loop-at-preserved g c = record {
  within = one_more-within _ _ _ c.loop-at.invariant.within c.in_ok-count.ensures.within;
  later = omega (arith, c.loop-at.invariant.later, c.put.ensures.faults_later);
  taken = one_more _ _ _ _ _ _ c.in_ok-count.ensures.within c.loop-at.invariant.taken c.in_ok-count.ensures.took;
}
