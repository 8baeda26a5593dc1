use Rattle.std.proofs.Common.{sym, subst, []}
use Rattle.fort_units.specs.Adding.{Gathers}
use Rattle.fort_units.proofs.AddLaws.{gathers_none, gathers_next}
use Rattle.fort_units.proofs.gathering.gather.Goals as goal

pub loop-line-init : goal.loop-line-init
loop-line-init c = subst (λ g. Gathers [] g) (sym c.new-gathered.ensures) gathers_none

pub loop-line-preserved : goal.loop-line-preserved
loop-line-preserved c =
    gathers_next c.args.lines.now c.loop-line.line-index c.line-item.result c.loop-line.gathered c.add.new.self c.loop-line-test.true c.line-item.is c.loop-line.invariant c.in_ok-add.ensures
