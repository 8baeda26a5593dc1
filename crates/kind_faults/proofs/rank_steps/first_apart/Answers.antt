use Rattle.sound_programs.specs.Placing.{placed_expr}
use Rattle.sound_programs.specs.Ranking.{operands}
use Rattle.fort_names.specs.Sights.{means}
use Rattle.fort_kinds.proofs.Gathers.{apart_is}
use Rattle.kind_faults.proofs.rank_steps.first_apart.Goals as goal

-- src/rank_steps.rt
pub returns : goal.returns
returns c =
    apart_is (operands (means c.args.sight.now) (placed_expr c.args.left.now)) (operands (means c.args.sight.now) (placed_expr c.args.right.now)) c.new-ranks.result c.gather.new.self c.gather-2.new.self
    c.new-ranks.ensures c.gather.ensures c.gather-2.ensures
