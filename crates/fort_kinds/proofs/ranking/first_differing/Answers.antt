use Rattle.sound_programs.specs.Placing.{placed_expr}
use Rattle.sound_programs.specs.Ranking.{operands}
use Rattle.fort_names.specs.Sights.{means}
use Rattle.fort_kinds.proofs.Gathers.{differing_is}
use Rattle.fort_kinds.proofs.ranking.first_differing.Goals as goal

-- src/ranking.rt
pub returns : goal.returns
returns c =
    differing_is (operands (means c.args.sight.now) (placed_expr c.args.expr.now)) c.new-ranks.result c.gather.new.self c.new-ranks.ensures c.gather.ensures
