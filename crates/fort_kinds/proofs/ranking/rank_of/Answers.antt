use Rattle.sound_programs.specs.Placing.{placed_expr}
use Rattle.sound_programs.specs.Ranking.{operands}
use Rattle.fort_names.specs.Sights.{means}
use Rattle.fort_kinds.proofs.Gathers.{rank_is}
use Rattle.fort_kinds.proofs.ranking.rank_of.Goals as goal

-- src/ranking.rt
pub returns : goal.returns
returns c =
    rank_is (means c.args.sight.now) (operands (means c.args.sight.now) (placed_expr c.args.expr.now)) c.new-ranks.result c.gather.new.self c.rank.result
    c.new-ranks.ensures c.gather.ensures c.rank.ensures
