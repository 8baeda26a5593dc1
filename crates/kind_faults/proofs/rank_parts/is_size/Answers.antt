use Rattle.fort_names.specs.Sights.{means}
use Rattle.kind_faults.proofs.Arguments.{size_of_more}
use Rattle.kind_faults.proofs.rank_parts.is_size.Goals as goal

-- src/rank_parts.rt
pub returns-in-len3-up : goal.returns-in-len3-up
returns-in-len3-up c = size_of_more (means c.args.sight.now) c.args.args.now c.in-len3-up.len_at_least
