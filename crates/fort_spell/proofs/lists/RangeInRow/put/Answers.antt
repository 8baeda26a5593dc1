use Rattle.std.proofs.Common.{ap}
use Rattle.fort_spell.specs.Statements.{range_pieces}
use Rattle.fort_spell.proofs.Streams.{put_both, put_is}
use Rattle.fort_spell.proofs.lists.RangeInRow.put.Goals as goal

pub returns-in-Span : goal.returns-in-Span
returns-in-Span g c = put_is _ (put_both _ _ c.put_lower-reached.ensures c.put_bound.ensures) (ap (λ r. range_pieces r c.args.spaced) c.in-Span.is)
