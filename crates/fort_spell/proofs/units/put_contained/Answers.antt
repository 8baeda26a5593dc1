use Rattle.std.proofs.Common.{◌∙◌, sym}
use Rattle.fort_spell.proofs.Streams.{put_both, put_is}
use Rattle.fort_spell.proofs.Parts.{contained_is}
use Rattle.fort_spell.proofs.units.put_contained.Goals as goal

pub returns-then-has_units : goal.returns-then-has_units
returns-then-has_units g c = put_is _ (put_both _ _ c.put_word_row-so_far.ensures c.put_hosted_inside.ensures) (contained_is _ c.args.indent (sym c.has_units.ensures ∙ c.if-has_units.true))
