use Rattle.std.proofs.Common.{List, ap, sym, true}
use Rattle.fort_tree.specs.declared.unit.Bound.{Bound}
use Rattle.fort_spell.specs.declared.mark.Mark.TheVariants as mark
use Rattle.fort_spell.specs.Pieces.{Piece, sign, word}
use Rattle.fort_spell.specs.Units.{intent_pieces, kind_pieces, parameter_pieces, shape_pieces, value_pieces}
use Rattle.fort_spell.proofs.Streams.{put_both, put_is}
use Rattle.fort_spell.proofs.units.DeclInRow.put.Goals as goal

pub returns : goal.returns
returns g c =
    let d = c.args.self.now in
    let f : List Bound → List Piece → List Piece = λ l k. kind_pieces d.kind c.args.spaced (parameter_pieces d.value (intent_pieces d.intent (sign true mark.Colons (word true d.name (shape_pieces l (value_pieces d.value k)))))) in
    put_is _ (put_both _ _ (put_both _ _ (put_both _ _ (put_both _ _ (put_both _ _ (put_both _ _ c.put_kind-reached.ensures c.put_parameter-reached.ensures) c.put_intent-reached.ensures) c.put_mark-reached.ensures) c.put_name-reached.ensures) c.put_shape-reached.ensures) c.put_value.ensures) (ap f (sym c.items.ensures))
