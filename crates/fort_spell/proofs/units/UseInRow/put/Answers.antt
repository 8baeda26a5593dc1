use Rattle.std.proofs.Common.{List, ◌∙◌, ap, codes, sym, true, Some}
use Rattle.std.specs.declared.option.Option.{Option}
use Rattle.fort_tree.specs.declared.stmt.Named.{Named}
use Rattle.fort_spell.specs.Pieces.{Piece, word}
use Rattle.fort_spell.specs.Units.{only_pieces}
use Rattle.fort_spell.proofs.Streams.{put_both, put_is}
use Rattle.fort_spell.proofs.units.UseInRow.put.Goals as goal

pub returns-in-None : goal.returns-in-None
returns-in-None g c =
    let f : Option (List Named) → List Piece → List Piece = λ o k. word c.args.spaced (codes "use") (word true c.args.self.now.name (only_pieces o k)) in
    put_is _ (put_both _ _ c.put_word-reached.ensures c.put_name-reached.ensures) (ap f c.in-None.is)

pub returns-in-Some : goal.returns-in-Some
returns-in-Some g c =
    let f : Option (List Named) → List Piece → List Piece = λ o k. word c.args.spaced (codes "use") (word true c.args.self.now.name (only_pieces o k)) in
    put_is _ (put_both _ _ (put_both _ _ c.put_word-reached.ensures c.put_name-reached.ensures) c.put_only_names.ensures) (ap f (c.in-Some.is ∙ ap (λ (l : List Named). Some l) (sym c.items.ensures)))
