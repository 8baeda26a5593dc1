use Rattle.std.proofs.Common.{ℕ, List, ◌∙◌, ap, map, sym, true, false}
use Rattle.fort_tree.specs.declared.stmt.Named.{Named}
use Rattle.fort_spell.specs.Pieces.{Piece, bracketed, word}
use Rattle.fort_spell.specs.Units.{function_clause, named_pieces}
use Rattle.fort_spell.proofs.Streams.{put_both, put_is}
use Rattle.fort_spell.proofs.units.UnitInRow.put.Goals as goal

pub returns : goal.returns
returns g c =
    let f : List ℕ → List Named → List Piece → List Piece = λ w l k. word c.args.spaced w (word true c.args.self.now.name (bracketed true (map named_pieces l) false (function_clause c.args.self.now.name c.args.self.now.result k))) in
    put_is _ (put_both _ _ (put_both _ _ (put_both _ _ c.put_word-reached.ensures c.put_name-reached.ensures) c.put_bracketed-reached.ensures) c.put_result.ensures) (ap (λ w. f w c.args.self.now.dummies) (sym c.opening_word.ensures) ∙ ap (f c.opening_word.result.now) (sym c.items.ensures))
