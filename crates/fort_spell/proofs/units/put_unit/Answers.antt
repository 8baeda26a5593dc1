use Rattle.std.proofs.Common.{ℕ, List, ◌∙◌, sym, ap}
use Rattle.fort_tree.specs.declared.stmt.Stmt.{Stmt}
use Rattle.fort_spell.specs.Pieces.{end_pieces}
use Rattle.fort_spell.specs.Rows.{Row, deeper, next_indent, one_row}
use Rattle.fort_spell.specs.Statements.{stmts_rows}
use Rattle.fort_spell.specs.Units.{header_pieces, parts_marked, unit_word}
use Rattle.fort_spell.proofs.Streams.{put_as, put_both}
use Rattle.fort_spell.proofs.units.put_unit.Goals as goal

pub returns : goal.returns
returns g c =
    let n = c.args.indent in
    let u = c.args.unit.now in
    let end : List Row → List Row = λ rs. one_row (end_pieces (unit_word u.result) u.name) n rs in
    let whole : ℕ → List Row → List Row = λ m rs. one_row (header_pieces u) n (parts_marked m u (deeper n) (end rs)) in
    put_as _ _ (put_both _ _ (put_both _ _ c.put_row-so_far.ensures c.put_unit_inside-so_far.ensures) c.put_unit_end.ensures)
    (λ rs. ap (λ m. whole m rs) (sym (c.mark_indent-mark.ensures.value (end_pieces (unit_word u.result) u.name) rs) ∙ ap (λ (b : List Stmt). next_indent (stmts_rows b (deeper n) (end rs))) c.items.ensures))
