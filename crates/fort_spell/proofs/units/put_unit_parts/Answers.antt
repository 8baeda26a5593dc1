use Rattle.std.proofs.Common.{List, ◌∙◌, ap, sym}
use Rattle.fort_tree.specs.declared.unit.Use.{Use}
use Rattle.fort_tree.specs.declared.unit.Decl.{Decl}
use Rattle.fort_tree.specs.declared.stmt.Directive.{Directive}
use Rattle.fort_tree.specs.declared.stmt.Stmt.{Stmt}
use Rattle.fort_spell.specs.Rows.{Row}
use Rattle.fort_spell.specs.Statements.{stmts_rows}
use Rattle.fort_spell.specs.Units.{decls_rows, own_implicit_rows, routines_rows, uses_rows}
use Rattle.fort_spell.proofs.Streams.{put_both, put_is}
use Rattle.fort_spell.proofs.units.put_unit_parts.Goals as goal

pub returns : goal.returns
returns g c =
    let n = c.args.indent in
    let x = c.args.unit.now in
    let f : List Use → List Decl → List Directive → List Stmt → List Row → List Row = λ u d m b rs. uses_rows u n (own_implicit_rows x.host n (decls_rows d n (routines_rows m c.args.mark (stmts_rows b n rs)))) in
    put_is _ (put_both _ _ (put_both _ _ (put_both _ _ (put_both _ _ c.put_rows-so_far.ensures c.put_own_implicit-so_far.ensures) c.put_rows-so_far-2.ensures) c.put_routines-so_far.ensures) c.put_body.ensures)
    (ap (λ u. f u x.decls x.marks x.body) (sym c.items.ensures) ∙ ap (λ d. f c.items.result.now d x.marks x.body) (sym c.items-2.ensures)
    ∙ ap (λ m. f c.items.result.now c.items-2.result.now m x.body) (sym c.items-3.ensures) ∙ ap (f c.items.result.now c.items-2.result.now c.items-3.result.now) (sym c.items-4.ensures))
