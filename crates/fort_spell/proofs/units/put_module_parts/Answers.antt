use Rattle.std.proofs.Common.{List, ◌∙◌, ap, sym}
use Rattle.fort_tree.specs.declared.unit.Use.{Use}
use Rattle.fort_tree.specs.declared.unit.Decl.{Decl}
use Rattle.fort_spell.specs.Rows.{Row}
use Rattle.fort_spell.specs.Units.{decls_rows, implicit_rows, uses_rows}
use Rattle.fort_spell.proofs.Streams.{put_both, put_is}
use Rattle.fort_spell.proofs.units.put_module_parts.Goals as goal

pub returns : goal.returns
returns g c =
    let n = c.args.indent in
    let f : List Use → List Decl → List Row → List Row = λ u d rs. uses_rows u n (implicit_rows n (decls_rows d n rs)) in
    put_is _ (put_both _ _ (put_both _ _ c.put_rows-so_far.ensures c.put_implicit-so_far.ensures) c.put_rows.ensures) (ap (λ u. f u c.args.host.now.decls) (sym c.items.ensures) ∙ ap (f c.items.result.now) (sym c.items-2.ensures))
