use Rattle.std.proofs.Common.{◌<◌, length, arith, refl, ◌∙◌}
use Rattle.std.specs.Str.{bytes_eq}
use Rattle.indexmap.specs.IndexMap.{get}
use Rattle.fort_tree.specs.declared.fault.Code.TheVariants.{E31}
use Rattle.fort_names.specs.Using.{used_by, used_by_lines}
use Rattle.fort_names.proofs.FirstOf.{next_places}
use Rattle.fort_names.proofs.used_names.note_used_by_lines.Goals as goal

-- src/used_names.rt
pub loop-line-preserved : goal.loop-line-preserved
loop-line-preserved c =
    let items = c.args.lines.now in
    let s = c.args.shared.now in
    let firsts = get bytes_eq c.args.firsts.now in
    let declared = c.args.declared.now in
    let within : c.loop-line.line-index < length items = omega arith in
    next_places E31 (used_by_lines s firsts declared) (λ line. used_by s firsts declared line line.only) (λ a l. refl) items c.loop-line.line-index c.line-item.result within c.line-item.is
    c.loop-line.least c.note_used_by.new.least c.note_used_by.ensures ∙ c.loop-line.invariant
