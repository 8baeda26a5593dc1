use Rattle.std.proofs.Common.{◌<◌, length, arith, refl, ◌∙◌}
use Rattle.fort_tree.specs.declared.fault.Code.TheVariants.{E34}
use Rattle.fort_names.specs.UsePlaces.{line_places, use_places}
use Rattle.fort_names.proofs.FirstOf.{next_places}
use Rattle.fort_names.proofs.uses.note_lines.Goals as goal

-- src/uses.rt
pub loop-line-preserved : goal.loop-line-preserved
loop-line-preserved c =
    let items = c.args.lines.now in
    let s = c.args.shared.now in
    let within : c.loop-line.line-index < length items = omega arith in
    next_places E34 (use_places s) (line_places s) (λ a l. refl) items c.loop-line.line-index c.line-item.result within c.line-item.is c.loop-line.least c.note_line.new.least
    c.note_line.ensures ∙ c.loop-line.invariant
