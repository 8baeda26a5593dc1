use Rattle.std.proofs.Common.{◌<◌, length, arith, refl, ◌∙◌}
use Rattle.fort_tree.specs.declared.fault.Code.TheVariants.{E31}
use Rattle.fort_names.specs.Using.{name_twice, all_twice}
use Rattle.fort_names.proofs.FirstOf.{next_places}
use Rattle.fort_names.proofs.double_uses.note_all_twice.Goals as goal

-- src/double_uses.rt
pub loop-name-preserved : goal.loop-name-preserved
loop-name-preserved c =
    let items = c.args.contested.now in
    let s = c.args.shared.now in
    let lines = c.args.lines.now in
    let within : c.loop-name.name-index < length items = omega arith in
    next_places E31 (λ names. all_twice s names lines) (name_twice s lines) (λ a l. refl) items c.loop-name.name-index c.name-item.result within c.name-item.is
    c.loop-name.least c.note_name_twice.new.least c.note_name_twice.ensures ∙ c.loop-name.invariant
