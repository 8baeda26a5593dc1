use Rattle.std.proofs.Common.{◌<◌, length, arith, refl, ap, ◌∙◌}
use Rattle.fort_tree.specs.declared.fault.Code.TheVariants.{E34}
use Rattle.sound_programs.specs.Faults.{found}
use Rattle.fort_names.specs.Leasts.{noted, of_modules}
use Rattle.fort_names.specs.UsePlaces.{use_places, module_uses}
use Rattle.fort_names.proofs.FirstOf.{next_places}
use Rattle.fort_names.proofs.uses.note_module_uses.Goals as goal

-- src/uses.rt
pub loop-one-preserved : goal.loop-one-preserved
loop-one-preserved c =
    let items = c.args.modules.now in
    let s = c.args.shared.now in
    let within : c.loop-one.one-index < length items = omega arith in
    next_places E34 (of_modules (module_uses s)) (module_uses s) (λ a l. refl) items c.loop-one.one-index c.one-item.result within c.one-item.is c.loop-one.least c.note_lines.new.least
    (c.note_lines.ensures ∙ ap (λ l. noted (found E34 (use_places s l)) c.loop-one.least) c.items.ensures) ∙ c.loop-one.invariant
