use Rattle.std.proofs.Common.{◌<◌, length, arith, refl, ◌∙◌}
use Rattle.fort_tree.specs.declared.fault.Code.TheVariants.{E31}
use Rattle.sound_programs.specs.DeclarationFaults.{clashes}
use Rattle.fort_names.specs.Leasts.{clashes_of}
use Rattle.fort_names.proofs.FirstOf.{next_places}
use Rattle.fort_names.proofs.clashes.note_clashes.Goals as goal

-- src/clashes.rt
pub loop-one-preserved : goal.loop-one-preserved
loop-one-preserved c =
    let items = c.args.named.now in
    let ys = c.args.others.now in
    let within : c.loop-one.one-index < length items = omega arith in
    next_places E31 (λ xs. clashes xs ys) (λ a. clashes_of a ys) (λ a l. refl) items c.loop-one.one-index c.one-item.result within c.one-item.is
    c.loop-one.least c.note_clashes_of.new.least c.note_clashes_of.ensures ∙ c.loop-one.invariant
