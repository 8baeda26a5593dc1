use Rattle.std.proofs.Common.{◌<◌, length, arith, refl, ap, ◌∙◌, []}
use Rattle.fort_tree.specs.declared.fault.Code.TheVariants.{E3B}
use Rattle.sound_programs.specs.Faults.{found}
use Rattle.fort_names.specs.Leasts.{noted, places_at, has_intent, module_intents, of_modules}
use Rattle.fort_names.proofs.FirstOf.{next_places}
use Rattle.fort_names.proofs.intents.note_modules.Goals as goal

-- src/intents.rt
pub loop-one-preserved : goal.loop-one-preserved
loop-one-preserved c =
    let items = c.args.modules.now in
    let within : c.loop-one.one-index < length items = omega arith in
    next_places E3B (of_modules module_intents) module_intents (λ a l. refl) items c.loop-one.one-index c.one-item.result within c.one-item.is c.loop-one.least c.note_other.new.least
    (c.note_other.ensures ∙ ap (λ l. noted (found E3B (places_at (has_intent []) (λ d. d.at) l)) c.loop-one.least) c.items.ensures) ∙ c.loop-one.invariant
