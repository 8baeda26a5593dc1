use Rattle.std.proofs.Common.{◌<◌, length, arith, refl, ◌∙◌}
use Rattle.fort_tree.specs.declared.fault.Code.TheVariants.{E31}
use Rattle.std.specs.Str.{bytes_eq}
use Rattle.sound_programs.specs.Faults.{found}
use Rattle.sound_programs.specs.Places.{where_place, later_of}
use Rattle.fort_names.specs.Leasts.{noted, clashes_of}
use Rattle.fort_names.proofs.FirstOf.{next_places}
use Rattle.fort_names.proofs.clashes.note_clashes_of.Goals as goal

-- src/clashes.rt
pub loop-other-preserved : goal.loop-other-preserved
loop-other-preserved c =
    let items = c.args.others.now in
    let a = c.args.one.now in
    let within : c.loop-other.other-index < length items = omega arith in
    next_places E31 (clashes_of a) (λ b. where_place (bytes_eq a.name b.name) (later_of a.at b.at)) (λ b l. refl) items c.loop-other.other-index c.other-item.result within c.other-item.is
    c.loop-other.least c.note_if.new.self
    (c.note_if.ensures ∙ (λ i. noted (found E31 (where_place (c.eq.ensures i) (c.later_of.ensures i))) c.loop-other.least)) ∙ c.loop-other.invariant
