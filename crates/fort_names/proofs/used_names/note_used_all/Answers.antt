use Rattle.std.proofs.Common.{◌<◌, length, arith, refl, ◌∙◌}
use Rattle.fort_tree.specs.declared.fault.Code.TheVariants.{E31}
use Rattle.sound_programs.specs.Places.{where_place, later_of}
use Rattle.sound_programs.specs.Faults.{found}
use Rattle.fort_names.specs.Leasts.{noted}
use Rattle.fort_names.specs.Sharing.{gives}
use Rattle.fort_names.specs.Using.{used_all}
use Rattle.fort_names.proofs.FirstOf.{next_places}
use Rattle.fort_names.proofs.used_names.note_used_all.Goals as goal

-- src/used_names.rt
pub loop-one-preserved : goal.loop-one-preserved
loop-one-preserved c =
    let items = c.args.declared.now in
    let s = c.args.shared.now in
    let line = c.args.line.now in
    let within : c.loop-one.one-index < length items = omega arith in
    next_places E31 (used_all s line) (λ n. where_place (gives s line.name n.name) (later_of n.at line.at)) (λ a l. refl) items c.loop-one.one-index c.one-item.result within c.one-item.is
    c.loop-one.least c.note_if.new.self
    (c.note_if.ensures ∙ (λ i. noted (found E31 (where_place (c.gives.ensures i) (c.later_of.ensures i))) c.loop-one.least)) ∙ c.loop-one.invariant
