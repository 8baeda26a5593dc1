use Rattle.std.proofs.Common.{◌<◌, length, refl, ap, ◌∙◌, arith}
use Rattle.fort_tree.specs.declared.fault.Code.TheVariants.{E32}
use Rattle.sound_programs.specs.Faults.{found}
use Rattle.fort_names.specs.Leasts.{noted}
use Rattle.kind_faults.specs.Cases.{overlaps_of, overlapped_by}
use Rattle.kind_faults.proofs.Places.{next_at}
use Rattle.kind_faults.proofs.cases.note_overlapped.Goals as goal

-- src/cases.rt
pub loop-other-preserved : goal.loop-other-preserved
loop-other-preserved c =
    let items = c.args.before.now in
    let within : c.loop-other.other-index < length items = omega arith in
    next_at E32 (λ l. overlapped_by l c.args.one.now) (λ a. overlaps_of a c.args.one.now) (λ a l. refl) items c.loop-other.other-index _ within c.loop-other.least c.note_at.new.least
    (c.note_at.ensures ∙ ap (λ l. noted (found E32 l) c.loop-other.least) c.overlap_of.ensures) ∙ c.loop-other.invariant
