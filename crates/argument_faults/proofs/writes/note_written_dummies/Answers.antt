use Rattle.std.proofs.Common.{◌<◌, length, arith, Bool, ap, ◌∙◌}
use Rattle.fort_tree.specs.declared.fault.Code.TheVariants.{E3A}
use Rattle.fort_tree.specs.declared.unit.Decl.{Decl}
use Rattle.sound_programs.specs.Faults.{found}
use Rattle.sound_programs.specs.Places.{where_place}
use Rattle.fort_names.specs.Leasts.{noted, places_at}
use Rattle.fort_names.proofs.FirstOf.{next_places, test_first}
use Rattle.argument_faults.specs.Written.{is_written_dummy}
use Rattle.argument_faults.proofs.writes.note_written_dummies.Goals as goal

-- src/writes.rt
pub loop-decl-preserved : goal.loop-decl-preserved
loop-decl-preserved c =
    let items = c.args.decls.now in
    let within : c.loop-decl.decl-index < length items = omega arith in
    let test : Decl → Bool = is_written_dummy c.args.dummies.now in
    next_places E3A (places_at test (λ d. d.at)) (λ d. where_place (test d) d.at) (test_first test (λ d. d.at)) items c.loop-decl.decl-index c.decl-item.result within c.decl-item.is
    c.loop-decl.least c.note_if.new.self
    (c.note_if.ensures ∙ ap (λ b. noted (found E3A (where_place b c.decl-item.result.at)) c.loop-decl.least) c.is_written_dummy.ensures)
    ∙ c.loop-decl.invariant
