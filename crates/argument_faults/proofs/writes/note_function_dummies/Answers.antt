use Rattle.std.proofs.Common.{Some, None, sym, ap, ◌∙◌}
use Rattle.fort_tree.specs.declared.fault.Code.TheVariants.{E3A}
use Rattle.sound_programs.specs.Faults.{found}
use Rattle.fort_names.specs.Leasts.{noted, places_at}
use Rattle.argument_faults.specs.Written.{is_written_dummy}
use Rattle.argument_faults.proofs.WritesAre.{dummies_are}
use Rattle.argument_faults.proofs.writes.note_function_dummies.Goals as goal

-- src/writes.rt
pub returns-in-None : goal.returns-in-None
returns-in-None c = ap (λ l. noted (found E3A l) c.args.least.now) (sym (dummies_are c.args.unit.now None c.in-None.is))

-- src/writes.rt
pub returns-in-Some : goal.returns-in-Some
returns-in-Some c =
    c.note_written_dummies.ensures
    ∙ (λ i. noted (found E3A (places_at (is_written_dummy (c.items.ensures i)) (λ d. d.at) (c.items-in-Some.ensures i))) c.args.least.now)
    ∙ ap (λ l. noted (found E3A l) c.args.least.now) (sym (dummies_are c.args.unit.now (Some c.in-Some.field-0) c.in-Some.is))
