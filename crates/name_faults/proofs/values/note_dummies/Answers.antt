use Rattle.std.proofs.Common.{not, map, ◌∙◌, ap}
use Rattle.fort_tree.specs.declared.fault.Code.TheVariants.{E30}
use Rattle.claw_meaning.specs.Units.{is_listed}
use Rattle.sound_programs.specs.Faults.{found}
use Rattle.sound_programs.specs.NameFaults.{places_where}
use Rattle.fort_names.specs.Leasts.{noted}
use Rattle.fort_names.specs.NameLists.{has}
use Rattle.name_faults.proofs.Parts.{dummies_noted}
use Rattle.name_faults.proofs.values.note_dummies.Goals as goal

-- src/values.rt
pub returns : goal.returns
returns c =
    let declared = c.in_ok-declared.declared in
    dummies_noted declared c.args.unit.now (λ x. c.in_ok-declared.ensures x ∙ ap (λ l. is_listed (map (λ d. d.name) l) x) c.items.ensures)
    c.args.least.now c.note_not_listed.new.least c.note_result.new.least
    (c.note_not_listed.ensures ∙ ap (λ l. noted (found E30 (places_where (λ n. not (has declared n.name)) l)) c.args.least.now) c.items-2.ensures)
    c.note_result.ensures
