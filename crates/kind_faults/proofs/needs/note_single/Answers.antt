use Rattle.std.proofs.Common.{sym, ap, ◌∙◌}
use Rattle.std.specs.Prelude.{flat_map}
use Rattle.sound_programs.specs.Faults.{found}
use Rattle.sound_programs.specs.Placed.{Subscripts}
use Rattle.sound_programs.specs.Walks.{single_subscripts}
use Rattle.fort_names.specs.Leasts.{noted}
use Rattle.fort_names.specs.Sights.{means}
use Rattle.kind_faults.specs.Needs.{code_of, unmet}
use Rattle.fort_kinds.proofs.Levels.{of_alone}
use Rattle.kind_faults.proofs.needs.note_single.Goals as goal

-- src/needs.rt
pub returns-in-One : goal.returns-in-One
returns-in-One c =
    λ (rest : Subscripts). c.note_next.ensures (single_subscripts rest)
    ∙ ap (λ (s : Subscripts). noted (found (code_of c.args.need) (flat_map (unmet (means c.args.sight.now) c.args.need) (single_subscripts s))) c.args.least.now) (sym (of_alone c.args.sub.now c.in-One.expr c.in-One.is rest))
