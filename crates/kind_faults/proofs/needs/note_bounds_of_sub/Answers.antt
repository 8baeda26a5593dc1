use Rattle.std.proofs.Common.{◌++◌, sym, ap, ◌∙◌}
use Rattle.std.specs.Prelude.{flat_map}
use Rattle.sound_programs.specs.Faults.{found}
use Rattle.sound_programs.specs.Placed.{Subscripts}
use Rattle.sound_programs.specs.Placing.{limit, placed_option}
use Rattle.sound_programs.specs.Walks.{in_limit, section_bounds}
use Rattle.fort_names.specs.Leasts.{noted}
use Rattle.fort_names.specs.Sights.{means}
use Rattle.kind_faults.specs.Needs.{code_of, unmet}
use Rattle.fort_kinds.proofs.Levels.{of_range}
use Rattle.kind_faults.proofs.needs.note_bounds_of_sub.Goals as goal

-- src/needs.rt
pub returns-in-Range : goal.returns-in-Range
returns-in-Range c =
    λ (rest : Subscripts). c.note_limit-in-Range.ensures (section_bounds rest)
    ∙ c.note_limit.ensures (in_limit (limit (placed_option c.in-Range.to)) ++ section_bounds rest)
    ∙ ap (λ (s : Subscripts). noted (found (code_of c.args.need) (flat_map (unmet (means c.args.sight.now) c.args.need) (section_bounds s))) c.args.least.now) (sym (of_range c.args.sub.now c.in-Range.from c.in-Range.to _ c.in-Range.is rest))
