use Rattle.std.proofs.Common.{◌≡◌, ◌++◌, drop}
use Rattle.fort_kinds.specs.Sites.{placed_sites}
use Rattle.fort_names.specs.Sights.{means}
use Rattle.sound_programs.specs.Walks.{call_site, is_function_site, reference}
use Rattle.std.specs.List.{filter}
use Rattle.std.specs.Prelude.{flat_map}
use Rattle.unit_steps.specs.Behind.{exprs, placed_step}
use Rattle.fort_kinds.proofs.sites.sites_of.Given as goal

abbrev pub invariant-loop-part : goal.invariant-loop-part
invariant-loop-part l = placed_sites l.list.items ++ filter (is_function_site (means l.sight)) (flat_map reference (exprs (drop l.part-index l.parts)))
    ≡ call_site (placed_step l.fn.step) ++ filter (is_function_site (means l.sight)) (flat_map reference (exprs l.parts))
