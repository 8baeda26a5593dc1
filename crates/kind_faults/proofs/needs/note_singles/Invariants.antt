use Rattle.std.proofs.Common.{◌≡◌, drop}
use Rattle.std.specs.Prelude.{flat_map}
use Rattle.sound_programs.specs.Faults.{found}
use Rattle.sound_programs.specs.Placing.{placed_subs}
use Rattle.sound_programs.specs.Walks.{single_subscripts}
use Rattle.fort_names.specs.Leasts.{noted}
use Rattle.kind_faults.specs.Needs.{code_of, unmet}
use Rattle.fort_names.specs.Sights.{means}
use Rattle.kind_faults.proofs.needs.note_singles.Given as goal

abbrev pub invariant-loop-sub : goal.invariant-loop-sub
invariant-loop-sub l =
    noted (found (code_of l.need) (flat_map (unmet (means l.sight) l.need) (single_subscripts (placed_subs (drop l.sub-index l.subs))))) l.least
    ≡ noted (found (code_of l.need) (flat_map (unmet (means l.sight) l.need) (single_subscripts (placed_subs l.fn.subs)))) l.fn.least
