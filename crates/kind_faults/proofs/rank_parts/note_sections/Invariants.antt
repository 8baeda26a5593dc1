use Rattle.std.proofs.Common.{◌≡◌, drop}
use Rattle.fort_tree.specs.declared.fault.Code.TheVariants.{E33}
use Rattle.sound_programs.specs.Faults.{found}
use Rattle.sound_programs.specs.Placing.{placed_subs}
use Rattle.sound_programs.specs.Walks.{section_places}
use Rattle.fort_names.specs.Leasts.{noted}
use Rattle.kind_faults.proofs.rank_parts.note_sections.Given as goal

abbrev pub invariant-loop-sub : goal.invariant-loop-sub
invariant-loop-sub l =
    noted (found E33 (section_places (placed_subs (drop l.sub-index l.subs)))) l.least ≡ noted (found E33 (section_places (placed_subs l.fn.subs))) l.fn.least
