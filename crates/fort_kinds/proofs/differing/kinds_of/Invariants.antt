use Rattle.std.proofs.Common.{◌≡◌, drop}
use Rattle.sound_programs.specs.Placing.{placed_subs}
use Rattle.sound_programs.specs.Walks.{single_subscripts}
use Rattle.fort_kinds.specs.KindsSeen.{no_kind, kinds_seen}
use Rattle.fort_names.specs.Sights.{means}
use Rattle.fort_kinds.proofs.differing.kinds_of.Given as goal

abbrev pub invariant-loop-arg : goal.invariant-loop-arg
invariant-loop-arg l =
    kinds_seen (means l.sight) l.kinds (single_subscripts (placed_subs (drop l.arg-index l.args)))
    ≡ kinds_seen (means l.sight) no_kind (single_subscripts (placed_subs l.args))
