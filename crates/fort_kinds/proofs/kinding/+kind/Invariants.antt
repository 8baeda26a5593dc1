use Rattle.std.proofs.Common.{◌≡◌, drop}
use Rattle.sound_programs.specs.Kinding.{common_kind, kinds_in}
use Rattle.sound_programs.specs.Placing.{placed_subs}
use Rattle.fort_kinds.specs.OneSub.{shared_after}
use Rattle.fort_names.specs.Sights.{means}
use Rattle.fort_kinds.proofs.kinding.«+kind».Given as goal

abbrev pub invariant-common_kind-loop-arg : goal.invariant-common_kind-loop-arg
invariant-common_kind-loop-arg l = shared_after l.shared (kinds_in (means l.sight) (placed_subs (drop l.arg-index l.args))) ≡ common_kind (kinds_in (means l.sight) (placed_subs l.args))
