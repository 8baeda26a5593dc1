use Rattle.std.proofs.Common.{◌≡◌, drop}
use Rattle.sound_programs.specs.Placing.{placed_subs}
use Rattle.sound_programs.specs.Ranking.{operands_in}
use Rattle.fort_kinds.specs.Gathering.{gathered}
use Rattle.fort_names.specs.Sights.{means}
use Rattle.fort_kinds.proofs.ranking.Ranks.«+gather».Given as goal

abbrev pub invariant-gather_all-loop-sub : goal.invariant-gather_all-loop-sub
invariant-gather_all-loop-sub l = gathered l.self (operands_in (means l.sight) (placed_subs (drop l.sub-index l.subs))) ≡ gathered l.fn.self (operands_in (means l.sight) (placed_subs l.subs))
