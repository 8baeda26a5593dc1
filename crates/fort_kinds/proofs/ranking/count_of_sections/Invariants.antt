use Rattle.std.proofs.Common.{◌≡◌, ◌+◌, ◌≤◌, drop}
use Rattle.sound_programs.specs.Placing.{placed_subs}
use Rattle.sound_programs.specs.Ranking.{count_of_sections}
use Rattle.fort_kinds.proofs.ranking.count_of_sections.Given as goal

abbrev pub invariant-loop-sub : goal.invariant-loop-sub
invariant-loop-sub l = (l.count ≤ l.sub-index) × (l.count + count_of_sections (placed_subs (drop l.sub-index l.subs)) ≡ count_of_sections (placed_subs l.subs))
