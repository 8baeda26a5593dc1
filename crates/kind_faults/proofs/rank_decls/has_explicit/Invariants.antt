use Rattle.std.proofs.Common.{◌≡◌, drop, map, is_some}
use Rattle.std.specs.List.{list_any}
use Rattle.sound_programs.specs.Placing.{placed_bound}
use Rattle.kind_faults.proofs.rank_decls.has_explicit.Given as goal

abbrev pub invariant-loop-bound : goal.invariant-loop-bound
invariant-loop-bound l = list_any (λ b. is_some b.upper) (map placed_bound (drop l.bound-index l.bound-items)) ≡ list_any (λ b. is_some b.upper) (map placed_bound l.fn.decl.shape)
