use Rattle.std.proofs.Common.{◌||◌, length, map}
use Rattle.std.specs.Prelude.{nat_lt}
use Rattle.sound_programs.specs.Placed.{Decl}
use Rattle.sound_programs.specs.Placing.{placed_decl}
use Rattle.sound_programs.specs.RankFaults.{greatest_rank, is_assumed_of_no_dummy, is_assumed_beside_explicit}
use Rattle.sound_programs.specs.Scopes.{decls_of}
use Rattle.kind_faults.specs.Holders.{scope_of}
use Rattle.kind_faults.proofs.Decls.{two_tests}
use Rattle.kind_faults.proofs.rank_decls.note_ranks_of_decls.Goals as goal

-- src/rank_decls.rt
pub returns : goal.returns
returns c =
    two_tests (λ (d : Decl). nat_lt (greatest_rank c.args.mode) (length d.shape)) (λ (d : Decl). is_assumed_of_no_dummy (scope_of c.args.holder.now) d || is_assumed_beside_explicit d)
    (map placed_decl c.decls-decls.result.now) (decls_of (scope_of c.args.holder.now)) c.args.least.now c.note_above.new.least c.note_assumed.new.least
    c.decls-decls.ensures c.note_above.ensures c.note_assumed.ensures
