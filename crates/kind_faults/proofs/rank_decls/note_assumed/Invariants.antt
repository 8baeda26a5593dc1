use Rattle.std.proofs.Common.{◌≡◌, drop, map, ◌||◌}
use Rattle.kind_faults.specs.Holders.{scope_of}
use Rattle.fort_names.specs.Leasts.{noted}
use Rattle.fort_tree.specs.declared.fault.Code.TheVariants.{E33}
use Rattle.sound_programs.specs.Faults.{found}
use Rattle.sound_programs.specs.Placed.{Decl}
use Rattle.sound_programs.specs.Placing.{placed_decl}
use Rattle.sound_programs.specs.RankFaults.{is_assumed_of_no_dummy, is_assumed_beside_explicit, places_of_decls}
use Rattle.kind_faults.proofs.rank_decls.note_assumed.Given as goal

abbrev pub invariant-loop-decl : goal.invariant-loop-decl
invariant-loop-decl l = noted (found E33 (places_of_decls (λ (d : Decl). is_assumed_of_no_dummy (scope_of l.holder) d || is_assumed_beside_explicit d) (map placed_decl (drop l.decl-index l.decls)))) l.least ≡ noted (found E33 (places_of_decls (λ (d : Decl). is_assumed_of_no_dummy (scope_of l.holder) d || is_assumed_beside_explicit d) (map placed_decl l.fn.decls))) l.fn.least
