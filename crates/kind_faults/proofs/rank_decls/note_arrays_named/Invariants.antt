use Rattle.std.proofs.Common.{◌≡◌, drop, map, ◌&&◌}
use Rattle.fort_names.specs.Leasts.{noted}
use Rattle.fort_tree.specs.declared.fault.Code.TheVariants.{E33}
use Rattle.sound_programs.specs.Faults.{found}
use Rattle.sound_programs.specs.Placed.{Decl}
use Rattle.sound_programs.specs.Placing.{placed_decl}
use Rattle.sound_programs.specs.RankFaults.{has_dimensions, places_of_decls}
use Rattle.std.specs.Str.{bytes_eq}
use Rattle.kind_faults.proofs.rank_decls.note_arrays_named.Given as goal

abbrev pub invariant-loop-decl : goal.invariant-loop-decl
invariant-loop-decl l = noted (found E33 (places_of_decls (λ (d : Decl). bytes_eq d.name l.name && has_dimensions d.shape) (map placed_decl (drop l.decl-index l.decls)))) l.least ≡ noted (found E33 (places_of_decls (λ (d : Decl). bytes_eq d.name l.name && has_dimensions d.shape) (map placed_decl l.fn.decls))) l.fn.least
