use Rattle.std.proofs.Common.{◌<◌, map, length, arith, ap, ◌∙◌, ◌||◌}
use Rattle.kind_faults.proofs.Decls.{decl_first}
use Rattle.kind_faults.specs.Holders.{scope_of}
use Rattle.fort_names.proofs.FirstOf.{next_places}
use Rattle.fort_names.specs.Leasts.{noted}
use Rattle.fort_tree.specs.declared.fault.Code.TheVariants.{E33}
use Rattle.sound_programs.specs.Faults.{found}
use Rattle.sound_programs.specs.Placed.{Decl}
use Rattle.sound_programs.specs.Places.{where_place}
use Rattle.sound_programs.specs.Placing.{placed_decl}
use Rattle.sound_programs.specs.RankFaults.{is_assumed_of_no_dummy, is_assumed_beside_explicit, places_of_decls}
use Rattle.kind_faults.proofs.rank_decls.note_assumed.Goals as goal

-- src/rank_decls.rt
pub loop-decl-preserved : goal.loop-decl-preserved
loop-decl-preserved c =
    let items = c.args.decls.now in
    let within : c.loop-decl.decl-index < length items = omega arith in
    next_places E33 (λ l. places_of_decls (λ (d : Decl). is_assumed_of_no_dummy (scope_of c.args.holder.now) d || is_assumed_beside_explicit d) (map placed_decl l)) (λ a. where_place ((λ (d : Decl). is_assumed_of_no_dummy (scope_of c.args.holder.now) d || is_assumed_beside_explicit d) (placed_decl a)) a.at) (λ a l. decl_first (λ (d : Decl). is_assumed_of_no_dummy (scope_of c.args.holder.now) d || is_assumed_beside_explicit d) (placed_decl a) (map placed_decl l)) items c.loop-decl.decl-index c.decl-item.result within c.decl-item.is c.loop-decl.least c.note_if.new.self
    (c.note_if.ensures ∙ ap (λ b. noted (found E33 (where_place b c.decl-item.result.at)) c.loop-decl.least) c.is_assumed_wrongly.ensures) ∙ c.loop-decl.invariant
