use Rattle.std.proofs.Common.{◌<◌, length, arith, Bool, not, ap, ◌∙◌}
use Rattle.fort_tree.specs.declared.fault.Code.TheVariants.{E34}
use Rattle.fort_tree.specs.declared.stmt.Named.{Named}
use Rattle.sound_programs.specs.Faults.{found}
use Rattle.sound_programs.specs.Places.{where_place}
use Rattle.fort_names.specs.Leasts.{noted, places_at}
use Rattle.fort_names.specs.Sharing.{gives}
use Rattle.fort_names.proofs.FirstOf.{next_places, test_first}
use Rattle.fort_names.proofs.uses.note_names.Goals as goal

-- src/uses.rt
pub loop-named-preserved : goal.loop-named-preserved
loop-named-preserved c =
    let items = c.args.only.now in
    let within : c.loop-named.named-index < length items = omega arith in
    let test : Named → Bool = λ n. not (gives c.args.shared.now c.args.used.now n.name) in
    next_places E34 (places_at test (λ n. n.at)) (λ n. where_place (test n) n.at) (test_first test (λ n. n.at)) items c.loop-named.named-index c.named-item.result within c.named-item.is
    c.loop-named.least c.note_if.new.self
    (c.note_if.ensures ∙ ap (λ b. noted (found E34 (where_place b c.named-item.result.at)) c.loop-named.least) c.is_missing.ensures)
    ∙ c.loop-named.invariant
