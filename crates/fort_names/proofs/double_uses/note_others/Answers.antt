use Rattle.std.proofs.Common.{◌≡◌, ◌<◌, length, arith, Bool, ap, ◌∙◌}
use Rattle.fort_tree.specs.declared.fault.Code.TheVariants.{E31}
use Rattle.fort_tree.specs.declared.place.Place.{Place}
use Rattle.fort_tree.specs.declared.unit.Use.{Use}
use Rattle.sound_programs.specs.Faults.{found}
use Rattle.sound_programs.specs.Places.{where_place}
use Rattle.sound_programs.specs.Scopes.{place_of_use}
use Rattle.fort_names.specs.Leasts.{noted, places_at}
use Rattle.fort_names.specs.TwoUses.{is_other}
use Rattle.fort_names.specs.Using.{brought_from}
use Rattle.fort_names.proofs.FirstOf.{next_places, test_first}
use Rattle.fort_names.proofs.double_uses.note_others.Goals as goal

-- src/double_uses.rt
pub loop-line-preserved : goal.loop-line-preserved
loop-line-preserved c =
    let items = c.args.lines.now in
    let within : c.loop-line.line-index < length items = omega arith in
    let test : Use → Bool = λ line. is_other c.args.number (brought_from c.args.shared.now c.args.name.now line) in
    let place : Use → Place = λ line. place_of_use line c.args.name.now in
    let other : c.is_other-other.result ≡ test c.line-item.result = c.is_other-other.ensures ∙ ap (is_other c.args.number) c.brought_from.ensures in
    next_places E31 (places_at test place) (λ line. where_place (test line) (place line)) (test_first test place) items c.loop-line.line-index c.line-item.result within c.line-item.is
    c.loop-line.least c.note_if.new.self
    (c.note_if.ensures ∙ (λ i. noted (found E31 (where_place (other i) (c.place_of_use.ensures i))) c.loop-line.least)) ∙ c.loop-line.invariant
