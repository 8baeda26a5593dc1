use Rattle.std.proofs.Common.{◌≡◌, ◌<◌, length, Some, refl, sym, ap, ◌∙◌, arith}
use Rattle.std.specs.List.{slice_get}
use Rattle.std.proofs.lemmas.Option.{slice_get_read}
use Rattle.sound_programs.specs.Placed.{bare_program}
use Rattle.sound_programs.specs.Placing.{placed, placed_unit}
use Rattle.sound_programs.specs.Scopes.{Of_unit, entity_in}
use Rattle.fort_names.specs.Sights.{means}
use Rattle.fort_names.proofs.symbols.Symbols.sight_of_unit.Goals as goal

-- src/sight.rt
pub returns-clause-means : goal.returns-clause-means
unfolding means
returns-clause-means c u e =
    let units = c.args.file.now.units in
    let i = c.args.unit in
    let items = c.items.result.now in
    let seen = c.index-items-unit.result in
    let within : i < length items = omega (arith, ap length c.items.ensures) in
    let there : slice_get units i ≡ Some seen = ap (λ l. slice_get l i) (sym c.items.ensures) ∙ slice_get_read items (length items) i seen refl within c.index-items-unit.is in
    let same : seen ≡ u = cc in
    ap (λ v. entity_in (bare_program (placed c.args.file.now)) (Of_unit (placed_unit v))) same
