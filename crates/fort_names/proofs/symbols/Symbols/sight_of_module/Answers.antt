use Rattle.std.proofs.Common.{◌≡◌, ◌<◌, length, Some, refl, sym, ap, ◌∙◌, arith}
use Rattle.std.specs.List.{slice_get}
use Rattle.std.proofs.lemmas.Option.{slice_get_read}
use Rattle.sound_programs.specs.Placed.{bare_program}
use Rattle.sound_programs.specs.Placing.{placed, placed_module}
use Rattle.sound_programs.specs.Scopes.{Of_module, entity_in}
use Rattle.fort_names.specs.Sights.{means}
use Rattle.fort_names.proofs.symbols.Symbols.sight_of_module.Goals as goal

-- src/sight.rt
pub returns-clause-means : goal.returns-clause-means
unfolding means
returns-clause-means c m e =
    let modules = c.args.file.now.modules in
    let i = c.args.number in
    let items = c.items.result.now in
    let seen = c.index-items-number.result in
    let within : i < length items = omega (arith, ap length c.items.ensures) in
    let there : slice_get modules i ≡ Some seen = ap (λ l. slice_get l i) (sym c.items.ensures) ∙ slice_get_read items (length items) i seen refl within c.index-items-number.is in
    let same : seen ≡ m = cc in
    ap (λ v. entity_in (bare_program (placed c.args.file.now)) (Of_module i (placed_module v))) same
