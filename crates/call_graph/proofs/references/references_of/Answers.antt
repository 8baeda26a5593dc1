use Rattle.std.proofs.Common.{◌≡◌, ◌≤◌, ◌<◌, ◌+◌, ◌∙◌, [], ap, sym, subst, arith, take, take_all, get_or, length, flat_map, map}
use Rattle.fort_names.specs.Scoping.{AllFit}
use Rattle.fort_names.specs.Sights.{means}
use Rattle.sound_programs.specs.Placing.{placed_unit}
use Rattle.sound_programs.specs.Walks as walks
use Rattle.fort_names.proofs.Fitting.{fits_next}
use Rattle.call_graph.specs.Adding.{Adds, step_referrals}
use Rattle.call_graph.specs.Referring.{AreReferencesIn}
use Rattle.call_graph.proofs.Added.{all_fit, all_added, read_at}
use Rattle.call_graph.proofs.references.references_of.Goals as goal

-- src/references.rt
pub loop-number-preserved : goal.loop-number-preserved
loop-number-preserved c =
    let f = c.args.file.now in
    let i = c.loop-number.number in
    let units = c.items-unit-items.result.now in
    let within : i < length f.units = omega (arith, ap length c.items-unit-items.ensures) in
    let at : c.unit-item.result ≡ get_or f.units i c.unit-item.result = c.unit-item.is ∙ ap (λ us. get_or us i c.unit-item.result) c.items-unit-items.ensures in
    let unit = c.unit-item.result in
    let new : AreReferencesIn f unit c.in_ok-references_in.field-0 =
    all_added f unit c.in_ok-references_in.field-0 (means c.sight_of_unit-sight.result) (c.sight_of_unit-sight.ensures.means unit (read_at f.units i unit within at))
    (subst (λ g. Adds g unit.name [] c.in_ok-references_in.field-0 (flat_map (step_referrals (means c.sight_of_unit-sight.result) unit.name) (map (λ s. s.step) (walks.steps_of (placed_unit unit))))) c.sight_of_unit-sight.ensures.file (c.in_ok-references_in.ensures unit.name)) in
    subst (λ l. AllFit (λ n. AreReferencesIn f) 0 (take (i + 1) f.units) l) (sym c.in_ok-push.ensures.items)
    (fits_next (λ n. AreReferencesIn f) f.units c.loop-number.rows.items i unit c.in_ok-references_in.field-0 within at c.loop-number.invariant new)

pub returns : goal.returns
returns c =
    let f = c.args.file.now in
    let past : length f.units ≤ c.loop-number.number = omega (arith, ap length c.items-unit-items.ensures) in
    all_fit f c.loop-number.rows.items (subst (λ us. AllFit (λ n. AreReferencesIn f) 0 us c.loop-number.rows.items) (take_all c.loop-number.number f.units past) c.loop-number.invariant)
