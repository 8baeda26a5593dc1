use Rattle.std.proofs.Common.{◌≡◌, ◌<◌, length, arith, ◌∙◌}
use Rattle.fort_names.proofs.Bucketing.{no_units, next_unit, written_back}
use Rattle.fort_names.proofs.declarations.module_names.Goals as goal

-- src/declarations.rt
pub loop-unit-init : goal.loop-unit-init
loop-unit-init c = c.in_ok-lists.ensures ∙ no_units 0 c.args.modules.now

pub loop-unit-preserved : goal.loop-unit-preserved
loop-unit-preserved c =
    let i = c.loop-unit.unit-index in
    let within : i < length c.args.units.now = omega arith in
    let same : length c.push_unit.new.lists ≡ length c.loop-unit.lists.items = cc c.push_unit.auto.lists in
    let all : c.loop-unit.lists.len ≡ length c.loop-unit.lists.items = (cc) in
    written_back c.loop-unit.lists.len c.push_unit.new.lists c.loop-unit.lists.items same all
    ∙ next_unit c.args.modules.now c.args.units.now i c.unit-item.result within c.unit-item.is c.as_mut_slice.result.now c.push_unit.new.lists (c.as_mut_slice.ensures.value ∙ c.loop-unit.invariant) c.in_ok-push_unit.ensures
