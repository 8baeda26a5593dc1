use Rattle.std.proofs.Common.{◌+◌, ◌<◌, length, arith, take, subst, sym}
use Rattle.fort_names.specs.Scoping.{AllFit, IsUnitScope}
use Rattle.fort_names.proofs.Fitting.{fits_next}
use Rattle.fort_names.proofs.symbols.unit_scopes.Goals as goal

-- src/symbols.rt
pub loop-unit-preserved : goal.loop-unit-preserved
loop-unit-preserved c =
    let units = c.args.units.now in
    let ms = c.args.modules.now in
    let s = c.args.shared.now.value in
    let i = c.loop-unit.unit-index in
    let within : i < length units = omega arith in
    record {
      each = subst (λ l. AllFit (λ n. IsUnitScope ms s) 0 (take (i + 1) units) l) (sym c.in_ok-push.ensures.items)
          (fits_next (λ n. IsUnitScope ms s) units c.loop-unit.scopes.items i c.unit-item.result c.in_ok-unit_scope.field-0 within c.unit-item.is c.loop-unit.invariant.each
          c.in_ok-unit_scope.ensures);
    }
