use Rattle.std.proofs.Common.{◌+◌, ◌<◌, length, arith, take, subst, sym}
use Rattle.fort_names.specs.Scoping.{AllFit, IsModuleScope}
use Rattle.fort_names.proofs.Fitting.{fits_next}
use Rattle.fort_names.proofs.symbols.module_scopes.Goals as goal

-- src/symbols.rt
pub loop-number-preserved : goal.loop-number-preserved
loop-number-preserved c =
    let modules = c.args.modules.now in
    let s = c.args.shared.now.value in
    let i = c.loop-number.number in
    let within : i < length modules = omega arith in
    record {
      each = subst (λ l. AllFit (IsModuleScope s) 0 (take (i + 1) modules) l) (sym c.in_ok-push.ensures.items)
          (fits_next (IsModuleScope s) modules c.loop-number.scopes.items i c.index-modules-number.result c.in_ok-module_scope.field-0 within c.index-modules-number.is
          c.loop-number.invariant.each c.in_ok-module_scope.ensures);
    }
