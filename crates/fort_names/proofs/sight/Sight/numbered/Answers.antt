use Rattle.std.proofs.Common.{◌≡◌, Some, slice_get, sym, subst}
use Rattle.fort_names.specs.Sights.{file_of}
use Rattle.fort_names.proofs.Callees.{declares}
use Rattle.fort_names.proofs.sight.Sight.numbered.Goals as goal

-- src/sight.rt
pub invariant_of-result : goal.invariant_of-result
invariant_of-result c =
    let f = c.self.inside.file.now in
    let s = c.self.inside.symbols.now in
    declares f s c.args.number c.args.unit.now c.scope.result.now c.self.invariant.symbols
    (subst (λ v. slice_get (file_of v).units c.args.number ≡ Some c.args.unit.now) (sym c.self.view_is) c.requires) c.scope.ensures
