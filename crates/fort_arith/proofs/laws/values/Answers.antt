use Rattle.std.proofs.Common.{◌≡◌, IsTrue, Option, Some, None, ℤ, refl, sym, ap, ◌∙◌}
use Rattle.std.specs.Prelude.{◌↔◌}
use Rattle.std.specs.Option.{option_and_then}
use Rattle.std.proofs.lemmas.Option.{cond_some}
use Rattle.fort_arith.specs.declared.kind.Kind.{Kind}
use Rattle.fort_arith.specs.Range.{in_kind, fitted}
use Rattle.fort_arith.specs.Operators.{exact, applied}
use Rattle.fort_arith.specs.Intrinsics.{exact_intrinsic, intrinsic_applied}
use Rattle.fort_arith.proofs.laws.values.Goals as goal

fits : (kind : Kind) (v w : ℤ) → (fitted kind v ≡ Some w) ↔ ((v ≡ w) × IsTrue (in_kind kind w))
unfolding fitted
fits kind v w = (
  λ e. let t = cond_some (in_kind kind v) v w e in (t.1, ap (in_kind kind) (sym t.1) ∙ t.0),
  λ (e, t). rw (e, t) refl,
)

narrows : (kind : Kind) (o : Option ℤ) (v : ℤ) → (option_and_then (fitted kind) o ≡ Some v) ↔ ((o ≡ Some v) × IsTrue (in_kind kind v))
narrows kind None v = (λ e. cc, λ (e, t). cc)
narrows kind (Some x) v = (λ e. let t = (fits kind x v).0 e in (ap Some t.0, t.1), λ (e, t). (fits kind x v).1 (let same : x ≡ v = cc in same, t))

pub returns-clause-fitted : goal.returns-clause-fitted
returns-clause-fitted c = fits

pub returns-clause-operators : goal.returns-clause-operators
unfolding applied
returns-clause-operators c = λ op kind a b v. narrows kind (exact op a b) v

pub returns-clause-intrinsics : goal.returns-clause-intrinsics
unfolding intrinsic_applied
returns-clause-intrinsics c = λ which kind args v. narrows kind (exact_intrinsic which args) v
