use Rattle.std.proofs.Common.{Bool, true, false, ◌&&◌, IsTrue, ℤ, ◌≤ℤ◌, refl, arith}
use Rattle.std.specs.Prelude.{◌↔◌, int_le}
use Rattle.std.proofs.lemmas.Int.{ints}
use Rattle.fort_arith.specs.declared.kind.Kind.{Kind}
use Rattle.fort_arith.specs.Range.{is_whole, least, greatest, in_kind}
use Rattle.fort_arith.proofs.laws.kinds.Goals as goal

pub returns-clause-limits : goal.returns-clause-limits
unfolding least greatest
returns-clause-limits c = record { least_1 = refl; greatest_1 = refl; least_2 = refl; greatest_2 = refl; least_4 = refl; greatest_4 = refl; least_8 = refl; greatest_8 = refl }

both : (whole low high : Bool) → IsTrue (whole && (low && high)) ↔ (IsTrue whole × IsTrue low × IsTrue high)
both true true true = (λ e. (refl, refl, refl), λ t. refl)
both true true false = (λ e. cc, λ t. t.2)
both true false high = (λ e. cc, λ t. t.1)
both false low high = (λ e. cc, λ t. t.0)

between : (kind : Kind) (v : ℤ) → IsTrue (in_kind kind v) ↔ (IsTrue (is_whole kind) × (least kind ≤ℤ v) × (v ≤ℤ greatest kind))
unfolding in_kind
between kind v =
    let parts = both (is_whole kind) (int_le (least kind) v) (int_le v (greatest kind)) in (
      λ e. let t = parts.0 e in (t.0, omega (arith, ints, t.1), omega (arith, ints, t.2)),
      λ t. parts.1 (t.0, grind (arith, ints, t.1), grind (arith, ints, t.2)),
    )

pub returns-clause-between : goal.returns-clause-between
returns-clause-between c = between
