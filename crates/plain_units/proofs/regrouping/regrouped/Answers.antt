use Rattle.std.proofs.Common.{◌≡◌, subst}
use Rattle.std.specs.Result.{IfOk}
use Rattle.claw_meaning.specs.Plain.{plain_unit}
use Rattle.plain_units.proofs.Grouping.{with_groups_is}
use Rattle.plain_units.proofs.regrouping.regrouped.Goals as goal

-- src/regrouping.rt
pub returns : goal.returns
returns c = subst (λ v. IfOk c.in_groups.result (λ made. plain_unit made ≡ v)) (with_groups_is (plain_unit c.args.unit.now) c.requires) c.in_groups.ensures
