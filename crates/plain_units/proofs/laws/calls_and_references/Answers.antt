use Rattle.std.proofs.Common.{◌≡◌, false}
use Rattle.plain_units.specs.Calling.{runs_column}
use Rattle.plain_units.proofs.Combining.{together}
use Rattle.plain_units.proofs.laws.calls_and_references.Goals as goal

-- src/laws.rt
pub returns : goal.returns
returns c s u = together (λ x. runs_column s u x ≡ false) (λ x. runs_column s u x ≡ false) u.body
