use Rattle.std.proofs.Common.{◌&&◌}
use Rattle.std.specs.Str.{bytes_eq}
use Rattle.claw_meaning.specs.Plain.{plain_decl}
use Rattle.scalar_units.specs.Units.{is_in}
use Rattle.scalar_units.proofs.Counting.{found}
use Rattle.scalar_units.proofs.sums.is_input.Goals as goal

-- src/sums.rt
pub returns : goal.returns
returns c = found (λ d. is_in d.intent && bytes_eq d.name c.args.name.now) plain_decl c.args.decls.now c.has_input.result c.has_input.ensures
