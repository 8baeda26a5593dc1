use Rattle.std.proofs.Common.{refl}
use Rattle.sound_programs.proofs.rows.names_by_example.Goals as goal

-- src/rows.rt
pub returns : goal.returns
returns c = record {
  its_own = refl;
  by_use = refl;
  function_by_use = refl;
  external = refl;
  a_module = refl;
  nothing = refl;
  of_host = refl;
  hidden = refl;
  unit_of_module = refl;
}
