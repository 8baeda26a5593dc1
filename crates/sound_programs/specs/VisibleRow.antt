-- What names are in the unit `s` of the small sound program, which uses `n` and `twice` of the module `mo`, and in its module.
use Rattle.std.specs.Prelude.{◌≡◌, codes}
use Rattle.claw_meaning.specs.Scope.{Variable, Constant, Procedure}
use Rattle.sound_programs.specs.Placed.{bare_decl, bare_unit}
use Rattle.sound_programs.specs.Scopes.{Of_unit, Of_module}
use Rattle.sound_programs.specs.SmallPrograms.{place, local, sound, mo, twice, s, inc, n_decl}
use Rattle.sound_programs.specs.Visible.{seen, Nothing_seen, Declared_here, Declared_in, External, A_module}

pub record VisibleRow : Type 0 where
  pub its_own : seen sound (Of_unit s) (codes "k") ≡ Declared_here (Variable (codes "s") (bare_decl (local (codes "k") (place 13 14))))
  pub by_use : seen sound (Of_unit s) (codes "n") ≡ Declared_in (codes "mo") (Constant (bare_decl n_decl))
  pub function_by_use : seen sound (Of_unit s) (codes "twice") ≡ Declared_in (codes "mo") (Procedure (bare_unit twice))
  pub external : seen sound (Of_unit s) (codes "inc") ≡ External (bare_unit inc)
  pub a_module : seen sound (Of_unit s) (codes "mo") ≡ A_module mo
  pub nothing : seen sound (Of_unit inc) (codes "n") ≡ Nothing_seen
  -- in the unit `twice` of the module
  pub of_host : seen sound (Of_unit twice) (codes "n") ≡ Declared_in (codes "mo") (Constant (bare_decl n_decl))
  -- its name is its result there, which hides the unit
  pub hidden : seen sound (Of_unit twice) (codes "twice") ≡ Declared_here (Variable (codes "twice") (bare_decl (local (codes "twice") (place 5 16))))
  -- in the module itself
  pub unit_of_module : seen sound (Of_module 0 mo) (codes "twice") ≡ Declared_here (Procedure (bare_unit twice))
