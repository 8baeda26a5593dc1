-- A unit that is referred to, and what its scope declares.
use Rattle.std.specs.Prelude.{◌≡◌, map, Option}
use Rattle.std.specs.Option.{option_map, option_and_then}
use Rattle.fort_tree.specs.declared.unit.Unit.{Unit}
use Rattle.claw_meaning.specs.Plain.{plain_decl}
use Rattle.claw_meaning.specs.Scope.{decl_named}
use Rattle.claw_meaning.specs.Syntax as plain
use Rattle.claw_meaning.specs.Syntax.{Text}
use Rattle.fort_names.specs.declared.entity.Entity.{Entity}
use Rattle.fort_names.specs.declared.scope.Scope.{Scope}
use Rattle.fort_names.specs.Finding.{own_found}

-- the declaration of what is found
abbrev pub decl_behind : Option Entity → Option plain.Decl
decl_behind = option_and_then (λ e. option_map plain_decl e.decl)

-- The scope itself has under each name the unit's first declaration of it.
pub record Declares (u : Unit) (c : Scope) : Type 0 where
  pub each : (x : Text) → decl_behind (own_found c.own c.shared.value x) ≡ decl_named (map plain_decl u.decls) x
