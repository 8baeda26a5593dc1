-- The one thing that a name is in a scope, and where it is declared: in the scope itself; in a module, from which USE brings it
-- or whose scope is around; or nowhere but in the files, as an external unit or a module. The first hides the second, and the
-- second the third.
use Rattle.std.specs.Prelude.{map, Option, Some, None, Bool, if◌then◌else◌}
use Rattle.std.specs.List.{list_any}
use Rattle.std.specs.Str.{bytes_eq}
use Rattle.claw_meaning.specs.Syntax as plain
use Rattle.claw_meaning.specs.Syntax.{Text}
use Rattle.claw_meaning.specs.Scope.{Entity, unit_within, module_at}
use Rattle.sound_programs.specs.Placed.{Module, Program, bare_use, bare_program}
use Rattle.sound_programs.specs.Scopes.{Scope, Of_unit, Of_module, uses_of, declared, entity_in, module_named, or_other, origin, origin_used}

pub data Seen : Type 0 where
  Nothing_seen : Seen
  Declared_here : Entity → Seen
  Declared_in : Text → Entity → Seen  -- the module that declares it
  External : plain.Unit → Seen
  A_module : Module → Seen

abbrev pub is_declared : Program → Scope → Text → Bool
is_declared p s x = list_any (λ n. bytes_eq n.name x) (declared p s)

abbrev pub origin_of_host : plain.Program → Option plain.Module → Text → Option Text
origin_of_host q None x = None
origin_of_host q (Some host) x = origin q host.name x

-- the module around a unit; around a module is none
abbrev pub host_of : plain.Program → Scope → Option plain.Module
host_of q (Of_unit u) = module_at q u.host
host_of q (Of_module n m) = None

-- the module that declares what a scope's USE lines, or else its host module, give
abbrev pub origin_outside : plain.Program → Scope → Text → Option Text
origin_outside q s x = or_other (origin_used (origin q) (map bare_use (uses_of s)) x) (origin_of_host q (host_of q s) x)

abbrev pub seen_as_module : Option Module → Seen
seen_as_module None = Nothing_seen
seen_as_module (Some m) = A_module m

abbrev pub seen_in_files : Option plain.Unit → Option Module → Seen
seen_in_files (Some u) m = External u
seen_in_files None m = seen_as_module m

abbrev pub seen_outside : Option Text → Entity → Seen → Seen
seen_outside (Some m) entity other = Declared_in m entity
seen_outside None entity other = other

-- what a name is in a scope
abbrev pub seen : Program → Scope → Text → Seen
seen p s x =
    let q = bare_program p in
    let entity = entity_in q s x in
    if is_declared p s x then Declared_here entity else seen_outside (origin_outside q s x) entity (seen_in_files (unit_within q None x) (module_named p x))
