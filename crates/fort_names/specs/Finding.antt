-- What is found in a scope.
use Rattle.std.specs.Prelude.{ℕ, List, Option, None}
use Rattle.std.specs.Option.{option_and_then}
use Rattle.fort_tree.specs.declared.unit.Use.{Use}
use Rattle.claw_meaning.specs.Syntax.{Text}
use Rattle.sound_programs.specs.Scopes.{or_other}
use Rattle.fort_names.specs.declared.entity.Entity.{Entity}
use Rattle.fort_names.specs.declared.scope.Own.{Own}
use Rattle.fort_names.specs.declared.scope.Own.TheVariants.{Declared, OfModule}
use Rattle.fort_names.specs.declared.scope.Scope.{Scope}
use Rattle.fort_names.specs.declared.shared.Shared.{Shared}
use Rattle.fort_names.specs.Tables.{table_find, declared_in, unit_find, module_find, lines_origin, at_number}
use Rattle.fort_names.specs.Sharing.{row_of}

abbrev pub own_found : Own → Shared → Text → Option Entity
own_found (Declared table) s x = table_find table x
own_found (OfModule n) s x = declared_in s.declared n x

-- the number of the module that declares what the USE lines, or else the module around, give
abbrev pub origin_found : Shared → List Use → Option ℕ → Text → Option ℕ
origin_found s uses host x = or_other (lines_origin s.declared.names (row_of s x) uses x) (option_and_then (at_number (row_of s x)) host)

abbrev pub found_outside : Shared → List Use → Option ℕ → Text → Option Entity
found_outside s uses host x =
    or_other (option_and_then (λ n. declared_in s.declared n x) (origin_found s uses host x)) (or_other (unit_find s.declared None x) (module_find s.declared x))

abbrev pub found : Scope → Text → Option Entity
found c x = or_other (own_found c.own c.shared.value x) (found_outside c.shared.value c.uses c.host x)
