-- What all scopes of a file share.
use Rattle.std.specs.Prelude.{ℕ, List, [], ◌∷◌, map, Option, Some, None, Bool, is_some, position, slice_get}
use Rattle.std.specs.Option.{option_and_then}
use Rattle.std.specs.Str.{bytes_eq}
use Rattle.fort_tree.specs.declared.unit.File.{File}
use Rattle.fort_tree.specs.declared.unit.Module as tree_module
use Rattle.claw_meaning.specs.Syntax.{Text}
use Rattle.fort_names.specs.declared.shared.Shared.{Shared}
use Rattle.fort_names.specs.NameLists.{with_name}
use Rattle.fort_names.specs.Tables.{declared_of, origins, origin_by_name}

-- the names, and then these where they aren't among them
abbrev pub inserted : List Text → List Text → List Text
inserted names [] = names
inserted names (x ∷ xs) = inserted (with_name names x) xs

abbrev pub with_modules : List Text → List tree_module.Module → List Text
with_modules names [] = names
with_modules names (m ∷ ms) = with_modules (inserted names (map (λ d. d.name) m.decls)) ms

-- the names that modules declare, and those of all units
abbrev pub given_names : File → List Text
given_names f = inserted (with_modules [] f.modules) (map (λ u. u.name) f.units)

abbrev pub shared_of : File → Shared
shared_of f = record { declared = declared_of f; given = given_names f; rows = map (origins (declared_of f) f.modules) (given_names f) }

abbrev pub or_no_row : Option (List (Option ℕ)) → List (Option ℕ)
or_no_row None = []
or_no_row (Some row) = row

abbrev pub row_of : Shared → Text → List (Option ℕ)
row_of s x = or_no_row (option_and_then (slice_get s.rows) (position (bytes_eq x) s.given))

-- the module gives something under the name
abbrev pub gives : Shared → Text → Text → Bool
gives s m x = is_some (origin_by_name s.declared.names (row_of s x) m)
