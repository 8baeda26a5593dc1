-- Where USE lines name what isn't there, by the tables of a file.
use Rattle.std.specs.Prelude.{List, [], ◌∷◌, ◌++◌, not, is_some, position, if◌then◌else◌}
use Rattle.std.specs.Str.{bytes_eq}
use Rattle.fort_tree.specs.declared.place.Place.{Place}
use Rattle.fort_tree.specs.declared.unit.Module as tree_module
use Rattle.fort_tree.specs.declared.unit.Unit as tree_unit
use Rattle.fort_tree.specs.declared.unit.Use.{Use}
use Rattle.sound_programs.specs.Scopes.{only_names}
use Rattle.fort_names.specs.declared.shared.Shared.{Shared}
use Rattle.fort_names.specs.Leasts.{places_at}
use Rattle.fort_names.specs.Sharing.{gives}

-- the module's name where there is no such module, or else the names behind ONLY that it doesn't give
abbrev pub line_places : Shared → Use → List Place
line_places s line =
    if is_some (position (bytes_eq line.name) s.declared.names) then places_at (λ n. not (gives s line.name n.name)) (λ n. n.at) (only_names line.only)
    else line.at ∷ []

abbrev pub use_places : Shared → List Use → List Place
use_places s [] = []
use_places s (line ∷ lines) = line_places s line ++ use_places s lines

abbrev pub unit_uses : Shared → tree_unit.Unit → List Place
unit_uses s u = use_places s u.uses

abbrev pub module_uses : Shared → tree_module.Module → List Place
module_uses s m = use_places s m.uses
