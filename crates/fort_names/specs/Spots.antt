-- What is found from a unit or a module.
use Rattle.std.specs.Prelude.{◌≡◌, [], Option, position}
use Rattle.std.specs.Str.{bytes_eq}
use Rattle.fort_tree.specs.declared.unit.File.{File}
use Rattle.claw_meaning.specs.Syntax.{Text}
use Rattle.fort_names.specs.declared.entity.Entity.{Entity}
use Rattle.fort_names.specs.declared.shared.Shared.{Shared}
use Rattle.fort_names.specs.declared.spot.Spot.{Spot}
use Rattle.fort_names.specs.declared.spot.Spot.TheVariants.{InUnit, InModule}
use Rattle.fort_names.specs.declared.symbols.Symbols.{Symbols}
use Rattle.fort_names.specs.Entities.{entity_in_unit}
use Rattle.fort_names.specs.Finding.{found, found_outside}
use Rattle.fort_names.specs.Scoping.{AreSymbolsOf}
use Rattle.fort_names.specs.Sharing.{shared_of}
use Rattle.fort_names.specs.Sights.{From, From_unit, From_module, Seeing}

abbrev pub own_name : Spot → Text
own_name (InUnit c u) = u.now.name
own_name (InModule n m) = m.now.name

abbrev pub found_at : Shared → Spot → Text → Option Entity
found_at s (InUnit c u) x = found c.now x
found_at s (InModule n m) x = found_outside s [] (position (bytes_eq m.now.name) s.declared.names) x

abbrev pub from_of : Spot → From
from_of (InUnit c u) = From_unit u.now
from_of (InModule n m) = From_module n m.now

abbrev pub seeing : File → Spot → Seeing
seeing f at = record { file = f; from = from_of at }

-- the entity of the tables that a name is there
abbrev pub entity_at : File → Spot → Text → Option Entity
entity_at f (InUnit c u) x = entity_in_unit f u.now x
entity_at f (InModule n m) x = found_outside (shared_of f) [] (position (bytes_eq m.now.name) (shared_of f).declared.names) x

-- it is found under each name
pub record Finds (f : File) (s : Shared) (at : Spot) : Type 0 where
  pub each : (x : Text) → found_at s at x ≡ entity_at f at x

-- by the symbols of the file
pub record Sees (f : File) (s : Symbols) (at : Spot) : Type 0 where
  pub symbols : AreSymbolsOf f s
  pub finds : Finds f s.shared.value at
