-- The names of the headers of a file, with their places.
use Rattle.std.proofs.Common.{◌≡◌, List, [], ◌∷◌, ◌++◌, map, Option, refl, ap, ◌∙◌}
use Rattle.fort_tree.specs.declared.fault.Code.{Code}
use Rattle.fort_tree.specs.declared.stmt.Named.{Named}
use Rattle.fort_tree.specs.declared.unit.File.{File}
use Rattle.fort_tree.specs.declared.unit.Module as tree_module
use Rattle.fort_tree.specs.declared.unit.Unit as tree_unit
use Rattle.sound_programs.specs.Faults.{Found, found}
use Rattle.sound_programs.specs.Placing.{placed, placed_unit, placed_module}
use Rattle.sound_programs.specs.Scopes.{named_unit, named_module}
use Rattle.sound_programs.specs.DeclarationFaults.{seconds, two_units_or_modules}
use Rattle.fort_names.specs.Leasts.{noted, name_of_module, name_of_unit}

of_modules : (ms : List tree_module.Module) → map name_of_module ms ≡ map named_module (map placed_module ms)
of_modules [] = refl
of_modules (m ∷ ms) = ap (λ l. name_of_module m ∷ l) (of_modules ms)

of_units : (us : List tree_unit.Unit) → map name_of_unit us ≡ map named_unit (map placed_unit us)
of_units [] = refl
of_units (u ∷ us) = ap (λ l. name_of_unit u ∷ l) (of_units us)

pub headers_are : (code : Code) (f : File) (ms : List tree_module.Module) (us : List tree_unit.Unit) (names named : List Named) (r s : Option Found) → ms ≡ f.modules → us ≡ f.units
    → names ≡ map name_of_module ms ++ map name_of_unit us → named ≡ names → s ≡ noted (found code (seconds named)) r → s ≡ noted (found code (two_units_or_modules (placed f))) r
headers_are code f ms us names named r s same_modules same_units is as_slice noted_is =
    noted_is ∙ ap (λ l. noted (found code (seconds l)) r)
    (as_slice ∙ is ∙ (λ i. map name_of_module (same_modules i) ++ map name_of_unit (same_units i)) ∙ (λ i. of_modules f.modules i ++ of_units f.units i))
