-- Where a program isn't one that is translated: its column units are units of column scalars, and its other units hold no
-- directives and no calls of column units.
use Rattle.std.specs.Prelude.{List, [], ◌∷◌, ◌++◌, map, flat_map, Option, Some, Bool, true, not, ◌&&◌, is_none, if◌then◌else◌}
use Rattle.std.specs.List.{filter, list_any, list_all}
use Rattle.std.specs.Str.{bytes_eq}
use Rattle.fort_tree.specs.declared.place.Place.{Place}
use Rattle.fort_tree.specs.declared.stmt.Directive.{Directive}
use Rattle.fort_tree.specs.declared.unit.File.{File}
use Rattle.fort_tree.specs.declared.unit.Unit as tree
use Rattle.claw_meaning.specs.Syntax.{Text, Expr, Name}
use Rattle.claw_meaning.specs.Plain.{plain_unit, plain_option}
use Rattle.claw_meaning.specs.Units.{is_column_unit}
use Rattle.sound_programs.specs.Placing.{placed_stmts}
use Rattle.scalar_units.specs.Unbuilt.{unless, of_unit}
use Rattle.translated_programs.specs.Directed.{directed_in}

-- the unit is written for one column
unfoldable pub is_column : tree.Unit → Bool
is_column u = is_column_unit (plain_unit u)

abbrev pub is_external : tree.Unit → Bool
is_external u = is_none u.host

abbrev pub names_of : List tree.Unit → List Text
names_of us = map (λ u. u.name) us

-- the name is that of a column unit
abbrev pub names_column_unit : File → Text → Bool
names_column_unit file x = list_any (bytes_eq x) (names_of (filter is_column file.units))

-- the names of modules and of external units
abbrev pub global_names : File → List Text
global_names file = map (λ m. m.name) file.modules ++ names_of (filter is_external file.units)

abbrev pub is_global : File → Text → Bool
is_global file x = list_any (bytes_eq x) (global_names file)

-- where this tells the names of modules and external units
module _ (is_taken : Text → Bool) where
  abbrev pub is_new_bound : Option Expr → Bool
  is_new_bound (Some (Name x)) = not (is_taken x)
  is_new_bound other = true

  -- the names that `define` gives to the dimension and its upper bound are those of no module and no external unit
  abbrev pub are_new : Directive → Bool
  are_new d = list_all (λ x. not (is_taken x)) d.names && is_new_bound (plain_option d.upper)

  abbrev pub of_names : List Directive → List Place
  of_names [] = []
  of_names (d ∷ more) = unless (are_new d) d.at

  abbrev pub of_column_unit : tree.Unit → List Place
  of_column_unit u = of_unit u ++ of_names u.marks

-- where this tells the names of column units
abbrev pub of_plain_unit : (Text → Bool) → tree.Unit → List Place
of_plain_unit is_column_name u = map (λ d. d.at) u.marks ++ directed_in is_column_name (placed_stmts u.body)

unfoldable pub of_any_unit : (Text → Bool) → (Text → Bool) → tree.Unit → List Place
of_any_unit is_column_name is_taken u = if is_column u then of_column_unit is_taken u else of_plain_unit is_column_name u

-- The places of a program that keep it from being translated.
abbrev pub unbuilt : File → List Place
unbuilt file = flat_map (of_any_unit (names_column_unit file) (is_global file)) file.units
