-- Where module variables are written, name by name; and the first of these places.
use Rattle.std.specs.Prelude.{◌≡◌, List, [], ◌∷◌, ◌++◌, flat_map, Option, Bool, is_some, if◌then◌else◌}
use Rattle.std.specs.Option.{option_map, option_to_list}
use Rattle.fort_tree.specs.declared.fault.Code.TheVariants.{E3A}
use Rattle.fort_tree.specs.declared.place.Place.{Place}
use Rattle.fort_tree.specs.declared.stmt.Named.{Named}
use Rattle.claw_meaning.specs.Scope.{Entity}
use Rattle.claw_meaning.specs.Syntax.{Text}
use Rattle.sound_programs.specs.ArgumentFaults.{names_written}
use Rattle.sound_programs.specs.Faults.{Found, found}
use Rattle.sound_programs.specs.NameFaults.{places_where}
use Rattle.sound_programs.specs.Placed.{Expr, Unit}
use Rattle.sound_programs.specs.Places.{where_place}
use Rattle.sound_programs.specs.Scopes.{module_variable}
use Rattle.sound_programs.specs.Walks.{Step, Site, Actual, actuals, is_written, left_of, name_in, sites, steps_of}
use Rattle.fort_names.specs.declared.least.At.{At}
use Rattle.fort_names.specs.FoundAt.{found_of}
use Rattle.fort_names.specs.Leasts.{noted}

abbrev pub is_of_module : (Text → Entity) → Text → Text → Bool
is_of_module entity unit x = is_some (module_variable unit x (entity x))

-- the first of these names, where it is a module variable
abbrev pub named_among : (Text → Entity) → Text → List Named → List Place
named_among entity unit [] = []
named_among entity unit (n ∷ ns) = where_place (is_of_module entity unit n.name) n.at

-- the name of the first of these expressions, where it is one
abbrev pub named_on_left : (Text → Entity) → Text → List Expr → List Place
named_on_left entity unit [] = []
named_on_left entity unit (e ∷ es) = named_among entity unit (name_in e)

abbrev pub named_by_actual : (Text → Entity) → Text → Actual → List Place
named_by_actual entity unit a = if is_written a then named_on_left entity unit (option_to_list a.expr) else []

abbrev pub named_at : (Text → Entity) → Text → Site → List Place
named_at entity unit s = flat_map (named_by_actual entity unit) (actuals entity s)

abbrev pub named_in_step : (Text → Entity) → Text → Step → List Place
named_in_step entity unit step = named_on_left entity unit (left_of step) ++ flat_map (named_at entity unit) (sites entity step)

-- where a unit writes a module variable, by what names are in it
abbrev pub module_writes_in : (Text → Entity) → Unit → List Place
module_writes_in entity u =
    places_where (λ n. is_some (module_variable u.name n.name (entity n.name))) (flat_map (λ s. names_written entity s.step) (steps_of u))

-- to note this is to note all of the places
pub record IsFirstWrite (places : List Place) (first : Option At) : Type 0 where
  pub same : (least : Option Found) → noted (option_to_list (option_map found_of first)) least ≡ noted (found E3A places) least
