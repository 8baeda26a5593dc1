-- The least of faults that are noted in any order.
use Rattle.std.specs.Prelude.{List, [], ◌∷◌, ◌++◌, map, Option, None, Some, Bool, true, ◌&&◌, not, is_some, is_none, flat_map, if◌then◌else◌}
use Rattle.std.specs.Str.{bytes_eq}
use Rattle.fort_tree.specs.declared.place.Place.{Place}
use Rattle.fort_tree.specs.declared.stmt.Named.{Named}
use Rattle.fort_tree.specs.declared.unit.Decl.{Decl}
use Rattle.fort_tree.specs.declared.unit.Module as tree_module
use Rattle.fort_tree.specs.declared.unit.Unit as tree_unit
use Rattle.claw_meaning.specs.Units.{is_listed}
use Rattle.sound_programs.specs.Faults.{Found, is_before}
use Rattle.sound_programs.specs.Places.{is_earlier, later_of, where_place}

-- the least so far, after one more
abbrev pub note : Option Found → Found → Option Found
note None fault = Some fault
note (Some least) fault = Some (if is_before fault least then fault else least)

-- noting this one changes the least so far
abbrev pub changes : Option Found → Found → Bool
changes None fault = true
changes (Some least) fault = is_before fault least

-- after these
abbrev pub noted : List Found → Option Found → Option Found
noted [] least = least
noted (fault ∷ faults) least = noted faults (note least fault)

-- at each item where the test holds
abbrev pub places_at : {A : Type 0} → (A → Bool) → (A → Place) → List A → List Place
places_at test at [] = []
places_at test at (a ∷ rest) = if test a then at a ∷ places_at test at rest else places_at test at rest

-- a declaration of a dummy without INTENT that doesn't stand before the unit's name
abbrev pub lacks_intent : List Named → Place → Decl → Bool
lacks_intent dummies header d = is_listed (map (λ n. n.name) dummies) d.name && (is_none d.intent && not (is_earlier d.at header))

-- a declaration with INTENT of no dummy
abbrev pub has_intent : List Named → Decl → Bool
has_intent dummies d = is_some d.intent && not (is_listed (map (λ n. n.name) dummies) d.name)

abbrev pub unit_intents : tree_unit.Unit → List Place
unit_intents u = places_at (lacks_intent u.dummies u.at) (λ d. d.at) u.decls ++ places_at (has_intent u.dummies) (λ d. d.at) u.decls

abbrev pub module_intents : tree_module.Module → List Place
module_intents m = places_at (has_intent []) (λ d. d.at) m.decls

abbrev pub of_units : (tree_unit.Unit → List Place) → List tree_unit.Unit → List Place
of_units places [] = []
of_units places (u ∷ us) = places u ++ of_units places us

abbrev pub of_modules : (tree_module.Module → List Place) → List tree_module.Module → List Place
of_modules places [] = []
of_modules places (m ∷ ms) = places m ++ of_modules places ms

-- where a name is that of another of these: the later of the two
abbrev pub clashes_of : Named → List Named → List Place
clashes_of a others = flat_map (λ b. where_place (bytes_eq a.name b.name) (later_of a.at b.at)) others

abbrev pub name_of_module : tree_module.Module → Named
name_of_module m = record { name = m.name; at = m.at }

abbrev pub name_of_unit : tree_unit.Unit → Named
name_of_unit u = record { name = u.name; at = u.at }
