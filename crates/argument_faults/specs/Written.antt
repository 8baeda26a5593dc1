-- Where what may not be written is written, name by name and argument by argument.
use Rattle.std.specs.Prelude.{List, [], ◌∷◌, map, flat_map, Option, Some, None, Bool, ◌&&◌, not, if◌then◌else◌}
use Rattle.fort_tree.specs.declared.place.Place.{Place}
use Rattle.fort_tree.specs.declared.stmt.Named.{Named}
use Rattle.fort_tree.specs.declared.unit.Decl.{Decl}
use Rattle.claw_meaning.specs.Scope.{Entity}
use Rattle.claw_meaning.specs.Syntax.{Text}
use Rattle.claw_meaning.specs.Units.{is_listed}
use Rattle.sound_programs.specs.ArgumentFaults.{is_fixed, is_writable}
use Rattle.sound_programs.specs.Placed.{Expr, first}
use Rattle.sound_programs.specs.Places.{where_place}
use Rattle.sound_programs.specs.Scopes.{is_written_intent}
use Rattle.sound_programs.specs.Walks.{Site, Actual, actuals, is_written, name_in}

-- the first of these names, where it is fixed
abbrev pub fixed_among : (Text → Entity) → List Named → List Place
fixed_among entity [] = []
fixed_among entity (n ∷ ns) = where_place (is_fixed (entity n.name)) n.at

-- the name that is assigned, where it is fixed
abbrev pub fixed_on_left : (Text → Entity) → List Expr → List Place
fixed_on_left entity [] = []
fixed_on_left entity (e ∷ es) = fixed_among entity (name_in e)

abbrev pub unwritable_place : (Text → Entity) → Option Expr → List Place
unwritable_place entity None = []
unwritable_place entity (Some e) = where_place (not (is_writable entity e)) (first e)

abbrev pub passed_place : (Text → Entity) → Actual → List Place
passed_place entity a = if is_written a then unwritable_place entity a.expr else []

abbrev pub passed_at : (Text → Entity) → Site → List Place
passed_at entity s = flat_map (passed_place entity) (actuals entity s)

-- a declaration of a dummy that is OUT or INOUT
abbrev pub is_written_dummy : List Named → Decl → Bool
is_written_dummy dummies d = is_listed (map (λ n. n.name) dummies) d.name && is_written_intent d.intent
