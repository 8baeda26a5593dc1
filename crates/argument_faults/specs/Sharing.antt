-- Actual arguments of one reference that refer to one variable.
use Rattle.std.specs.Prelude.{List, [], ◌∷◌, ◌++◌, Option, Some, None, Bool, false, ◌&&◌, ◌||◌, flat_map, if◌then◌else◌}
use Rattle.std.specs.Option.{option_and_then}
use Rattle.std.specs.Str.{bytes_eq}
use Rattle.fort_tree.specs.declared.place.Place.{Place}
use Rattle.fort_tree.specs.declared.stmt.Named.{Named}
use Rattle.claw_meaning.specs.Scope.{Entity}
use Rattle.claw_meaning.specs.Syntax.{Text}
use Rattle.sound_programs.specs.Placed.{Expr}
use Rattle.sound_programs.specs.Places.{where_place}
use Rattle.sound_programs.specs.Scopes.{is_variable}
use Rattle.sound_programs.specs.Walks as walks
use Rattle.argument_faults.specs.declared.shared.Passed.{Passed}

-- the first of these names, where it is a variable
abbrev pub variable_among : (Text → Entity) → List Named → Option Text
variable_among entity [] = None
variable_among entity (n ∷ ns) = if is_variable (entity n.name) then Some n.name else None

abbrev pub variable_in : (Text → Entity) → Expr → Option Text
variable_in entity e = variable_among entity (walks.name_in e)

abbrev pub passed_as : (Text → Entity) → walks.Actual → Passed
passed_as entity a = record { variable = option_and_then (variable_in entity) a.expr; written = walks.is_written a; at = a.at }

abbrev pub is_same : Option Text → Option Text → Bool
is_same None other = false
is_same (Some x) None = false
is_same (Some x) (Some y) = bytes_eq x y

abbrev pub share : Passed → Passed → Bool
share a b = is_same a.variable b.variable && (a.written || b.written)

abbrev pub shares_of : Passed → List Passed → List Place
shares_of a others = flat_map (λ b. where_place (share a b) b.at) others

abbrev pub all_shares : List Passed → List Place
all_shares [] = []
all_shares (a ∷ rest) = shares_of a rest ++ all_shares rest
