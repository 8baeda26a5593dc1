-- The module variables that names are, by the names of the module and the variable; lists of different ones.
use Rattle.std.specs.Prelude.{◌≡◌, List, [], ◌∷◌, ◌++◌, map, flat_map, if◌then◌else◌}
use Rattle.std.specs.List.{list_any}
use Rattle.std.specs.Option.{option_to_list}
use Rattle.claw_meaning.specs.Scope.{Entity}
use Rattle.claw_meaning.specs.Syntax.{Text}
use Rattle.sound_programs.specs.ArgumentFaults.{same_pair}
use Rattle.sound_programs.specs.Scopes.{module_variable}
use Rattle.argument_faults.specs.declared.module_names.ModuleVariable.{ModuleVariable}

abbrev pub pair_of : ModuleVariable → Text × Text
pair_of v = (v.home, v.name)

abbrev pub pairs : List ModuleVariable → List (Text × Text)
pairs list = map pair_of list

abbrev pub variables_among : (Text → Entity) → Text → List Text → List (Text × Text)
variables_among entity unit names = flat_map (λ x. option_to_list (module_variable unit x (entity x))) names

-- both lists have the same variables
pub record HasSame (list other : List (Text × Text)) : Type 0 where
  pub same : (v : Text × Text) → list_any (same_pair v) list ≡ list_any (same_pair v) other

abbrev pub rows_of : List (List ModuleVariable) → List (List (Text × Text))
rows_of rows = map pairs rows

-- Lists of different variables

-- the variables, and this one as the last if it isn't among them
abbrev pub with_variable : List (Text × Text) → Text × Text → List (Text × Text)
with_variable list v = if list_any (same_pair v) list then list else list ++ v ∷ []

abbrev pub with_variables : List (Text × Text) → List (Text × Text) → List (Text × Text)
with_variables list [] = list
with_variables list (v ∷ vs) = with_variables (with_variable list v) vs

abbrev pub with_rows : List (Text × Text) → List (List (Text × Text)) → List (Text × Text)
with_rows list [] = list
with_rows list (row ∷ rows) = with_rows (with_variables list row) rows
