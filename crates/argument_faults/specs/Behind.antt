-- Module variables that a call reaches by an actual argument and by their names.
use Rattle.std.specs.Prelude.{List, [], ◌∷◌, flat_map, Option, Some, None, Bool, false, ◌&&◌}
use Rattle.fort_tree.specs.declared.place.Place.{Place}
use Rattle.fort_tree.specs.declared.stmt.Named.{Named}
use Rattle.claw_meaning.specs.Scope.{Entity}
use Rattle.claw_meaning.specs.Syntax.{Text}
use Rattle.sound_programs.specs.Placed.{Expr}
use Rattle.sound_programs.specs.Places.{where_place}
use Rattle.sound_programs.specs.Scopes.{module_variable}
use Rattle.sound_programs.specs.Walks.{Actual, is_written, name_in}

module _ (test : Text × Text → Bool) where
  abbrev pub passes_if_any : Option (Text × Text) → Bool
  passes_if_any None = false
  passes_if_any (Some v) = test v

  -- the first of these names is a module variable that passes
  abbrev pub named_variable : (Text → Entity) → Text → List Named → Bool
  named_variable entity unit [] = false
  named_variable entity unit (n ∷ ns) = passes_if_any (module_variable unit n.name (entity n.name))

  abbrev pub named_expr : (Text → Entity) → Text → Option Expr → Bool
  named_expr entity unit None = false
  named_expr entity unit (Some e) = named_variable entity unit (name_in e)

  abbrev pub is_behind : (Text → Entity) → Text → Actual → Bool
  is_behind entity unit a = is_written a && named_expr entity unit a.expr

  abbrev pub behind_actuals : (Text → Entity) → Text → List Actual → List Place
  behind_actuals entity unit list = flat_map (λ a. where_place (is_behind entity unit a) a.at) list
