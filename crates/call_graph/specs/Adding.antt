-- Which referrals are added to a list of references, step by step.
use Rattle.std.specs.Prelude.{◌≡◌, ℕ, ◌<◌, Bool, true, ◌&&◌, is_none, List, [], ◌∷◌, ◌++◌, map, flat_map, length, Option, Some, None}
use Rattle.std.specs.List.{filter}
use Rattle.fort_tree.specs.Intrinsic.{intrinsic_named}
use Rattle.fort_tree.specs.declared.place.Place.{Place}
use Rattle.fort_tree.specs.declared.stmt.Named.{Named}
use Rattle.fort_tree.specs.declared.unit.File.{File}
use Rattle.claw_meaning.specs.Syntax as plain
use Rattle.claw_meaning.specs.Syntax.{Text}
use Rattle.claw_meaning.specs.Scope.{Entity}
use Rattle.numbered_graph.specs.Graphs.{stands}
use Rattle.sound_programs.specs.CallFaults.{Referral}
use Rattle.sound_programs.specs.Scopes.{is_function, unit_of}
use Rattle.sound_programs.specs.Walks.{Step, call_name, name_before_parenthesis, parts_read}
use Rattle.call_graph.specs.declared.reference.Reference.{Reference}
use Rattle.call_graph.specs.Referring.{unit_names, numbers, as_referral}

abbrev pub to_unit : Text → Place → Option plain.Unit → List Referral
to_unit from at None = []
to_unit from at (Some v) = record { from = from; to = v.name; at = at } ∷ []

-- of a name, where it is a unit
abbrev pub named_referrals : (Text → Entity) → Text → Named → List Referral
named_referrals entity from n = to_unit from n.at (unit_of (entity n.name))

abbrev pub is_function_name : (Text → Entity) → Named → Bool
is_function_name entity n = is_none (intrinsic_named n.name) && is_function (entity n.name)

abbrev pub function_referrals : (Text → Entity) → Text → List Named → List Referral
function_referrals entity from names = flat_map (named_referrals entity from) (filter (is_function_name entity) names)

-- of a step: its CALL, and its references to functions
abbrev pub step_referrals : (Text → Entity) → Text → Step → List Referral
step_referrals entity from step =
    flat_map (named_referrals entity from) (call_name step) ++ function_referrals entity from (flat_map name_before_parenthesis (parts_read step))

-- these referrals, from a unit of this name, were added
pub record Adds (f : File) (from : Text) (old new : List Reference) (referrals : List Referral) : Type 0 where
  pub added : List Reference
  pub goes_on : new ≡ old ++ added
  pub are : map (as_referral (unit_names f) from) added ≡ referrals
  pub within : (y : ℕ) → stands y (numbers added) ≡ true → y < length f.units
