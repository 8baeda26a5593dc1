-- References by the numbers of units, against referrals by their names.
use Rattle.std.specs.Prelude.{◌≡◌, ℕ, ◌<◌, List, [], ◌∷◌, ◌++◌, map, length, true, slice_index_or}
use Rattle.std.specs.Str.{bytes_eq}
use Rattle.fort_tree.specs.declared.unit.File.{File}
use Rattle.fort_tree.specs.declared.unit.Unit.{Unit}
use Rattle.claw_meaning.specs.Syntax.{Text}
use Rattle.numbered_graph.specs.Graphs.{Rows, stands, each_once}
use Rattle.sound_programs.specs.CallFaults.{Referral, referrals_of}
use Rattle.sound_programs.specs.Placed.{bare_program}
use Rattle.sound_programs.specs.Placing.{placed, placed_unit}
use Rattle.fort_names.specs.Scoping.{AllFit}
use Rattle.call_graph.specs.declared.reference.Reference.{Reference}

abbrev pub unit_names : File → List Text
unit_names f = map (λ u. u.name) f.units

-- the name of the unit of a number
abbrev pub name_at : List Text → ℕ → Text
name_at names i = slice_index_or names i []

abbrev pub numbers : List Reference → List ℕ
numbers refs = map (λ r. r.unit) refs

-- a reference in a unit of this name
abbrev pub as_referral : List Text → Text → Reference → Referral
as_referral names from r = record { from = from; to = name_at names r.unit; at = r.at }

-- the references of some units, of which these are the names
abbrev pub listed : List Text → List Text → List (List Reference) → List Referral
listed names [] rows = []
listed names (n ∷ ns) [] = []
listed names (n ∷ ns) (r ∷ rs) = map (as_referral names n) r ++ listed names ns rs

-- the units to which each unit refers, each once
abbrev pub callees_of : List (List Reference) → Rows
callees_of rows = map (λ r. each_once (numbers r)) rows

-- no two have one name
pub record NamesDiffer (names : List Text) : Type 0 where
  pub differ : (i j : ℕ) → i < length names → j < length names → bytes_eq (name_at names i) (name_at names j) ≡ true → i ≡ j

-- each reference is to a unit
pub record AreWithin (n : ℕ) (rows : List (List Reference)) : Type 0 where
  pub same_length : length rows ≡ n
  pub within : (i y : ℕ) → stands y (numbers (slice_index_or rows i [])) ≡ true → y < n

-- these are the references of a unit of the file
pub record AreReferencesIn (f : File) (u : Unit) (r : List Reference) : Type 0 where
  pub referrals : map (as_referral (unit_names f) u.name) r ≡ referrals_of (bare_program (placed f)) (placed_unit u)
  pub within : (y : ℕ) → stands y (numbers r) ≡ true → y < length f.units

-- these are the references of its units
pub record AreReferencesOf (f : File) (rows : List (List Reference)) : Type 0 where
  pub are_within : AreWithin (length f.units) rows
  pub each : AllFit (λ n. AreReferencesIn f) 0 f.units rows
