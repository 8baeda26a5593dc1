-- Ranges of a SELECT, each by its numbers and its place.
use Rattle.std.specs.Prelude.{ℤ, List, [], ◌∷◌, ◌++◌, map, Option, None, Some, Bool, false, flat_map, if◌then◌else◌}
use denote.Ref.{Bor}
use Rattle.fort_tree.specs.declared.fault.Code.TheVariants.{E32}
use Rattle.fort_tree.specs.declared.place.Place.{Place}
use Rattle.fort_tree.specs.declared.stmt.Range as tree_range
use Rattle.claw_meaning.specs.Syntax.{Text}
use Rattle.claw_meaning.specs.Scope.{Entity, Unknown}
use Rattle.sound_programs.specs.Faults.{Found}
use Rattle.sound_programs.specs.KindFaults.{edge, overlap}
use Rattle.sound_programs.specs.Placed.{Range, Single, Span, first}
use Rattle.sound_programs.specs.Places.{option_places}
use Rattle.sound_programs.specs.Placing.{placed_range}
use Rattle.fort_names.specs.Leasts.{changes}
use Rattle.kind_faults.specs.declared.cases.Choice.{Choice}

-- where names are nothing: numbers alone overlap or not
abbrev pub nobody : Text → Entity
nobody x = Unknown

abbrev pub between : Option (Option ℤ) → Option (Option ℤ) → Option (Option ℤ × Option ℤ)
between None other = None
between (Some a) None = None
between (Some a) (Some b) = Some (a, b)

-- the numbers of a range, where all its values are known
abbrev pub numbers_of : (Text → Entity) → Range → Option (Option ℤ × Option ℤ)
numbers_of entity (Single e) = between (edge entity (Some e)) (edge entity (Some e))
numbers_of entity (Span lower upper) = between (edge entity lower) (edge entity upper)

-- the place of the first value that is written
abbrev pub value_place : Range → Option Place
value_place (Single e) = Some (first e)
value_place (Span (Some lower) upper) = Some (first lower)
value_place (Span None (Some upper)) = Some (first upper)
value_place (Span None None) = None

abbrev pub choice_of : (Text → Entity) → Range → Choice
choice_of entity range = record { numbers = numbers_of entity range; at = value_place range }

abbrev pub overlaps_by : Option (Option ℤ × Option ℤ) → Option (Option ℤ × Option ℤ) → Option Place → List Place
overlaps_by None other at = []
overlaps_by (Some a) None at = []
overlaps_by (Some a) (Some b) at = if overlap nobody a b then option_places at else []

abbrev pub overlaps_of : Choice → Choice → List Place
overlaps_of a b = overlaps_by a.numbers b.numbers b.at

-- of each two that overlap the later
abbrev pub overlapping_choices : List Choice → List Place
overlapping_choices [] = []
overlapping_choices (a ∷ rest) = flat_map (overlaps_of a) rest ++ overlapping_choices rest

-- of a range the place, for each of these before it that it overlaps
abbrev pub overlapped_by : List Choice → Choice → List Place
overlapped_by before b = flat_map (λ a. overlaps_of a b) before

-- a fault at the place would be the least
abbrev pub place_changes : Option Found → Option Place → Bool
place_changes least None = false
place_changes least (Some at) = changes least (record { code = E32; at = at })

abbrev pub placed_ranges : List (Bor tree_range.Range) → List Range
placed_ranges ranges = map (λ r. placed_range r.now) ranges
