-- The places of a list that stand no later than another. They tell what the first of the list is.
use Rattle.std.specs.Prelude.{List, Option, Some, None, Bool, false, not}
use Rattle.std.specs.List.{list_any}
use Rattle.fort_tree.specs.declared.place.Place.{Place}
use Rattle.sound_programs.specs.Places.{is_earlier}

-- the second place isn't later than the first
abbrev pub is_by : Place → Place → Bool
is_by at place = not (is_earlier at place)

-- one of the places isn't later than this one
abbrev pub some_by : Place → List Place → Bool
some_by at places = list_any (is_by at) places

abbrev pub option_by : Place → Option Place → Bool
option_by at None = false
option_by at (Some place) = is_by at place
