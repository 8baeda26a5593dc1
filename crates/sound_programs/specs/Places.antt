-- Places in the given texts, their order, and lists of places.
use Rattle.std.specs.Prelude.{Bool, true, false, ◌&&◌, ◌||◌, IsTrue, nat_eq, nat_lt, List, [], ◌∷◌, Option, Some, None, if◌then◌else◌}
use Rattle.std.specs.List.{list_any}
use Rattle.fort_tree.specs.declared.place.Place.{Place}

abbrev pub same_place : Place → Place → Bool
same_place a b = nat_eq a.file b.file && (nat_eq a.line b.line && nat_eq a.column b.column)

-- the first stands before the second in the text: by file, then line, then column
abbrev pub is_earlier : Place → Place → Bool
is_earlier a b =
    nat_lt a.file b.file || (nat_eq a.file b.file && (nat_lt a.line b.line || (nat_eq a.line b.line && nat_lt a.column b.column)))

-- the later of two places
abbrev pub later_of : Place → Place → Place
later_of a b = if is_earlier a b then b else a

abbrev pub is_among : List Place → Place → Bool
is_among places place = list_any (λ other. same_place other place) places

-- the place is one of these
abbrev pub At : List Place → Place → Type 0
At places place = IsTrue (is_among places place)

-- of two places that may be none the earlier
abbrev pub earlier_of : Place → Option Place → Place
earlier_of a None = a
earlier_of a (Some b) = if is_earlier b a then b else a

-- the first of these in the text
abbrev pub first_of : List Place → Option Place
first_of [] = None
first_of (a ∷ rest) = Some (earlier_of a (first_of rest))

-- the first of these, as a list of one, or none where there is none
abbrev pub the_first : List Place → List Place
the_first [] = []
the_first (a ∷ rest) = earlier_of a (first_of rest) ∷ []

abbrev pub where_place : Bool → Place → List Place
where_place true place = place ∷ []
where_place false place = []

abbrev pub option_places : Option Place → List Place
option_places None = []
option_places (Some place) = place ∷ []
