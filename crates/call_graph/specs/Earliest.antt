-- The first of some places in the text, one after the other.
use Rattle.std.specs.Prelude.{List, [], ◌∷◌, Option, Some, None, if◌then◌else◌}
use Rattle.fort_tree.specs.declared.place.Place.{Place}
use Rattle.sound_programs.specs.Places.{is_earlier}

-- the first so far, after one more
abbrev pub earlier : Option Place → Place → Option Place
earlier None at = Some at
earlier (Some first) at = Some (if is_earlier at first then at else first)

-- after these
abbrev pub earliest : Option Place → List Place → Option Place
earliest first [] = first
earliest first (at ∷ rest) = earliest (earlier first at) rest
