-- Names that stand twice, by the first place of each name.
use Rattle.std.specs.Prelude.{◌≡◌, List, [], ◌∷◌, Option, Some, None, Bool, ◌&&◌}
use Rattle.std.specs.List.{list_any}
use Rattle.std.specs.Str.{bytes_eq}
use Rattle.fort_tree.specs.declared.place.Place.{Place}
use Rattle.fort_tree.specs.declared.stmt.Named.{Named}
use Rattle.sound_programs.specs.Places.{later_of}
use Rattle.claw_meaning.specs.Syntax.{Text}
use Rattle.fort_names.specs.Reached.{is_by, option_by}

-- the later of a place and the first one before it, if there is one
abbrev pub second_place : Option Place → Place → List Place
second_place None place = []
second_place (Some first) place = later_of first place ∷ []

-- one of these has the name and isn't later than this place
abbrev pub named_by : List Named → Text → Place → Bool
named_by named x at = list_any (λ n. bytes_eq x n.name && is_by at n.at) named

-- what stands for each name is its first place among these
pub record IsFirstPlace (named : List Named) (first : Text → Option Place) : Type 0 where
  pub place : (x : Text) (at : Place) → option_by at (first x) ≡ named_by named x at
