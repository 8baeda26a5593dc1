-- USE lines of modules, and the names that lead to one over some of them.
use Rattle.std.specs.Prelude.{◌≡◌, ℕ, List, [], ◌∷◌, ◌++◌, map, Option, None, Some, Bool, ◌&&◌, ◌||◌, nat_lt}
use Rattle.std.specs.List.{list_any, list_all, filter}
use Rattle.std.specs.Str.{bytes_eq}
use Rattle.fort_tree.specs.declared.place.Place.{Place}
use Rattle.fort_tree.specs.declared.unit.Module as tree_module
use Rattle.fort_tree.specs.declared.unit.Use.{Use}
use Rattle.claw_meaning.specs.Syntax.{Text}
use Rattle.sound_programs.specs.Places.{is_earlier, where_place}
use Rattle.sound_programs.specs.Links.{Links, leads}
use Rattle.fort_names.specs.declared.cycles.Link.{Link}
use Rattle.fort_names.specs.NameLists.{has}

-- the links of the lines that stand later than this place
abbrev pub links_after : Place → List Link → Links
links_after at links = map (λ l. (l.user, l.name)) (filter (λ l. is_earlier at l.at) links)

-- this name, and what leads in one link to one of those that pass the test
abbrev pub one_further : Links → Text → (Text → Bool) → Text → Bool
one_further links y test x = bytes_eq x y || list_any (λ link. bytes_eq link.0 x && test link.1) links

-- the names of the list are those that pass the test
pub record AreThose (names : List Text) (test : Text → Bool) : Type 0 where
  pub each : (x : Text) → has names x ≡ test x

-- each link leads to a lesser rank
abbrev pub falls : (Text → ℕ) → List Link → Bool
falls rank links = list_all (λ l. nat_lt (rank l.name) (rank l.user)) links

-- the line, where it lies on a cycle with later ones of the list
abbrev pub circle_place : List Link → Link → List Place
circle_place all l = where_place (leads (links_after l.at all) l.name l.user) l.at

-- the lines of the second list that lie on a cycle with later ones of the first
abbrev pub circle_places : List Link → List Link → List Place
circle_places all [] = []
circle_places all (l ∷ some) = circle_place all l ++ circle_places all some

-- a name that has no rank has the least
abbrev pub rank_in : Option ℕ → ℕ
rank_in None = 0
rank_in (Some rank) = rank

abbrev pub links_by : Text → List Use → List Link
links_by user lines = map (λ line. record { user = user; name = line.name; at = line.at }) lines

abbrev pub links_of_modules : List tree_module.Module → List Link
links_of_modules [] = []
links_of_modules (m ∷ ms) = links_by m.name m.uses ++ links_of_modules ms
