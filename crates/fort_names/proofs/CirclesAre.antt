-- The USE lines of the modules of a file as links, and which of them are the first on a cycle.
use Rattle.std.proofs.Common.{◌≡◌, Bool, true, false, List, [], ◌∷◌, ◌++◌, map, Option, None, Some, cond, refl, sym, ap, ◌∙◌}
use Rattle.std.specs.Prelude.{flat_map}
use Rattle.std.specs.List.{filter}
use Rattle.std.proofs.lemmas.List.{map-append}
use Rattle.fort_tree.specs.declared.fault.Code.{Code}
use Rattle.fort_tree.specs.declared.place.Place.{Place}
use Rattle.fort_tree.specs.declared.unit.File.{File}
use Rattle.fort_tree.specs.declared.unit.Module as tree_module
use Rattle.fort_tree.specs.declared.unit.Use.{Use}
use Rattle.claw_meaning.specs.Syntax.{Text}
use Rattle.sound_programs.specs.DeclarationFaults.{Used, used_by, first_on_cycle}
use Rattle.sound_programs.specs.Faults.{Found, found}
use Rattle.sound_programs.specs.Links.{leads}
use Rattle.sound_programs.specs.Places.{is_earlier, where_place}
use Rattle.sound_programs.specs.Placing.{placed, placed_module}
use Rattle.fort_names.specs.declared.cycles.Link.{Link}
use Rattle.fort_names.specs.Circles.{links_after, circle_places, links_by, links_of_modules}
use Rattle.fort_names.specs.Leasts.{noted, changes}

abbrev used_of : Link → Used
used_of l = record { user = l.user; name = l.name; at = l.at }

abbrev pair_of : Used → Text × Text
pair_of l = (l.user, l.name)

abbrev pair_of_link : Link → Text × Text
pair_of_link l = (l.user, l.name)

lines_are : (name : Text) (lines : List Use) → map (λ (line : Use). record { user = name; name = line.name; at = line.at }) lines ≡ map used_of (map (λ (line : Use). record { user = name; name = line.name; at = line.at }) lines)
lines_are name [] = refl
lines_are name (line ∷ lines) = ap (λ l. record { user = name; name = line.name; at = line.at } ∷ l) (lines_are name lines)

uses_are : (ms : List tree_module.Module) → flat_map used_by (map placed_module ms) ≡ map used_of (links_of_modules ms)
uses_are [] = refl
uses_are (m ∷ ms) = (λ i. lines_are m.name m.uses i ++ uses_are ms i) ∙ sym (map-append used_of (links_by m.name m.uses) (links_of_modules ms))

later_are : (at : Place) (links : List Link) → map pair_of (filter (λ (l : Used). is_earlier at l.at) (map used_of links)) ≡ links_after at links
later_are at [] = refl
later_are at (l ∷ links) = go (later_are at links) (is_earlier at l.at)
  where
    go : map pair_of (filter (λ (k : Used). is_earlier at k.at) (map used_of links)) ≡ links_after at links → (t : Bool)
        → map pair_of (cond t (used_of l ∷ filter (λ (k : Used). is_earlier at k.at) (map used_of links)) (filter (λ (k : Used). is_earlier at k.at) (map used_of links)))
        ≡ map pair_of_link (cond t (l ∷ filter (λ (k : Link). is_earlier at k.at) links) (filter (λ (k : Link). is_earlier at k.at) links))
    go h true = ap (λ r. (l.user, l.name) ∷ r) h
    go h false = h

on_cycle : (all : List Link) (some : List Link) → flat_map (λ (l : Used). where_place (leads (map pair_of (filter (λ (k : Used). is_earlier l.at k.at) (map used_of all))) l.name l.user) l.at) (map used_of some)
    ≡ circle_places all some
on_cycle all [] = refl
on_cycle all (l ∷ some) = λ i. where_place (leads (later_are l.at all i) l.name l.user) l.at ++ on_cycle all some i

circles_are : (f : File) → first_on_cycle (placed f) ≡ circle_places (links_of_modules f.modules) (links_of_modules f.modules)
circles_are f =
    ap (λ us. flat_map (λ (l : Used). where_place (leads (map pair_of (filter (λ (k : Used). is_earlier l.at k.at) us)) l.name l.user) l.at) us) (uses_are f.modules)
    ∙ on_cycle (links_of_modules f.modules) (links_of_modules f.modules)

module _ (code : Code) (f : File) (ms : List tree_module.Module) (links given : List Link) where
  -- where the lines are noted
  pub noted_circles : (r s : Option Found) → ms ≡ f.modules → links ≡ links_of_modules ms → given ≡ links → s ≡ noted (found code (circle_places given given)) r → s ≡ noted (found code (first_on_cycle (placed f))) r
  noted_circles r s same_modules is as_slice e =
      e ∙ ap (λ l. noted (found code (circle_places l l)) r) (as_slice ∙ is ∙ ap links_of_modules same_modules) ∙ ap (λ l. noted (found code l) r) (sym (circles_are f))

  -- where none lies on a cycle
  pub no_circles : (r : Option Found) → ms ≡ f.modules → links ≡ links_of_modules ms → given ≡ links → circle_places given given ≡ [] → r ≡ noted (found code (first_on_cycle (placed f))) r
  no_circles r same_modules is as_slice none =
      ap (λ l. noted (found code l) r) (sym none)
      ∙ ap (λ l. noted (found code (circle_places l l)) r) (as_slice ∙ is ∙ ap links_of_modules same_modules) ∙ ap (λ l. noted (found code l) r) (sym (circles_are f))

-- what doesn't change the least fault needs no noting
pub unchanged : (code : Code) (at : Place) (t : Bool) (r : Option Found) → changes r (record { code = code; at = at }) ≡ false → r ≡ noted (found code (where_place t at)) r
unchanged code at false r e = refl
unchanged code at true None e = absurd (cc)
unchanged code at true (Some m) e = sym (ap (λ b. Some (cond b (record { code = code; at = at }) m)) e)
