-- What sets of names tell of units.
use Rattle.std.proofs.Common.{◌≡◌, List, [], ◌∷◌, ◌++◌, Bool, Option, None, refl, ap, ◌∙◌}
use Rattle.std.specs.Prelude.{flat_map, MatchOption}
use Rattle.std.specs.List.{filter, list_any}
use Rattle.std.specs.Str.{bytes_eq}
use Rattle.fort_tree.specs.declared.place.Place.{Place}
use Rattle.fort_tree.specs.declared.unit.File.{File}
use Rattle.claw_meaning.specs.Syntax.{Text}
use Rattle.fort_names.specs.NameLists.{has, with_name}
use Rattle.fort_names.specs.Sharing.{inserted}
use Rattle.fort_names.proofs.Covering.{has_inserted}
use Rattle.scalar_units.specs.Unbuilt.{IsFirst, noted}
use Rattle.scalar_units.proofs.Firsts.{first_is}
use Rattle.translated_programs.specs.NotBuilt.{is_column, names_of, names_column_unit, global_names, of_any_unit, unbuilt}

pub inserted_append : (names xs ys : List Text) → inserted names (xs ++ ys) ≡ inserted (inserted names xs) ys
inserted_append names [] ys = refl
inserted_append names (x ∷ xs) ys = inserted_append (with_name names x) xs ys

-- the set that has just these names
has_these : (names : List Text) → has (inserted [] names) ≡ (λ x. list_any (bytes_eq x) names)
has_these names = λ t x. has_inserted [] names x t

places_are : (file : File) (columns globals : List Text) → columns ≡ inserted [] (names_of (filter is_column file.units)) → globals ≡ inserted [] (global_names file) →
    flat_map (of_any_unit (has columns) (has globals)) file.units ≡ unbuilt file
places_are file columns globals c e =
    ap (λ (test : Text → Bool). flat_map (of_any_unit test (has globals)) file.units) (ap has c ∙ has_these (names_of (filter is_column file.units)))
    ∙ ap (λ (test : Text → Bool). flat_map (of_any_unit (names_column_unit file) test) file.units) (ap has e ∙ has_these (global_names file))

pub noted_is_unbuilt : (file : File) (columns globals : List Text) (first : Option Place) → columns ≡ inserted [] (names_of (filter is_column file.units)) →
    globals ≡ inserted [] (global_names file) → first ≡ noted (flat_map (of_any_unit (has columns) (has globals)) file.units) None → first ≡ noted (unbuilt file) None
noted_is_unbuilt file columns globals first c e h = h ∙ ap (λ (places : List Place). noted places None) (places_are file columns globals c e)

pub first_is_unbuilt : (file : File) (columns globals : List Text) (first : Option Place) → columns ≡ inserted [] (names_of (filter is_column file.units)) →
    globals ≡ inserted [] (global_names file) → first ≡ noted (flat_map (of_any_unit (has columns) (has globals)) file.units) None →
    MatchOption first (unbuilt file ≡ []) (λ at. IsFirst at (unbuilt file))
first_is_unbuilt file columns globals first c e h = first_is (unbuilt file) first (noted_is_unbuilt file columns globals first c e h)
