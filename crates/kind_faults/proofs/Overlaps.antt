-- Ranges overlap where their choices do.
use Rattle.std.proofs.Common.{◌≡◌, Bool, true, false, ◌&&◌, List, [], ◌∷◌, ◌++◌, map, Option, None, Some, if◌then◌else◌, refl, sym, ap, ◌∙◌}
use Rattle.std.specs.Prelude.{ℤ, flat_map}
use Rattle.std.specs.Option.{option_to_list}
use denote.Ref.{Bor}
use Rattle.fort_tree.specs.declared.fault.Code.TheVariants.{E32}
use Rattle.fort_tree.specs.declared.place.Place.{Place}
use Rattle.fort_tree.specs.declared.stmt.Range as tree_range
use Rattle.claw_meaning.specs.Syntax.{Text}
use Rattle.claw_meaning.specs.Scope.{Entity}
use Rattle.sound_programs.specs.KindFaults.{Numbers, needs_integer, needs_of_step, case_fault, values_of, edge, numbers_between, numbers_in, is_below, overlap, first_value, overlaps, overlapping}
use Rattle.sound_programs.specs.Placed.{Expr, Range, Single, Span}
use Rattle.sound_programs.specs.Places.{option_places}
use Rattle.sound_programs.specs.Faults.{Found, found}
use Rattle.sound_programs.specs.Kinding.{kind}
use Rattle.sound_programs.specs.Walks.{Chooses}
use Rattle.fort_names.specs.Leasts.{noted}
use Rattle.kind_faults.specs.declared.cases.Choice.{Choice}
use Rattle.kind_faults.proofs.Places.{noted_three}
use Rattle.kind_faults.specs.Cases.{nobody, between, numbers_of, value_place, choice_of, overlaps_by, overlaps_of, overlapping_choices, placed_ranges}

module _ (entity : Text → Entity) where
  below_same : (a b : Option ℤ) → is_below entity a b ≡ is_below nobody a b
  below_same None b = refl
  below_same (Some a) None = refl
  below_same (Some a) (Some b) = refl

  overlap_same : (a b : Option ℤ × Option ℤ) → overlap entity a b ≡ overlap nobody a b
  overlap_same a b =
      λ t. (below_same a.0 a.1 t && below_same b.0 b.1 t) && (below_same a.0 b.1 t && below_same b.0 a.1 t)

  between_one : (lower upper : Option (Option ℤ)) → numbers_between entity lower upper ≡ option_to_list (between lower upper)
  between_one None upper = refl
  between_one (Some a) None = refl
  between_one (Some a) (Some b) = refl

  numbers_one : (r : Range) → numbers_in entity r ≡ option_to_list (numbers_of entity r)
  numbers_one (Single e) = between_one (edge entity (Some e)) (edge entity (Some e))
  numbers_one (Span lower upper) = between_one (edge entity lower) (edge entity upper)

  value_one : (r : Range) → first_value entity r ≡ option_places (value_place r)
  value_one (Single e) = refl
  value_one (Span (Some lower) upper) = refl
  value_one (Span None (Some upper)) = refl
  value_one (Span None None) = refl

  abbrev Pairs : List (Numbers entity) → List (Numbers entity) → List Place → List Place
  Pairs xs ys places = flat_map (λ x. flat_map (λ y. if overlap entity x y then places else []) ys) xs

  one_pair : (b : Bool) (at : Option Place) → ((if b then option_places at else []) ++ []) ++ [] ≡ (if b then option_places at else [])
  one_pair true None = refl
  one_pair true (Some p) = refl
  one_pair false at = refl

  pairs_are : (x y : Option (Numbers entity)) (at : Option Place) → Pairs (option_to_list x) (option_to_list y) (option_places at) ≡ overlaps_by x y at
  pairs_are None y at = refl
  pairs_are (Some a) None at = refl
  pairs_are (Some a) (Some b) at = one_pair (overlap entity a b) at ∙ ap (λ c. if c then option_places at else []) (overlap_same a b)

  overlaps_are : (a b : Range) → overlaps entity a b ≡ overlaps_of (choice_of entity a) (choice_of entity b)
  overlaps_are a b =
      (λ t. Pairs (numbers_one a t) (numbers_one b t) (value_one b t))
      ∙ pairs_are (numbers_of entity a) (numbers_of entity b) (value_place b)

  behind_are : (a : Range) (rs : List Range) → flat_map (overlaps entity a) rs ≡ flat_map (overlaps_of (choice_of entity a)) (map (choice_of entity) rs)
  behind_are a [] = refl
  behind_are a (b ∷ rs) = λ t. overlaps_are a b t ++ behind_are a rs t

  all_are : (rs : List Range) → overlapping entity rs ≡ overlapping_choices (map (choice_of entity) rs)
  all_are [] = refl
  all_are (a ∷ rs) = λ t. behind_are a rs t ++ all_are rs t

pub choices_overlap : (entity : Text → Entity) (rs : List Range) → overlapping entity rs ≡ overlapping_choices (map (choice_of entity) rs)
choices_overlap entity rs = all_are entity rs

-- what is noted of a SELECT
pub select_noted : (entity : Text → Entity) (e : Expr) (rs : List Range) (ranges : List (Bor tree_range.Range)) (choices : List Choice) (old a b new : Option Found) →
    placed_ranges ranges ≡ rs → choices ≡ map (choice_of entity) rs →
    a ≡ noted (found E32 (needs_integer entity e)) old →
    b ≡ noted (found E32 (flat_map (case_fault entity (kind entity e)) (flat_map (values_of entity) (placed_ranges ranges)))) a →
    new ≡ noted (found E32 (overlapping_choices choices)) b →
    new ≡ noted (found E32 (needs_of_step entity (Chooses e rs))) old
select_noted entity e rs ranges choices old a b new is are first second third =
    noted_three E32 (needs_integer entity e) (flat_map (case_fault entity (kind entity e)) (flat_map (values_of entity) rs)) (overlapping entity rs) old a b new first
    (second ∙ ap (λ l. noted (found E32 (flat_map (case_fault entity (kind entity e)) (flat_map (values_of entity) l))) a) is)
    (third ∙ ap (λ l. noted (found E32 l) b) (ap overlapping_choices are ∙ sym (all_are entity rs)))
