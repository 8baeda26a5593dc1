-- Ranges of a SELECT by the later of two that overlap.
use Rattle.std.proofs.Common.{◌≡◌, Bool, true, false, ◌||◌, List, [], ◌∷◌, ◌++◌, Option, None, Some, if◌then◌else◌, refl, sym, ap, ◌∙◌, arith}
use Rattle.std.specs.Prelude.{ℤ, flat_map}
use Rattle.std.proofs.lemmas.Bool.{false≢true}
use Rattle.std.proofs.lemmas.Bool.Decides.{nat_tests}
use Rattle.std.proofs.lemmas.Grind.{flat_map-append}
use Rattle.fort_tree.specs.declared.fault.Code.TheVariants.{E32}
use Rattle.fort_tree.specs.declared.place.Place.{Place}
use Rattle.sound_programs.specs.Faults.{Found, found}
use Rattle.sound_programs.specs.KindFaults.{overlap}
use Rattle.fort_names.specs.Leasts.{note, noted, changes}
use Rattle.fort_names.specs.Reached.{is_by, some_by}
use Rattle.fort_names.proofs.FirstOf.{noted_places}
use Rattle.fort_names.proofs.Members.{any_parts}
use Rattle.fort_names.proofs.Reaching.{same_least}
use Rattle.kind_faults.specs.declared.cases.Choice.{Choice}
use Rattle.kind_faults.specs.Cases.{nobody, overlaps_by, overlaps_of, overlapping_choices, overlapped_by, place_changes}

-- what one more range behind others adds
more_choices : (at : Place) (xs : List Choice) (b : Choice) → some_by at (overlapping_choices (xs ++ b ∷ [])) ≡ (some_by at (overlapping_choices xs) || some_by at (overlapped_by xs b))
more_choices at [] b = refl
more_choices at (a ∷ xs) b =
    any_parts (is_by at) (flat_map (overlaps_of a) (xs ++ b ∷ [])) (overlapping_choices (xs ++ b ∷ []))
    ∙ (λ i. (ap (some_by at) (flat_map-append (overlaps_of a) xs (b ∷ [])) ∙ any_parts (is_by at) (flat_map (overlaps_of a) xs) (overlaps_of a b ++ [])) i || more_choices at xs b i)
    ∙ ap (λ t. (some_by at (flat_map (overlaps_of a) xs) || t) || (some_by at (overlapping_choices xs) || some_by at (overlapped_by xs b))) (any_parts (is_by at) (overlaps_of a b) [])
    ∙ regroup (some_by at (flat_map (overlaps_of a) xs)) (some_by at (overlaps_of a b)) (some_by at (overlapping_choices xs)) (some_by at (overlapped_by xs b))
    ∙ (λ i. sym (any_parts (is_by at) (flat_map (overlaps_of a) xs) (overlapping_choices xs)) i || sym (any_parts (is_by at) (overlaps_of a b) (overlapped_by xs b)) i)
  where
    regroup : (f b o g : Bool) → ((f || (b || false)) || (o || g)) ≡ ((f || o) || (b || g))
    regroup f b o g = grind (arith, nat_tests)

-- noting one more
pub one_more : (xs : List Choice) (b : Choice) (r s t : Option Found) → s ≡ noted (found E32 (overlapping_choices xs)) r → t ≡ noted (found E32 (overlapped_by xs b)) s →
    t ≡ noted (found E32 (overlapping_choices (xs ++ b ∷ []))) r
one_more xs b r s t before one =
    one ∙ ap (noted (found E32 (overlapped_by xs b))) before
    ∙ sym (noted_places E32 (overlapping_choices xs) (overlapped_by xs b) r)
    ∙ same_least E32 (overlapping_choices xs ++ overlapped_by xs b) (overlapping_choices (xs ++ b ∷ []))
    (λ at. any_parts (is_by at) (overlapping_choices xs) (overlapped_by xs b) ∙ sym (more_choices at xs b)) r

-- where its place would change nothing, nothing of it does

note_same : (least : Option Found) (fault : Found) → changes least fault ≡ false → note least fault ≡ least
note_same None fault h = absurd (false≢true (sym h))
note_same (Some m) fault h = ap (λ t. Some (if t then fault else m)) h

same_by : (least : Option Found) (a b : Option (Option ℤ × Option ℤ)) (at : Option Place) → place_changes least at ≡ false → noted (found E32 (overlaps_by a b at)) least ≡ least
same_by least None b at h = refl
same_by least (Some x) None at h = refl
same_by least (Some x) (Some y) None h = none (overlap nobody x y)
  where
    none : (t : Bool) → noted (found E32 (if t then [] else [])) least ≡ least
    none true = refl
    none false = refl
same_by least (Some x) (Some y) (Some p) h = one (overlap nobody x y)
  where
    one : (t : Bool) → noted (found E32 (if t then p ∷ [] else [])) least ≡ least
    one true = note_same least (record { code = E32; at = p }) h
    one false = refl

pub unchanged : (least : Option Found) (b : Choice) (xs : List Choice) → place_changes least b.at ≡ false → noted (found E32 (overlapped_by xs b)) least ≡ least
unchanged least b [] h = refl
unchanged least b (a ∷ xs) h =
    noted_places E32 (overlaps_of a b) (overlapped_by xs b) least
    ∙ ap (noted (found E32 (overlapped_by xs b))) (same_by least a.numbers b.numbers b.at h)
    ∙ unchanged least b xs h
