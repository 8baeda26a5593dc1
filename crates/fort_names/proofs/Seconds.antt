-- One more name behind others: what it adds to the second places, and to the first place of each name.
use Rattle.std.proofs.Common.{◌≡◌, Bool, true, false, cond, ◌&&◌, ◌||◌, List, [], ◌∷◌, ◌++◌, Option, None, Some, refl, sym, ap, ◌∙◌, arith}
use Rattle.std.specs.List.{list_any}
use Rattle.std.specs.Str.{bytes_eq}
use Rattle.std.proofs.lemmas.Bool.Decides.{nat_tests}
use Rattle.std.proofs.lemmas.Cmp.{nat_list_eq_equiv}
use Rattle.fort_tree.specs.declared.fault.Code.{Code}
use Rattle.fort_tree.specs.declared.place.Place.{Place}
use Rattle.fort_tree.specs.declared.stmt.Named.{Named}
use Rattle.claw_meaning.specs.Syntax.{Text}
use Rattle.sound_programs.specs.DeclarationFaults.{seconds}
use Rattle.sound_programs.specs.Faults.{Found, found}
use Rattle.sound_programs.specs.Places.{later_of, earlier_of, where_place}
use Rattle.fort_names.specs.Leasts.{noted, clashes_of}
use Rattle.fort_names.specs.Reached.{is_by, some_by, option_by}
use Rattle.fort_names.specs.Twice.{second_place, named_by, IsFirstPlace}
use Rattle.fort_names.proofs.FirstOf.{noted_places, seconds_first}
use Rattle.fort_names.proofs.Members.{any_parts, any_push, any_same}
use Rattle.fort_names.proofs.Reaching.{later_by, earlier_by, same_least}

alone : (t : Bool) → (t || false) ≡ t
alone true = refl
alone false = refl

pub where_by : (at : Place) (t : Bool) (p : Place) → some_by at (where_place t p) ≡ (t && is_by at p)
where_by at true p = alone (is_by at p)
where_by at false p = refl

-- where one name clashes with others
pub clashes_by : (at : Place) (a : Named) (l : List Named) → some_by at (clashes_of a l) ≡ list_any (λ b. bytes_eq a.name b.name && (is_by at a.at && is_by at b.at)) l
clashes_by at a [] = refl
clashes_by at a (b ∷ l) =
    any_parts (is_by at) (where_place (bytes_eq a.name b.name) (later_of a.at b.at)) (clashes_of a l)
    ∙ (λ i. where_by at (bytes_eq a.name b.name) (later_of a.at b.at) i || clashes_by at a l i)
    ∙ ap (λ t. (bytes_eq a.name b.name && t) || list_any (λ c. bytes_eq a.name c.name && (is_by at a.at && is_by at c.at)) l) (later_by at a.at b.at)

-- the second places of a list with one more name behind it
pub more_seconds : (at : Place) (xs : List Named) (b : Named) → some_by at (seconds (xs ++ b ∷ [])) ≡ (some_by at (seconds xs) || (named_by xs b.name at && is_by at b.at))
more_seconds at [] b = refl
more_seconds at (a ∷ xs) b =
    ap (some_by at) (seconds_first a (xs ++ b ∷ []))
    ∙ any_parts (is_by at) (clashes_of a (xs ++ b ∷ [])) (seconds (xs ++ b ∷ []))
    ∙ (λ i. (clashes_by at a (xs ++ b ∷ []) ∙ any_push meets xs b) i || more_seconds at xs b i)
    ∙ regroup (list_any meets xs) (bytes_eq a.name b.name) (is_by at a.at) (is_by at b.at) (some_by at (seconds xs)) (named_by xs b.name at)
    ∙ (λ i. (sym (clashes_by at a xs) i || some_by at (seconds xs)) || (((nat_list_eq_equiv.symm a.name b.name i && is_by at a.at) || named_by xs b.name at) && is_by at b.at))
    ∙ ap (λ t. t || (((bytes_eq b.name a.name && is_by at a.at) || named_by xs b.name at) && is_by at b.at)) (sym (any_parts (is_by at) (clashes_of a xs) (seconds xs)) ∙ ap (some_by at) (sym (seconds_first a xs)))
  where
    meets : Named → Bool
    meets c = bytes_eq a.name c.name && (is_by at a.at && is_by at c.at)

    regroup : (c e u v s n : Bool) → ((c || (e && (u && v))) || (s || (n && v))) ≡ ((c || s) || (((e && u) || n) && v))
    regroup c e u v s n = grind (arith, nat_tests)

-- noting one more name needs only the first place of its name so far
pub note_more : (code : Code) (xs : List Named) (b : Named) (first : Text → Option Place) → IsFirstPlace xs first → (r s t : Option Found) → s ≡ noted (found code (seconds xs)) r
    → t ≡ noted (found code (second_place (first b.name) b.at)) s → t ≡ noted (found code (seconds (xs ++ b ∷ []))) r
note_more code xs b first h r s t before one =
    one ∙ ap (noted (found code (second_place (first b.name) b.at))) before
    ∙ sym (noted_places code (seconds xs) (second_place (first b.name) b.at) r)
    ∙ same_least code (seconds xs ++ second_place (first b.name) b.at) (seconds (xs ++ b ∷ []))
    (λ at. any_parts (is_by at) (seconds xs) (second_place (first b.name) b.at) ∙ ap (λ u. some_by at (seconds xs) || u) (second at (first b.name) (h.place b.name at)) ∙ sym (more_seconds at xs b))
    r
  where
    second : (at : Place) (o : Option Place) → option_by at o ≡ named_by xs b.name at → some_by at (second_place o b.at) ≡ (named_by xs b.name at && is_by at b.at)
    second at None e = ap (λ u. u && is_by at b.at) e
    second at (Some f) e = alone (is_by at (later_of f b.at)) ∙ later_by at f b.at ∙ ap (λ u. u && is_by at b.at) e

-- the first places with one more name
pub place_more : (xs : List Named) (b : Named) (first next : Text → Option Place) → IsFirstPlace xs first → ((x : Text) → next x ≡ cond (bytes_eq b.name x) (Some (earlier_of b.at (first b.name))) (first x))
    → IsFirstPlace (xs ++ b ∷ []) next
place_more xs b first next h up = record { place = λ x at. ap (option_by at) (up x) ∙ go x at (bytes_eq b.name x) refl ∙ sym (any_push (λ n. bytes_eq x n.name && is_by at n.at) xs b) }
  where
    joined : (at : Place) (o : Option Place) → is_by at (earlier_of b.at o) ≡ (option_by at o || is_by at b.at)
    joined at None = refl
    joined at (Some f) = earlier_by at b.at f ∙ swap (is_by at b.at) (is_by at f)
      where
        swap : (s t : Bool) → (s || t) ≡ (t || s)
        swap s t = grind (arith, nat_tests)

    go : (x : Text) (at : Place) (t : Bool) → bytes_eq b.name x ≡ t
        → option_by at (cond t (Some (earlier_of b.at (first b.name))) (first x)) ≡ (named_by xs x at || (bytes_eq x b.name && is_by at b.at))
    go x at true e =
        joined at (first b.name) ∙ ap (λ u. u || is_by at b.at) (h.place b.name at)
        ∙ (λ i. any_same (λ n. bytes_eq b.name n.name && is_by at n.at) (λ n. bytes_eq x n.name && is_by at n.at) xs (λ n. ap (λ u. u && is_by at n.at) (nat_list_eq_equiv.congr b.name x n.name e)) i || (sym (nat_list_eq_equiv.symm x b.name ∙ e) i && is_by at b.at))
    go x at false e = h.place x at ∙ sym (ap (λ u. named_by xs x at || (u && is_by at b.at)) (nat_list_eq_equiv.symm x b.name ∙ e) ∙ alone (named_by xs x at))

pub no_names : (first : Text → Option Place) → ((x : Text) → first x ≡ None) → IsFirstPlace [] first
no_names first h = record { place = λ x at. ap (option_by at) (h x) }
