-- The faults that are noted are those of the definition.
use Rattle.std.proofs.Common.{◌≡◌, ℕ, zero, suc, ◌+◌, Bool, true, false, cond, List, [], ◌∷◌, ◌++◌, map, flat_map, filter, length, drop, Option, None, refl, sym, ap, ◌∙◌, arith, MatchOption, if◌then◌else◌}
use Rattle.std.specs.Option.{option_map}
use Rattle.fort_tree.specs.declared.fault.Code.TheVariants.{E36, E71}
use Rattle.fort_tree.specs.declared.place.Place.{Place}
use Rattle.fort_tree.specs.declared.unit.File.{File}
use Rattle.fort_tree.specs.declared.unit.Unit as tree_unit
use Rattle.claw_meaning.specs.Syntax.{Text}
use Rattle.fort_names.specs.declared.least.At.{At}
use Rattle.fort_names.specs.FoundAt.{found_of}
use Rattle.fort_names.specs.Leasts.{note, noted, places_at}
use Rattle.fort_names.specs.Scoping.{AllFit}
use Rattle.fort_names.proofs.FirstOf.{noted_places, first_at}
use Rattle.sound_programs.specs.CallFaults.{Referral, link_of, referrals, referrals_of, calls, recursions, size_faults, one_unit_too_many, calls_too_deep, is_too_deep}
use Rattle.sound_programs.specs.Faults.{Found, found, faults_of_calls, IsLeast}
use Rattle.sound_programs.specs.Links.{Links, is_on_cycle}
use Rattle.sound_programs.specs.Placed.{bare_program}
use Rattle.sound_programs.specs.Places.{the_first, option_places}
use Rattle.sound_programs.specs.Placing.{placed, placed_unit}
use Rattle.call_graph.specs.declared.calls.Calls.{Calls}
use Rattle.call_graph.specs.declared.reference.Reference.{Reference}
use Rattle.call_graph.specs.Calling.{AreCalls, links_of, is_recursive, recursive_places, all_recursive, is_deep}
use Rattle.call_graph.specs.Earliest.{earliest}
use Rattle.call_graph.specs.Referring.{unit_names, name_at, as_referral, listed, AreReferencesIn}
use Rattle.call_graph.proofs.Earliests.{the_first_is}
use Rattle.call_graph.proofs.Lists.{map_append, filter_append, names_long}

-- ---- the referrals of the file

referrals_fit : (f : File) (n : ℕ) (us : List tree_unit.Unit) (rs : List (List Reference)) → AllFit (λ n. AreReferencesIn f) n us rs → flat_map (referrals_of (bare_program (placed f))) (map placed_unit us) ≡ listed (unit_names f) (map (λ u. u.name) us) rs
referrals_fit f n [] [] fit = refl
referrals_fit f n [] (r ∷ rs) fit = absurd fit
referrals_fit f n (u ∷ us) [] fit = absurd fit
referrals_fit f n (u ∷ us) (r ∷ rs) fit =
    ap (λ l. l ++ flat_map (referrals_of (bare_program (placed f))) (map placed_unit us)) (sym fit.0.referrals)
    ∙ ap (λ l. map (as_referral (unit_names f) u.name) r ++ l) (referrals_fit f (n + 1) us rs fit.1)

pub referrals_are : (c : Calls) → AreCalls c → referrals (placed c.file.now) ≡ listed (unit_names c.file.now) (unit_names c.file.now) c.references.items
referrals_are c are = referrals_fit c.file.now 0 c.file.now.units c.references.items are.references.each

pub calls_are : (c : Calls) → AreCalls c → calls (placed c.file.now) ≡ links_of c
unfolding links_of
calls_are c are = ap (map link_of) (referrals_are c are)

-- ---- references on cycles

on_cycle : Calls → Referral → Bool
on_cycle c r = is_on_cycle (links_of c) (link_of r)

name_of : (names ns : List Text) (n : ℕ) (x : Text) → drop n names ≡ x ∷ ns → name_at names n ≡ x
name_of [] ns zero x e = absurd (cc)
name_of [] ns (suc n) x e = absurd (cc)
name_of (y ∷ names) ns zero x e = cc
name_of (y ∷ names) ns (suc n) x e = name_of names ns n x e

names_behind : (names ns : List Text) (n : ℕ) (x : Text) → drop n names ≡ x ∷ ns → drop (n + 1) names ≡ ns
names_behind [] ns zero x e = absurd (cc)
names_behind [] ns (suc n) x e = absurd (cc)
names_behind (y ∷ names) ns zero x e = cc
names_behind (y ∷ names) ns (suc n) x e =
    let at : suc n + 1 ≡ suc (n + 1) = omega arith in
    ap (λ k. drop k (y ∷ names)) at ∙ names_behind names ns n x e

one_unit : (c : Calls) (n : ℕ) (x : Text) → name_at (unit_names c.file.now) n ≡ x → (refs : List Reference) → recursive_places c n refs ≡ map (λ r. r.at) (filter (on_cycle c) (map (as_referral (unit_names c.file.now) x) refs))
unfolding is_recursive on_cycle
one_unit c n x at [] = refl
one_unit c n x at (r ∷ refs) = ap (λ t. map (λ r. r.at) (cond t (r ∷ filter (is_recursive c n) refs) (filter (is_recursive c n) refs))) same ∙ go (on_cycle c (as_referral (unit_names c.file.now) x r)) (one_unit c n x at refs)
  where
    same : is_recursive c n r ≡ on_cycle c (as_referral (unit_names c.file.now) x r)
    same = ap (λ (y : Text). is_on_cycle (links_of c) (link_of (as_referral (unit_names c.file.now) y r))) at

    go : (t : Bool) → recursive_places c n refs ≡ map (λ r. r.at) (filter (on_cycle c) (map (as_referral (unit_names c.file.now) x) refs))
        → map (λ r. r.at) (cond t (r ∷ filter (is_recursive c n) refs) (filter (is_recursive c n) refs)) ≡ map (λ r. r.at) (cond t (as_referral (unit_names c.file.now) x r ∷ filter (on_cycle c) (map (as_referral (unit_names c.file.now) x) refs)) (filter (on_cycle c) (map (as_referral (unit_names c.file.now) x) refs)))
    go true e = ap (λ l. r.at ∷ l) e
    go false e = e

all_units : (c : Calls) (n : ℕ) (ns : List Text) (rs : List (List Reference)) → drop n (unit_names c.file.now) ≡ ns → length rs ≡ length ns → all_recursive c n rs ≡ map (λ r. r.at) (filter (on_cycle c) (listed (unit_names c.file.now) ns rs))
all_units c n [] [] at long = refl
all_units c n [] (r ∷ rs) at long = absurd (omega (arith, long))
all_units c n (x ∷ ns) [] at long = absurd (omega (arith, long))
all_units c n (x ∷ ns) (r ∷ rs) at long =
    let names = unit_names c.file.now in
    ap (λ l. l ++ all_recursive c (n + 1) rs) (one_unit c n x (name_of names ns n x at) r)
    ∙ ap (λ l. map (λ r. r.at) (filter (on_cycle c) (map (as_referral names x) r)) ++ l) (all_units c (n + 1) ns rs (names_behind names ns n x at) (omega (arith, long)))
    ∙ sym (ap (map (λ r. r.at)) (filter_append (on_cycle c) (map (as_referral names x) r) (listed names ns rs)) ∙ map_append (λ r. r.at) (filter (on_cycle c) (map (as_referral names x) r)) (filter (on_cycle c) (listed names ns rs)))

pub recursions_are : (c : Calls) → AreCalls c → option_places (earliest None (all_recursive c 0 c.references.items)) ≡ recursions (placed c.file.now)
unfolding on_cycle
recursions_are c are =
    the_first_is (all_recursive c 0 c.references.items)
    ∙ ap the_first (all_units c 0 (unit_names c.file.now) c.references.items refl (are.references.are_within.same_length ∙ sym (names_long c.file.now.units)))
    ∙ ap (λ l. the_first (map (λ r. r.at) (filter (λ r. is_on_cycle (links_of c) (link_of r)) l))) (sym (referrals_are c are))
    ∙ ap (λ links. the_first (map (λ r. r.at) (filter (λ r. is_on_cycle links (link_of r)) (referrals (placed c.file.now))))) (sym (calls_are c are))

-- ---- calls that are too deep

deep_units : (links : Links) (us : List tree_unit.Unit) → places_at (λ u. is_deep links u.name) (λ u. u.at) us ≡ map (λ u. u.at) (filter (is_too_deep links) (map placed_unit us))
unfolding is_deep
deep_units links [] = refl
deep_units links (u ∷ us) = go (is_too_deep links (placed_unit u)) (deep_units links us)
  where
    go : (b : Bool) → places_at (λ u. is_deep links u.name) (λ u. u.at) us ≡ map (λ u. u.at) (filter (is_too_deep links) (map placed_unit us))
        → (if b then u.at ∷ places_at (λ u. is_deep links u.name) (λ u. u.at) us else places_at (λ u. is_deep links u.name) (λ u. u.at) us) ≡ map (λ u. u.at) (cond b (placed_unit u ∷ filter (is_too_deep links) (map placed_unit us)) (filter (is_too_deep links) (map placed_unit us)))
    go true e = ap (λ l. u.at ∷ l) e
    go false e = e

pub too_deep_are : (c : Calls) → AreCalls c → option_places (earliest None (places_at (λ u. is_deep (links_of c) u.name) (λ u. u.at) c.file.now.units)) ≡ calls_too_deep (placed c.file.now)
too_deep_are c are =
    the_first_is (places_at (λ u. is_deep (links_of c) u.name) (λ u. u.at) c.file.now.units) ∙ ap the_first (deep_units (links_of c) c.file.now.units)
    ∙ ap (λ links. the_first (map (λ u. u.at) (filter (is_too_deep links) (map placed_unit c.file.now.units)))) (sym (calls_are c are))

-- ---- all

noted_append : (xs ys : List Found) (r : Option Found) → noted (xs ++ ys) r ≡ noted ys (noted xs r)
noted_append [] ys r = refl
noted_append (x ∷ xs) ys r = noted_append xs ys (note r x)

pub first_of_all : (c : Calls) → AreCalls c → (recursion many deep : Option Place) → recursion ≡ earliest None (all_recursive c 0 c.references.items) → option_places many ≡ one_unit_too_many (placed c.file.now)
    → deep ≡ earliest None (places_at (λ u. is_deep (links_of c) u.name) (λ u. u.at) c.file.now.units) → (first : Option At)
    → option_map found_of first ≡ noted (found E71 (option_places deep)) (noted (found E71 (option_places many)) (noted (found E36 (option_places recursion)) None))
    → MatchOption first (faults_of_calls (placed c.file.now) ≡ []) (λ at. IsLeast (faults_of_calls (placed c.file.now)) (found_of at))
first_of_all c are recursion many deep is_recursion is_many is_deep first e =
    let p = placed c.file.now in
    let one : option_places recursion ≡ recursions p = ap option_places is_recursion ∙ recursions_are c are in
    let two : option_places deep ≡ calls_too_deep p = ap option_places is_deep ∙ too_deep_are c are in
    first_at (faults_of_calls p) first
    (e ∙ ap (λ l. noted (found E71 l) (noted (found E71 (option_places many)) (noted (found E36 (option_places recursion)) None))) two
    ∙ ap (λ l. noted (found E71 (calls_too_deep p)) (noted (found E71 l) (noted (found E36 (option_places recursion)) None))) is_many
    ∙ ap (λ l. noted (found E71 (calls_too_deep p)) (noted (found E71 (one_unit_too_many p)) (noted (found E36 l) None))) one
    ∙ sym (noted_places E71 (one_unit_too_many p) (calls_too_deep p) (noted (found E36 (recursions p)) None))
    ∙ sym (noted_append (found E36 (recursions p)) (found E71 (size_faults p)) None))
