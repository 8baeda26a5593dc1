-- What holds of every sound program.
use Rattle.std.proofs.Common.{◌≡◌, List, [], ◌∷◌, ◌++◌, map, true, false, ◌&&◌, ◌||◌, not, cond, refl, sym, ap, subst, ◌∙◌}
use Rattle.std.proofs.lemmas.Bool.{and_from, eq-eqb, false≢true, not-false}
use Rattle.std.specs.Prelude.{flat_map, nat_eq}
use Rattle.std.specs.List.{filter, list_any, IsDistinct}
use Rattle.std.specs.Str.{bytes_eq}
use Rattle.fort_tree.specs.declared.choice.Mode.{Mode}
use Rattle.fort_tree.specs.declared.place.Place.{Place}
use Rattle.fort_tree.specs.declared.stmt.Named.{Named}
use Rattle.fort_tree.specs.declared.unit.File.{File}
use Rattle.fort_tree.specs.declared.fault.Code.TheVariants.{E30, E31, E32, E33, E34, E35, E36, E37, E38, E39, E3A, E3B, E71}
use Rattle.sound_programs.specs.ArgumentFaults.{count_faults, alias_faults, write_faults}
use Rattle.sound_programs.specs.CallFaults.{Referral, referrals, calls, link_of, recursions, size_faults}
use Rattle.sound_programs.specs.KindFaults.{kind_faults}
use Rattle.sound_programs.specs.LoopFaults.{loop_faults}
use Rattle.sound_programs.specs.RankFaults.{rank_faults}
use Rattle.sound_programs.specs.DeclarationFaults.{clashes, seconds, two_declarations, declared_twice, declared_twice_in, module_faults, intent_faults}
use Rattle.sound_programs.specs.Faults.{Found, found, faults_of_names, faults_of_calls, faults_of_kinds, IsLeast, of_names, of_calls, of_kinds, is_this}
use Rattle.sound_programs.specs.Laws.{Each, HasNoCycle, DeclaresOnce, NamesAreKnown, CallsAreKnown, HasNoFirstFault, entity_of}
use Rattle.sound_programs.specs.Links.{is_on_cycle}
use Rattle.sound_programs.specs.NameFaults.{places_where, undeclared_names, undeclared_in_scope, undeclared_in_step, unit_faults, unit_faults_in_step, is_no_value}
use Rattle.sound_programs.specs.Placed.{bare_program}
use Rattle.sound_programs.specs.Placing.{placed}
use Rattle.sound_programs.specs.Places.{At, same_place, where_place, later_of}
use Rattle.sound_programs.specs.Scopes.{Of_unit, scopes, declared}
use Rattle.sound_programs.specs.Sound.{Sound, Nowhere}
use Rattle.sound_programs.specs.Walks.{Stands, steps_of, parts_read, bare_name, call_name}
use Rattle.sound_programs.proofs.Chains.{reached_within}
use Rattle.sound_programs.proofs.Empties.{first_empty, left_empty, right_empty, map_empty, each_empty, none_kept, none_where, not_placed}
use Rattle.sound_programs.proofs.WithinLists.{each_by, each_of_map, each_right, each_before_map}

-- ---- Places

same_place-refl : (a : Place) → same_place a a ≡ true
same_place-refl a =
    and_from (nat_eq a.file a.file) (nat_eq a.line a.line && nat_eq a.column a.column) (eq-eqb a.file a.file refl)
    (and_from (nat_eq a.line a.line) (nat_eq a.column a.column) (eq-eqb a.line a.line refl) (eq-eqb a.column a.column refl))

at_head : (a : Place) (rest : List Place) → At (a ∷ rest) a
at_head a rest = ap (λ b. b || list_any (λ other. same_place other a) rest) (same_place-refl a)

-- where no place is, the list is empty
pub empty_if_nowhere : (places : List Place) → Nowhere (At places) → places ≡ []
empty_if_nowhere [] none = refl
empty_if_nowhere (a ∷ rest) none = absurd (none a (at_head a rest))

-- ---- Cycles

pub no_cycle : (mode : Mode) (file : File) → Sound mode file → HasNoCycle file
no_cycle mode file sound =
    let p = placed file in
    let none : recursions p ≡ [] = empty_if_nowhere (recursions p) sound.calls_have_no_cycle in
    let found_none : filter (λ r. is_on_cycle (calls p) (link_of r)) (referrals p) ≡ [] =
    map_empty (λ (r : Referral). r.at) (filter (λ r. is_on_cycle (calls p) (link_of r)) (referrals p)) (first_empty (map (λ r. r.at) (filter (λ r. is_on_cycle (calls p) (link_of r)) (referrals p))) none) in
    each_by (referrals p) (λ r off reached. false≢true (sym off ∙ reached_within (calls p) r.to r.from reached))
    (none_kept (λ r. is_on_cycle (calls p) (link_of r)) (referrals p) found_none)

-- ---- Names

pub distinct : (names : List Named) → seconds names ≡ [] → IsDistinct bytes_eq (map (λ n. n.name) names)
unfolding IsDistinct
distinct [] e = tt
distinct (n ∷ rest) e =
    let with_rest : clashes (n ∷ []) rest ≡ [] = left_empty (clashes (n ∷ []) rest) (seconds rest) e in
    let in_rest : flat_map (λ b. where_place (bytes_eq n.name b.name) (later_of n.at b.at)) rest ≡ [] =
    left_empty (flat_map (λ b. where_place (bytes_eq n.name b.name) (later_of n.at b.at)) rest) [] with_rest in (
      each_of_map (λ (m : Named). m.name) (λ y. bytes_eq n.name y ≡ false) rest
          (each_by rest (λ b h. not_placed (bytes_eq n.name b.name) (later_of n.at b.at) h)
          (each_empty (λ b. where_place (bytes_eq n.name b.name) (later_of n.at b.at)) rest in_rest)),
      distinct rest (right_empty (clashes (n ∷ []) rest) (seconds rest) e),
    )

pub declares_once : (mode : Mode) (file : File) → Sound mode file → DeclaresOnce file
declares_once mode file sound =
    let p = placed file in
    let q = bare_program p in
    let none : declared_twice p ≡ [] = empty_if_nowhere (declared_twice p) sound.none_is_declared_twice in
    each_by (scopes p)
    (λ s e. distinct (declared p s) (left_empty (two_declarations p s) _ e))
    (each_empty (declared_twice_in p q) (scopes p) (left_empty (flat_map (declared_twice_in p q) (scopes p)) _ none))

pub names_are_known : (mode : Mode) (file : File) → Sound mode file → NamesAreKnown file
names_are_known mode file sound =
    let p = placed file in
    let q = bare_program p in
    let none : undeclared_names p ≡ [] = empty_if_nowhere (undeclared_names p) sound.each_name_is_declared in
    let in_scopes : Each (scopes p) (λ s. undeclared_in_scope q s ≡ []) = each_empty (undeclared_in_scope q) (scopes p) none in
    let in_units : Each p.units (λ u. undeclared_in_scope q (Of_unit u) ≡ []) =
    each_before_map Of_unit (λ s. undeclared_in_scope q s ≡ []) p.units (each_right (λ s. undeclared_in_scope q s ≡ []) _ (map Of_unit p.units) in_scopes) in
    each_by p.units (λ u e.
    each_by (steps_of u) (λ s h.
    each_by (flat_map bare_name (parts_read s.step)) (λ n known. not-false _ known)
    (none_where (is_no_value (entity_of file u)) (flat_map bare_name (parts_read s.step)) (left_empty (places_where (is_no_value (entity_of file u)) (flat_map bare_name (parts_read s.step))) _ h)))
    (each_empty (λ s. undeclared_in_step (entity_of file u) s.step) (steps_of u) (left_empty (flat_map (λ (s : Stands). undeclared_in_step (entity_of file u) s.step) (steps_of u)) _ e)))
    in_units

pub calls_are_known : (mode : Mode) (file : File) → Sound mode file → CallsAreKnown file
calls_are_known mode file sound =
    let p = placed file in
    let none : unit_faults p ≡ [] = empty_if_nowhere (unit_faults p) sound.calls_name_units in
    each_by p.units (λ u e.
    each_by (steps_of u) (λ s h.
    each_by (call_name s.step) (λ n known. not-false _ known)
    (none_where _ (call_name s.step) (left_empty _ _ h)))
    (each_empty (λ s. unit_faults_in_step (entity_of file u) s.step) (steps_of u) e))
    (each_empty _ p.units none)

-- ---- The first fault

none_of_names : (mode : Mode) (file : File) → Sound mode file → faults_of_names (placed file) ≡ []
none_of_names mode file sound = λ t.
    found E30 (empty_if_nowhere (undeclared_names (placed file)) sound.each_name_is_declared t)
    ++ (found E31 (empty_if_nowhere (declared_twice (placed file)) sound.none_is_declared_twice t)
    ++ (found E34 (empty_if_nowhere (module_faults (placed file)) sound.uses_bring t)
    ++ (found E35 (empty_if_nowhere (unit_faults (placed file)) sound.calls_name_units t)
    ++ (found E39 (empty_if_nowhere (loop_faults (placed file)) sound.loop_variables_are_their_loops' t)
    ++ found E3B (empty_if_nowhere (intent_faults (placed file)) sound.dummies_have_intent t)))))

none_of_calls : (mode : Mode) (file : File) → Sound mode file → faults_of_calls (placed file) ≡ []
none_of_calls mode file sound = λ t.
    found E36 (empty_if_nowhere (recursions (placed file)) sound.calls_have_no_cycle t)
    ++ found E71 (empty_if_nowhere (size_faults (placed file)) sound.units_and_depth_are_in_their_limits t)

none_of_kinds : (mode : Mode) (file : File) → Sound mode file → faults_of_kinds mode (placed file) ≡ []
none_of_kinds mode file sound = λ t.
    found E32 (empty_if_nowhere (kind_faults (placed file)) sound.kinds_fit t)
    ++ (found E33 (empty_if_nowhere (rank_faults mode (placed file)) sound.ranks_fit t)
    ++ (found E37 (empty_if_nowhere (count_faults (placed file)) sound.arguments_are_counted t)
    ++ (found E38 (empty_if_nowhere (alias_faults (placed file)) sound.written_actuals_have_no_alias t)
    ++ found E3A (empty_if_nowhere (write_faults (placed file)) sound.writes_are_allowed t))))

no_least : (faults : List Found) (fault : Found) → faults ≡ [] → IsLeast faults fault → ⊥
no_least faults fault none least = false≢true (subst (λ l. list_any (is_this fault) l ≡ true) none least.among)

pub no_first_fault : (mode : Mode) (file : File) → Sound mode file → HasNoFirstFault mode file
no_first_fault mode file sound fault (of_names least) = no_least (faults_of_names (placed file)) fault (none_of_names mode file sound) least
no_first_fault mode file sound fault (of_calls none least) = no_least (faults_of_calls (placed file)) fault (none_of_calls mode file sound) least
no_first_fault mode file sound fault (of_kinds none none' least) = no_least (faults_of_kinds mode (placed file)) fault (none_of_kinds mode file sound) least
