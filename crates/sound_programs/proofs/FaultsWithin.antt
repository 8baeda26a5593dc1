-- Where all places of a program have a property, so has the place of each of its faults of names, calls and kinds, and that of
-- the first.
use Rattle.std.proofs.Common.{◌≡◌, List, [], ◌∷◌, ◌++◌, true, ◌&&◌, inl, inr, sym, subst}
use Rattle.std.specs.Prelude.{◌⊎◌, nat_eq}
use Rattle.std.specs.List.{list_any}
use Rattle.std.proofs.lemmas.Bool.{and_parts, or_cases, eqb-true, false≢true}
use Rattle.fort_tree.specs.Code.{code_number}
use Rattle.fort_tree.specs.declared.choice.Mode.{Mode}
use Rattle.fort_tree.specs.declared.fault.Code.{Code}
use Rattle.fort_tree.specs.declared.fault.Code.TheVariants.{E30, E31, E32, E33, E34, E35, E36, E37, E38, E39, E3A, E3B, E71}
use Rattle.fort_tree.specs.declared.place.Place.{Place}
use Rattle.fort_tree.specs.declared.unit.File.{File}
use Rattle.sound_programs.specs.ArgumentFaults.{count_faults, alias_faults, write_faults}
use Rattle.sound_programs.specs.CallFaults.{recursions, size_faults}
use Rattle.sound_programs.specs.DeclarationFaults.{declared_twice, module_faults, intent_faults}
use Rattle.sound_programs.specs.Faults.{Found, found, faults_of_names, faults_of_calls, faults_of_kinds, is_this, FirstFault, of_names, of_calls, of_kinds}
use Rattle.sound_programs.specs.KindFaults.{kind_faults}
use Rattle.sound_programs.specs.Laws.{Each}
use Rattle.sound_programs.specs.LoopFaults.{loop_faults}
use Rattle.sound_programs.specs.NameFaults.{undeclared_names, unit_faults}
use Rattle.sound_programs.specs.Placed.{Program}
use Rattle.sound_programs.specs.Places.{same_place}
use Rattle.sound_programs.specs.Placing.{placed}
use Rattle.sound_programs.specs.RankFaults.{rank_faults}
use Rattle.sound_programs.specs.Within.{AllPlaces}
use Rattle.sound_programs.proofs.ArgumentsWithin.{within_count_faults, within_alias_faults, within_write_faults}
use Rattle.sound_programs.proofs.CallsWithin.{within_recursions, within_size_faults}
use Rattle.sound_programs.proofs.KindsWithin.{within_kind_faults}
use Rattle.sound_programs.proofs.NamesWithin.{within_undeclared_names, within_declared_twice, within_module_faults, within_unit_faults, within_loop_faults, within_intent_faults}
use Rattle.sound_programs.proofs.RanksWithin.{within_rank_faults}
use Rattle.sound_programs.proofs.WithinLists.{each_append, each_image}
use Rattle.sound_programs.proofs.WithinPlaces.{Within}

-- places of one file, line and column are one
pub one_place : (a b : Place) → same_place a b ≡ true → a ≡ b
one_place a b h =
    let f : _ × _ = and_parts (nat_eq a.file b.file) (nat_eq a.line b.line && nat_eq a.column b.column) h in
    let l : _ × _ = and_parts (nat_eq a.line b.line) (nat_eq a.column b.column) f.1 in
    let file : a.file ≡ b.file = eqb-true a.file b.file f.0 in
    let line : a.line ≡ b.line = eqb-true a.line b.line l.0 in
    let column : a.column ≡ b.column = eqb-true a.column b.column l.1 in λ t. record { file = file t; line = line t; column = column t }

module _ (P : Place → Type 0) where
  abbrev pub AtFound : Found → Type 0
  AtFound fault = P fault.at

  each_found : (code : Code) (places : List Place) → Within P places → Each (found code places) AtFound
  each_found code places all = each_image P AtFound (λ at. record { code = code; at = at }) places (λ at h. h) all

  both : (xs ys : List Found) → Each xs AtFound → Each ys AtFound → Each (xs ++ ys) AtFound
  both xs ys = each_append AtFound xs ys

  pub faults_of_names_within : (p : Program) → AllPlaces P p → Each (faults_of_names p) AtFound
  faults_of_names_within p h =
      both (found E30 (undeclared_names p)) _ (each_found E30 (undeclared_names p) (within_undeclared_names P p h))
      (both (found E31 (declared_twice p)) _ (each_found E31 (declared_twice p) (within_declared_twice P p h))
      (both (found E34 (module_faults p)) _ (each_found E34 (module_faults p) (within_module_faults P p h))
      (both (found E35 (unit_faults p)) _ (each_found E35 (unit_faults p) (within_unit_faults P p h))
      (both (found E39 (loop_faults p)) (found E3B (intent_faults p)) (each_found E39 (loop_faults p) (within_loop_faults P p h)) (each_found E3B (intent_faults p) (within_intent_faults P p h))))))

  pub faults_of_calls_within : (p : Program) → AllPlaces P p → Each (faults_of_calls p) AtFound
  faults_of_calls_within p h =
      both (found E36 (recursions p)) (found E71 (size_faults p)) (each_found E36 (recursions p) (within_recursions P p h)) (each_found E71 (size_faults p) (within_size_faults P p h))

  pub faults_of_kinds_within : (mode : Mode) (p : Program) → AllPlaces P p → Each (faults_of_kinds mode p) AtFound
  faults_of_kinds_within mode p h =
      both (found E32 (kind_faults p)) _ (each_found E32 (kind_faults p) (within_kind_faults P p h))
      (both (found E33 (rank_faults mode p)) _ (each_found E33 (rank_faults mode p) (within_rank_faults P mode p h))
      (both (found E37 (count_faults p)) _ (each_found E37 (count_faults p) (within_count_faults P p h))
      (both (found E38 (alias_faults p)) (found E3A (write_faults p)) (each_found E38 (alias_faults p) (within_alias_faults P p h)) (each_found E3A (write_faults p) (within_write_faults P p h)))))

  at_this : (fault other : Found) → is_this fault other ≡ true → P other.at → P fault.at
  at_this fault other same h =
      let q : _ × _ = and_parts (same_place fault.at other.at) (nat_eq (code_number fault.code) (code_number other.code)) same in
      subst P (sym (one_place fault.at other.at q.0)) h

  at_one_found : (faults : List Found) (fault : Found) → Each faults AtFound → list_any (is_this fault) faults ≡ true → P fault.at
  at_one_found [] fault all among = absurd (false≢true among)
  at_one_found (other ∷ rest) fault all among = at_head (or_cases (is_this fault other) (list_any (is_this fault) rest) among) (at_one_found rest fault all.1)
    where
      at_head : (is_this fault other ≡ true) ⊎ (list_any (is_this fault) rest ≡ true) → (list_any (is_this fault) rest ≡ true → P fault.at) → P fault.at
      at_head (inl here) later = at_this fault other here all.0
      at_head (inr there) later = later there

  pub at_first_fault : (mode : Mode) (file : File) → AllPlaces P (placed file) → (fault : Found) → FirstFault mode file fault → P fault.at
  at_first_fault mode file h fault (of_names least) = at_one_found (faults_of_names (placed file)) fault (faults_of_names_within (placed file) h) least.among
  at_first_fault mode file h fault (of_calls none least) = at_one_found (faults_of_calls (placed file)) fault (faults_of_calls_within (placed file) h) least.among
  at_first_fault mode file h fault (of_kinds none none' least) = at_one_found (faults_of_kinds mode (placed file)) fault (faults_of_kinds_within mode (placed file) h) least.among
