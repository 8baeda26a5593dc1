-- What a unit and those that it reaches name and write, from what is known of those to which it refers.
use Rattle.std.proofs.Common.{◌≡◌, ℕ, zero, suc, ◌+◌, ◌<◌, ◌≤◌, Bool, true, false, ◌||◌, nat_eq, List, [], ◌∷◌, ◌++◌, length, take, get_or, set, Option, Some, None, refl, sym, ap, ◌∙◌, subst, arith}
use Rattle.std.specs.Prelude.{flat_map, slice_get}
use Rattle.std.specs.List.{list_any}
use Rattle.std.specs.Option.{option_map}
use Rattle.std.proofs.lemmas.Option.{slice_get_within}
use Rattle.fort_tree.specs.declared.fault.Code.TheVariants.{E3A}
use Rattle.fort_tree.specs.declared.place.Place.{Place}
use Rattle.fort_tree.specs.declared.unit.File.{File}
use Rattle.fort_tree.specs.declared.unit.Unit as tree_unit
use Rattle.claw_meaning.specs.Syntax.{Text}
use Rattle.numbered_graph.specs.Graphs.{row, stands}
use Rattle.numbered_graph.proofs.Times.{itself}
use Rattle.sound_programs.specs.ArgumentFaults.{is_named_by, module_variables_of, module_writes, reached_from, same_pair}
use Rattle.sound_programs.specs.Faults.{Found, found}
use Rattle.sound_programs.specs.Placed.{bare_program}
use Rattle.sound_programs.specs.Placing.{placed, placed_unit}
use Rattle.fort_names.specs.declared.least.At.{At}
use Rattle.fort_names.specs.FoundAt.{found_of}
use Rattle.fort_names.specs.Leasts.{noted}
use Rattle.fort_names.specs.Reached.{is_by, some_by}
use Rattle.fort_names.proofs.FirstOf.{noted_append, noted_places}
use Rattle.fort_names.proofs.Places.{any_append}
use Rattle.fort_names.proofs.Reaching.{same_least}
use Rattle.call_graph.specs.CallGraphs.{CallGraph, IsCallGraph}
use Rattle.call_graph.specs.Referring.{unit_names, name_at, NamesDiffer}
use Rattle.argument_faults.specs.Marking.{is_marked, AreLong, IsMarkedFrom}
use Rattle.argument_faults.specs.ModuleNames.{HasSame}
use Rattle.argument_faults.specs.ModuleWrites.{IsFirstWrite}
use Rattle.argument_faults.specs.Reaching.{AreNamed, IsNamedFrom, AreNamedFrom, IsWrittenFrom, AreWrittenFrom, fault_of, faults_at, AreThere, IsFirstFrom}
use Rattle.argument_faults.proofs.InOrder.{SoFar, Numbered, one_more, any_standing, at_within, callee_within, callee_before, in_order, numbered, reached_at}
use Rattle.argument_faults.proofs.Inserting.{any_flat}
use Rattle.argument_faults.proofs.Merging.{first_write}

take_past : (xs : List ℕ) (i : ℕ) → length xs ≤ i → take i xs ≡ xs
take_past [] zero h = refl
take_past [] (suc i) h = refl
take_past (x ∷ xs) zero h = absurd (omega (arith, h))
take_past (x ∷ xs) (suc i) h = ap (λ l. x ∷ l) (take_past xs i (omega (arith, h)))

module _ (f : File) (g : CallGraph) (is : IsCallGraph f g) (differ : NamesDiffer (unit_names f)) (i : ℕ) (within : i < length g.order) where
  abbrev callees : List ℕ
  callees = row g.callees (get_or g.order i 0)

  -- ---- names

  module _ (vs : List (Text × Text)) (rows : List (List Bool)) (so_far : SoFar (IsNamedFrom f vs) [] f (take i g.order) rows) where
    callee_named : (k : ℕ) → stands k callees ≡ true → (v : Numbered f k) → IsNamedFrom f vs v.unit (get_or rows k [])
    callee_named k e v = so_far.fits k v.unit (callee_before f g is differ i k within e) v.there

    pub long_rows : AreLong rows callees (length vs)
    long_rows = record {
      there = λ k e. omega (arith, callee_within f g is differ (get_or g.order i 0) k e, so_far.same_length);
      long = λ k e. (callee_named k e (numbered f g is differ k (callee_within f g is differ (get_or g.order i 0) k e))).same_length;
    }

    pub named_next : (list : List (Text × Text)) (marks : List Bool) (u : tree_unit.Unit) → slice_get f.units (get_or g.order i 0) ≡ Some u → HasSame list (module_variables_of (bare_program (placed f)) (placed_unit u)) → IsMarkedFrom vs list rows callees marks
        → IsNamedFrom f vs u marks
    named_next list marks u there own from = record {
      same_length = from.same_length;
      marked = λ v.
          from.marked v
          ∙ (λ t. own.same v t || any_standing (λ k. is_marked vs (get_or rows k []) v) (λ k. is_named_by (placed f) (bare_program (placed f)) (name_at (unit_names f) k) v) callees (one v) t)
          ∙ sym (reached_at f g is differ (get_or g.order i 0) u there (λ w. list_any (same_pair v) (module_variables_of (bare_program (placed f)) w)));
    }
      where
        one : (v : Text × Text) (k : ℕ) → stands k callees ≡ true → is_marked vs (get_or rows k []) v ≡ is_named_by (placed f) (bare_program (placed f)) (name_at (unit_names f) k) v
        one v k e =
            let w = numbered f g is differ k (callee_within f g is differ (get_or g.order i 0) k e) in
            (callee_named k e w).marked v ∙ ap (λ x. is_named_by (placed f) (bare_program (placed f)) x v) (sym w.name)

    -- the same, where the unit, the table and the callees are named in other words
    module _ (x : ℕ) (given : List (List Bool)) (numbers : List ℕ) (is_x : x ≡ get_or g.order i 0) (same : given ≡ rows) (are : numbers ≡ row g.callees x) where
      these : numbers ≡ callees
      these = are ∙ ap (row g.callees) is_x

      pub long_at : AreLong given numbers (length vs)
      long_at = subst (λ l. AreLong l numbers (length vs)) (sym same) (subst (λ l. AreLong rows l (length vs)) (sym these) long_rows)

      pub named_at : (named : List (List (Text × Text))) (marks : List Bool) → AreNamed f named → IsMarkedFrom vs (get_or named x []) given numbers marks → SoFar (IsNamedFrom f vs) [] f (take (i + 1) g.order) (set rows x marks)
      named_at named marks own from =
          subst (λ y. SoFar (IsNamedFrom f vs) [] f (take (i + 1) g.order) (set rows y marks)) (sym is_x)
          (one_more (IsNamedFrom f vs) [] f g.order i rows marks within (at_within f g is differ i within) so_far
          (λ u there. named_next (get_or named (get_or g.order i 0) []) marks u there (own.named (get_or g.order i 0) u there)
          (subst (λ l. IsMarkedFrom vs (get_or named (get_or g.order i 0) []) rows l marks) these
          (subst (λ l. IsMarkedFrom vs (get_or named (get_or g.order i 0) []) l numbers marks) same (subst (λ y. IsMarkedFrom vs (get_or named y []) given numbers marks) is_x from)))))

  -- ---- writes

  module _ (writes : List (Option At)) (so_far : SoFar (IsWrittenFrom f) None f (take i g.order) writes) where
    pub writes_there : AreThere writes callees
    writes_there = record { there = λ k e. omega (arith, callee_within f g is differ (get_or g.order i 0) k e, so_far.same_length) }

    -- where the unit of the name, or one that it reaches, writes a module variable
    abbrev places_from : Text → List Place
    places_from x = flat_map (module_writes (bare_program (placed f))) (reached_from (placed f) x)

    callees_written : (ks : List ℕ) → ((k : ℕ) → stands k ks ≡ true → stands k callees ≡ true) → (r : Option Found)
        → noted (faults_at writes ks) r ≡ noted (found E3A (flat_map (λ k. places_from (name_at (unit_names f) k)) ks)) r
    callees_written [] all r = refl
    callees_written (k ∷ ks) all r =
        let e : stands k callees ≡ true = all k (ap (λ b. b || stands k ks) (itself k)) in
        let w = numbered f g is differ k (callee_within f g is differ (get_or g.order i 0) k e) in
        let first : IsFirstWrite (places_from w.unit.name) (get_or writes k None) = so_far.fits k w.unit (callee_before f g is differ i k within e) w.there in
        noted_append (fault_of (get_or writes k None)) (faults_at writes ks) r
        ∙ ap (noted (faults_at writes ks)) (first.same r ∙ ap (λ x. noted (found E3A (places_from x)) r) (sym w.name))
        ∙ callees_written ks (λ j h. all j (later j h)) (noted (found E3A (places_from (name_at (unit_names f) k))) r)
        ∙ sym (noted_places E3A (places_from (name_at (unit_names f) k)) (flat_map (λ k. places_from (name_at (unit_names f) k)) ks) r)
      where
        later : (j : ℕ) → stands j ks ≡ true → stands j (k ∷ ks) ≡ true
        later j h = go (nat_eq j k)
          where
            go : (b : Bool) → (b || stands j ks) ≡ true
            go true = refl
            go false = h

    same_places : (u : tree_unit.Unit) → slice_get f.units (get_or g.order i 0) ≡ Some u → (at : Place)
        → some_by at (module_writes (bare_program (placed f)) (placed_unit u) ++ flat_map (λ k. places_from (name_at (unit_names f) k)) callees) ≡ some_by at (places_from u.name)
    same_places u there at =
        any_append (is_by at) (module_writes (bare_program (placed f)) (placed_unit u)) (flat_map (λ k. places_from (name_at (unit_names f) k)) callees)
        ∙ ap (λ b. some_by at (module_writes (bare_program (placed f)) (placed_unit u)) || b)
        (any_flat (is_by at) (λ k. places_from (name_at (unit_names f) k)) callees
        ∙ (λ t. list_any (λ k. any_flat (is_by at) (module_writes (bare_program (placed f))) (reached_from (placed f) (name_at (unit_names f) k)) t) callees))
        ∙ sym (reached_at f g is differ (get_or g.order i 0) u there (λ w. some_by at (module_writes (bare_program (placed f)) w)))
        ∙ sym (any_flat (is_by at) (module_writes (bare_program (placed f))) (reached_from (placed f) u.name))

    next_of : (own first : Option At) (u : tree_unit.Unit) → slice_get f.units (get_or g.order i 0) ≡ Some u → IsFirstWrite (module_writes (bare_program (placed f)) (placed_unit u)) own
        → option_map found_of first ≡ noted (faults_at writes callees) (noted (fault_of own) None) → IsWrittenFrom f u first
    next_of own first u there is_own e =
        first_write (places_from u.name) (noted (found E3A (places_from u.name)) None) first
        (e ∙ ap (noted (faults_at writes callees)) (is_own.same None)
        ∙ callees_written callees (λ k h. h) (noted (found E3A (module_writes (bare_program (placed f)) (placed_unit u))) None)
        ∙ sym (noted_places E3A (module_writes (bare_program (placed f)) (placed_unit u)) (flat_map (λ k. places_from (name_at (unit_names f) k)) callees) None)
        ∙ same_least E3A (module_writes (bare_program (placed f)) (placed_unit u) ++ flat_map (λ k. places_from (name_at (unit_names f) k)) callees) (places_from u.name) (same_places u there) None)
        refl

    pub written_next : (first : Option At) (u : tree_unit.Unit) → slice_get f.units (get_or g.order i 0) ≡ Some u → IsFirstFrom f (get_or g.order i 0) writes callees first → IsWrittenFrom f u first
    written_next first u there h = next_of h.own first u there (h.writes_own u there) h.first_of

    module _ (x : ℕ) (given : List (Option At)) (numbers : List ℕ) (is_x : x ≡ get_or g.order i 0) (same : given ≡ writes) (are : numbers ≡ row g.callees x) where
      those : numbers ≡ callees
      those = are ∙ ap (row g.callees) is_x

      pub there_at : AreThere given numbers
      there_at = subst (λ l. AreThere l numbers) (sym same) (subst (AreThere writes) (sym those) writes_there)

      pub written_at : (first : Option At) → IsFirstFrom f x given numbers first → SoFar (IsWrittenFrom f) None f (take (i + 1) g.order) (set writes x first)
      written_at first from =
          subst (λ y. SoFar (IsWrittenFrom f) None f (take (i + 1) g.order) (set writes y first)) (sym is_x)
          (one_more (IsWrittenFrom f) None f g.order i writes first within (at_within f g is differ i within) so_far
          (λ u there. written_next first u there
          (subst (λ l. IsFirstFrom f (get_or g.order i 0) writes l first) those
          (subst (λ l. IsFirstFrom f (get_or g.order i 0) l numbers first) same (subst (λ y. IsFirstFrom f y given numbers first) is_x from)))))

-- ---- all units

module _ (f : File) (g : CallGraph) (is : IsCallGraph f g) (differ : NamesDiffer (unit_names f)) where
  pub all_named : (vs : List (Text × Text)) (rows : List (List Bool)) (i : ℕ) → length g.order ≤ i → SoFar (IsNamedFrom f vs) [] f (take i g.order) rows → AreNamedFrom f vs rows
  all_named vs rows i past so_far =
      let all : SoFar (IsNamedFrom f vs) [] f g.order rows = subst (λ l. SoFar (IsNamedFrom f vs) [] f l rows) (take_past g.order i past) so_far in
      record { same_length = all.same_length; named = λ n u there. all.fits n u (in_order f g is differ n (slice_get_within f.units n u there)) there }

  pub all_written : (writes : List (Option At)) (i : ℕ) → length g.order ≤ i → SoFar (IsWrittenFrom f) None f (take i g.order) writes → AreWrittenFrom f writes
  all_written writes i past so_far =
      let all : SoFar (IsWrittenFrom f) None f g.order writes = subst (λ l. SoFar (IsWrittenFrom f) None f l writes) (take_past g.order i past) so_far in
      record { same_length = all.same_length; written = λ n u there. all.fits n u (in_order f g is differ n (slice_get_within f.units n u there)) there }
