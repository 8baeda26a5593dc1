-- The tests on the calls of a file by numbers are those of the definition by names.
use Rattle.std.proofs.Common.{◌≡◌, ℕ, zero, suc, ◌+◌, ◌<◌, ◌≤◌, ◌↔◌, Bool, true, false, ◌&&◌, ◌||◌, not, nat_eq, nat_le, List, [], ◌∷◌, map, length, drop, drop-cons, add-one, get_or, Option, Some, None, is_some, is_none, IsTrue, refl, sym, ap, ◌∙◌, subst, arith}
use Rattle.std.specs.List.{list_any}
use Rattle.std.proofs.lemmas.Bool.{false≢true}
use Rattle.fort_tree.specs.declared.place.Place.{Place}
use Rattle.numbered_graph.specs.Graphs.{row, stands, Way, LeadsToCycle, has_chain, IsGraph}
use Rattle.numbered_graph.specs.Deepness.{depth_at}
use Rattle.numbered_graph.proofs.Times.{itself}
use Rattle.sound_programs.specs.CallFaults.{link_of}
use Rattle.sound_programs.specs.Links.{is_on_cycle, begins_chain, leads_to_cycle}
use Rattle.call_graph.specs.declared.calls.Calls.{Calls}
use Rattle.call_graph.specs.declared.reference.Reference.{Reference}
use Rattle.call_graph.specs.Calling.{AreCalls, links_of, is_recursive, recursive_places, all_recursive, is_deep}
use Rattle.call_graph.specs.Earliest.{earliest}
use Rattle.call_graph.specs.Referring.{unit_names, name_at, numbers, listed, callees_of, AreWithin}
use Rattle.call_graph.proofs.Earliests.{earliest_append}
use Rattle.call_graph.proofs.Named.{same_bool, linked, is_graph, chains_agree, way_if_led, led_if_way, cycle_if_led, led_if_cycle, link_passes, way_in, in_names}
use Rattle.call_graph.proofs.Lists.{names_long}

pub numbers_at : (refs : List Reference) (i : ℕ) (d : Reference) → i < length refs → stands (get_or refs i d).unit (numbers refs) ≡ true
numbers_at [] i d h = absurd (omega (arith, h))
numbers_at (q ∷ refs) zero d h = ap (λ b. b || stands q.unit (numbers refs)) (itself q.unit)
numbers_at (q ∷ refs) (suc i) d h = go (nat_eq (get_or refs i d).unit q.unit) (numbers_at refs i d (omega (arith, h)))
  where
    go : (b : Bool) → stands (get_or refs i d).unit (numbers refs) ≡ true → (b || stands (get_or refs i d).unit (numbers refs)) ≡ true
    go true e = refl
    go false e = e

module _ (c : Calls) (are : AreCalls c) where
  pub as_many : length (unit_names c.file.now) ≡ length c.file.now.units
  as_many = names_long c.file.now.units

  within : AreWithin (length (unit_names c.file.now)) c.references.items
  within = subst (λ n. AreWithin n c.references.items) (sym as_many) are.references.are_within

  named : (i : ℕ) → i < length c.file.now.units → i < length (unit_names c.file.now)
  named i h = omega (arith, h, as_many)

  pub graph : IsGraph c.callees.items
  graph = subst IsGraph (sym are.callees) (is_graph (unit_names c.file.now) c.references.items are.differ within)

  pub many_callees : length c.callees.items ≡ length c.file.now.units
  many_callees = ap length are.callees ∙ length_map c.references.items ∙ are.references.are_within.same_length
    where
      length_map : (rs : List (List Reference)) → length (callees_of rs) ≡ length rs
      length_map [] = refl
      length_map (r ∷ rs) = omega (arith, length_map rs)

  -- what leads to a cycle has no depth
  pub cycle_depth : (i : ℕ) → i < length c.file.now.units → is_none (depth_at c.depths.items i) ≡ leads_to_cycle (links_of c) (name_at (unit_names c.file.now) i)
  unfolding links_of
  cycle_depth i h = go (depth_at c.depths.items i) refl
    where
      led : LeadsToCycle c.callees.items i → leads_to_cycle (map link_of (listed (unit_names c.file.now) (unit_names c.file.now) c.references.items)) (name_at (unit_names c.file.now) i) ≡ true
      led l = led_if_cycle (unit_names c.file.now) c.references.items are.differ within i (named i h) (subst (λ rows. LeadsToCycle rows i) are.callees l)

      not_led : stands i c.order.items ≡ true → (b : Bool) → leads_to_cycle (map link_of (listed (unit_names c.file.now) (unit_names c.file.now) c.references.items)) (name_at (unit_names c.file.now) i) ≡ b → false ≡ b
      not_led k false e = refl
      not_led k true e = absurd (are.order.none_on_cycle i k (subst (λ rows. LeadsToCycle rows i) (sym are.callees) (cycle_if_led (unit_names c.file.now) c.references.items are.differ within i (named i h) e)))

      go : (o : Option ℕ) → depth_at c.depths.items i ≡ o → is_none o ≡ leads_to_cycle (map link_of (listed (unit_names c.file.now) (unit_names c.file.now) c.references.items)) (name_at (unit_names c.file.now) i)
      go None e = sym (led (are.order.left_over i (omega (arith, h, many_callees)) (sym (are.depths.ordered i) ∙ ap is_some e)))
      go (Some d) e = not_led (sym (are.depths.ordered i) ∙ ap is_some e) (leads_to_cycle (map link_of (listed (unit_names c.file.now) (unit_names c.file.now) c.references.items)) (name_at (unit_names c.file.now) i)) refl

  -- where a unit leads to a cycle a link lies on one
  pub cycle_passes : (x : ℕ) → x < length c.file.now.units → LeadsToCycle c.callees.items x → list_any (is_on_cycle (links_of c)) (map link_of (listed (unit_names c.file.now) (unit_names c.file.now) c.references.items)) ≡ true
  unfolding links_of
  cycle_passes x h l =
      let names = unit_names c.file.now in
      let rows = c.references.items in
      let m : LeadsToCycle (callees_of rows) x = subst (λ rows. LeadsToCycle rows x) are.callees l in
      let from_in : m.from < length names = way_in names rows are.differ within x m.from (named x h) m.way in
      link_passes names (is_on_cycle (map link_of (listed names names rows))) names rows m.from m.to from_in (sym (linked names rows are.differ within m.from m.to) ∙ m.link)
      (led_if_way names rows are.differ within m.to m.from (in_names names rows are.differ within m.from m.to m.link) m.back)

  -- ---- a reference on a cycle

  module _ (unit : ℕ) (r : Reference) (there : stands r.unit (numbers (get_or c.references.items unit [])) ≡ true) where
    pub unit_within : unit < length c.file.now.units
    unit_within = omega (arith, in_rows c.references.items unit there, are.references.are_within.same_length)
      where
        in_rows : (rows : List (List Reference)) (i : ℕ) → stands r.unit (numbers (get_or rows i [])) ≡ true → i < length rows
        in_rows [] i e = absurd (false≢true e)
        in_rows (q ∷ rows) zero e = omega arith
        in_rows (q ∷ rows) (suc i) e = omega (arith, in_rows rows i e)

    pub callee_within : r.unit < length c.file.now.units
    callee_within = are.references.are_within.within unit r.unit there

    link : stands r.unit (row c.callees.items unit) ≡ true
    link = ap (λ rows. stands r.unit (row rows unit)) are.callees ∙ linked (unit_names c.file.now) c.references.items are.differ within unit r.unit ∙ there

    pub recursive_if_way : Way c.callees.items r.unit unit → is_recursive c unit r ≡ true
    unfolding is_recursive links_of
    recursive_if_way way = led_if_way (unit_names c.file.now) c.references.items are.differ within r.unit unit (named r.unit callee_within) (subst (λ rows. Way rows r.unit unit) are.callees way)

    pub way_if_recursive : is_recursive c unit r ≡ true → Way c.callees.items r.unit unit
    unfolding is_recursive links_of
    way_if_recursive e = subst (λ rows. Way rows r.unit unit) (sym are.callees) (way_if_led (unit_names c.file.now) c.references.items are.differ within r.unit unit (named r.unit callee_within) (named unit unit_within) e)

    pub recursive_is : (b : Bool) → IsTrue b ↔ Way c.callees.items r.unit unit → b ≡ is_recursive c unit r
    recursive_is b both = same_bool b (is_recursive c unit r) (λ e. recursive_if_way (both.0 e)) (λ e. both.1 (way_if_recursive e))

  -- ---- calls that are too deep

  pub not_deep : (i : ℕ) → i < length c.file.now.units → depth_at c.depths.items i ≡ None → false ≡ is_deep (links_of c) (name_at (unit_names c.file.now) i)
  unfolding is_deep
  not_deep i h e =
      let led : leads_to_cycle (links_of c) (name_at (unit_names c.file.now) i) ≡ true = sym (cycle_depth i h) ∙ ap is_none e in
      sym (ap (λ b. begins_chain (links_of c) 65 (name_at (unit_names c.file.now) i) && not b) led ∙ none (begins_chain (links_of c) 65 (name_at (unit_names c.file.now) i)))
    where
      none : (b : Bool) → (b && false) ≡ false
      none true = refl
      none false = refl

  deep_by : ℕ → ℕ → Bool
  deep_by n i = begins_chain (links_of c) n (name_at (unit_names c.file.now) i) && not (leads_to_cycle (links_of c) (name_at (unit_names c.file.now) i))

  is_deep_by : (n : ℕ) → n ≡ 65 → (i : ℕ) → is_deep (links_of c) (name_at (unit_names c.file.now) i) ≡ deep_by n i
  unfolding is_deep deep_by
  is_deep_by n e i = ap (λ k. begins_chain (links_of c) k (name_at (unit_names c.file.now) i) && not (leads_to_cycle (links_of c) (name_at (unit_names c.file.now) i))) (sym e)

  deep_by_depth : (n : ℕ) → n ≤ 65 → (i d : ℕ) → i < length c.file.now.units → depth_at c.depths.items i ≡ Some d → deep_by n i ≡ nat_le n d
  unfolding deep_by links_of
  deep_by_depth n le i d h e =
      let led : leads_to_cycle (links_of c) (name_at (unit_names c.file.now) i) ≡ false = sym (cycle_depth i h) ∙ ap is_none e in
      ap (λ b. begins_chain (links_of c) n (name_at (unit_names c.file.now) i) && not b) led ∙ all (begins_chain (links_of c) n (name_at (unit_names c.file.now) i))
      ∙ chains_agree (unit_names c.file.now) c.references.items are.differ within n i (named i h) ∙ ap (λ rows. has_chain rows n i) (sym are.callees) ∙ are.depths.depth i d n e le
    where
      all : (b : Bool) → (b && true) ≡ b
      all true = refl
      all false = refl

  deep_at : (n : ℕ) → n ≡ 65 → (i d : ℕ) → i < length c.file.now.units → depth_at c.depths.items i ≡ Some d → nat_le n d ≡ is_deep (links_of c) (name_at (unit_names c.file.now) i)
  deep_at n e i d h is = sym (is_deep_by n e i ∙ deep_by_depth n (omega (arith, e)) i d h is)

  pub deep_is : (i d : ℕ) → i < length c.file.now.units → depth_at c.depths.items i ≡ Some d → nat_le 65 d ≡ is_deep (links_of c) (name_at (unit_names c.file.now) i)
  deep_is i d h is = deep_at 65 refl i d h is

-- the references of one more unit
pub next_unit : (c : Calls) (unit : ℕ) (old new first : Option Place) → unit < length c.references.items → new ≡ earliest old (recursive_places c unit (get_or c.references.items unit []))
    → earliest old (all_recursive c unit (drop unit c.references.items)) ≡ earliest first (all_recursive c 0 c.references.items) → earliest new (all_recursive c (unit + 1) (drop (unit + 1) c.references.items)) ≡ earliest first (all_recursive c 0 c.references.items)
next_unit c unit old new first within e so_far =
    let rows = c.references.items in
    let at : drop unit rows ≡ get_or rows unit [] ∷ drop (unit + 1) rows = rw (add-one, drop-cons rows unit []) refl in
    ap (λ f. earliest f (all_recursive c (unit + 1) (drop (unit + 1) rows))) e
    ∙ sym (earliest_append old (recursive_places c unit (get_or rows unit [])) (all_recursive c (unit + 1) (drop (unit + 1) rows)))
    ∙ ap (λ l. earliest old (all_recursive c unit l)) (sym at) ∙ so_far
