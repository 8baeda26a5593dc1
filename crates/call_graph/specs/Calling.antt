-- The calls of a file by the numbers of its units, and the tests on them.
use Rattle.std.specs.Prelude.{◌≡◌, ℕ, ◌+◌, Bool, true, ◌&&◌, not, List, [], ◌∷◌, ◌++◌, map, Option, Some, None}
use Rattle.std.specs.List.{filter}
use Rattle.fort_tree.specs.declared.place.Place.{Place}
use Rattle.claw_meaning.specs.Syntax.{Text}
use Rattle.numbered_graph.specs.Graphs.{IsOrder}
use Rattle.numbered_graph.specs.Deepness.{AreDepths}
use Rattle.sound_programs.specs.CallFaults.{link_of}
use Rattle.sound_programs.specs.Links.{Links, is_on_cycle, begins_chain, leads_to_cycle}
use Rattle.sound_programs.specs.Places.{is_earlier}
use Rattle.call_graph.specs.declared.calls.Calls.{Calls}
use Rattle.call_graph.specs.declared.reference.Reference.{Reference}
use Rattle.call_graph.specs.Grouping.{AreGroups}
use Rattle.call_graph.specs.Referring.{unit_names, name_at, as_referral, listed, callees_of, NamesDiffer, AreReferencesOf}

-- What is known of the calls: which they are, their graph, its order, its depths, of which those above 64 are 65, and its groups.
pub record AreCalls (c : Calls) : Type 0 where
  pub differ : NamesDiffer (unit_names c.file.now)
  pub references : AreReferencesOf c.file.now c.references.items
  pub callees : c.callees.items ≡ callees_of c.references.items
  pub order : IsOrder c.callees.items c.order.items
  pub depths : AreDepths c.callees.items c.order.items 65 c.depths.items
  pub groups : AreGroups c.callees.items c.groups

-- the links of the names
unfoldable pub links_of : Calls → Links
links_of c = map link_of (listed (unit_names c.file.now) (unit_names c.file.now) c.references.items)

-- a reference in a unit lies on a cycle
unfoldable pub is_recursive : Calls → ℕ → Reference → Bool
is_recursive c unit r = is_on_cycle (links_of c) (link_of (as_referral (unit_names c.file.now) (name_at (unit_names c.file.now) unit) r))

abbrev pub recursive_places : Calls → ℕ → List Reference → List Place
recursive_places c unit refs = map (λ r. r.at) (filter (is_recursive c unit) refs)

-- of the units from a number on, of which these are the references
abbrev pub all_recursive : Calls → ℕ → List (List Reference) → List Place
all_recursive c unit [] = []
all_recursive c unit (r ∷ rs) = recursive_places c unit r ++ all_recursive c (unit + 1) rs

-- the calls of the unit of this name are deeper than 64
unfoldable pub is_deep : Links → Text → Bool
is_deep links x = begins_chain links 65 x && not (leads_to_cycle links x)

-- the place would be the first
abbrev pub is_first : Place → Option Place → Bool
is_first at None = true
is_first at (Some first) = is_earlier at first
