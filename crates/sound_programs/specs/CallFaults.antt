-- Cycles of calls, their depth, and the number of units. Each clause lists the places at which it holds.
use Rattle.std.specs.Prelude.{List, [], ◌∷◌, ◌++◌, map, Option, Some, None, Bool, ◌&&◌, not, flat_map, slice_get}
use Rattle.std.specs.List.{filter}
use Rattle.fort_tree.specs.declared.place.Place.{Place}
use Rattle.claw_meaning.specs.Syntax as plain
use Rattle.claw_meaning.specs.Syntax.{Text}
use Rattle.claw_meaning.specs.Scope.{Entity}
use Rattle.sound_programs.specs.Places.{the_first}
use Rattle.sound_programs.specs.Links.{Links, is_on_cycle, begins_chain, leads_to_cycle}
use Rattle.sound_programs.specs.Placed.{Unit, Program, bare_program}
use Rattle.sound_programs.specs.Scopes.{Of_unit, entity_in, unit_of}
use Rattle.sound_programs.specs.Walks.{Site, steps_of, sites}

-- a reference to a unit: the unit in which it stands, the unit to which it refers, and the place of the name
pub record Referral : Type 0 where
  pub from : Text
  pub to : Text
  pub at : Place

abbrev pub referral : Unit → Site → Option plain.Unit → List Referral
referral u s None = []
referral u s (Some v) = record { from = u.name; to = v.name; at = s.name.at } ∷ []

abbrev pub sites_of : (Text → Entity) → Unit → List Site
sites_of entity u = flat_map (λ s. sites entity s.step) (steps_of u)

-- the references of a unit: its CALLs, and its references to functions
abbrev pub referrals_of : plain.Program → Unit → List Referral
referrals_of q u =
    let entity = entity_in q (Of_unit u) in
    flat_map (λ s. referral u s (unit_of (entity s.name.name))) (sites_of entity u)

abbrev pub referrals : Program → List Referral
referrals p = flat_map (referrals_of (bare_program p)) p.units

abbrev pub link_of : Referral → Text × Text
link_of r = (r.from, r.to)

-- the call graph: a link for each reference
abbrev pub calls : Program → Links
calls p = map link_of (referrals p)

-- E36: a reference lies on a cycle of calls. It is at the first such.
abbrev pub recursions : Program → List Place
recursions p = the_first (map (λ r. r.at) (filter (λ r. is_on_cycle (calls p) (link_of r)) (referrals p)))

-- the 2,001st unit
abbrev pub unit_place : Option Unit → List Place
unit_place None = []
unit_place (Some u) = u.at ∷ []

abbrev pub one_unit_too_many : Program → List Place
one_unit_too_many p = unit_place (slice_get p.units 2000)

-- The depth of a unit's calls is the length of the longest chain of references from it: 0 where it refers to none, else 1 more
-- than the greatest of those that it refers to. A unit that leads to a cycle has none.
abbrev pub is_too_deep : Links → Unit → Bool
is_too_deep links u = begins_chain links 65 u.name && not (leads_to_cycle links u.name)

-- the first unit whose calls are deeper than 64
abbrev pub calls_too_deep : Program → List Place
calls_too_deep p = the_first (map (λ u. u.at) (filter (is_too_deep (calls p)) p.units))

-- E71: the 2,001st unit, or the first unit whose calls are deeper than 64.
abbrev pub size_faults : Program → List Place
size_faults p = one_unit_too_many p ++ calls_too_deep p
