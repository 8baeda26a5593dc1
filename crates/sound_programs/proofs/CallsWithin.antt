-- Where all places of a program have a property, so has the place of each fault of calls.
use Rattle.std.proofs.Common.{Option, None, Some}
use Rattle.std.specs.Prelude.{slice_get}
use Rattle.fort_tree.specs.declared.place.Place.{Place}
use Rattle.claw_meaning.specs.Syntax as plain
use Rattle.claw_meaning.specs.Syntax.{Text}
use Rattle.claw_meaning.specs.Scope.{Entity}
use Rattle.sound_programs.specs.CallFaults.{Referral, referral, sites_of, referrals_of, referrals, recursions, unit_place, size_faults}
use Rattle.sound_programs.specs.Laws.{Each}
use Rattle.sound_programs.specs.Placed.{Unit, Program, bare_program}
use Rattle.sound_programs.specs.Scopes.{Of_unit, entity_in, unit_of}
use Rattle.sound_programs.specs.Walks.{Site, steps_of, sites}
use Rattle.sound_programs.specs.Within.{InOption, AllInUnit, AllPlaces}
use Rattle.sound_programs.proofs.WithinLists.{each_of_each, each_image, each_kept, one_of_each}
use Rattle.sound_programs.proofs.WithinPlaces.{Within, within_both, within_first}
use Rattle.sound_programs.proofs.WithinSteps.{AllInStands, AllInSite, each_step_of, each_site}

module _ (P : Place → Type 0) where
  -- the name at which a unit is referred to
  abbrev AtReferral : Referral → Type 0
  AtReferral r = P r.at

  pub each_site_of : (entity : Text → Entity) (u : Unit) → AllInUnit P u → Each (sites_of entity u) (AllInSite P)
  each_site_of entity u h = each_of_each (AllInStands P) (AllInSite P) (λ s. sites entity s.step) (steps_of u) (λ s. each_site P entity s.step) (each_step_of P u h)

  each_referral : (u : Unit) (s : Site) (v : Option plain.Unit) → AllInSite P s → Each (referral u s v) AtReferral
  each_referral u s None h = tt
  each_referral u s (Some v) h = (h.0, tt)

  each_referral_of : (q : plain.Program) (u : Unit) → AllInUnit P u → Each (referrals_of q u) AtReferral
  each_referral_of q u h =
      let entity : Text → Entity = entity_in q (Of_unit u) in
      each_of_each (AllInSite P) AtReferral (λ s. referral u s (unit_of (entity s.name.name))) (sites_of entity u)
      (λ s. each_referral u s (unit_of (entity s.name.name)))
      (each_site_of entity u h)

  each_referral_in : (p : Program) → AllPlaces P p → Each (referrals p) AtReferral
  each_referral_in p h = each_of_each (AllInUnit P) AtReferral (referrals_of (bare_program p)) p.units (each_referral_of (bare_program p)) h.1

  pub within_recursions : (p : Program) → AllPlaces P p → Within P (recursions p)
  within_recursions p h =
      within_first P _ (each_image AtReferral P (λ r. r.at) _ (λ r h'. h') (each_kept AtReferral _ (referrals p) (each_referral_in p h)))

  within_unit_place : (u : Option Unit) → InOption (AllInUnit P) u → Within P (unit_place u)
  within_unit_place None h = tt
  within_unit_place (Some u) h = (h.at, tt)

  pub within_size_faults : (p : Program) → AllPlaces P p → Within P (size_faults p)
  within_size_faults p h =
      within_both P _ _ (within_unit_place (slice_get p.units 2000) (one_of_each (AllInUnit P) p.units 2000 h.1))
      (within_first P _ (each_image (AllInUnit P) P (λ u. u.at) _ (λ u h'. h'.at) (each_kept (AllInUnit P) _ p.units h.1)))
