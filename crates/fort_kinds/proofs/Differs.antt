-- The first kind that differs from the first INTEGER kind.
use Rattle.std.proofs.Common.{◌≡◌, Bool, true, false, ◌&&◌, not, List, [], ◌∷◌, Option, None, Some, if◌then◌else◌, refl}
use Rattle.fort_arith.specs.declared.kind.Kind.{Kind}
use Rattle.fort_arith.specs.declared.kind.Kind.TheVariants.{I1, I2, I4, I8, Logical}
use Rattle.fort_tree.specs.declared.place.Place.{Place}
use Rattle.fort_tree.specs.Same.{same_kind}
use Rattle.claw_meaning.specs.Syntax.{Text}
use Rattle.claw_meaning.specs.Scope.{Entity}
use Rattle.sound_programs.specs.KindFaults.{first_of_other_kind, differing_kinds}
use Rattle.sound_programs.specs.Kinding.{kind, is_integer}
use Rattle.sound_programs.specs.Placed.{Expr, first}
use Rattle.sound_programs.specs.Places.{option_places}
use Rattle.fort_kinds.specs.declared.differing.Kinds.{Kinds}
use Rattle.fort_kinds.specs.Gathering.{or_place}
use Rattle.fort_kinds.specs.KindsSeen.{with_kind, no_kind, kinds_seen}

module _ (entity : Text → Entity) where
  abbrev Places_from : Kinds → List Expr → List Place
  Places_from s es = option_places (kinds_seen entity s es).other

  abbrev seen : Kind → Option Place → Kinds
  seen j other = record { first = Some j; other = other }

  other_stays : (j : Kind) (at : Place) (es : List Expr) → Places_from (seen j (Some at)) es ≡ at ∷ []
  other_stays j at [] = refl
  other_stays j at (e ∷ es) = go (is_integer (kind entity e)) (other_stays j at es)
    where
      go : (b : Bool) → Places_from (seen j (Some at)) es ≡ at ∷ [] → Places_from (if b then with_kind (Some j) (Some at) (kind entity e) (first e) else seen j (Some at)) es ≡ at ∷ []
      go true h = h
      go false h = h

  others_are : (j : Kind) (es : List Expr) → Places_from (seen j None) es ≡ first_of_other_kind entity (Some j) es
  others_are j [] = refl
  others_are j (e ∷ es) = go (is_integer (kind entity e)) (same_kind (Some j) (kind entity e)) (others_are j es)
    where
      go : (b s : Bool) → Places_from (seen j None) es ≡ first_of_other_kind entity (Some j) es →
          Places_from (if b then seen j (or_place None (if s then None else Some (first e))) else seen j None) es
          ≡ (if b && not s then first e ∷ [] else first_of_other_kind entity (Some j) es)
      go true true h = h
      go true false h = other_stays j (first e) es
      go false s h = h

  kinds_are : (es : List Expr) → Places_from no_kind es ≡ differing_kinds entity es
  kinds_are [] = refl
  kinds_are (e ∷ es) = go (kind entity e) (kinds_are es)
    where
      go : (k : Option Kind) → Places_from no_kind es ≡ differing_kinds entity es →
          Places_from (if is_integer k then with_kind None None k (first e) else no_kind) es ≡ (if is_integer k then first_of_other_kind entity k es else differing_kinds entity es)
      go None h = h
      go (Some I1) h = others_are I1 es
      go (Some I2) h = others_are I2 es
      go (Some I4) h = others_are I4 es
      go (Some I8) h = others_are I8 es
      go (Some Logical) h = h

pub kinds_differ : (entity : Text → Entity) (es : List Expr) → option_places (kinds_seen entity no_kind es).other ≡ differing_kinds entity es
kinds_differ entity es = kinds_are entity es
