-- How a `Boxed` holds its value, for the trees that hold themselves through one. Seen from outside a `Boxed` is that value; inside it is one box of the kit.
use mathlib.Core.Path.{refl}
use mathlib.Core.Former.{Former, this, via}
use denote.RattleType.{RattleType}
use denote.Hole.Fix.{over}
use denote.HoleLaws.{Alike}
use denote.HolePlaces.{Recodes, struct_places, laid}
use denote.Model.Placed.{view_places}
use denote.Param.Weighed.{Weighed}
use Rattle.sqlite_items.specs.formers.boxed.Boxed as kit
use Rattle.fort_tree.specs.declared.boxed.Boxed.TheInside.{Inside}
use Rattle.fort_tree.specs.declared.boxed.Boxed.TheView.{view, invariant}
use Rattle.fort_tree.specs.contracts.boxed.Boxed as boxed
use Rattle.fort_tree.specs.contracts.boxed.Boxed.TheInside as inside

abbrev pub the_former : Former {0} → Former {0}
the_former g = kit.the_former g

abbrev pub the_weighed : {g : Former {0}} → Weighed g → Weighed (the_former g)
the_weighed w = kit.the_weighed w

-- the one field, as the kit's box holds its value
abbrev field : Former {0}
field = via (kit.the_former this) Inside (λ X b. b.inner) (λ X v. record { inner = v }) (λ X b. refl) (λ X v. refl)

module _ (R S : RattleType) (h : R.Denot → S.Denot) where
  pub the_places : Alike R S h → Alike (boxed.the_row R) (boxed.the_row S) ((the_former this).map R.Denot S.Denot h)
  the_places a =
      let within = struct_places (inside.the_type R) (inside.the_type S) (h, tt) _ (λ b. refl) refl (laid _ _ _ (kit.the_places R S h a), tt) in
      view_places field this view (λ X Y k b. refl) (λ X b. refl) R.Denot S.Denot h (boxed.the_row R).coded (boxed.the_row S).coded
      (invariant R.Denot) (invariant S.Denot) (λ b p q. refl) (λ b p q. refl) (λ b t. tt) (λ b t. tt)
      (over (inside.the_row R)) (over (inside.the_row S)) within

  pub the_codes_placed : Recodes R S h → Recodes (boxed.the_row R) (boxed.the_row S) ((the_former this).map R.Denot S.Denot h)
  the_codes_placed same = kit.the_codes_placed R S h same
