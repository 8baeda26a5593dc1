-- Where a `Seq` keeps its items, so that a tree may hold lists of itself.
-- To contracts a `Seq` is the list of its items; in memory it is one `Vec`. So the list's own former says how its value splits into a length and its items, and
-- what is owned, lent and coded follows from what the `Vec` owns, lends and codes.
use mathlib.Core.List.{List, []}
use mathlib.Core.Path.{◌≡◌, refl, sym}
use mathlib.Core.Former.{Former, this, list, via, children}
use base.Stored.{code_map}
use denote.RattleType.{RattleType}
use denote.Param.Weighed.{Weighed, w_list}
use denote.Hole.Carrier.{listed, list-listed}
use denote.Hole.Fix.{over}
use denote.HoleLaws.{Alike}
use denote.HolePlaces.{Recodes, laid, struct_places}
use denote.Model.Placed.{view_places}
use Rattle.std.specs.declared.alloc.Global.{Global}
use Rattle.std.specs.contracts.alloc.Global as memory
use Rattle.std.specs.contracts.impls.GlobalAllocator.TheImpl as allocator
use Rattle.std.specs.formers.vec.Vec as vec
use Rattle.fort_tree.specs.declared.seq.Seq.TheInside.{Inside}
use Rattle.fort_tree.specs.declared.seq.Seq.TheView as model
use Rattle.fort_tree.specs.contracts.seq.Seq as seq
use Rattle.fort_tree.specs.contracts.seq.Seq.TheInside as fields

-- ---- the value: a list
-- its shape is the list of its items' shapes (with `this`, of which each item is one child, their number), and its children are those of its items, in order
abbrev pub the_former : Former {0} → Former {0}
the_former g = list g

-- the largest measure among the items
abbrev pub the_weighed : {g : Former {0}} → Weighed g → Weighed (the_former g)
the_weighed w = w_list w

-- a list that holds nothing exists: a tree ends there
pub the_empty : (the_former this).Of ⊥
the_empty = []

abbrev pub the_items : (X : Type 0) → (the_former this).Of X → List X
the_items X items = items

-- the children, in their order, are the items
pub the_items_listed : (X : Type 0) (items : (the_former this).Of X) → listed _ (children (the_former this) X items) ≡ the_items X items
the_items_listed = list-listed

-- ---- the fields: one `Vec` in the global memory, which knows itself how it holds its items
abbrev of_vec : Former {0}
of_vec = vec.the_former this Global

abbrev of_fields : Former {0}
of_fields = via of_vec Inside (λ X inside. inside.items) (λ X items. record { items = items }) (λ X inside. refl) (λ X items. refl)

-- ---- from items of one type to items of another that is laid out, owns, lends and codes alike
module _ (R S : RattleType) (h : R.Denot → S.Denot) where
  -- the fields lie, own and lend as before, since the `Vec` does
  fields_placed : Alike R S h → Alike (fields.the_row R) (fields.the_row S) (of_fields.map R.Denot S.Denot h)
  fields_placed alike =
      let vec_placed : _ = vec.the_places memory.the_row allocator.ghosts R S h alike in
      struct_places (fields.the_type R) (fields.the_type S) (of_vec.map R.Denot S.Denot h, tt) (of_fields.map R.Denot S.Denot h) (λ inside. refl) refl (laid _ _ _ vec_placed, tt)

  -- and so does the list that they are seen as: it shows each item of the `Vec` once, in order, and asks nothing of the fields
  pub the_places : Alike R S h → Alike (seq.the_row R) (seq.the_row S) ((the_former this).map R.Denot S.Denot h)
  the_places alike =
      view_places of_fields (the_former this) model.view (λ X Y k inside. refl) (λ X inside. refl)
      R.Denot S.Denot h (seq.the_row R).coded (seq.the_row S).coded
      (model.invariant R.Denot) (model.invariant S.Denot) (λ inside p q. refl) (λ inside p q. refl) (λ inside p. p) (λ inside p. p)
      (over (fields.the_row R)) (over (fields.the_row S)) (fields_placed alike)

  -- the code of a list is made of its items' codes
  pub the_codes_placed : Recodes R S h → Recodes (seq.the_row R) (seq.the_row S) ((the_former this).map R.Denot S.Denot h)
  the_codes_placed alike items = sym (code_map R.coded.code S.coded.code h (λ item. sym (alike item)) items)
