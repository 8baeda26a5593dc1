-- Places that are noted one after the other.
use Rattle.std.proofs.Common.{◌≡◌, ℕ, ◌+◌, ◌<◌, length, get_or, drop, List, ◌∷◌, ◌++◌, Option, sym, ap, ◌∙◌}
use Rattle.std.specs.Prelude.{flat_map}
use Rattle.std.proofs.lemmas.Grind.{flat_map-append}
use Rattle.fort_tree.specs.declared.expr.Sub as tree_sub
use Rattle.fort_tree.specs.declared.fault.Code.{Code}
use Rattle.fort_tree.specs.declared.place.Place.{Place}
use Rattle.sound_programs.specs.Faults.{Found, found}
use Rattle.sound_programs.specs.Placed.{Subscripts}
use Rattle.sound_programs.specs.Placing.{placed_sub, placed_subs}
use Rattle.fort_names.specs.Leasts.{noted}
use Rattle.fort_names.proofs.FirstOf.{noted_places}
use Rattle.fort_kinds.proofs.Subs.{at_index}
use Rattle.kind_faults.proofs.Arguments.{at_any}

-- one more subscript
pub next_sub : (code : Code) (F : Subscripts → List Place) (items : List tree_sub.Sub) (i : ℕ) (s : tree_sub.Sub) → i < length items → s ≡ get_or items i s → (old new : Option Found) →
    ((rest : Subscripts) → noted (found code (F rest)) new ≡ noted (found code (F (placed_sub s rest))) old) →
    noted (found code (F (placed_subs (drop (i + 1) items)))) new ≡ noted (found code (F (placed_subs (drop i items)))) old
next_sub code F items i s within is old new step =
    step (placed_subs (drop (i + 1) items)) ∙ ap (λ l. noted (found code (F (placed_subs l))) old) (sym (at_index items i s within is))

-- the places of two lists of expressions or arguments, one after the other
pub noted_flat : {A : Type 0} (code : Code) (f : A → List Place) (xs ys : List A) (r : Option Found) → noted (found code (flat_map f (xs ++ ys))) r ≡ noted (found code (flat_map f ys)) (noted (found code (flat_map f xs)) r)
noted_flat code f xs ys r = ap (λ l. noted (found code l) r) (flat_map-append f xs ys) ∙ noted_places code (flat_map f xs) (flat_map f ys) r

-- the same, for the places of what stands in each
pub noted_inside : {A : Type 0} {B : Type 0} (code : Code) (f : B → List Place) (g : A → List B) (xs ys : List A) (r : Option Found) →
    noted (found code (flat_map f (flat_map g (xs ++ ys)))) r ≡ noted (found code (flat_map f (flat_map g ys))) (noted (found code (flat_map f (flat_map g xs))) r)
noted_inside code f g xs ys r = ap (λ l. noted (found code (flat_map f l)) r) (flat_map-append g xs ys) ∙ noted_flat code f (flat_map g xs) (flat_map g ys) r

-- two sorts of places, and three
pub noted_two : (code : Code) (xs ys : List Place) (old mid new : Option Found) → mid ≡ noted (found code xs) old → new ≡ noted (found code ys) mid → new ≡ noted (found code (xs ++ ys)) old
noted_two code xs ys old mid new e h = h ∙ ap (noted (found code ys)) e ∙ sym (noted_places code xs ys old)

pub noted_three : (code : Code) (xs ys zs : List Place) (old a b new : Option Found) → a ≡ noted (found code xs) old → b ≡ noted (found code ys) a → new ≡ noted (found code zs) b → new ≡ noted (found code (xs ++ (ys ++ zs))) old
noted_three code xs ys zs old a b new e h k = noted_two code xs (ys ++ zs) old a new e (noted_two code ys zs a b new h k)

-- one more item of a list
pub next_at : {A : Type 0} (code : Code) (F : List A → List Place) (g : A → List Place) → ((a : A) (l : List A) → F (a ∷ l) ≡ g a ++ F l) → (items : List A) (i : ℕ) (d : A) → i < length items →
    (old new : Option Found) → new ≡ noted (found code (g (get_or items i d))) old → noted (found code (F (drop (i + 1) items))) new ≡ noted (found code (F (drop i items))) old
next_at {A} code F g parts items i d within old new e =
    let at : drop i items ≡ get_or items i d ∷ drop (i + 1) items = at_any items i d within in
    ap (noted (found code (F (drop (i + 1) items)))) e
    ∙ sym (noted_places code (g (get_or items i d)) (F (drop (i + 1) items)) old)
    ∙ ap (λ l. noted (found code l) old) (sym (parts (get_or items i d) (drop (i + 1) items)))
    ∙ ap (λ l. noted (found code (F l)) old) (sym at)
