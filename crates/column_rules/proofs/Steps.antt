-- Noting one item's places after another's.
use Rattle.std.proofs.Common.{◌≡◌, ℕ, suc, ◌+◌, ◌<◌, length, get_or, drop, drop-cons, add-one, List, ◌∷◌, Option, sym, ap, ◌∙◌}
use Rattle.std.specs.Prelude.{flat_map}
use Rattle.fort_tree.specs.declared.place.Place.{Place}
use Rattle.scalar_units.specs.Unbuilt.{noted}
use Rattle.scalar_units.proofs.Firsts.{noted_append}

pub noted_step : {A : Type 0} (f : A → List Place) (xs : List A) (i : ℕ) (x : A) (r s : Option Place) → i < length xs → x ≡ get_or xs i x → s ≡ noted (f x) r →
    noted (flat_map f (drop (i + 1) xs)) s ≡ noted (flat_map f (drop i xs)) r
noted_step f xs i x r s within is new =
    let rest : drop (i + 1) xs ≡ drop (suc i) xs = ap (λ n. drop n xs) (add-one i) in
    let at : drop i xs ≡ x ∷ drop (suc i) xs = drop-cons xs i x within ∙ ap (λ y. y ∷ drop (suc i) xs) (sym is) in
    ap (λ ys. noted (flat_map f ys) s) rest ∙ ap (noted (flat_map f (drop (suc i) xs))) new ∙ sym (noted_append (f x) (flat_map f (drop (suc i) xs)) r) ∙ sym (ap (λ ys. noted (flat_map f ys) r) at)
