-- Elements that differ, and what a write of one leaves of another.
use Rattle.std.proofs.Common.{◌≡◌, ℤ, refl, ap, sym, List, [], ◌∷◌, Bool, true, false, true≢false}
use Rattle.std.specs.Bool.{Decides}
use Rattle.courses.specs.Element.{Value, Element, Store, put, same_element}
use Rattle.courses.proofs.Stores.{same_element-decides, put-other}
use Rattle.claw_meaning.specs.Syntax.{Text}
use Rattle.column_scalars.specs.Model.{scalar_of, cell_of}

pub by_element : {P : Type 0} (e f : Element) → (e ≡ f → P) → ((e ≡ f → ⊥) → P) → P
by_element {P} e f same other = go (same_element e f) (same_element-decides e f)
  where
    go : (b : Bool) → Decides b (e ≡ f) → P
    go true d = same (d.0 refl)
    go false d = other (λ h. true≢false (sym (d.1 h)))

pub put_apart : (s : Store) (e : Element) (v : Value) (x : Element) → (e ≡ x → ⊥) → put s e v x ≡ s x
put_apart s e v x h = put-other s e v x (go (same_element e x) (same_element-decides e x))
  where
    go : (b : Bool) → Decides b (e ≡ x) → b ≡ false
    go true d = absurd (h (d.0 refl))
    go false d = refl

abbrev first_or : ℤ → List ℤ → ℤ
first_or n [] = n
first_or n (i ∷ is) = i

pub cell_column : (home : Text) (c d : ℤ) (x y : Text) → cell_of home c x ≡ cell_of home d y → c ≡ d
cell_column home c d x y h = ap (λ e. first_or c e.index) h

pub cell_name : (home : Text) (c d : ℤ) (x y : Text) → cell_of home c x ≡ cell_of home d y → x ≡ y
cell_name home c d x y h = ap (λ e. e.name) h

pub scalar_name : (home : Text) (x y : Text) → scalar_of home x ≡ scalar_of home y → x ≡ y
scalar_name home x y h = ap (λ e. e.name) h

no_nil : (c : ℤ) (is : List ℤ) → c ∷ is ≡ [] → ⊥
no_nil c is h = cc

pub cell_scalar : (home : Text) (c : ℤ) (x y : Text) → cell_of home c x ≡ scalar_of home y → ⊥
cell_scalar home c x y h = no_nil c [] (ap (λ e. e.index) h)
