-- The test on elements decides equality, and what a write of one element changes.
use Rattle.std.proofs.Common.{◌≡◌, ℕ, ℤ, refl, subst, List, Bool, true, false, ◌&&◌}
use Rattle.std.specs.Bool.{Decides}
use Rattle.std.specs.Cmp.{IsEquivalence, decided, signed_Decides}
use Rattle.std.specs.Cmp.Lexicographic.{bytes_decides, pointwise_decides}
use Rattle.std.proofs.lemmas.Bool.{false≢true}
use Rattle.courses.specs.Element.{Value, Element, same_name, same_index, same_element, Store, put}

pub and_both : (a b : Bool) → a && b ≡ true → (a ≡ true) × (b ≡ true)
and_both true b h = (refl, h)
and_both false b h = absurd (false≢true h)

pub same_name-decides : (a b : List ℕ) → Decides (same_name a b) (a ≡ b)
same_name-decides = bytes_decides

pub same_index-decides : (a b : List ℤ) → Decides (same_index a b) (a ≡ b)
same_index-decides = pointwise_decides signed_Decides

pub same_element-itself : (e : Element) → same_element e e ≡ true
unfolding same_element
same_element-itself e = rw ((same_name-decides e.home e.home).1 refl, (same_name-decides e.name e.name).1 refl) ((same_index-decides e.index e.index).1 refl)

pub same_element-equal : (a b : Element) → same_element a b ≡ true → a ≡ b
unfolding same_element
same_element-equal a b h =
    let t = and_both (same_name a.home b.home) (same_name a.name b.name && same_index a.index b.index) h in
    let u = and_both (same_name a.name b.name) (same_index a.index b.index) t.1 in
    let m = (same_name-decides a.home b.home).0 t.0 in
    let n = (same_name-decides a.name b.name).0 u.0 in
    let l = (same_index-decides a.index b.index).0 u.1 in
    λ i. record { home = m i; name = n i; index = l i }

pub same_element-decides : (a b : Element) → Decides (same_element a b) (a ≡ b)
same_element-decides a b = (same_element-equal a b, λ e. subst (λ x. same_element a x ≡ true) e (same_element-itself a))

pub same_element-equivalence : IsEquivalence same_element
same_element-equivalence = decided same_element same_element-decides

pub put-same : (s : Store) (e : Element) (v : Value) → put s e v e ≡ v
unfolding put
put-same s e v = rw (same_element-itself e)

pub put-other : (s : Store) (e : Element) (v : Value) (x : Element) → same_element e x ≡ false → put s e v x ≡ s x
unfolding put
put-other s e v x h = rw h
