-- A wide course in the iteration of one column, and the column's course on its own elements: the same accesses, put
-- together part by part.
use Rattle.std.proofs.Common.{◌≡◌, refl, ap, sym, ◌∙◌, List, [], ◌∷◌, map, Bool, true, false}
use mathlib.Core.Path.{fun_ext}
use Rattle.courses.specs.Element.{Value, Undefined, Element, blank}
use Rattle.courses.specs.Interaction.{Note, Interaction, Done, Trap, Read, Write, Order, Announce, bind}
use Rattle.courses.specs.Renaming.{renamed}
use Rattle.courses.specs.Handlers.{hushed, given, keeping}
use Rattle.courses.specs.Always.{May, Always}
use Rattle.courses.specs.Course.{Sort, Answer, Course, Give, Fail, Get, Put, Tell, Scope, and_then, line}
use Rattle.courses.specs.Copying.{wiped, with_values, stored}
use Rattle.courses.proofs.Handled.{hushed_bind, renamed_bind, given_bind}
use Rattle.courses.proofs.Lines.{line_then}

-- the elements of p read as v in the iteration, and the column's elements lie at f
module _ (p : Element → Bool) (v : Value) (f : Element → Element) where
  abbrev pub wide_side : {A : Type 0} → Interaction A → Interaction A
  wide_side r = hushed (given p v r)

  abbrev pub own_side : {A : Type 0} → Interaction A → Interaction A
  own_side r = hushed (renamed f r)

  pub wide_bind : {A B : Type 0} (r : Interaction A) (k : A → Interaction B) → wide_side (bind r k) ≡ bind (wide_side r) (λ a. wide_side (k a))
  wide_bind r k = ap hushed (given_bind p v r k) ∙ hushed_bind (given p v r) (λ a. given p v (k a))

  pub own_bind : {A B : Type 0} (r : Interaction A) (k : A → Interaction B) → own_side (bind r k) ≡ bind (own_side r) (λ a. own_side (k a))
  own_bind r k = ap hushed (renamed_bind f r k) ∙ hushed_bind (renamed f r) (λ a. renamed f (k a))

  pub record Sides {k : Sort} (q r : Course k) : Type 0 where
    pub same : wide_side (line q) ≡ own_side (line r)

  pub sides_then : {k l : Sort} (q r : Course k) (g h : Answer k → Course l) → Sides q r → ((a : Answer k) → Sides (g a) (h a)) → Sides (and_then q g) (and_then r h)
  sides_then q r g h e t = record {
    same =
        ap wide_side (line_then q g)
        ∙ wide_bind (line q) (λ a. line (g a))
        ∙ ap (λ x. bind x (λ a. wide_side (line (g a)))) e.same
        ∙ ap (bind (own_side (line r))) (fun_ext (λ a. (t a).same))
        ∙ sym (own_bind (line r) (λ a. line (h a)))
        ∙ ap own_side (sym (line_then r h));
  }

  pub sides_give : {k : Sort} (a : Answer k) → Sides {k = k} (Give a) (Give a)
  sides_give a = record { same = refl }

  pub sides_fail : {k : Sort} → Sides {k = k} Fail Fail
  sides_fail = record { same = refl }

  pub sides_tell : {k : Sort} (u w : Note) (q r : Course k) → Sides q r → Sides (Tell u q) (Tell w r)
  sides_tell u w q r e = record { same = e.same }

  -- both read the column's element
  pub sides_get : {k : Sort} (e : Element) (g h : Value → Course k) → p (f e) ≡ false → ((w : Value) → Sides (g w) (h w)) → Sides (Get (f e) g) (Get e h)
  sides_get e g h n t = record { same = rw n (ap (Read (f e)) (fun_ext (λ w. (t w).same))) }

  -- the iteration reads what it is given
  pub sides_given : {k : Sort} (e : Element) (g : Value → Course k) (r : Course k) → p e ≡ true → Sides (g v) r → Sides (Get e g) r
  sides_given e g r n t = record { same = rw n t.same }

  pub sides_put : {k : Sort} (e : Element) (w : Value) (q r : Course k) → Sides q r → Sides (Put (f e) w q) (Put e w r)
  sides_put e w q r t = record { same = ap (Write (f e) w) t.same }

  -- none of them is given
  abbrev pub AllOut : List Element → Type 0
  AllOut [] = Unit {0}
  AllOut (e ∷ es) = (p (f e) ≡ false) × AllOut es

  pub sides_values : {k : Sort} (es : List Element) (g h : List Value → Course k) → AllOut es → ((vs : List Value) → Sides (g vs) (h vs)) → Sides (with_values (map f es) g) (with_values es h)
  sides_values [] g h n t = t []
  sides_values (e ∷ es) g h n t = sides_get e _ _ n.0 (λ w. sides_values es (λ vs. g (w ∷ vs)) (λ vs. h (w ∷ vs)) n.1 (λ vs. t (w ∷ vs)))

  pub sides_stored : {k : Sort} (es : List Element) (vs : List Value) (q r : Course k) → Sides q r → Sides (stored (map f es) vs q) (stored es vs r)
  sides_stored [] vs q r t = t
  sides_stored (e ∷ es) [] q r t = t
  sides_stored (e ∷ es) (w ∷ vs) q r t = sides_put e w _ _ (sides_stored es vs q r t)

  pub sides_wiped : {k : Sort} (es : List Element) (q r : Course k) → Sides q r → Sides (wiped (map f es) q) (wiped es r)
  sides_wiped [] q r t = t
  sides_wiped (e ∷ es) q r t = sides_put e Undefined _ _ (sides_wiped es q r t)

  -- an interaction on elements that aren't given and lie where they lay
  pub fixed_side : {A : Type 0} (m : May) → ((e : Element) → m.read e ≡ true → (p e ≡ false) × (f e ≡ e)) → ((e : Element) → m.write e ≡ true → f e ≡ e) → (r : Interaction A) → Always m r → wide_side r ≡ own_side r
  fixed_side m a b (Done x) h = refl
  fixed_side m a b Trap h = refl
  fixed_side m a b (Read e g) h = let t = a e h.0 in rw (t.0, t.1) (ap (Read e) (fun_ext (λ w. fixed_side m a b (g w) (h.1 w))))
  fixed_side m a b (Write e w r) h = rw (b e h.0) (ap (Write e w) (fixed_side m a b r h.1))
  fixed_side m a b (Order n g) h = ap (Order n) (fun_ext (λ ks. fixed_side m a b (g ks) (h.1 ks)))
  fixed_side m a b (Announce u r) h = fixed_side m a b r h.1

  -- the same call on both sides
  pub sides_scope : {k l : Sort} (m : May) → ((e : Element) → m.read e ≡ true → (p e ≡ false) × (f e ≡ e)) → ((e : Element) → m.write e ≡ true → f e ≡ e) → (owns : Element → Bool) (q : Course l) (g h : Answer l → Course k) → Always m (keeping owns blank (line q)) → ((a : Answer l) → Sides (g a) (h a)) → Sides (Scope owns q g) (Scope owns q h)
  sides_scope m a b owns q g h w t =
      let r = keeping owns blank (line q) in
      record {
        same =
            wide_bind r (λ x. line (g x))
            ∙ ap (λ x. bind x (λ y. wide_side (line (g y)))) (fixed_side m a b r w)
            ∙ ap (bind (own_side r)) (fun_ext (λ x. (t x).same))
            ∙ sym (own_bind r (λ x. line (h x)));
      }
