-- The line of two courses, one after the other, is their two lines.
use Rattle.std.proofs.Common.{◌≡◌, ℕ, refl, ap, sym, ◌∙◌, List, [], ◌∷◌}
use mathlib.Core.Path.{fun_ext}
use Rattle.courses.specs.Element.{blank}
use Rattle.courses.specs.Interaction.{Interaction, Read, Write, Order, Announce, bind}
use Rattle.courses.specs.Handlers.{keeping}
use Rattle.courses.specs.Course.{Sort, Answer, Course, Give, Fail, Get, Put, Tell, Loop, Scope, and_then, in_order, line}
use Rattle.courses.proofs.Monad.{bind_bind}

pub in_order_bind : {A B : Type 0} (step : ℕ → Interaction (Unit {0})) (is : List ℕ) (r : Interaction A) (g : A → Interaction B) → in_order step is (bind r g) ≡ bind (in_order step is r) g
in_order_bind step [] r g = refl
in_order_bind step (i ∷ is) r g =
    ap (bind (step i)) (fun_ext (λ u. in_order_bind step is r g)) ∙ sym (bind_bind (step i) (λ u. in_order step is r) g)

pub line_then : {k l : Sort} (r : Course k) (g : Answer k → Course l) → line (and_then r g) ≡ bind (line r) (λ a. line (g a))
line_then (Give a) g = refl
line_then Fail g = refl
line_then (Get e f) g = ap (Read e) (fun_ext (λ v. line_then (f v) g))
line_then (Put e v r) g = ap (Write e v) (line_then r g)
line_then (Tell t r) g = ap (Announce t) (line_then r g)
line_then (Loop n own body r) g =
    ap (Order n) (fun_ext (λ is. ap (in_order (λ i. line (body i)) is) (line_then r g) ∙ in_order_bind (λ i. line (body i)) is (line r) (λ a. line (g a))))
line_then (Scope p q h) g =
    ap (bind (keeping p blank (line q))) (fun_ext (λ a. line_then (h a) g)) ∙ sym (bind_bind (keeping p blank (line q)) (λ a. line (h a)) (λ a. line (g a)))
