-- Going on with nothing changes nothing, and it does not matter how three interactions are put together.
use Rattle.std.proofs.Common.{◌≡◌, refl, ap}
use mathlib.Core.Path.{fun_ext}
use Rattle.courses.specs.Interaction.{Interaction, Done, Trap, Read, Write, Order, Announce, bind}

pub bind_done : {A : Type 0} (r : Interaction A) → bind r Done ≡ r
bind_done (Done a) = refl
bind_done Trap = refl
bind_done (Read e f) = ap (Read e) (fun_ext (λ v. bind_done (f v)))
bind_done (Write e v r) = ap (Write e v) (bind_done r)
bind_done (Order n f) = ap (Order n) (fun_ext (λ v. bind_done (f v)))
bind_done (Announce t r) = ap (Announce t) (bind_done r)

pub bind_bind : {A B C : Type 0} (r : Interaction A) (k : A → Interaction B) (l : B → Interaction C) → bind (bind r k) l ≡ bind r (λ a. bind (k a) l)
bind_bind (Done a) k l = refl
bind_bind Trap k l = refl
bind_bind (Read e f) k l = ap (Read e) (fun_ext (λ v. bind_bind (f v) k l))
bind_bind (Write e v r) k l = ap (Write e v) (bind_bind r k l)
bind_bind (Order n f) k l = ap (Order n) (fun_ext (λ v. bind_bind (f v) k l))
bind_bind (Announce t r) k l = ap (Announce t) (bind_bind r k l)
