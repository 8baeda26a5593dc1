-- The next access is the first touch of the run of what is left, from any store.
use Rattle.std.proofs.Common.{◌≡◌, ℕ, suc, refl, List}
use Rattle.courses.specs.Element.{Value, Store}
use Rattle.courses.specs.Interaction.{Interaction, Done, Trap, Read, Write, Order, Announce, answer_of, log_of}
use Rattle.courses.specs.Logs.{touches}
use Rattle.courses.specs.Weaving.{rising}
use Rattle.courses.specs.Next.{first_access, next_access, replied, first_touch}

first_is_touch : {A : Type 0} (r : Interaction A) (s : Store) (j : ℕ) → first_access r ≡ first_touch (touches (log_of r rising s j)) (answer_of r rising s j)
first_is_touch (Done a) s j = refl
first_is_touch Trap s j = refl
first_is_touch (Read e f) s j = refl
first_is_touch (Write e v r) s j = refl
first_is_touch (Order n f) s j = first_is_touch (f (rising j n)) s (suc j)
first_is_touch (Announce t r) s j = first_is_touch r s j

pub next_is_touch : {A : Type 0} (r : Interaction A) (vs : List Value) (s : Store) (j : ℕ) → next_access r vs ≡ first_touch (touches (log_of (replied r vs) rising s j)) (answer_of (replied r vs) rising s j)
next_is_touch r vs s j = first_is_touch (replied r vs) s j
