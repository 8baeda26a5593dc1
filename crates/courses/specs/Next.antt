-- The next access of an iteration, told by the replies to its earlier ones.
use Rattle.std.specs.Prelude.{List, [], ◌∷◌, Option, Some, None}
use Rattle.courses.specs.Element.{Value}
use Rattle.courses.specs.Interaction.{Event, Reads, Writes, Interaction, Done, Trap, Read, Write, Order, Announce}
use Rattle.courses.specs.Weaving.{rising}

-- it reads or writes an element, or has ended, or traps
pub data Next : Type 0 where
  Accesses : Event → Next
  Ends : Next
  Traps : Next

-- what is left after these replies, one for each access: what an element held, and for a write anything
abbrev pub replied : {A : Type 0} → Interaction A → List Value → Interaction A
replied (Done a) vs = Done a
replied Trap vs = Trap
replied (Read e f) [] = Read e f
replied (Read e f) (v ∷ vs) = replied (f v) vs
replied (Write e v r) [] = Write e v r
replied (Write e v r) (w ∷ vs) = replied r vs
replied (Order n f) vs = replied (f (rising 0 n)) vs
replied (Announce t r) vs = replied r vs

abbrev pub first_access : {A : Type 0} → Interaction A → Next
first_access (Done a) = Ends
first_access Trap = Traps
first_access (Read e f) = Accesses (Reads e)
first_access (Write e v r) = Accesses (Writes e)
first_access (Order n f) = first_access (f (rising 0 n))
first_access (Announce t r) = first_access r

-- The next access of an interaction whose earlier accesses got these replies; marked loops inside it run in increasing order.
abbrev pub next_access : {A : Type 0} → Interaction A → List Value → Next
next_access r vs = first_access (replied r vs)

-- the first of these touches, and where there is none the end
abbrev pub first_touch : {A : Type 0} → List Event → Option A → Next
first_touch [] None = Traps
first_touch [] (Some a) = Ends
first_touch (t ∷ ts) answer = Accesses t
