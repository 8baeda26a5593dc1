-- What an interaction or a course may do, whatever the replies.
use Rattle.std.specs.Prelude.{◌≡◌, ℕ, List, Bool, true, false, ◌||◌}
use Rattle.courses.specs.Element.{Value, Element}
use Rattle.courses.specs.Interaction.{Note, Own_reads, Own_writes, Interaction, Done, Trap, Read, Write, Order, Announce}
use Rattle.courses.specs.Course.{Sort, Course, line}

-- which elements it may read and write, what it may announce, and whether it may ask for an order
pub record May : Type 0 where
  pub read : Element → Bool
  pub write : Element → Bool
  pub note : Note → Bool
  pub order : Bool

abbrev pub Always : {A : Type 0} → May → Interaction A → Type 0
Always m (Done a) = Unit {0}
Always m Trap = Unit {0}
Always m (Read e f) = (m.read e ≡ true) × ((v : Value) → Always m (f v))
Always m (Write e v r) = (m.write e ≡ true) × Always m r
Always m (Order n f) = (m.order ≡ true) × ((ks : List ℕ) → Always m (f ks))
Always m (Announce u r) = (m.note u ≡ true) × Always m r

-- the same of a course in one line
pub record Obeys {k : Sort} (m : May) (q : Course k) : Type 0 where
  pub obeys : Always m (line q)

-- what is allowed beside it of these elements, which a handler keeps aside
abbrev pub aside : (Element → Bool) → May → May
aside p m = record { read = λ e. p e || m.read e; write = λ e. p e || m.write e; note = m.note; order = m.order }

-- accesses of these elements may be announced by a handler
abbrev pub TellsOwn : (Element → Bool) → May → Type 0
TellsOwn p m = (e : Element) → p e ≡ true → (m.note (Own_reads e) ≡ true) × (m.note (Own_writes e) ≡ true)

-- the second allows what the first does
pub record AllowsMore (m n : May) : Type 0 where
  pub read : (e : Element) → m.read e ≡ true → n.read e ≡ true
  pub write : (e : Element) → m.write e ≡ true → n.write e ≡ true
  pub note : (u : Note) → m.note u ≡ true → n.note u ≡ true
  pub order : m.order ≡ true → n.order ≡ true

-- to write these elements alone, with or without orders
abbrev pub writes_of : (Element → Bool) → Bool → May
writes_of w b = record { read = λ e. true; write = w; note = λ u. true; order = b }

-- it writes these elements alone, and asks for no order
abbrev pub WritesOnly : {A : Type 0} → (Element → Bool) → Interaction A → Type 0
WritesOnly w r = Always (writes_of w false) r

-- it writes these elements alone, in whatever order its marked loops run
abbrev pub Within : {k : Sort} → (Element → Bool) → Course k → Type 0
Within w q = Obeys (writes_of w true) q
