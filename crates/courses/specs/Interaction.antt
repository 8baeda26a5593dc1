-- Interaction trees: programs as trees of single accesses to a store, and what such a tree does to a store.
use Rattle.std.specs.Prelude.{ℕ, ℤ, suc, List, [], ◌∷◌, Option, Some, None}
use Rattle.courses.specs.Element.{Value, Element, Store, put}

-- what an interaction announces beside its accesses
pub data Note : Type 0 where
  -- accesses of an element that a handler keeps outside the store
  Own_reads : Element → Note
  Own_writes : Element → Note
  -- a statement or an iteration begins
  Turn : Note
  -- a variable is made with these bounds, as its declaration gives them
  Makes : List (ℤ × ℤ) → Note

pub data Event : Type 0 where
  Reads : Element → Event
  Writes : Element → Event
  Announces : Note → Event

-- a tree of accesses: what it does next, and how it goes on after each reply
pub data Interaction (A : Type 0) : Type 0 where
  Done : A → Interaction A
  Trap : Interaction A
  -- the store replies with what the element holds, Undefined too
  Read : Element → (Value → Interaction A) → Interaction A
  Write : Element → Value → Interaction A → Interaction A
  -- the plan replies with the order of the next marked loop, which has this count
  Order : ℕ → (List ℕ → Interaction A) → Interaction A
  Announce : Note → Interaction A → Interaction A

abbrev pub bind : {A B : Type 0} → Interaction A → (A → Interaction B) → Interaction B
bind (Done a) k = k a
bind Trap k = Trap
bind (Read e f) k = Read e (λ v. bind (f v) k)
bind (Write e v r) k = Write e v (bind r k)
bind (Order n f) k = Order n (λ o. bind (f o) k)
bind (Announce t r) k = Announce t (bind r k)

-- the order that each marked loop takes, by its number in the run (from 0) and its count
abbrev pub Orders : Type 0
Orders = ℕ → ℕ → List ℕ

-- Each observer starts from these orders, this store and this number of the next marked loop.

-- the answer, or none where the interaction traps
abbrev pub answer_of : {A : Type 0} → Interaction A → Orders → Store → ℕ → Option A
answer_of (Done a) o s j = Some a
answer_of Trap o s j = None
answer_of (Read e f) o s j = answer_of (f (s e)) o s j
answer_of (Write e v r) o s j = answer_of r o (put s e v) j
answer_of (Order n f) o s j = answer_of (f (o j n)) o s (suc j)
answer_of (Announce t r) o s j = answer_of r o s j

-- the number of the next marked loop, where it ends or traps
abbrev pub next_of : {A : Type 0} → Interaction A → Orders → Store → ℕ → ℕ
next_of (Done a) o s j = j
next_of Trap o s j = j
next_of (Read e f) o s j = next_of (f (s e)) o s j
next_of (Write e v r) o s j = next_of r o (put s e v) j
next_of (Order n f) o s j = next_of (f (o j n)) o s (suc j)
next_of (Announce t r) o s j = next_of r o s j

-- what it does in time, up to its end or its trap
abbrev pub log_of : {A : Type 0} → Interaction A → Orders → Store → ℕ → List Event
log_of (Done a) o s j = []
log_of Trap o s j = []
log_of (Read e f) o s j = Reads e ∷ log_of (f (s e)) o s j
log_of (Write e v r) o s j = Writes e ∷ log_of r o (put s e v) j
log_of (Order n f) o s j = log_of (f (o j n)) o s (suc j)
log_of (Announce t r) o s j = Announces t ∷ log_of r o s j

-- the store where it ends or traps
abbrev pub store_of : {A : Type 0} → Interaction A → Orders → Store → ℕ → Store
store_of (Done a) o s j = s
store_of Trap o s j = s
store_of (Read e f) o s j = store_of (f (s e)) o s j
store_of (Write e v r) o s j = store_of r o (put s e v) j
store_of (Order n f) o s j = store_of (f (o j n)) o s (suc j)
store_of (Announce t r) o s j = store_of r o s j
