-- Handlers: interactions whose accesses of some elements are answered without the store.
use Rattle.std.specs.Prelude.{◌≡◌, ℕ, Bool, true, false, if◌then◌else◌}
use Rattle.courses.specs.Element.{Value, Element, Store, put, blank, merged, nobody}
use Rattle.courses.specs.Interaction.{Own_reads, Own_writes, Interaction, Done, Trap, Read, Write, Order, Announce, Orders, answer_of, next_of, log_of, store_of}
use Rattle.courses.specs.Logs.{others}

-- these elements are kept aside, from what the store t holds of them
abbrev pub keeping : {A : Type 0} → (Element → Bool) → Store → Interaction A → Interaction A
keeping p t (Done a) = Done a
keeping p t Trap = Trap
keeping p t (Read e f) = if p e then Announce (Own_reads e) (keeping p t (f (t e))) else Read e (λ v. keeping p t (f v))
keeping p t (Write e v r) = if p e then Announce (Own_writes e) (keeping p (put t e v) r) else Write e v (keeping p t r)
keeping p t (Order n f) = Order n (λ o. keeping p t (f o))
keeping p t (Announce u r) = Announce u (keeping p t r)

-- with these kept aside it answers and logs as from the store that holds them, and leaves them in its own store as they were
pub record KeptAside {A : Type 0} (p : Element → Bool) (t : Store) (r : Interaction A) (o : Orders) (s : Store) (j : ℕ) : Type 0 where
  pub answer : answer_of (keeping p t r) o s j ≡ answer_of r o (merged p t s) j
  pub next : next_of (keeping p t r) o s j ≡ next_of r o (merged p t s) j
  pub store : (e : Element) → p e ≡ false → store_of (keeping p t r) o s j e ≡ store_of r o (merged p t s) j e
  pub log : others nobody (log_of (keeping p t r) o s j) ≡ others p (log_of r o (merged p t s) j)
  pub own : (e : Element) → p e ≡ true → store_of (keeping p t r) o s j e ≡ s e

-- it does the same whatever these elements hold at first
pub record Forgets {A : Type 0} (own : Element → Bool) (r : Interaction A) : Type 0 where
  pub answer : (o : Orders) (s : Store) (j : ℕ) → answer_of r o s j ≡ answer_of r o (merged own blank s) j
  pub next : (o : Orders) (s : Store) (j : ℕ) → next_of r o s j ≡ next_of r o (merged own blank s) j
  pub log : (o : Orders) (s : Store) (j : ℕ) → log_of r o s j ≡ log_of r o (merged own blank s) j
  pub store : (o : Orders) (s : Store) (j : ℕ) → store_of r o s j ≡ store_of r o (merged own blank s) j

-- these elements read as the value c, and a write of one goes to the store
abbrev pub given : {A : Type 0} → (Element → Bool) → Value → Interaction A → Interaction A
given p c (Done a) = Done a
given p c Trap = Trap
given p c (Read e f) = if p e then Announce (Own_reads e) (given p c (f c)) else Read e (λ v. given p c (f v))
given p c (Write e v r) = Write e v (given p c r)
given p c (Order n f) = Order n (λ o. given p c (f o))
given p c (Announce u r) = Announce u (given p c r)

-- an interaction without what it announces
abbrev pub hushed : {A : Type 0} → Interaction A → Interaction A
hushed (Done a) = Done a
hushed Trap = Trap
hushed (Read e f) = Read e (λ v. hushed (f v))
hushed (Write e v r) = Write e v (hushed r)
hushed (Order n f) = Order n (λ o. hushed (f o))
hushed (Announce u r) = hushed r

-- these hold this value, and the others what they did
unfoldable pub holding : (Element → Bool) → Value → Store → Store
holding p c s e = if p e then c else s e

-- whatever the replies, it asks for no order
abbrev pub IsSettled : {A : Type 0} → Interaction A → Type 0
IsSettled (Done a) = Unit {0}
IsSettled Trap = Unit {0}
IsSettled (Read e f) = (v : _) → IsSettled (f v)
IsSettled (Write e v r) = IsSettled r
IsSettled (Order n f) = ⊥
IsSettled (Announce u r) = IsSettled r
