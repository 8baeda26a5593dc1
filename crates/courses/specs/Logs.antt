-- Logs, what they hold, and interactions that do the same.
use Rattle.std.specs.Prelude.{◌≡◌, ℕ, suc, List, [], ◌∷◌, ◌++◌, Bool, true, false, ◌||◌, if◌then◌else◌}
use Rattle.courses.specs.Element.{Element, same_element, Store, nobody}
use Rattle.courses.specs.Interaction.{Own_reads, Own_writes, Turn, Makes, Event, Reads, Writes, Announces, Interaction, Orders, answer_of, next_of, log_of, store_of}

abbrev pub reads_it : Event → Element → Bool
reads_it (Reads e) x = same_element e x
reads_it _ x = false

abbrev pub writes_it : Event → Element → Bool
writes_it (Writes e) x = same_element e x
writes_it _ x = false

abbrev pub is_read : List Event → Element → Bool
is_read [] x = false
is_read (t ∷ ts) x = reads_it t x || is_read ts x

abbrev pub is_written : List Event → Element → Bool
is_written [] x = false
is_written (t ∷ ts) x = writes_it t x || is_written ts x

abbrev pub is_touched : List Event → Element → Bool
is_touched ts e = is_read ts e || is_written ts e

-- the reads and writes of what isn't its own, in time
abbrev pub others : (Element → Bool) → List Event → List Event
others own [] = []
others own (Reads e ∷ ts) = if own e then others own ts else Reads e ∷ others own ts
others own (Writes e ∷ ts) = if own e then others own ts else Writes e ∷ others own ts
others own (Announces t ∷ ts) = others own ts

-- all reads and writes, in time
abbrev pub touches : List Event → List Event
touches ts = others nobody ts

-- the number of statements and iterations begun
abbrev pub turns : List Event → ℕ
turns [] = 0
turns (Reads e ∷ ts) = turns ts
turns (Writes e ∷ ts) = turns ts
turns (Announces (Own_reads e) ∷ ts) = turns ts
turns (Announces (Own_writes e) ∷ ts) = turns ts
turns (Announces Turn ∷ ts) = suc (turns ts)
turns (Announces (Makes bounds) ∷ ts) = turns ts

-- no element is touched by both, unless both only read it
abbrev pub Clear : List Event → List Event → Type 0
Clear ts us = (e : Element) → (is_written ts e ≡ true → is_touched us e ≡ false) × (is_written us e ≡ true → is_touched ts e ≡ false)

abbrev pub IsPrefixOf : List Event → List Event → Type 0
IsPrefixOf ts us = (rest : List Event) × (ts ++ rest ≡ us)

-- two stores agree on what is read in the log
abbrev pub Agree : List Event → Store → Store → Type 0
Agree ts s s' = (e : Element) → is_read ts e ≡ true → s e ≡ s' e

-- from s' an interaction does what it does from s
pub record Alike {A : Type 0} (r : Interaction A) (o : Orders) (j : ℕ) (s s' : Store) : Type 0 where
  pub answer : answer_of r o s' j ≡ answer_of r o s j
  pub next : next_of r o s' j ≡ next_of r o s j
  pub log : log_of r o s' j ≡ log_of r o s j
  pub written : (e : Element) → is_written (log_of r o s j) e ≡ true → store_of r o s' j e ≡ store_of r o s j e
