-- What an interaction followed by another does: where the first ends with an answer, and where it traps.
use Rattle.std.proofs.Common.{◌≡◌, ℕ, suc, refl, ap, ◌∷◌, ◌++◌, Some, None}
use Rattle.courses.specs.Element.{Store, put, nobody}
use Rattle.courses.specs.Interaction.{Reads, Writes, Announces, Interaction, Done, Trap, Read, Write, Order, Announce, bind, Orders, answer_of, next_of, log_of, store_of}
use Rattle.courses.specs.Logs.{others}
use Rattle.courses.specs.Handlers.{hushed}

-- r followed by k, where r ends with a
pub record Follows {A B : Type 0} (r : Interaction A) (k : A → Interaction B) (a : A) (o : Orders) (s : Store) (j : ℕ) : Type 0 where
  pub answer : answer_of (bind r k) o s j ≡ answer_of (k a) o (store_of r o s j) (next_of r o s j)
  pub next : next_of (bind r k) o s j ≡ next_of (k a) o (store_of r o s j) (next_of r o s j)
  pub store : store_of (bind r k) o s j ≡ store_of (k a) o (store_of r o s j) (next_of r o s j)
  pub log : log_of (bind r k) o s j ≡ log_of r o s j ++ log_of (k a) o (store_of r o s j) (next_of r o s j)

some_is : {A : Type 0} (a b : A) → Some a ≡ Some b → a ≡ b
some_is a b e = cc

pub follows : {A B : Type 0} (r : Interaction A) (k : A → Interaction B) (a : A) (o : Orders) (s : Store) (j : ℕ) → answer_of r o s j ≡ Some a → Follows r k a o s j
follows (Done x) k a o s j h =
    let e = some_is x a h in
    record { answer = ap (λ u. answer_of (k u) o s j) e; next = ap (λ u. next_of (k u) o s j) e; store = ap (λ u. store_of (k u) o s j) e; log = ap (λ u. log_of (k u) o s j) e }
follows Trap k a o s j h = absurd (cc)
follows (Read e f) k a o s j h =
    let t = follows (f (s e)) k a o s j h in record { answer = t.answer; next = t.next; store = t.store; log = ap (λ l. Reads e ∷ l) t.log }
follows (Write e v r) k a o s j h =
    let t = follows r k a o (put s e v) j h in record { answer = t.answer; next = t.next; store = t.store; log = ap (λ l. Writes e ∷ l) t.log }
follows (Order n f) k a o s j h =
    let t = follows (f (o j n)) k a o s (suc j) h in record { answer = t.answer; next = t.next; store = t.store; log = t.log }
follows (Announce u r) k a o s j h =
    let t = follows r k a o s j h in record { answer = t.answer; next = t.next; store = t.store; log = ap (λ l. Announces u ∷ l) t.log }

-- where r traps all traps
pub record Stops {A B : Type 0} (r : Interaction A) (k : A → Interaction B) (o : Orders) (s : Store) (j : ℕ) : Type 0 where
  pub answer : answer_of (bind r k) o s j ≡ None
  pub next : next_of (bind r k) o s j ≡ next_of r o s j
  pub store : store_of (bind r k) o s j ≡ store_of r o s j
  pub log : log_of (bind r k) o s j ≡ log_of r o s j

pub stops : {A B : Type 0} (r : Interaction A) (k : A → Interaction B) (o : Orders) (s : Store) (j : ℕ) → answer_of r o s j ≡ None → Stops r k o s j
stops (Done x) k o s j h = absurd (cc)
stops Trap k o s j h = record { answer = refl; next = refl; store = refl; log = refl }
stops (Read e f) k o s j h = let t = stops (f (s e)) k o s j h in record { answer = t.answer; next = t.next; store = t.store; log = ap (λ l. Reads e ∷ l) t.log }
stops (Write e v r) k o s j h = let t = stops r k o (put s e v) j h in record { answer = t.answer; next = t.next; store = t.store; log = ap (λ l. Writes e ∷ l) t.log }
stops (Order n f) k o s j h = let t = stops (f (o j n)) k o s (suc j) h in record { answer = t.answer; next = t.next; store = t.store; log = t.log }
stops (Announce u r) k o s j h = let t = stops r k o s j h in record { answer = t.answer; next = t.next; store = t.store; log = ap (λ l. Announces u ∷ l) t.log }

-- an interaction without what it announces does the same
pub record Hushes {A : Type 0} (r : Interaction A) (o : Orders) (s : Store) (j : ℕ) : Type 0 where
  pub answer : answer_of (hushed r) o s j ≡ answer_of r o s j
  pub store : store_of (hushed r) o s j ≡ store_of r o s j
  pub next : next_of (hushed r) o s j ≡ next_of r o s j
  pub log : others nobody (log_of (hushed r) o s j) ≡ others nobody (log_of r o s j)

pub hushes : {A : Type 0} (r : Interaction A) (o : Orders) (s : Store) (j : ℕ) → Hushes r o s j
hushes (Done x) o s j = record { answer = refl; store = refl; next = refl; log = refl }
hushes Trap o s j = record { answer = refl; store = refl; next = refl; log = refl }
hushes (Read e f) o s j = let t = hushes (f (s e)) o s j in record { answer = t.answer; store = t.store; next = t.next; log = ap (λ l. Reads e ∷ l) t.log }
hushes (Write e v r) o s j = let t = hushes r o (put s e v) j in record { answer = t.answer; store = t.store; next = t.next; log = ap (λ l. Writes e ∷ l) t.log }
hushes (Order n f) o s j = let t = hushes (f (o j n)) o s (suc j) in record { answer = t.answer; store = t.store; next = t.next; log = t.log }
hushes (Announce u r) o s j = let t = hushes r o s j in record { answer = t.answer; store = t.store; next = t.next; log = t.log }
