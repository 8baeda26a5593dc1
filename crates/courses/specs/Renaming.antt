-- Interactions whose elements are renamed.
use Rattle.std.specs.Prelude.{◌≡◌, ℕ, false, map}
use Rattle.courses.specs.Element.{Element, same_element, Store}
use Rattle.courses.specs.Interaction.{Event, Reads, Writes, Announces, Interaction, Done, Trap, Read, Write, Order, Announce, Orders, answer_of, next_of, log_of, store_of}

abbrev pub renamed : {A : Type 0} → (Element → Element) → Interaction A → Interaction A
renamed f (Done a) = Done a
renamed f Trap = Trap
renamed f (Read e g) = Read (f e) (λ v. renamed f (g v))
renamed f (Write e v r) = Write (f e) v (renamed f r)
renamed f (Order n g) = Order n (λ o. renamed f (g o))
renamed f (Announce t r) = Announce t (renamed f r)

abbrev pub renamed_event : (Element → Element) → Event → Event
renamed_event f (Reads e) = Reads (f e)
renamed_event f (Writes e) = Writes (f e)
renamed_event f (Announces t) = Announces t

-- two elements keep apart
abbrev pub KeepsApart : (Element → Element) → Type 0
KeepsApart f = (e x : Element) → same_element (f e) (f x) ≡ same_element e x

-- the store as an interaction without the renaming sees it
abbrev pub view : (Element → Element) → Store → Store
view f s e = s (f e)

pub record RenamedRun {A : Type 0} (f : Element → Element) (r : Interaction A) (o : Orders) (s : Store) (j : ℕ) : Type 0 where
  pub answer : answer_of (renamed f r) o s j ≡ answer_of r o (view f s) j
  pub next : next_of (renamed f r) o s j ≡ next_of r o (view f s) j
  pub log : log_of (renamed f r) o s j ≡ map (renamed_event f) (log_of r o (view f s) j)
  pub store : view f (store_of (renamed f r) o s j) ≡ store_of r o (view f s) j
  pub outside : (e : Element) → ((x : Element) → same_element (f x) e ≡ false) → store_of (renamed f r) o s j e ≡ s e
