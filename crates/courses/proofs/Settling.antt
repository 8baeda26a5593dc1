-- Interactions that ask for no order do the same under all orders; and what touches are left of a log.
use Rattle.std.proofs.Common.{◌≡◌, ℕ, refl, ap, sym, ◌∙◌, List, [], ◌∷◌, Bool, true, false, ◌||◌}
use Rattle.std.specs.Prelude.{if◌then◌else◌}
use Rattle.std.proofs.lemmas.Bool.{false≢true}
use Rattle.courses.specs.Element.{Value, Element, same_element, Store, put, nobody}
use Rattle.courses.specs.Interaction.{Event, Reads, Writes, Announces, Interaction, Done, Trap, Read, Write, Order, Announce, bind, Orders, answer_of, next_of, log_of, store_of}
use Rattle.courses.specs.Logs.{is_read, is_written, Clear, others}
use Rattle.courses.specs.Handlers.{IsSettled, keeping}
use Rattle.courses.specs.Course.{Sort, Course, line}
use Rattle.courses.specs.Copying.{wiped}
use Rattle.courses.proofs.Stores.{same_element-equal}

-- the orders don't matter
pub record Settles {A : Type 0} (r : Interaction A) (o : Orders) (s : Store) (j : ℕ) (o' : Orders) (j' : ℕ) : Type 0 where
  pub answer : answer_of r o s j ≡ answer_of r o' s j'
  pub store : store_of r o s j ≡ store_of r o' s j'
  pub log : log_of r o s j ≡ log_of r o' s j'
  pub next : next_of r o s j ≡ j

pub settles : {A : Type 0} (r : Interaction A) (o : Orders) (s : Store) (j : ℕ) (o' : Orders) (j' : ℕ) → IsSettled r → Settles r o s j o' j'
settles (Done a) o s j o' j' h = record { answer = refl; store = refl; log = refl; next = refl }
settles Trap o s j o' j' h = record { answer = refl; store = refl; log = refl; next = refl }
settles (Read e f) o s j o' j' h = let t = settles (f (s e)) o s j o' j' (h (s e)) in record { answer = t.answer; store = t.store; log = ap (λ l. Reads e ∷ l) t.log; next = t.next }
settles (Write e v r) o s j o' j' h = let t = settles r o (put s e v) j o' j' h in record { answer = t.answer; store = t.store; log = ap (λ l. Writes e ∷ l) t.log; next = t.next }
settles (Order n f) o s j o' j' h = absurd h
settles (Announce u r) o s j o' j' h = let t = settles r o s j o' j' h in record { answer = t.answer; store = t.store; log = ap (λ l. Announces u ∷ l) t.log; next = t.next }

pub keeping_settled : {A : Type 0} (p : Element → Bool) (t : Store) (r : Interaction A) → IsSettled r → IsSettled (keeping p t r)
keeping_settled p t (Done a) h = tt
keeping_settled p t Trap h = tt
keeping_settled {A} p t (Read e f) h = go (p e) refl (λ v. keeping_settled p t (f v) (h v))
  where
    go : (b : Bool) → p e ≡ b → ((v : Value) → IsSettled (keeping p t (f v))) → IsSettled (keeping p t (Read e f))
    go true q ih = rw q (ih (t e))
    go false q ih = rw q ih
keeping_settled {A} p t (Write e v r) h = go (p e) refl (keeping_settled p (put t e v) r h) (keeping_settled p t r h)
  where
    go : (b : Bool) → p e ≡ b → IsSettled (keeping p (put t e v) r) → IsSettled (keeping p t r) → IsSettled (keeping p t (Write e v r))
    go true q a b = rw q a
    go false q a b = rw q b
keeping_settled p t (Order n f) h = absurd h
keeping_settled p t (Announce u r) h = keeping_settled p t r h

-- an own element isn't touched by what is left, and another is where it was
pub others_read : (own : Element → Bool) (ts : List Event) (x : Element) → own x ≡ false → is_read (others own ts) x ≡ is_read ts x
others_read own [] x h = refl
others_read own (Reads e ∷ ts) x h = go (own e) (same_element e x) refl refl (others_read own ts x h)
  where
    go : (a b : Bool) → own e ≡ a → same_element e x ≡ b → is_read (others own ts) x ≡ is_read ts x → is_read (if own e then others own ts else Reads e ∷ others own ts) x ≡ same_element e x || is_read ts x
    go true true p q ih = absurd (false≢true (sym h ∙ ap own (sym (same_element-equal e x q)) ∙ p))
    go true false p q ih = rw (p, q) ih
    go false b p q ih = rw p (ap (λ t. same_element e x || t) ih)
others_read own (Writes e ∷ ts) x h = go (own e) refl (others_read own ts x h)
  where
    go : (a : Bool) → own e ≡ a → is_read (others own ts) x ≡ is_read ts x → is_read (if own e then others own ts else Writes e ∷ others own ts) x ≡ is_read ts x
    go true p ih = rw p ih
    go false p ih = rw p ih
others_read own (Announces t ∷ ts) x h = others_read own ts x h

pub others_written : (own : Element → Bool) (ts : List Event) (x : Element) → own x ≡ false → is_written (others own ts) x ≡ is_written ts x
others_written own [] x h = refl
others_written own (Writes e ∷ ts) x h = go (own e) (same_element e x) refl refl (others_written own ts x h)
  where
    go : (a b : Bool) → own e ≡ a → same_element e x ≡ b → is_written (others own ts) x ≡ is_written ts x → is_written (if own e then others own ts else Writes e ∷ others own ts) x ≡ same_element e x || is_written ts x
    go true true p q ih = absurd (false≢true (sym h ∙ ap own (sym (same_element-equal e x q)) ∙ p))
    go true false p q ih = rw (p, q) ih
    go false b p q ih = rw p (ap (λ t. same_element e x || t) ih)
others_written own (Reads e ∷ ts) x h = go (own e) refl (others_written own ts x h)
  where
    go : (a : Bool) → own e ≡ a → is_written (others own ts) x ≡ is_written ts x → is_written (if own e then others own ts else Reads e ∷ others own ts) x ≡ is_written ts x
    go true p ih = rw p ih
    go false p ih = rw p ih
others_written own (Announces t ∷ ts) x h = others_written own ts x h

pub others_spare : (own : Element → Bool) (ts : List Event) (x : Element) → own x ≡ true → (is_read (others own ts) x ≡ false) × (is_written (others own ts) x ≡ false)
others_spare own [] x h = (refl, refl)
others_spare own (Reads e ∷ ts) x h = go (own e) (same_element e x) refl refl (others_spare own ts x h)
  where
    go : (a b : Bool) → own e ≡ a → same_element e x ≡ b → (is_read (others own ts) x ≡ false) × (is_written (others own ts) x ≡ false) → (is_read (if own e then others own ts else Reads e ∷ others own ts) x ≡ false) × (is_written (if own e then others own ts else Reads e ∷ others own ts) x ≡ false)
    go true b p q ih = rw p ih
    go false true p q ih = absurd (false≢true (sym p ∙ ap own (same_element-equal e x q) ∙ h))
    go false false p q ih = rw (p, q) ih
others_spare own (Writes e ∷ ts) x h = go (own e) (same_element e x) refl refl (others_spare own ts x h)
  where
    go : (a b : Bool) → own e ≡ a → same_element e x ≡ b → (is_read (others own ts) x ≡ false) × (is_written (others own ts) x ≡ false) → (is_read (if own e then others own ts else Writes e ∷ others own ts) x ≡ false) × (is_written (if own e then others own ts else Writes e ∷ others own ts) x ≡ false)
    go true b p q ih = rw p ih
    go false true p q ih = absurd (false≢true (sym p ∙ ap own (same_element-equal e x q) ∙ h))
    go false false p q ih = rw (p, q) ih
others_spare own (Announces t ∷ ts) x h = others_spare own ts x h

-- logs with equal touches are clear of the same logs
pub clear_touches : (ts us ts' us' : List Event) → others nobody ts ≡ ts' → others nobody us ≡ us' → Clear ts' us' → Clear ts us
clear_touches ts us ts' us' p q c e =
    let rt = sym (others_read nobody ts e refl) ∙ ap (λ l. is_read l e) p in
    let wt = sym (others_written nobody ts e refl) ∙ ap (λ l. is_written l e) p in
    let ru = sym (others_read nobody us e refl) ∙ ap (λ l. is_read l e) q in
    let wu = sym (others_written nobody us e refl) ∙ ap (λ l. is_written l e) q in
    (λ h. rw (ru, wu) ((c e).0 (sym wt ∙ h)), λ h. rw (rt, wt) ((c e).1 (sym wu ∙ h)))

pub settled_bind : {A B : Type 0} (r : Interaction A) (k : A → Interaction B) → IsSettled r → ((a : A) → IsSettled (k a)) → IsSettled (bind r k)
settled_bind (Done a) k h g = g a
settled_bind Trap k h g = tt
settled_bind (Read e f) k h g = λ v. settled_bind (f v) k (h v) g
settled_bind (Write e v r) k h g = settled_bind r k h g
settled_bind (Order n f) k h g = absurd h
settled_bind (Announce u r) k h g = settled_bind r k h g

pub settled_wiped : {k : Sort} (es : List Element) (q : Course k) → IsSettled (line q) → IsSettled (line (wiped es q))
settled_wiped [] q h = h
settled_wiped (e ∷ es) q h = settled_wiped es q h
