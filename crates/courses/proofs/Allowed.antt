-- What holds of an interaction that always keeps to what it may do, and how such interactions are put together.
use Rattle.std.proofs.Common.{◌≡◌, ℕ, suc, refl, ap, sym, ◌∙◌, List, [], ◌∷◌, Bool, true, false, ◌||◌, subst}
use Rattle.std.proofs.lemmas.Bool.{false≢true}
use Rattle.courses.specs.Element.{Value, Undefined, Element, same_element, Store, put, blank}
use Rattle.courses.specs.Interaction.{Note, Own_reads, Interaction, Done, Trap, Read, Write, Order, Announce, bind, Orders, log_of, store_of}
use Rattle.courses.specs.Logs.{is_read, is_written}
use Rattle.courses.specs.Renaming.{renamed}
use Rattle.courses.specs.Handlers.{keeping, given, hushed, IsSettled}
use Rattle.courses.specs.Course.{Sort, Nothing, Answer, Course, Get, Put, Tell, Loop, Scope, and_then, in_order, line}
use Rattle.courses.specs.Copying.{wiped, with_values, stored}
use Rattle.courses.specs.Always.{May, Always, Obeys, AllowsMore, aside, TellsOwn, writes_of, WritesOnly, Within}
use Rattle.courses.proofs.Stores.{same_element-equal}
use Rattle.courses.proofs.Alike.{or_right, unwritten}
use Rattle.courses.proofs.Lines.{line_then}

pub always_bind : {A B : Type 0} (m : May) (r : Interaction A) (k : A → Interaction B) → Always m r → ((a : A) → Always m (k a)) → Always m (bind r k)
always_bind m (Done a) k h g = g a
always_bind m Trap k h g = tt
always_bind m (Read e f) k h g = (h.0, λ v. always_bind m (f v) k (h.1 v) g)
always_bind m (Write e v r) k h g = (h.0, always_bind m r k h.1 g)
always_bind m (Order n f) k h g = (h.0, λ ks. always_bind m (f ks) k (h.1 ks) g)
always_bind m (Announce u r) k h g = (h.0, always_bind m r k h.1 g)

pub always_more : {A : Type 0} (m n : May) (r : Interaction A) → AllowsMore m n → Always m r → Always n r
always_more m n (Done a) w h = tt
always_more m n Trap w h = tt
always_more m n (Read e f) w h = (w.read e h.0, λ v. always_more m n (f v) w (h.1 v))
always_more m n (Write e v r) w h = (w.write e h.0, always_more m n r w h.1)
always_more m n (Order k f) w h = (w.order h.0, λ ks. always_more m n (f ks) w (h.1 ks))
always_more m n (Announce u r) w h = (w.note u h.0, always_more m n r w h.1)

pub always_settled : {A : Type 0} (m : May) (r : Interaction A) → m.order ≡ false → Always m r → IsSettled r
always_settled m (Done a) n h = tt
always_settled m Trap n h = tt
always_settled m (Read e f) n h = λ v. always_settled m (f v) n (h.1 v)
always_settled m (Write e v r) n h = always_settled m r n h.1
always_settled m (Order k f) n h = absurd (false≢true (sym n ∙ h.0))
always_settled m (Announce u r) n h = always_settled m r n h.1

pub always_renamed : {A : Type 0} (m n : May) (f : Element → Element) (r : Interaction A) → AllowsMore m (record { read = λ e. n.read (f e); write = λ e. n.write (f e); note = n.note; order = n.order }) → Always m r → Always n (renamed f r)
always_renamed m n f (Done a) w h = tt
always_renamed m n f Trap w h = tt
always_renamed m n f (Read e g) w h = (w.read e h.0, λ v. always_renamed m n f (g v) w (h.1 v))
always_renamed m n f (Write e v r) w h = (w.write e h.0, always_renamed m n f r w h.1)
always_renamed m n f (Order k g) w h = (w.order h.0, λ ks. always_renamed m n f (g ks) w (h.1 ks))
always_renamed m n f (Announce u r) w h = (w.note u h.0, always_renamed m n f r w h.1)

pub always_hushed : {A : Type 0} (m : May) (r : Interaction A) → Always m r → Always m (hushed r)
always_hushed m (Done a) h = tt
always_hushed m Trap h = tt
always_hushed m (Read e f) h = (h.0, λ v. always_hushed m (f v) (h.1 v))
always_hushed m (Write e v r) h = (h.0, always_hushed m r h.1)
always_hushed m (Order n f) h = (h.0, λ ks. always_hushed m (f ks) (h.1 ks))
always_hushed m (Announce u r) h = always_hushed m r h.1

-- what a handler keeps aside may be read and written beside
pub always_keeping : {A : Type 0} (m : May) (p : Element → Bool) (t : Store) (r : Interaction A) → TellsOwn p m → Always (aside p m) r → Always m (keeping p t r)
always_keeping m p t (Done a) w h = tt
always_keeping m p t Trap w h = tt
always_keeping {A} m p t (Read e f) w h = go (p e) refl h.0 (λ v. always_keeping m p t (f v) w (h.1 v))
  where
    go : (b : Bool) → p e ≡ b → p e || m.read e ≡ true → ((v : Value) → Always m (keeping p t (f v))) → Always m (keeping p t (Read e f))
    go true q n ih = rw q ((w e q).0, ih (t e))
    go false q n ih = rw q (rw q at n, ih)
always_keeping {A} m p t (Write e v r) w h = go (p e) refl h.0 (always_keeping m p (put t e v) r w h.1) (always_keeping m p t r w h.1)
  where
    go : (b : Bool) → p e ≡ b → p e || m.write e ≡ true → Always m (keeping p (put t e v) r) → Always m (keeping p t r) → Always m (keeping p t (Write e v r))
    go true q n a b = rw q ((w e q).1, a)
    go false q n a b = rw q (rw q at n, b)
always_keeping m p t (Order n f) w h = (h.0, λ ks. always_keeping m p t (f ks) w (h.1 ks))
always_keeping m p t (Announce u r) w h = (h.0, always_keeping m p t r w h.1)

pub always_given : {A : Type 0} (m : May) (p : Element → Bool) (c : Value) (r : Interaction A) → ((e : Element) → p e ≡ true → m.note (Own_reads e) ≡ true) → Always (record m { read = λ e. p e || m.read e }) r → Always m (given p c r)
always_given m p c (Done a) w h = tt
always_given m p c Trap w h = tt
always_given {A} m p c (Read e f) w h = go (p e) refl h.0 (λ v. always_given m p c (f v) w (h.1 v))
  where
    go : (b : Bool) → p e ≡ b → p e || m.read e ≡ true → ((v : Value) → Always m (given p c (f v))) → Always m (given p c (Read e f))
    go true q n ih = rw q (w e q, ih c)
    go false q n ih = rw q (rw q at n, ih)
always_given m p c (Write e v r) w h = (h.0, always_given m p c r w h.1)
always_given m p c (Order n f) w h = (h.0, λ ks. always_given m p c (f ks) w (h.1 ks))
always_given m p c (Announce u r) w h = (h.0, always_given m p c r w h.1)

-- an element that is written may be
pub always_written : {A : Type 0} (m : May) (r : Interaction A) (o : Orders) (s : Store) (j : ℕ) (x : Element) → Always m r → is_written (log_of r o s j) x ≡ true → m.write x ≡ true
always_written m (Done a) o s j x h q = absurd (false≢true q)
always_written m Trap o s j x h q = absurd (false≢true q)
always_written m (Read e f) o s j x h q = always_written m (f (s e)) o s j x (h.1 (s e)) q
always_written m (Write e v r) o s j x h q = go (same_element e x) refl q (always_written m r o (put s e v) j x h.1)
  where
    go : (b : Bool) → same_element e x ≡ b → same_element e x || is_written (log_of r o (put s e v) j) x ≡ true → (is_written (log_of r o (put s e v) j) x ≡ true → m.write x ≡ true) → m.write x ≡ true
    go true t q ih = ap m.write (sym (same_element-equal e x t)) ∙ h.0
    go false t q ih = ih (rw t at q)
always_written m (Order n f) o s j x h q = always_written m (f (o j n)) o s (suc j) x (h.1 (o j n)) q
always_written m (Announce u r) o s j x h q = always_written m r o s j x h.1 q

-- an element that is read may be
pub always_read : {A : Type 0} (m : May) (r : Interaction A) (o : Orders) (s : Store) (j : ℕ) (x : Element) → Always m r → is_read (log_of r o s j) x ≡ true → m.read x ≡ true
always_read m (Done a) o s j x h q = absurd (false≢true q)
always_read m Trap o s j x h q = absurd (false≢true q)
always_read m (Read e f) o s j x h q = go (same_element e x) refl q (always_read m (f (s e)) o s j x (h.1 (s e)))
  where
    go : (b : Bool) → same_element e x ≡ b → same_element e x || is_read (log_of (f (s e)) o s j) x ≡ true → (is_read (log_of (f (s e)) o s j) x ≡ true → m.read x ≡ true) → m.read x ≡ true
    go true t q ih = ap m.read (sym (same_element-equal e x t)) ∙ h.0
    go false t q ih = ih (rw t at q)
always_read m (Write e v r) o s j x h q = always_read m r o (put s e v) j x h.1 q
always_read m (Order n f) o s j x h q = always_read m (f (o j n)) o s (suc j) x (h.1 (o j n)) q
always_read m (Announce u r) o s j x h q = always_read m r o s j x h.1 q

-- an element that may not be written stays, in whatever orders
pub always_leaves : {A : Type 0} (m : May) (r : Interaction A) (o : Orders) (s : Store) (j : ℕ) (x : Element) → Always m r → m.write x ≡ false → store_of r o s j x ≡ s x
always_leaves m r o s j x h n = unwritten r o s j x (go (is_written (log_of r o s j) x) refl)
  where
    go : (b : Bool) → is_written (log_of r o s j) x ≡ b → is_written (log_of r o s j) x ≡ false
    go true q = absurd (false≢true (sym n ∙ always_written m r o s j x h q))
    go false q = q

-- interactions that write these alone, without orders
pub written_settled : {A : Type 0} (w : Element → Bool) (r : Interaction A) → WritesOnly w r → IsSettled r
written_settled w r h = always_settled (writes_of w false) r refl h

pub written_only : {A : Type 0} (w : Element → Bool) (r : Interaction A) (o : Orders) (s : Store) (j : ℕ) (x : Element) → WritesOnly w r → is_written (log_of r o s j) x ≡ true → w x ≡ true
written_only w r o s j x h q = always_written (writes_of w false) r o s j x h q

-- The same of courses, one lemma for each way to put them together.

pub obeys_more : {k : Sort} (m n : May) (q : Course k) → AllowsMore m n → Obeys m q → Obeys n q
obeys_more m n q w h = record { obeys = always_more m n (line q) w h.obeys }

pub obeys_then : {k l : Sort} (m : May) (q : Course k) (g : Answer k → Course l) → Obeys m q → ((a : Answer k) → Obeys m (g a)) → Obeys m (and_then q g)
obeys_then m q g h t = record { obeys = subst (Always m) (sym (line_then q g)) (always_bind m (line q) (λ a. line (g a)) h.obeys (λ a. (t a).obeys)) }

pub obeys_get : {k : Sort} (m : May) (e : Element) (f : Value → Course k) → m.read e ≡ true → ((v : Value) → Obeys m (f v)) → Obeys m (Get e f)
obeys_get m e f h t = record { obeys = (h, λ v. (t v).obeys) }

pub obeys_put : {k : Sort} (m : May) (e : Element) (v : Value) (q : Course k) → m.write e ≡ true → Obeys m q → Obeys m (Put e v q)
obeys_put m e v q h t = record { obeys = (h, t.obeys) }

pub obeys_tell : {k : Sort} (m : May) (u : Note) (q : Course k) → m.note u ≡ true → Obeys m q → Obeys m (Tell u q)
obeys_tell m u q h t = record { obeys = (h, t.obeys) }

pub always_in_order : {A : Type 0} (m : May) (step : ℕ → Interaction (Unit {0})) (is : List ℕ) (r : Interaction A) → ((i : ℕ) → Always m (step i)) → Always m r → Always m (in_order step is r)
always_in_order m step [] r h t = t
always_in_order m step (i ∷ is) r h t = always_bind m (step i) (λ u. in_order step is r) (h i) (λ u. always_in_order m step is r h t)

pub obeys_loop : {k : Sort} (m : May) (n : ℕ) (own : Element → Bool) (body : ℕ → Course Nothing) (q : Course k) → m.order ≡ true → ((i : ℕ) → Obeys m (body i)) → Obeys m q → Obeys m (Loop n own body q)
obeys_loop m n own body q h t rest = record { obeys = (h, λ is. always_in_order m (λ i. line (body i)) is (line q) (λ i. (t i).obeys) rest.obeys) }

pub obeys_scope : {k l : Sort} (m : May) (p : Element → Bool) (q : Course l) (g : Answer l → Course k) → TellsOwn p m → Obeys (aside p m) q → ((a : Answer l) → Obeys m (g a)) → Obeys m (Scope p q g)
obeys_scope m p q g w h t =
    record { obeys = always_bind m (keeping p blank (line q)) (λ a. line (g a)) (always_keeping m p blank (line q) w h.obeys) (λ a. (t a).obeys) }

-- each of them may be
abbrev pub AllMay : (Element → Bool) → List Element → Type 0
AllMay p [] = Unit {0}
AllMay p (e ∷ es) = (p e ≡ true) × AllMay p es

pub obeys_wiped : {k : Sort} (m : May) (es : List Element) (q : Course k) → AllMay m.write es → Obeys m q → Obeys m (wiped es q)
obeys_wiped m [] q h t = t
obeys_wiped m (e ∷ es) q h t = obeys_put m e Undefined (wiped es q) h.0 (obeys_wiped m es q h.1 t)

pub obeys_values : {k : Sort} (m : May) (es : List Element) (g : List Value → Course k) → AllMay m.read es → ((vs : List Value) → Obeys m (g vs)) → Obeys m (with_values es g)
obeys_values m [] g h t = t []
obeys_values m (e ∷ es) g h t = obeys_get m e _ h.0 (λ v. obeys_values m es (λ vs. g (v ∷ vs)) h.1 (λ vs. t (v ∷ vs)))

pub obeys_stored : {k : Sort} (m : May) (es : List Element) (vs : List Value) (q : Course k) → AllMay m.write es → Obeys m q → Obeys m (stored es vs q)
obeys_stored m [] vs q h t = t
obeys_stored m (e ∷ es) [] q h t = t
obeys_stored m (e ∷ es) (v ∷ vs) q h t = obeys_put m e v (stored es vs q) h.0 (obeys_stored m es vs q h.1 t)

-- a call writes these alone, where its callee writes these and its own
pub within_scope : {k l : Sort} (w p : Element → Bool) (q : Course l) (g : Answer l → Course k) → Within (λ e. p e || w e) q → ((a : Answer l) → Within w (g a)) → Within w (Scope p q g)
within_scope w p q g h t =
    obeys_scope (writes_of w true) p q g (λ e n. (refl, refl))
    (obeys_more (writes_of (λ e. p e || w e) true) (aside p (writes_of w true)) q (record { read = λ e n. or_right (p e) true refl; write = λ e n. n; note = λ u n. n; order = λ n. n }) h) t
