-- Courses that undefine or set their own elements before anything else forget what these held.
use Rattle.std.proofs.Common.{◌≡◌, ℕ, suc, refl, ap, sym, ◌∙◌, List, [], ◌∷◌, ◌++◌, map, Bool, true, false, not, ◌&&◌, ◌||◌}
use Rattle.std.specs.Prelude.{is_some, if◌then◌else◌}
use Rattle.std.proofs.lemmas.Bool.{false≢true}
use mathlib.Core.Path.{fun_ext}
use Rattle.courses.specs.Element.{Value, Undefined, Element, same_element, Store, put, blank, merged}
use Rattle.courses.specs.Interaction.{Note, Event, Reads, Writes, Announces, Interaction, Done, Trap, Read, Write, Order, Announce, bind, Orders, answer_of, next_of, log_of, store_of}
use Rattle.courses.specs.Logs.{others}
use Rattle.courses.specs.Handlers.{Forgets}
use Rattle.courses.specs.Course.{Sort, Course, Put, Tell, line}
use Rattle.courses.specs.Copying.{among, wiped, stored, put_all}
use Rattle.courses.proofs.Stores.{same_element-itself}
use Rattle.courses.proofs.Alike.{or_right}

-- An interaction that ends with nothing.
pub record Drops {A : Type 0} (r : Interaction A) (o : Orders) (s : Store) (j : ℕ) : Type 0 where
  pub ends : is_some (answer_of (bind r (λ g. Done (tt {0}))) o s j) ≡ is_some (answer_of r o s j)
  pub next : next_of (bind r (λ g. Done (tt {0}))) o s j ≡ next_of r o s j
  pub store : store_of (bind r (λ g. Done (tt {0}))) o s j ≡ store_of r o s j
  pub log : log_of (bind r (λ g. Done (tt {0}))) o s j ≡ log_of r o s j

pub drops : {A : Type 0} (r : Interaction A) (o : Orders) (s : Store) (j : ℕ) → Drops r o s j
drops (Done a) o s j = record { ends = refl; next = refl; store = refl; log = refl }
drops Trap o s j = record { ends = refl; next = refl; store = refl; log = refl }
drops (Read e f) o s j = let t = drops (f (s e)) o s j in record { ends = t.ends; next = t.next; store = t.store; log = ap (λ l. Reads e ∷ l) t.log }
drops (Write e v r) o s j = let t = drops r o (put s e v) j in record { ends = t.ends; next = t.next; store = t.store; log = ap (λ l. Writes e ∷ l) t.log }
drops (Order n f) o s j = let t = drops (f (o j n)) o s (suc j) in record { ends = t.ends; next = t.next; store = t.store; log = t.log }
drops (Announce u r) o s j = let t = drops r o s j in record { ends = t.ends; next = t.next; store = t.store; log = ap (λ l. Announces u ∷ l) t.log }

-- a course after these elements are made undefined
pub record Wiped {k : Sort} (es : List Element) (r : Course k) (o : Orders) (s : Store) (j : ℕ) : Type 0 where
  pub answer : answer_of (line (wiped es r)) o s j ≡ answer_of (line r) o (merged (among es) blank s) j
  pub next : next_of (line (wiped es r)) o s j ≡ next_of (line r) o (merged (among es) blank s) j
  pub store : store_of (line (wiped es r)) o s j ≡ store_of (line r) o (merged (among es) blank s) j
  pub log : log_of (line (wiped es r)) o s j ≡ map Writes es ++ log_of (line r) o (merged (among es) blank s) j

wipe_put : (e : Element) (es : List Element) (s : Store) → merged (among es) blank (put s e Undefined) ≡ merged (among (e ∷ es)) blank s
unfolding merged put
wipe_put e es s = fun_ext (λ x. go x (among es x) (same_element e x) refl refl)
  where
    go : (x : Element) (a b : Bool) → among es x ≡ a → same_element e x ≡ b → (if among es x then Undefined else (if same_element e x then Undefined else s x)) ≡ (if same_element e x || among es x then Undefined else s x)
    go x true true p q = rw (p, q)
    go x true false p q = rw (p, q)
    go x false true p q = rw (p, q)
    go x false false p q = rw (p, q)

merged_none : (s : Store) → merged (among []) blank s ≡ s
unfolding merged
merged_none s = refl

pub wiped_run : {k : Sort} (es : List Element) (r : Course k) (o : Orders) (s : Store) (j : ℕ) → Wiped es r o s j
wiped_run [] r o s j =
    let m = sym (merged_none s) in
    record {
      answer = ap (λ u. answer_of (line r) o u j) m;
      next = ap (λ u. next_of (line r) o u j) m;
      store = ap (λ u. store_of (line r) o u j) m;
      log = ap (λ u. log_of (line r) o u j) m;
    }
wiped_run (e ∷ es) r o s j =
    let t = wiped_run es r o (put s e Undefined) j in
    let m = wipe_put e es s in
    record {
      answer = t.answer ∙ ap (λ u. answer_of (line r) o u j) m;
      next = t.next ∙ ap (λ u. next_of (line r) o u j) m;
      store = t.store ∙ ap (λ u. store_of (line r) o u j) m;
      log = ap (λ l. Writes e ∷ l) (t.log ∙ ap (λ u. map Writes es ++ log_of (line r) o u j) m);
    }

-- a course after these values are put at these elements
pub record Stored {k : Sort} (es : List Element) (vs : List Value) (r : Course k) (o : Orders) (s : Store) (j : ℕ) : Type 0 where
  pub answer : answer_of (line (stored es vs r)) o s j ≡ answer_of (line r) o (put_all es vs s) j
  pub next : next_of (line (stored es vs r)) o s j ≡ next_of (line r) o (put_all es vs s) j
  pub store : store_of (line (stored es vs r)) o s j ≡ store_of (line r) o (put_all es vs s) j

pub stored_run : {k : Sort} (es : List Element) (vs : List Value) (r : Course k) (o : Orders) (s : Store) (j : ℕ) → Stored es vs r o s j
stored_run [] vs r o s j = record { answer = refl; next = refl; store = refl }
stored_run (e ∷ es) [] r o s j = record { answer = refl; next = refl; store = refl }
stored_run (e ∷ es) (v ∷ vs) r o s j = let t = stored_run es vs r o (put s e v) j in record { answer = t.answer; next = t.next; store = t.store }

pub others_wiped : (own : Element → Bool) (es : List Element) (ts : List Event) → ((e : Element) → among es e ≡ true → own e ≡ true) → others own (map Writes es ++ ts) ≡ others own ts
others_wiped own [] ts h = refl
others_wiped own (e ∷ es) ts h =
    rw (h e (ap (λ b. b || among es e) (same_element-itself e))) (others_wiped own es ts (λ x m. h x (or_right (same_element e x) (among es x) m)))

-- what is left for fewer is left for more
pub others_more : (p own : Element → Bool) (ts : List Event) → ((e : Element) → p e ≡ true → own e ≡ true) → others own (others p ts) ≡ others own ts
others_more p own [] h = refl
others_more p own (Reads e ∷ ts) h = go (p e) refl (others_more p own ts h)
  where
    go : (b : Bool) → p e ≡ b → others own (others p ts) ≡ others own ts → others own (if p e then others p ts else Reads e ∷ others p ts) ≡ (if own e then others own ts else Reads e ∷ others own ts)
    go true q ih = rw (q, h e q) ih
    go false q ih = rw q (ap (λ l. if own e then l else Reads e ∷ l) ih)
others_more p own (Writes e ∷ ts) h = go (p e) refl (others_more p own ts h)
  where
    go : (b : Bool) → p e ≡ b → others own (others p ts) ≡ others own ts → others own (if p e then others p ts else Writes e ∷ others p ts) ≡ (if own e then others own ts else Writes e ∷ others own ts)
    go true q ih = rw (q, h e q) ih
    go false q ih = rw q (ap (λ l. if own e then l else Writes e ∷ l) ih)
others_more p own (Announces t ∷ ts) h = others_more p own ts h

-- logs alike but for few are alike but for more
pub alike_more : (p own : Element → Bool) (ts us : List Event) → ((e : Element) → p e ≡ true → own e ≡ true) → others p ts ≡ others p us → others own ts ≡ others own us
alike_more p own ts us h e = sym (others_more p own ts h) ∙ ap (others own) e ∙ others_more p own us h

-- Forgetting, one lemma for each way to begin.

-- one element less
abbrev pub but : (Element → Bool) → Element → Element → Bool
but own e x = own x && not (same_element e x)

forgets_from : {A : Type 0} (own : Element → Bool) (r : Interaction A) → ((s : Store) → merged own blank s ≡ s) → Forgets own r
forgets_from own r h = record {
  answer = λ o s j. ap (λ u. answer_of r o u j) (sym (h s));
  next = λ o s j. ap (λ u. next_of r o u j) (sym (h s));
  log = λ o s j. ap (λ u. log_of r o u j) (sym (h s));
  store = λ o s j. ap (λ u. store_of r o u j) (sym (h s));
}

-- where nothing is its own
pub forgets_nothing : {A : Type 0} (own : Element → Bool) (r : Interaction A) → ((e : Element) → own e ≡ false) → Forgets own r
unfolding merged
forgets_nothing own r h = forgets_from own r (λ s. fun_ext (λ e. rw (h e) refl))

-- what forgets more forgets less
pub forgets_less : {A : Type 0} (less own : Element → Bool) (r : Interaction A) → ((e : Element) → less e ≡ true → own e ≡ true) → Forgets own r → Forgets less r
unfolding merged
forgets_less less own r h f = record {
  answer = λ o s j. f.answer o s j ∙ ap (λ u. answer_of r o u j) (sym (same s)) ∙ sym (f.answer o (merged less blank s) j);
  next = λ o s j. f.next o s j ∙ ap (λ u. next_of r o u j) (sym (same s)) ∙ sym (f.next o (merged less blank s) j);
  log = λ o s j. f.log o s j ∙ ap (λ u. log_of r o u j) (sym (same s)) ∙ sym (f.log o (merged less blank s) j);
  store = λ o s j. f.store o s j ∙ ap (λ u. store_of r o u j) (sym (same s)) ∙ sym (f.store o (merged less blank s) j);
}
  where
    same : (s : Store) → merged own blank (merged less blank s) ≡ merged own blank s
    same s = fun_ext (λ e. go e (less e) refl)
      where
        go : (e : Element) (b : Bool) → less e ≡ b → (if own e then Undefined else (if less e then Undefined else s e)) ≡ (if own e then Undefined else s e)
        go e true q = rw (h e q) refl
        go e false q = rw q refl

-- after a write of an element what it held is forgotten
pub forgets_put : {k : Sort} (own : Element → Bool) (e : Element) (v : Value) (r : Course k) → Forgets (but own e) (line r) → Forgets own (line (Put e v r))
unfolding merged put
forgets_put own e v r f = record {
  answer = λ o s j. f.answer o (put s e v) j ∙ ap (λ u. answer_of (line r) o u j) (same s) ∙ sym (f.answer o (put (merged own blank s) e v) j);
  next = λ o s j. f.next o (put s e v) j ∙ ap (λ u. next_of (line r) o u j) (same s) ∙ sym (f.next o (put (merged own blank s) e v) j);
  log = λ o s j. ap (λ l. Writes e ∷ l) (f.log o (put s e v) j ∙ ap (λ u. log_of (line r) o u j) (same s) ∙ sym (f.log o (put (merged own blank s) e v) j));
  store = λ o s j. f.store o (put s e v) j ∙ ap (λ u. store_of (line r) o u j) (same s) ∙ sym (f.store o (put (merged own blank s) e v) j);
}
  where
    same : (s : Store) → merged (but own e) blank (put s e v) ≡ merged (but own e) blank (put (merged own blank s) e v)
    same s = fun_ext (λ x. go x (same_element e x) (own x) refl refl)
      where
        go : (x : Element) (a b : Bool) → same_element e x ≡ a → own x ≡ b → (if own x && not (same_element e x) then Undefined else (if same_element e x then v else s x)) ≡ (if own x && not (same_element e x) then Undefined else (if same_element e x then v else (if own x then Undefined else s x)))
        go x true true q t = rw (q, t) refl
        go x true false q t = rw (q, t) refl
        go x false true q t = rw (q, t) refl
        go x false false q t = rw (q, t) refl

pub forgets_tell : {k : Sort} (own : Element → Bool) (u : Note) (r : Course k) → Forgets own (line r) → Forgets own (line (Tell u r))
forgets_tell own u r f = record { answer = f.answer; next = f.next; log = λ o s j. ap (λ l. Announces u ∷ l) (f.log o s j); store = f.store }

pub forgets_wiped : {k : Sort} (own : Element → Bool) (es : List Element) (r : Course k) → Forgets (λ x. own x && not (among es x)) (line r) → Forgets own (line (wiped es r))
forgets_wiped own [] r f = forgets_less own (λ x. own x && not false) (line r) (λ e h. rw h refl) f
forgets_wiped own (e ∷ es) r f =
    forgets_put own e Undefined (wiped es r) (forgets_wiped (but own e) es r (forgets_less (λ x. but own e x && not (among es x)) (λ x. own x && not (among (e ∷ es) x)) (line r) regroup f))
  where
    regroup : (x : Element) → (own x && not (same_element e x)) && not (among es x) ≡ true → own x && not (same_element e x || among es x) ≡ true
    regroup x h = go (own x) (same_element e x) refl refl
      where
        go : (a b : Bool) → own x ≡ a → same_element e x ≡ b → own x && not (same_element e x || among es x) ≡ true
        go true false p q = rw (p, q) (rw (p, q) at h)
        go true true p q = absurd (false≢true (rw (p, q) at h))
        go false b p q = absurd (false≢true (rw p at h))
