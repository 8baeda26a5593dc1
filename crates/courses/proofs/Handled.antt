-- What handlers do: kept elements are answered from the merged store, given ones from the store that holds the value.
use Rattle.std.proofs.Common.{◌≡◌, ℕ, suc, refl, ap, sym, ◌∙◌, ◌∷◌, Bool, true, false}
use Rattle.std.specs.Prelude.{if◌then◌else◌}
use Rattle.std.proofs.lemmas.Bool.{false≢true}
use mathlib.Core.Path.{fun_ext}
use Rattle.courses.specs.Element.{Value, Element, same_element, Store, put, merged}
use Rattle.courses.specs.Interaction.{Reads, Writes, Own_reads, Interaction, Done, Trap, Read, Write, Order, Announce, bind, Orders, answer_of, next_of, log_of, store_of}
use Rattle.courses.specs.Logs.{others}
use Rattle.courses.specs.Renaming.{renamed}
use Rattle.courses.specs.Handlers.{hushed, given, keeping, holding, KeptAside}
use Rattle.courses.specs.Always.{WritesOnly}
use Rattle.courses.proofs.Stores.{same_element-equal, put-other}

pub hushed_bind : {A B : Type 0} (r : Interaction A) (k : A → Interaction B) → hushed (bind r k) ≡ bind (hushed r) (λ a. hushed (k a))
hushed_bind (Done a) k = refl
hushed_bind Trap k = refl
hushed_bind (Read e f) k = ap (Read e) (fun_ext (λ v. hushed_bind (f v) k))
hushed_bind (Write e v r) k = ap (Write e v) (hushed_bind r k)
hushed_bind (Order n f) k = ap (Order n) (fun_ext (λ o. hushed_bind (f o) k))
hushed_bind (Announce u r) k = hushed_bind r k

pub renamed_bind : {A B : Type 0} (g : Element → Element) (r : Interaction A) (k : A → Interaction B) → renamed g (bind r k) ≡ bind (renamed g r) (λ a. renamed g (k a))
renamed_bind g (Done a) k = refl
renamed_bind g Trap k = refl
renamed_bind g (Read e f) k = ap (Read (g e)) (fun_ext (λ v. renamed_bind g (f v) k))
renamed_bind g (Write e v r) k = ap (Write (g e) v) (renamed_bind g r k)
renamed_bind g (Order n f) k = ap (Order n) (fun_ext (λ o. renamed_bind g (f o) k))
renamed_bind g (Announce u r) k = ap (Announce u) (renamed_bind g r k)

pub given_bind : {A B : Type 0} (p : Element → Bool) (c : Value) (r : Interaction A) (k : A → Interaction B) → given p c (bind r k) ≡ bind (given p c r) (λ a. given p c (k a))
given_bind p c (Done a) k = refl
given_bind p c Trap k = refl
given_bind p c (Read e f) k = go (p e) refl (λ v. given_bind p c (f v) k)
  where
    go : (b : Bool) → p e ≡ b → ((v : Value) → given p c (bind (f v) k) ≡ bind (given p c (f v)) (λ a. given p c (k a))) → (if p e then Announce (Own_reads e) (given p c (bind (f c) k)) else Read e (λ v. given p c (bind (f v) k))) ≡ bind (if p e then Announce (Own_reads e) (given p c (f c)) else Read e (λ v. given p c (f v))) (λ a. given p c (k a))
    go true q ih = rw q (ap (Announce (Own_reads e)) (ih c))
    go false q ih = rw q (ap (Read e) (fun_ext ih))
given_bind p c (Write e v r) k = ap (Write e v) (given_bind p c r k)
given_bind p c (Order n f) k = ap (Order n) (fun_ext (λ o. given_bind p c (f o) k))
given_bind p c (Announce u r) k = ap (Announce u) (given_bind p c r k)

-- with elements given, an interaction does what it does from the store that holds the value
pub record Given {A : Type 0} (p : Element → Bool) (c : Value) (r : Interaction A) (o : Orders) (s : Store) (j : ℕ) : Type 0 where
  pub answer : answer_of (given p c r) o s j ≡ answer_of r o (holding p c s) j
  pub next : next_of (given p c r) o s j ≡ next_of r o (holding p c s) j
  pub store : holding p c (store_of (given p c r) o s j) ≡ store_of r o (holding p c s) j
  pub kept : (e : Element) → p e ≡ true → store_of (given p c r) o s j e ≡ s e
  pub log : others p (log_of (given p c r) o s j) ≡ others p (log_of r o (holding p c s) j)

holding-put : (p : Element → Bool) (c : Value) (s : Store) (e : Element) (v : Value) → p e ≡ false → holding p c (put s e v) ≡ put (holding p c s) e v
unfolding holding put
holding-put p c s e v h = fun_ext (λ x. go x (same_element e x) (p x) refl refl)
  where
    go : (x : Element) (a b : Bool) → same_element e x ≡ a → p x ≡ b → (if p x then c else (if same_element e x then v else s x)) ≡ (if same_element e x then v else (if p x then c else s x))
    go x true true q t = absurd (false≢true (sym h ∙ ap p (same_element-equal e x q) ∙ t))
    go x true false q t = rw (q, t)
    go x false b q t = rw q

pub given_run : {A : Type 0} (p w : Element → Bool) (c : Value) (r : Interaction A) (o : Orders) (s : Store) (j : ℕ) → ((e : Element) → w e ≡ true → p e ≡ false) → WritesOnly w r → Given p c r o s j
unfolding holding
given_run p w c (Done a) o s j a' h = record { answer = refl; next = refl; store = refl; kept = λ e q. refl; log = refl }
given_run p w c Trap o s j a h = record { answer = refl; next = refl; store = refl; kept = λ e q. refl; log = refl }
given_run {A} p w c (Read e f) o s j a h = go (p e) refl (λ v. given_run p w c (f v) o s j a (h.1 v))
  where
    go : (b : Bool) → p e ≡ b → ((v : Value) → Given p c (f v) o s j) → Given p c (Read e f) o s j
    go true q ih = let t = ih c in record { answer = rw q t.answer; next = rw q t.next; store = rw q t.store; kept = λ x m. rw q (t.kept x m); log = rw q t.log }
    go false q ih = let t = ih (s e) in record { answer = rw q t.answer; next = rw q t.next; store = rw q t.store; kept = λ x m. rw q (t.kept x m); log = rw (q, q) (ap (λ l. Reads e ∷ l) t.log) }
given_run p w c (Write e v r) o s j a h =
    let n = a e h.0 in
    let t = given_run p w c r o (put s e v) j a h.1 in
    let q = holding-put p c s e v n in
    record {
      answer = t.answer ∙ ap (λ u. answer_of r o u j) q;
      next = t.next ∙ ap (λ u. next_of r o u j) q;
      store = t.store ∙ ap (λ u. store_of r o u j) q;
      kept = λ x m. t.kept x m ∙ put-other s e v x (apart_at e x n m);
      log = rw n (ap (λ l. Writes e ∷ l) (t.log ∙ ap (λ u. others p (log_of r o u j)) q));
    }
  where
    apart_at : (e x : Element) → p e ≡ false → p x ≡ true → same_element e x ≡ false
    apart_at e x a b = go (same_element e x) refl
      where
        go : (t : Bool) → same_element e x ≡ t → same_element e x ≡ false
        go true q = absurd (false≢true (sym a ∙ ap p (same_element-equal e x q) ∙ b))
        go false q = q
given_run p w c (Order n f) o s j a h = absurd (false≢true h.0)
given_run p w c (Announce u r) o s j a h =
    let t = given_run p w c r o s j a h.1 in record { answer = t.answer; next = t.next; store = t.store; kept = t.kept; log = t.log }

pub own_put : (p : Element → Bool) (t s : Store) (e : Element) (v : Value) → p e ≡ true → merged p (put t e v) s ≡ put (merged p t s) e v
unfolding merged put
own_put p t s e v h = fun_ext (λ x. go x (same_element e x) (p x) refl refl)
  where
    go : (x : Element) (a b : Bool) → same_element e x ≡ a → p x ≡ b → (if p x then (if same_element e x then v else t x) else s x) ≡ (if same_element e x then v else (if p x then t x else s x))
    go x a true m n = rw n
    go x true false m n = absurd (false≢true (sym n ∙ ap p (sym (same_element-equal e x m)) ∙ h))
    go x false false m n = rw (n, m)

pub other_put : (p : Element → Bool) (t s : Store) (e : Element) (v : Value) → p e ≡ false → merged p t (put s e v) ≡ put (merged p t s) e v
unfolding merged put
other_put p t s e v h = fun_ext (λ x. go x (same_element e x) (p x) refl refl)
  where
    go : (x : Element) (a b : Bool) → same_element e x ≡ a → p x ≡ b → (if p x then t x else (if same_element e x then v else s x)) ≡ (if same_element e x then v else (if p x then t x else s x))
    go x a false m n = rw n
    go x true true m n = absurd (false≢true (sym h ∙ ap p (same_element-equal e x m) ∙ n))
    go x false true m n = rw (n, m)

pub merged-own : (p : Element → Bool) (t s : Store) (e : Element) → p e ≡ true → merged p t s e ≡ t e
unfolding merged
merged-own p t s e h = rw h

pub merged-other : (p : Element → Bool) (t s : Store) (e : Element) → p e ≡ false → merged p t s e ≡ s e
unfolding merged
merged-other p t s e h = rw h

pub keeping_run : {A : Type 0} (p : Element → Bool) (t : Store) (r : Interaction A) (o : Orders) (s : Store) (j : ℕ) → KeptAside p t r o s j
keeping_run p t (Done a) o s j = record { answer = refl; next = refl; store = λ e h. sym (merged-other p t s e h); log = refl; own = λ e h. refl }
keeping_run p t Trap o s j = record { answer = refl; next = refl; store = λ e h. sym (merged-other p t s e h); log = refl; own = λ e h. refl }
keeping_run {A} p t (Read e f) o s j = go (p e) refl (λ v. keeping_run p t (f v) o s j)
  where
    go : (b : Bool) → p e ≡ b → ((v : Value) → KeptAside p t (f v) o s j) → KeptAside p t (Read e f) o s j
    go true q ih =
        let h = ih (t e) in let m = merged-own p t s e q in
        record { answer = rw (q, m) h.answer; next = rw (q, m) h.next; store = λ x n. rw (q, m) (h.store x n); log = rw (q, m) h.log; own = λ x n. rw q (h.own x n) }
    go false q ih =
        let h = ih (s e) in let m = merged-other p t s e q in
        record { answer = rw (q, m) h.answer; next = rw (q, m) h.next; store = λ x n. rw (q, m) (h.store x n); log = rw (q, m) (ap (λ l. Reads e ∷ l) h.log); own = λ x n. rw q (h.own x n) }
keeping_run {A} p t (Write e v r) o s j = go (p e) refl (keeping_run p (put t e v) r o s j) (keeping_run p t r o (put s e v) j)
  where
    differs : (x : Element) → p e ≡ false → p x ≡ true → same_element e x ≡ false
    differs x q n = at (same_element e x) refl
      where
        at : (b : Bool) → same_element e x ≡ b → same_element e x ≡ false
        at true m = absurd (false≢true (sym q ∙ ap p (same_element-equal e x m) ∙ n))
        at false m = m

    go : (b : Bool) → p e ≡ b → KeptAside p (put t e v) r o s j → KeptAside p t r o (put s e v) j → KeptAside p t (Write e v r) o s j
    go true q h g =
        let m = own_put p t s e v q in
        record {
          answer = rw q (h.answer ∙ ap (λ u. answer_of r o u j) m);
          next = rw q (h.next ∙ ap (λ u. next_of r o u j) m);
          store = λ x n. rw q (h.store x n ∙ ap (λ u. store_of r o u j x) m);
          log = rw q (h.log ∙ ap (λ u. others p (log_of r o u j)) m);
          own = λ x n. rw q (h.own x n);
        }
    go false q h g =
        let m = other_put p t s e v q in
        record {
          answer = rw q (g.answer ∙ ap (λ u. answer_of r o u j) m);
          next = rw q (g.next ∙ ap (λ u. next_of r o u j) m);
          store = λ x n. rw q (g.store x n ∙ ap (λ u. store_of r o u j x) m);
          log = rw q (ap (λ l. Writes e ∷ l) (g.log ∙ ap (λ u. others p (log_of r o u j)) m));
          own = λ x n. rw q (g.own x n ∙ put-other s e v x (differs x q n));
        }
keeping_run p t (Order n f) o s j = let h = keeping_run p t (f (o j n)) o s (suc j) in record { answer = h.answer; next = h.next; store = h.store; log = h.log; own = h.own }
keeping_run p t (Announce u r) o s j = let h = keeping_run p t r o s j in record { answer = h.answer; next = h.next; store = h.store; log = h.log; own = h.own }

pub kept_store : {A : Type 0} (p : Element → Bool) (t : Store) (r : Interaction A) (o : Orders) (s : Store) (j : ℕ) → store_of (keeping p t r) o s j ≡ merged p s (store_of r o (merged p t s) j)
kept_store p t r o s j = fun_ext (λ e. go e (p e) refl)
  where
    go : (e : Element) (b : Bool) → p e ≡ b → store_of (keeping p t r) o s j e ≡ merged p s (store_of r o (merged p t s) j) e
    go e true q = (keeping_run p t r o s j).own e q ∙ sym (merged-own p s _ e q)
    go e false q = (keeping_run p t r o s j).store e q ∙ sym (merged-other p s _ e q)
