-- Locality: from a store that agrees on what is read, an interaction does the same; what it does not write stays.
use Rattle.std.proofs.Common.{◌≡◌, ℕ, suc, refl, ap, sym, ◌∙◌, subst, ◌∷◌, Bool, true, false, ◌||◌}
use Rattle.courses.specs.Element.{Value, Element, same_element, Store, put}
use Rattle.courses.specs.Interaction.{Reads, Writes, Announces, Interaction, Done, Trap, Read, Write, Order, Announce, Orders, answer_of, next_of, log_of, store_of}
use Rattle.courses.specs.Logs.{is_written, Agree, Alike}
use Rattle.courses.proofs.Stores.{same_element-itself, put-other}

pub or_left : (a b : Bool) → a ≡ true → a || b ≡ true
or_left true b h = refl
or_left false b h = absurd (cc)

pub or_right : (a b : Bool) → b ≡ true → a || b ≡ true
or_right true b h = refl
or_right false b h = h

pub or_false : (a b : Bool) → a || b ≡ false → (a ≡ false) × (b ≡ false)
or_false true b h = absurd (cc)
or_false false b h = (refl, h)

only_left : (a b : Bool) → a || b ≡ true → b ≡ false → a ≡ true
only_left true b h q = refl
only_left false b h q = absurd (cc)

pub unwritten : {A : Type 0} (r : Interaction A) (o : Orders) (s : Store) (j : ℕ) (e : Element) → is_written (log_of r o s j) e ≡ false → store_of r o s j e ≡ s e
unwritten (Done a) o s j e h = refl
unwritten Trap o s j e h = refl
unwritten (Read x f) o s j e h = unwritten (f (s x)) o s j e h
unwritten (Write x v r) o s j e h =
    let w = or_false (same_element x e) (is_written (log_of r o (put s x v) j) e) h in
    unwritten r o (put s x v) j e w.1 ∙ put-other s x v e w.0
unwritten (Order n f) o s j e h = unwritten (f (o j n)) o s (suc j) e h
unwritten (Announce t r) o s j e h = unwritten r o s j e h

pub put_alike : (s s' : Store) (x : Element) (v : Value) (e : Element) → s e ≡ s' e → put s x v e ≡ put s' x v e
unfolding put
put_alike s s' x v e h = go (same_element x e) refl
  where
    go : (b : Bool) → same_element x e ≡ b → put s x v e ≡ put s' x v e
    go true q = rw q
    go false q = rw q h

pub put_equal : (s s' : Store) (x : Element) (v : Value) (e : Element) → same_element x e ≡ true → put s x v e ≡ put s' x v e
unfolding put
put_equal s s' x v e h = rw h

-- what holds where nothing was written, and where it wrote
written_after : {A : Type 0} (r : Interaction A) (o : Orders) (j : ℕ) (s s' : Store) (x : Element) (first : Bool) → Alike r o j s s' → (first ≡ true → s' x ≡ s x) → first || is_written (log_of r o s j) x ≡ true → store_of r o s' j x ≡ store_of r o s j x
written_after r o j s s' x first a h w = go (is_written (log_of r o s j) x) refl
  where
    go : (b : Bool) → is_written (log_of r o s j) x ≡ b → store_of r o s' j x ≡ store_of r o s j x
    go true q = a.written x q
    go false q =
        let before : s' x ≡ s x = h (only_left first _ w q) in
        unwritten r o s' j x (ap (λ l. is_written l x) a.log ∙ q) ∙ before ∙ sym (unwritten r o s j x q)

pub alike : {A : Type 0} (r : Interaction A) (o : Orders) (j : ℕ) (s s' : Store) → Agree (log_of r o s j) s s' → Alike r o j s s'
alike (Done a) o j s s' h = record { answer = refl; next = refl; log = refl; written = λ e w. absurd (cc) }
alike Trap o j s s' h = record { answer = refl; next = refl; log = refl; written = λ e w. absurd (cc) }
alike (Read e f) o j s s' h =
    let same = h e (or_left (same_element e e) _ (same_element-itself e)) in
    let rest = alike (f (s e)) o j s s' (λ x w. h x (or_right (same_element e x) _ w)) in
    record {
      answer = subst (λ v. answer_of (f v) o s' j ≡ answer_of (f (s e)) o s j) same rest.answer;
      next = subst (λ v. next_of (f v) o s' j ≡ next_of (f (s e)) o s j) same rest.next;
      log = ap (λ l. Reads e ∷ l) (subst (λ v. log_of (f v) o s' j ≡ log_of (f (s e)) o s j) same rest.log);
      written = λ x w. subst (λ v. store_of (f v) o s' j x ≡ store_of (f (s e)) o s j x) same (rest.written x w);
    }
alike (Write e v r) o j s s' h =
    let rest = alike r o j (put s e v) (put s' e v) (λ x w. put_alike s s' e v x (h x w)) in
    record {
      answer = rest.answer;
      next = rest.next;
      log = ap (λ l. Writes e ∷ l) rest.log;
      written = λ x w. written_after r o j (put s e v) (put s' e v) x (same_element e x) rest (λ q. sym (put_equal s s' e v x q)) w;
    }
alike (Order n f) o j s s' h =
    let rest = alike (f (o j n)) o (suc j) s s' h in
    record { answer = rest.answer; next = rest.next; log = rest.log; written = rest.written }
alike (Announce t r) o j s s' h =
    let rest = alike r o j s s' h in
    record { answer = rest.answer; next = rest.next; log = ap (λ l. Announces t ∷ l) rest.log; written = rest.written }
