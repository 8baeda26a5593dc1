-- An interaction that doesn't read some elements does the same from two stores that differ in these alone.
use Rattle.std.proofs.Common.{◌≡◌, ℕ, suc, refl, ap, ◌∙◌, ◌∷◌, Bool, true, false}
use Rattle.std.specs.Prelude.{if◌then◌else◌}
use Rattle.courses.specs.Element.{Element, Store, put, merged}
use Rattle.courses.specs.Interaction.{Reads, Writes, Announces, Interaction, Done, Trap, Read, Write, Order, Announce, Orders, answer_of, next_of, log_of, store_of}
use Rattle.courses.specs.Always.{May, Always}
use Rattle.courses.specs.Private.{AgreeBut}
use Rattle.courses.proofs.Alike.{put_alike}
use Rattle.courses.proofs.Allowed.{always_settled}
use Rattle.courses.proofs.Settling.{settles}

pub record Near {A : Type 0} (p : Element → Bool) (r : Interaction A) (t s : Store) (o : Orders) (j : ℕ) : Type 0 where
  pub answer : answer_of r o t j ≡ answer_of r o s j
  pub next : next_of r o t j ≡ next_of r o s j
  pub log : log_of r o t j ≡ log_of r o s j
  pub store : AgreeBut p (store_of r o t j) (store_of r o s j)

pub near : {A : Type 0} (m : May) (p : Element → Bool) → ((e : Element) → m.read e ≡ true → p e ≡ false) → (r : Interaction A) (t s : Store) (o : Orders) (j : ℕ) → Always m r → AgreeBut p t s → Near p r t s o j
near m p w (Done a) t s o j h g = record { answer = refl; next = refl; log = refl; store = g }
near m p w Trap t s o j h g = record { answer = refl; next = refl; log = refl; store = g }
near m p w (Read e f) t s o j h g =
    let n = near m p w (f (s e)) t s o j (h.1 (s e)) g in
    let q = g e (w e h.0) in
    record {
      answer = ap (λ v. answer_of (f v) o t j) q ∙ n.answer;
      next = ap (λ v. next_of (f v) o t j) q ∙ n.next;
      log = ap (λ l. Reads e ∷ l) (ap (λ v. log_of (f v) o t j) q ∙ n.log);
      store = λ x k. ap (λ v. store_of (f v) o t j x) q ∙ n.store x k;
    }
near m p w (Write e v r) t s o j h g =
    let n = near m p w r (put t e v) (put s e v) o j h.1 (λ x k. put_alike t s e v x (g x k)) in
    record { answer = n.answer; next = n.next; log = ap (λ l. Writes e ∷ l) n.log; store = n.store }
near m p w (Order k f) t s o j h g = let n = near m p w (f (o j k)) t s o (suc j) (h.1 (o j k)) g in record { answer = n.answer; next = n.next; log = n.log; store = n.store }
near m p w (Announce u r) t s o j h g = let n = near m p w r t s o j h.1 g in record { answer = n.answer; next = n.next; log = ap (λ l. Announces u ∷ l) n.log; store = n.store }

-- the same under two orders, where it asks for none
pub record NearSettled {A : Type 0} (p : Element → Bool) (r : Interaction A) (t s : Store) (o o' : Orders) (j j' : ℕ) : Type 0 where
  pub answer : answer_of r o t j ≡ answer_of r o' s j'
  pub log : log_of r o t j ≡ log_of r o' s j'
  pub store : AgreeBut p (store_of r o t j) (store_of r o' s j')

pub near_settled : {A : Type 0} (m : May) (p : Element → Bool) → ((e : Element) → m.read e ≡ true → p e ≡ false) → m.order ≡ false → (r : Interaction A) (t s : Store) (o o' : Orders) (j j' : ℕ) → Always m r → AgreeBut p t s → NearSettled p r t s o o' j j'
near_settled m p w z r t s o o' j j' h g =
    let n = near m p w r t s o j h g in
    let k = settles r o s j o' j' (always_settled m r z h) in
    record { answer = n.answer ∙ k.answer; log = n.log ∙ k.log; store = λ e q. n.store e q ∙ ap (λ u. u e) k.store }

pub merged_agree : (p q : Element → Bool) (u a b : Store) → AgreeBut p a b → AgreeBut p (merged q u a) (merged q u b)
unfolding merged
merged_agree p q u a b h e m = go (q e) refl
  where
    go : (c : Bool) → q e ≡ c → (if q e then u e else a e) ≡ (if q e then u e else b e)
    go true k = rw k
    go false k = rw k (h e m)
