-- Orderly courses, one after the other, are an orderly course.
use Rattle.std.proofs.Common.{◌≡◌, ℕ, refl, sym, ◌∙◌, subst, List, [], ◌∷◌, ◌++◌, Bool, Option, Some, None}
use mathlib.Core.Path.{ap₂}
use Rattle.courses.specs.Element.{Value, Element, Store, merged, blank}
use Rattle.courses.specs.Interaction.{Interaction, bind, Orders, answer_of, next_of, log_of, store_of}
use Rattle.courses.specs.Handlers.{Forgets}
use Rattle.courses.specs.Course.{Sort, Item, Many, Both, Answer, Course, Give, Fail, Get, Put, Tell, Loop, Scope, and_then, line}
use Rattle.courses.specs.Copying.{wiped, with_values, stored, Callee, called}
use Rattle.courses.specs.Weaving.{IsOrderly, AreApart}
use Rattle.courses.proofs.Lines.{line_then}
use Rattle.courses.proofs.Binds.{follows, stops}

-- an interaction does the same from two stores
record SameFrom {A : Type 0} (r : Interaction A) (o : Orders) (s s' : Store) (j : ℕ) : Type 0 where
  answer : answer_of r o s j ≡ answer_of r o s' j
  next : next_of r o s j ≡ next_of r o s' j
  log : log_of r o s j ≡ log_of r o s' j
  store : store_of r o s j ≡ store_of r o s' j

bind_same : {A B : Type 0} (r : Interaction A) (k : A → Interaction B) (o : Orders) (s s' : Store) (j : ℕ) → SameFrom r o s s' j → SameFrom (bind r k) o s s' j
bind_same {A} {B} r k o s s' j h = go (answer_of r o s j) refl
  where
    go : (x : Option A) → answer_of r o s j ≡ x → SameFrom (bind r k) o s s' j
    go None q =
        let a = stops r k o s j q in
        let b = stops r k o s' j (sym h.answer ∙ q) in
        record { answer = a.answer ∙ sym b.answer; next = a.next ∙ h.next ∙ sym b.next; log = a.log ∙ h.log ∙ sym b.log; store = a.store ∙ h.store ∙ sym b.store }
    go (Some v) q =
        let a = follows r k v o s j q in
        let b = follows r k v o s' j (sym h.answer ∙ q) in
        record {
          answer = a.answer ∙ ap₂ (λ u i. answer_of (k v) o u i) h.store h.next ∙ sym b.answer;
          next = a.next ∙ ap₂ (λ u i. next_of (k v) o u i) h.store h.next ∙ sym b.next;
          log = a.log ∙ ap₂ (λ l m. l ++ m) h.log (ap₂ (λ u i. log_of (k v) o u i) h.store h.next) ∙ sym b.log;
          store = a.store ∙ ap₂ (λ u i. store_of (k v) o u i) h.store h.next ∙ sym b.store;
        }

forgets_bind : {A B : Type 0} (own : Element → Bool) (r : Interaction A) (k : A → Interaction B) → Forgets own r → Forgets own (bind r k)
forgets_bind own r k h =
    let t = λ (o : Orders) (s : Store) (j : ℕ). bind_same r k o s (merged own blank s) j (record { answer = h.answer o s j; next = h.next o s j; log = h.log o s j; store = h.store o s j }) in
    record { answer = λ o s j. (t o s j).answer; next = λ o s j. (t o s j).next; log = λ o s j. (t o s j).log; store = λ o s j. (t o s j).store }

pub orderly_then : {k l : Sort} (r : Course k) (g : Answer k → Course l) → IsOrderly r → ((a : Answer k) → IsOrderly (g a)) → IsOrderly (and_then r g)
orderly_then (Give a) g h t = t a
orderly_then Fail g h t = tt
orderly_then (Get e f) g h t = λ v. orderly_then (f v) g (h v) t
orderly_then (Put e v r) g h t = orderly_then r g h t
orderly_then (Tell u r) g h t = orderly_then r g h t
orderly_then (Loop n own body r) g h t =
    (h.0, h.1, h.2, subst (Forgets own) (sym (line_then r g)) (forgets_bind own (line r) (λ a. line (g a)) h.3), h.4, orderly_then r g h.5 t)
orderly_then (Scope p q f) g h t = (h.0, λ a. orderly_then (f a) g (h.1 a) t)

pub values_orderly : {k : Sort} (es : List Element) (g : List Value → Course k) → ((vs : List Value) → IsOrderly (g vs)) → IsOrderly (with_values es g)
values_orderly [] g h = h []
values_orderly (e ∷ es) g h = λ v. values_orderly es (λ vs. g (v ∷ vs)) (λ vs. h (v ∷ vs))

pub wiped_orderly : {k : Sort} (es : List Element) (q : Course k) → IsOrderly q → IsOrderly (wiped es q)
wiped_orderly [] q h = h
wiped_orderly (e ∷ es) q h = wiped_orderly es q h

pub stored_orderly : {k : Sort} (es : List Element) (vs : List Value) (q : Course k) → IsOrderly q → IsOrderly (stored es vs q)
stored_orderly [] vs q h = h
stored_orderly (e ∷ es) [] q h = h
stored_orderly (e ∷ es) (v ∷ vs) q h = stored_orderly es vs q h

-- a call of an orderly unit
pub called_orderly : {k l : Sort} (f : Callee k) (vs : List Value) (xs es : List Element) (g : Answer k → Course l) → IsOrderly f.body → ((a : Answer k) → IsOrderly (g a)) → IsOrderly (called f vs xs es g)
called_orderly {k} f vs xs es g h t =
    let hand = λ (a : Answer k). with_values f.leaves (λ us. Give {k = Both k (Many Item)} (a, us)) in
    values_orderly xs _ (λ ws. (
      stored_orderly f.given vs (stored f.takes ws (and_then f.body hand)) (stored_orderly f.takes ws (and_then f.body hand) (orderly_then f.body hand h (λ a. values_orderly f.leaves _ (λ us. tt)))),
      λ p. stored_orderly es p.1 (g p.0) (t p.0),
    ))

-- The same of courses whose iterations are apart.

pub apart_then : {k l : Sort} (r : Course k) (g : Answer k → Course l) → AreApart r → ((a : Answer k) → AreApart (g a)) → AreApart (and_then r g)
apart_then (Give a) g h t = t a
apart_then Fail g h t = tt
apart_then (Get e f) g h t = λ v. apart_then (f v) g (h v) t
apart_then (Put e v r) g h t = apart_then r g h t
apart_then (Tell u r) g h t = apart_then r g h t
apart_then (Loop n own body r) g h t = (h.0, h.1, apart_then r g h.2 t)
apart_then (Scope p q f) g h t = (h.0, λ a. apart_then (f a) g (h.1 a) t)

pub values_apart : {k : Sort} (es : List Element) (g : List Value → Course k) → ((vs : List Value) → AreApart (g vs)) → AreApart (with_values es g)
values_apart [] g h = h []
values_apart (e ∷ es) g h = λ v. values_apart es (λ vs. g (v ∷ vs)) (λ vs. h (v ∷ vs))

pub wiped_apart : {k : Sort} (es : List Element) (q : Course k) → AreApart q → AreApart (wiped es q)
wiped_apart [] q h = h
wiped_apart (e ∷ es) q h = wiped_apart es q h

pub stored_apart : {k : Sort} (es : List Element) (vs : List Value) (q : Course k) → AreApart q → AreApart (stored es vs q)
stored_apart [] vs q h = h
stored_apart (e ∷ es) [] q h = h
stored_apart (e ∷ es) (v ∷ vs) q h = stored_apart es vs q h

pub called_apart : {k l : Sort} (f : Callee k) (vs : List Value) (xs es : List Element) (g : Answer k → Course l) → AreApart f.body → ((a : Answer k) → AreApart (g a)) → AreApart (called f vs xs es g)
called_apart {k} f vs xs es g h t =
    let hand = λ (a : Answer k). with_values f.leaves (λ us. Give {k = Both k (Many Item)} (a, us)) in
    values_apart xs _ (λ ws. (
      stored_apart f.given vs (stored f.takes ws (and_then f.body hand)) (stored_apart f.takes ws (and_then f.body hand) (apart_then f.body hand h (λ a. values_apart f.leaves _ (λ us. tt)))),
      λ p. stored_apart es p.1 (g p.0) (t p.0),
    ))
