-- Courses that are alike: without marked loops, and the same but for what they announce. They end alike, whatever the orders.
use Rattle.std.proofs.Common.{◌≡◌, ℕ, refl, ap, sym, ◌∙◌, List, [], ◌++◌, Bool, Option, Some, None}
use mathlib.Core.Path.{ap₂}
use Rattle.courses.specs.Element.{Value, Element, Store, put, blank, merged}
use Rattle.courses.specs.Interaction.{Note, Event, Interaction, Orders, answer_of, next_of, store_of}
use Rattle.courses.specs.Handlers.{keeping}
use Rattle.courses.specs.Course.{Sort, Answer, Course, Give, Fail, Get, Put, Tell, Scope, and_then, line, loop_runs, on_some}
use Rattle.courses.proofs.Binds.{follows, stops}
use Rattle.courses.proofs.Handled.{keeping_run, kept_store}

pub data Alike : (k : Sort) → Course k → Course k → Type 0 where
  gives : {k : Sort} (a : Answer k) → Alike k (Give {k = k} a) (Give {k = k} a)
  fails : {k : Sort} → Alike k (Fail {k = k}) (Fail {k = k})
  gets : {k : Sort} (e : Element) (f g : Value → Course k) → ((v : Value) → Alike k (f v) (g v)) → Alike k (Get e f) (Get e g)
  puts : {k : Sort} (e : Element) (v : Value) (r q : Course k) → Alike k r q → Alike k (Put e v r) (Put e v q)
  tells_left : {k : Sort} (t : Note) (r q : Course k) → Alike k r q → Alike k (Tell t r) q
  tells_right : {k : Sort} (t : Note) (r q : Course k) → Alike k r q → Alike k r (Tell t q)
  scopes : {k l : Sort} (p : Element → Bool) (r q : Course l) (f g : Answer l → Course k) → Alike l r q → ((a : Answer l) → Alike k (f a) (g a)) → Alike k (Scope p r f) (Scope p q g)

pub tells : {k : Sort} (t : Note) (r q : Course k) → Alike k r q → Alike k (Tell t r) (Tell t q)
tells t r q h = tells_left t r (Tell t q) (tells_right t r q h)

pub alike_then : {k l : Sort} (r q : Course k) (f g : Answer k → Course l) → Alike k r q → ((a : Answer k) → Alike l (f a) (g a)) → Alike l (and_then r f) (and_then q g)
alike_then _ _ f g (gives a) h = h a
alike_then _ _ f g fails h = fails
alike_then _ _ f g (gets e r q a) h = gets e _ _ (λ v. alike_then (r v) (q v) f g (a v) h)
alike_then _ _ f g (puts e v r q a) h = puts e v _ _ (alike_then r q f g a h)
alike_then _ _ f g (tells_left t r q a) h = tells_left t _ _ (alike_then r q f g a h)
alike_then _ _ f g (tells_right t r q a) h = tells_right t _ _ (alike_then r q f g a h)
alike_then _ _ f g (scopes p r q x y a b) h = scopes p r q _ _ a (λ w. alike_then (x w) (y w) f g (b w) h)

-- the same answer and store, where they end and where they trap
pub record EndsAlike {k : Sort} (r q : Course k) (o o' : Orders) (s : Store) (j j' : ℕ) : Type 0 where
  pub answer : answer_of (line r) o s j ≡ answer_of (line q) o' s j'
  pub store : store_of (line r) o s j ≡ store_of (line q) o' s j'

module _ {k l : Sort} (p : Element → Bool) (r q : Course l) (f g : Answer l → Course k) (o o' : Orders) (s : Store) (j j' : ℕ)
    (inner : EndsAlike r q o o' (merged p blank s) j j') (rest : (a : Answer l) (t : Store) (i i' : ℕ) → EndsAlike (f a) (g a) o o' t i i') where
  abbrev a : Interaction (Answer l)
  a = keeping p blank (line r)

  abbrev b : Interaction (Answer l)
  b = keeping p blank (line q)

  scope_ends : EndsAlike (Scope p r f) (Scope p q g) o o' s j j'
  scope_ends = go (answer_of a o s j) refl
    where
      answers : answer_of a o s j ≡ answer_of b o' s j'
      answers = (keeping_run p blank (line r) o s j).answer ∙ inner.answer ∙ sym (keeping_run p blank (line q) o' s j').answer

      stores : store_of a o s j ≡ store_of b o' s j'
      stores = kept_store p blank (line r) o s j ∙ ap (merged p s) inner.store ∙ sym (kept_store p blank (line q) o' s j')

      go : (w : Option (Answer l)) → answer_of a o s j ≡ w → EndsAlike (Scope p r f) (Scope p q g) o o' s j j'
      go None e =
          let left = stops a (λ x. line (f x)) o s j e in
          let right = stops b (λ x. line (g x)) o' s j' (sym answers ∙ e) in
          record { answer = left.answer ∙ sym right.answer; store = left.store ∙ stores ∙ sym right.store }
      go (Some x) e =
          let left = follows a (λ x. line (f x)) x o s j e in
          let right = follows b (λ x. line (g x)) x o' s j' (sym answers ∙ e) in
          let t = rest x (store_of a o s j) (next_of a o s j) (next_of b o' s j') in
          record {
            answer = left.answer ∙ t.answer ∙ ap (λ z. answer_of (line (g x)) o' z (next_of b o' s j')) stores ∙ sym right.answer;
            store = left.store ∙ t.store ∙ ap (λ z. store_of (line (g x)) o' z (next_of b o' s j')) stores ∙ sym right.store;
          }

pub ends_alike : {k : Sort} (r q : Course k) → Alike k r q → (o o' : Orders) (s : Store) (j j' : ℕ) → EndsAlike r q o o' s j j'
ends_alike _ _ (gives a) o o' s j j' = record { answer = refl; store = refl }
ends_alike _ _ fails o o' s j j' = record { answer = refl; store = refl }
ends_alike _ _ (gets e f g h) o o' s j j' = let t = ends_alike (f (s e)) (g (s e)) (h (s e)) o o' s j j' in record { answer = t.answer; store = t.store }
ends_alike _ _ (puts e v r q h) o o' s j j' = let t = ends_alike r q h o o' (put s e v) j j' in record { answer = t.answer; store = t.store }
ends_alike _ _ (tells_left n r q h) o o' s j j' = let t = ends_alike r q h o o' s j j' in record { answer = t.answer; store = t.store }
ends_alike _ _ (tells_right n r q h) o o' s j j' = let t = ends_alike r q h o o' s j j' in record { answer = t.answer; store = t.store }
ends_alike _ _ (scopes p r q f g h rest) o o' s j j' =
    scope_ends p r q f g o o' s j j' (ends_alike r q h o o' (merged p blank s) j j') (λ a t i i'. ends_alike (f a) (g a) (rest a) o o' t i i')

none_then : {A : Type 0} (w : Option A) (f : A → List (List (List Event))) → ((a : A) → f a ≡ []) → on_some w [] f ≡ []
none_then None f h = refl
none_then (Some a) f h = h a

-- no loop is run
pub runs_none : {k : Sort} (r q : Course k) → Alike k r q → (o : Orders) (s : Store) (j : ℕ) → loop_runs q o s j ≡ []
runs_none _ _ (gives a) o s j = refl
runs_none _ _ fails o s j = refl
runs_none _ _ (gets e f g h) o s j = runs_none (f (s e)) (g (s e)) (h (s e)) o s j
runs_none _ _ (puts e v r q h) o s j = runs_none r q h o (put s e v) j
runs_none _ _ (tells_left t r q h) o s j = runs_none r q h o s j
runs_none _ _ (tells_right t r q h) o s j = runs_none r q h o s j
runs_none _ _ (scopes p r q f g h rest) o s j =
    ap₂ (λ x y. x ++ y) (runs_none r q h o (merged p blank s) j)
    (none_then (answer_of (keeping p blank (line q)) o s j) (λ a. loop_runs (g a) o (store_of (keeping p blank (line q)) o s j) (next_of (keeping p blank (line q)) o s j))
    (λ a. runs_none (f a) (g a) (rest a) o (store_of (keeping p blank (line q)) o s j) (next_of (keeping p blank (line q)) o s j)))
