-- Courses that give one answer alone, and courses that leave an element with the value that it had.
use Rattle.std.proofs.Common.{◌≡◌, ℕ, ap, sym, ◌∙◌, subst, List, [], ◌∷◌, Bool, true, false}
use Rattle.std.specs.Prelude.{is_some}
use Rattle.courses.specs.Element.{Value, Element, same_element, Store, put, blank}
use Rattle.courses.specs.Interaction.{Note, Interaction, Done, Trap, Read, Write, Order, Announce, bind, Orders, answer_of, next_of, store_of}
use Rattle.courses.specs.Handlers.{keeping}
use Rattle.courses.specs.Course.{Sort, Answer, Course, Give, Fail, Get, Put, Tell, Scope, and_then, line}
use Rattle.courses.specs.Copying.{wiped, with_values, stored}
use Rattle.courses.specs.Always.{May, Obeys}
use Rattle.courses.specs.Columns.{AnswersOnly}
use Rattle.courses.proofs.Stores.{put-other}
use Rattle.courses.proofs.Binds.{follows}
use Rattle.courses.proofs.Lines.{line_then}
use Rattle.courses.proofs.Allowed.{always_leaves}
use Rattle.courses.proofs.Loops.{some_of}
use Rattle.courses.proofs.Lockstep_laws.{first_ends}

pub answers_bind : {A B : Type 0} (x : B) (r : Interaction A) (k : A → Interaction B) → ((a : A) → AnswersOnly x (k a)) → AnswersOnly x (bind r k)
answers_bind x (Done a) k g = g a
answers_bind x Trap k g = tt
answers_bind x (Read e f) k g = λ v. answers_bind x (f v) k g
answers_bind x (Write e v r) k g = answers_bind x r k g
answers_bind x (Order n f) k g = λ o. answers_bind x (f o) k g
answers_bind x (Announce u r) k g = answers_bind x r k g

-- where the first part gives one answer alone, only what follows this answer counts
pub answers_on : {A B : Type 0} (x : A) (y : B) (r : Interaction A) (k : A → Interaction B) → AnswersOnly x r → AnswersOnly y (k x) → AnswersOnly y (bind r k)
answers_on x y (Done a) k h g = subst (λ t. AnswersOnly y (k t)) (sym h) g
answers_on x y Trap k h g = tt
answers_on x y (Read e f) k h g = λ v. answers_on x y (f v) k (h v) g
answers_on x y (Write e v r) k h g = answers_on x y r k h g
answers_on x y (Order n f) k h g = λ o. answers_on x y (f o) k (h o) g
answers_on x y (Announce u r) k h g = answers_on x y r k h g

pub record GivesOnly {k : Sort} (a : Answer k) (q : Course k) : Type 0 where
  pub gives : AnswersOnly a (line q)

pub gives_then : {k l : Sort} (x : Answer l) (q : Course k) (g : Answer k → Course l) → ((a : Answer k) → GivesOnly {k = l} x (g a)) → GivesOnly {k = l} x (and_then q g)
gives_then x q g t = record { gives = subst (AnswersOnly x) (sym (line_then q g)) (answers_bind x (line q) (λ a. line (g a)) (λ a. (t a).gives)) }

pub gives_on : {k l : Sort} (x : Answer k) (y : Answer l) (q : Course k) (g : Answer k → Course l) → GivesOnly {k = k} x q → GivesOnly {k = l} y (g x) → GivesOnly {k = l} y (and_then q g)
gives_on x y q g h t = record { gives = subst (AnswersOnly y) (sym (line_then q g)) (answers_on x y (line q) (λ a. line (g a)) h.gives t.gives) }

pub gives_values : {k : Sort} (x : Answer k) (es : List Element) (g : List Value → Course k) → ((vs : List Value) → GivesOnly {k = k} x (g vs)) → GivesOnly {k = k} x (with_values es g)
gives_values x [] g t = t []
gives_values x (e ∷ es) g t = record { gives = λ v. (gives_values x es (λ vs. g (v ∷ vs)) (λ vs. t (v ∷ vs))).gives }

pub gives_stored : {k : Sort} (x : Answer k) (es : List Element) (us : List Value) (q : Course k) → GivesOnly {k = k} x q → GivesOnly {k = k} x (stored es us q)
gives_stored x [] us q t = t
gives_stored x (e ∷ es) [] q t = t
gives_stored x (e ∷ es) (u ∷ us) q t = record { gives = (gives_stored x es us q t).gives }

pub gives_wiped : {k : Sort} (x : Answer k) (es : List Element) (q : Course k) → GivesOnly {k = k} x q → GivesOnly {k = k} x (wiped es q)
gives_wiped x [] q t = t
gives_wiped x (e ∷ es) q t = record { gives = (gives_wiped x es q t).gives }

pub gives_scope : {k l : Sort} (x : Answer k) (p : Element → Bool) (q : Course l) (g : Answer l → Course k) → ((a : Answer l) → GivesOnly {k = k} x (g a)) → GivesOnly {k = k} x (Scope p q g)
gives_scope x p q g t = record { gives = answers_bind x (keeping p blank (line q)) (λ a. line (g a)) (λ a. (t a).gives) }

-- an element that holds this value before holds it after, where the course ends
module _ (x : Element) (v : Value) where
  pub record Restores {k : Sort} (q : Course k) : Type 0 where
    pub restores : (o : Orders) (s : Store) (j : ℕ) → s x ≡ v → is_some (answer_of (line q) o s j) ≡ true → store_of (line q) o s j x ≡ v

  pub restores_then : {k l : Sort} (q : Course k) (g : Answer k → Course l) → Restores q → ((a : Answer k) → Restores (g a)) → Restores (and_then q g)
  restores_then q g h t = record {
    restores = λ o s j u e.
        let e' : is_some (answer_of (bind (line q) (λ a. line (g a))) o s j) ≡ true = ap (λ q. is_some (answer_of q o s j)) (sym (line_then q g)) ∙ e in
        let f = first_ends (line q) (λ a. line (g a)) o s j e' in
        let a = some_of (answer_of (line q) o s j) f in
        let fl = follows (line q) (λ a. line (g a)) a.0 o s j a.1 in
        ap (λ q. store_of q o s j x) (line_then q g)
        ∙ ap (λ u. u x) fl.store
        ∙ (t a.0).restores o (store_of (line q) o s j) (next_of (line q) o s j) (h.restores o s j u f) (ap is_some (sym fl.answer) ∙ e');
  }

  -- whatever comes before, a last write settles it
  pub settled_then : {k l : Sort} (q : Course k) (g : Answer k → Course l) → ((a : Answer k) (o : Orders) (s : Store) (j : ℕ) → store_of (line (g a)) o s j x ≡ v) → Restores (and_then q g)
  settled_then q g t = record {
    restores = λ o s j u e.
        let e' : is_some (answer_of (bind (line q) (λ a. line (g a))) o s j) ≡ true = ap (λ q. is_some (answer_of q o s j)) (sym (line_then q g)) ∙ e in
        let a = some_of (answer_of (line q) o s j) (first_ends (line q) (λ a. line (g a)) o s j e') in
        ap (λ q. store_of q o s j x) (line_then q g) ∙ ap (λ u. u x) (follows (line q) (λ a. line (g a)) a.0 o s j a.1).store ∙ t a.0 o _ _;
  }

  pub restores_get : {k : Sort} (e : Element) (f : Value → Course k) → ((w : Value) → Restores (f w)) → Restores (Get e f)
  restores_get e f h = record { restores = λ o s j u q. (h (s e)).restores o s j u q }

  pub restores_put : {k : Sort} (e : Element) (w : Value) (q : Course k) → same_element e x ≡ false → Restores q → Restores (Put e w q)
  restores_put e w q n h = record { restores = λ o s j u t. h.restores o (put s e w) j (put-other s e w x n ∙ u) t }

  pub restores_tell : {k : Sort} (u : Note) (q : Course k) → Restores q → Restores (Tell u q)
  restores_tell u q h = record { restores = h.restores }

  pub restores_give : {k : Sort} (a : Answer k) → Restores {k = k} (Give a)
  restores_give a = record { restores = λ o s j u q. u }

  pub restores_fail : {k : Sort} → Restores {k = k} Fail
  restores_fail = record { restores = λ o s j u q. u }

  -- an element that may not be written stays
  pub restores_obeys : {k : Sort} (m : May) (q : Course k) → Obeys m q → m.write x ≡ false → Restores q
  restores_obeys m q h n = record { restores = λ o s j u t. always_leaves m (line q) o s j x h.obeys n ∙ u }

  pub restores_values : {k : Sort} (es : List Element) (g : List Value → Course k) → ((vs : List Value) → Restores (g vs)) → Restores (with_values es g)
  restores_values [] g t = t []
  restores_values (e ∷ es) g t = restores_get e _ (λ w. restores_values es (λ vs. g (w ∷ vs)) (λ vs. t (w ∷ vs)))

  -- it is none of these
  abbrev pub NoneOf : List Element → Type 0
  NoneOf [] = Unit {0}
  NoneOf (e ∷ es) = (same_element e x ≡ false) × NoneOf es

  pub restores_stored : {k : Sort} (es : List Element) (us : List Value) (q : Course k) → NoneOf es → Restores q → Restores (stored es us q)
  restores_stored [] us q h t = t
  restores_stored (e ∷ es) [] q h t = t
  restores_stored (e ∷ es) (u ∷ us) q h t = restores_put e u _ h.0 (restores_stored es us q h.1 t)

  pub restores_scope : {k l : Sort} (p : Element → Bool) (q : Course l) (g : Answer l → Course k) → ((o : Orders) (s : Store) (j : ℕ) → store_of (keeping p blank (line q)) o s j x ≡ s x) → ((a : Answer l) → Restores (g a)) → Restores (Scope p q g)
  restores_scope p q g h t = record {
    restores = λ o s j u e.
        let r = keeping p blank (line q) in
        let a = some_of (answer_of r o s j) (first_ends r (λ a. line (g a)) o s j e) in
        let fl = follows r (λ a. line (g a)) a.0 o s j a.1 in
        ap (λ u. u x) fl.store ∙ (t a.0).restores o (store_of r o s j) (next_of r o s j) (h o s j ∙ u) (ap is_some (sym fl.answer) ∙ e);
  }
