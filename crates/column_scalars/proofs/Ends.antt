-- How a run ends, as one value: none where it traps.
use Rattle.std.proofs.Common.{◌≡◌, ℕ, suc, refl, ap, ◌∙◌, Option, Some, None}
use Rattle.std.specs.Option.{option_and_then, option_map}
use Rattle.courses.specs.Element.{Store, put}
use Rattle.courses.specs.Interaction.{Interaction, Done, Trap, Read, Write, Order, Announce, bind, Orders, answer_of, store_of}
use Rattle.courses.specs.Course.{Sort, Answer, Course, Signal, and_then, line}
use Rattle.courses.proofs.Lines.{line_then}
use Rattle.claw_meaning.specs.Syntax.{Stmts}
use Rattle.claw_meaning.specs.Scene.{Scene}
use Rattle.claw_meaning.specs.Statements.{meanings}
use Rattle.column_scalars.specs.Model.{DoesAs}

-- the answer, the store, and the number of the next marked loop
pub record End (A : Type 0) : Type 0 where
  pub answer : A
  pub store : Store
  pub next : ℕ

abbrev pub end_of : {A : Type 0} → Interaction A → Orders → Store → ℕ → Option (End A)
end_of (Done a) o s j = Some (record { answer = a; store = s; next = j })
end_of Trap o s j = None
end_of (Read e f) o s j = end_of (f (s e)) o s j
end_of (Write e v r) o s j = end_of r o (put s e v) j
end_of (Order n f) o s j = end_of (f (o j n)) o s (suc j)
end_of (Announce u r) o s j = end_of r o s j

pub end_bind : {A B : Type 0} (r : Interaction A) (k : A → Interaction B) (o : Orders) (s : Store) (j : ℕ) → end_of (bind r k) o s j ≡ option_and_then (λ x. end_of (k x.answer) o x.store x.next) (end_of r o s j)
end_bind (Done a) k o s j = refl
end_bind Trap k o s j = refl
end_bind (Read e f) k o s j = end_bind (f (s e)) k o s j
end_bind (Write e v r) k o s j = end_bind r k o (put s e v) j
end_bind (Order n f) k o s j = end_bind (f (o j n)) k o s (suc j)
end_bind (Announce u r) k o s j = end_bind r k o s j

abbrev pub ending : {k : Sort} → Course k → Orders → Store → ℕ → Option (End (Answer k))
ending q o s j = end_of (line q) o s j

pub ending_then : {k l : Sort} (q : Course k) (g : Answer k → Course l) (o : Orders) (s : Store) (j : ℕ) → ending (and_then q g) o s j ≡ option_and_then (λ x. ending (g x.answer) o x.store x.next) (ending q o s j)
ending_then q g o s j = ap (λ r. end_of r o s j) (line_then q g) ∙ end_bind (line q) (λ a. line (g a)) o s j

pub answer_is : {A : Type 0} (r : Interaction A) (o : Orders) (s : Store) (j : ℕ) → answer_of r o s j ≡ option_map (λ x. x.answer) (end_of r o s j)
answer_is (Done a) o s j = refl
answer_is Trap o s j = refl
answer_is (Read e f) o s j = answer_is (f (s e)) o s j
answer_is (Write e v r) o s j = answer_is r o (put s e v) j
answer_is (Order n f) o s j = answer_is (f (o j n)) o s (suc j)
answer_is (Announce u r) o s j = answer_is r o s j

some_is : {A : Type 0} (a b : A) → Some a ≡ Some b → a ≡ b
some_is a b e = cc

pub store_is : {A : Type 0} (r : Interaction A) (o : Orders) (s : Store) (j : ℕ) (x : End A) → end_of r o s j ≡ Some x → store_of r o s j ≡ x.store
store_is (Done a) o s j x h = ap (λ y. y.store) (some_is _ x h)
store_is Trap o s j x h = absurd (cc)
store_is (Read e f) o s j x h = store_is (f (s e)) o s j x h
store_is (Write e v r) o s j x h = store_is r o (put s e v) j x h
store_is (Order n f) o s j x h = store_is (f (o j n)) o s (suc j) x h
store_is (Announce u r) o s j x h = store_is r o s j x h

-- it ends with this answer in this store, or traps where there is none
abbrev pub ended : {A : Type 0} → A → ℕ → Option Store → Option (End A)
ended a j result = option_map (λ t. record { answer = a; store = t; next = j }) result

answers : {A : Type 0} (a : A) (j : ℕ) (result : Option Store) → option_map (λ x. x.answer) (ended a j result) ≡ option_map (λ t. a) result
answers a j None = refl
answers a j (Some t) = refl

pub does_as : (signal : Signal) (statements : Stmts) (c : Scene) (o : Orders) (s : Store) (j : ℕ) (result : Option Store) → ending (meanings c statements) o s j ≡ ended signal j result → DoesAs signal statements c o s j result
does_as signal statements c o s j result h = record {
  answer = answer_is (line (meanings c statements)) o s j ∙ ap (option_map (λ x. x.answer)) h ∙ answers signal j result;
  store = λ t e. store_is (line (meanings c statements)) o s j (record { answer = signal; store = t; next = j }) (h ∙ ap (ended signal j) e);
}
