-- Courses: what a program does, with its marked loops and calls as nodes; and its readings in one line and as loop runs.
use Rattle.std.specs.Prelude.{ℕ, suc, ℤ, List, [], ◌∷◌, ◌++◌, Bool, if◌then◌else◌, is_some, Option, Some, None}
use Rattle.courses.specs.Element.{merged, blank, Value, Element, Store, put}
use Rattle.courses.specs.Interaction.{Event, Note, Interaction, Done, Trap, Read, Write, Order, Announce, bind, Orders, answer_of, next_of, log_of, store_of}
use Rattle.courses.specs.Logs.{others}
use Rattle.courses.specs.Handlers.{keeping}

-- how a statement ends
pub data Signal : Type 0 where
  Normal : Signal
  Exits : Signal
  Cycles : Signal
  -- the unit ends
  Returns : Signal

-- what a part of a program answers: codes for types, so that courses of all answers are one type
pub data Sort : Type 0 where
  Nothing : Sort
  Number : Sort
  Count : Sort
  Item : Sort
  Way : Sort
  Elements : Sort
  Many : Sort → Sort
  Both : Sort → Sort → Sort
  Maybe : Sort → Sort

abbrev pub Answer : Sort → Type 0
Answer Nothing = Unit {0}
Answer Number = ℤ
Answer Count = ℕ
Answer Item = Value
Answer Way = Signal
Answer Elements = List Element
Answer (Many k) = List (Answer k)
Answer (Both k l) = Answer k × Answer l
Answer (Maybe k) = Option (Answer k)

-- the course of a part of a program: what it does next, and how it goes on after each reply
pub data Course : Sort → Type 0 where
  Give : {k : Sort} → Answer k → Course k
  Fail : {k : Sort} → Course k
  Get : {k : Sort} → Element → (Value → Course k) → Course k
  Put : {k : Sort} → Element → Value → Course k → Course k
  Tell : {k : Sort} → Note → Course k → Course k
  -- a marked loop: its count, what is each iteration's own, its iterations by number, and the rest
  Loop : {k : Sort} → ℕ → (Element → Bool) → (ℕ → Course Nothing) → Course k → Course k
  -- a call: the callee's own elements, its course on them, and what goes on with its answer
  Scope : {k l : Sort} → (Element → Bool) → Course l → (Answer l → Course k) → Course k

abbrev pub and_then : {k l : Sort} → Course k → (Answer k → Course l) → Course l
and_then (Give a) g = g a
and_then Fail g = Fail
and_then (Get e f) g = Get e (λ v. and_then (f v) g)
and_then (Put e v r) g = Put e v (and_then r g)
and_then (Tell t r) g = Tell t (and_then r g)
and_then (Loop n own body r) g = Loop n own body (and_then r g)
and_then (Scope p q h) g = Scope p q (λ a. and_then (h a) g)

-- steps by number, one after another, and then the rest
abbrev pub in_order : {A : Type 0} → (ℕ → Interaction (Unit {0})) → List ℕ → Interaction A → Interaction A
in_order step [] r = r
in_order step (i ∷ is) r = bind (step i) (λ u. in_order step is r)

-- the steps alone
abbrev pub all_of : (ℕ → Interaction (Unit {0})) → List ℕ → Interaction (Unit {0})
all_of step is = in_order step is (Done tt)

-- the course as one line of accesses, in which a marked loop asks for its order
abbrev pub line : {k : Sort} → Course k → Interaction (Answer k)
line (Give a) = Done a
line Fail = Trap
line (Get e f) = Read e (λ v. line (f v))
line (Put e v r) = Write e v (line r)
line (Tell t r) = Announce t (line r)
line (Loop n own body r) = Order n (λ is. in_order (λ i. line (body i)) is (line r))
line (Scope p q h) = bind (keeping p blank (line q)) (λ a. line (h a))

-- a loop run: for each iteration, in the order that was taken, up to a trap, what it touches
abbrev pub loop_run : (Element → Bool) → (ℕ → Interaction (Unit {0})) → List ℕ → Orders → Store → ℕ → List (List Event)
loop_run own step [] o s j = []
loop_run own step (i ∷ is) o s j =
    others own (log_of (step i) o s j)
    ∷ (if is_some (answer_of (step i) o s j) then loop_run own step is o (store_of (step i) o s j) (next_of (step i) o s j) else [])

-- the loop runs inside the iterations
abbrev pub inner_runs : (ℕ → Interaction (Unit {0})) → (ℕ → Orders → Store → ℕ → List (List (List Event))) → List ℕ → Orders → Store → ℕ → List (List (List Event))
inner_runs step inner [] o s j = []
inner_runs step inner (i ∷ is) o s j =
    inner i o s j
    ++ (if is_some (answer_of (step i) o s j) then inner_runs step inner is o (store_of (step i) o s j) (next_of (step i) o s j) else [])

abbrev pub on_some : {A B : Type 0} → Option A → B → (A → B) → B
on_some None b f = b
on_some (Some a) b f = f a

-- all loop runs of a course, up to a trap
abbrev pub loop_runs : {k : Sort} → Course k → Orders → Store → ℕ → List (List (List Event))
loop_runs (Give a) o s j = []
loop_runs Fail o s j = []
loop_runs (Get e f) o s j = loop_runs (f (s e)) o s j
loop_runs (Put e v r) o s j = loop_runs r o (put s e v) j
loop_runs (Tell t r) o s j = loop_runs r o s j
loop_runs (Loop n own body r) o s j =
    let step = λ (i : ℕ). line (body i) in
    let all = all_of step (o j n) in
    loop_run own step (o j n) o s (suc j)
    ∷ (inner_runs step (λ i. loop_runs (body i)) (o j n) o s (suc j)
    ++ (if is_some (answer_of all o s (suc j)) then loop_runs r o (store_of all o s (suc j)) (next_of all o s (suc j)) else []))
loop_runs (Scope p q h) o s j =
    let r = keeping p blank (line q) in
    loop_runs q o (merged p blank s) j
    ++ on_some (answer_of r o s j) [] (λ a. loop_runs (h a) o (store_of r o s j) (next_of r o s j))
