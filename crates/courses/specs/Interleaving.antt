-- Interleavings: iterations that take turns on one store, one access at a time, as a schedule says.
use Rattle.std.specs.Prelude.{◌≡◌, ℕ, suc, List, [], ◌∷◌, ◌++◌, Bool, true, false, ◌&&◌, nat_eq, if◌then◌else◌}
use Rattle.courses.specs.Element.{Store, put}
use Rattle.courses.specs.Interaction.{Event, Reads, Writes, Announces, Interaction, Done, Trap, Read, Write, Order, Announce, bind, Orders, log_of, store_of}
use Rattle.courses.specs.Logs.{Clear, IsPrefixOf}
use Rattle.courses.specs.Steps.{Steps, ends, trace, after_all, member, Distinct}

-- what is left of an interaction after its next access, and the number of its next marked loop
abbrev pub access_rest : {A : Type 0} → Interaction A → Orders → Store → ℕ → Interaction A
access_rest (Done a) o s j = Done a
access_rest Trap o s j = Trap
access_rest (Read e f) o s j = f (s e)
access_rest (Write e v r) o s j = r
access_rest (Order n f) o s j = access_rest (f (o j n)) o s (suc j)
access_rest (Announce t r) o s j = access_rest r o s j

abbrev pub access_number : {A : Type 0} → Interaction A → Orders → Store → ℕ → ℕ
access_number (Done a) o s j = j
access_number Trap o s j = j
access_number (Read e f) o s j = j
access_number (Write e v r) o s j = j
access_number (Order n f) o s j = access_number (f (o j n)) o s (suc j)
access_number (Announce t r) o s j = access_number r o s j

-- the store after the next access, and the log of it, with what is announced before it
abbrev pub access_store : {A : Type 0} → Interaction A → Orders → Store → ℕ → Store
access_store (Done a) o s j = s
access_store Trap o s j = s
access_store (Read e f) o s j = s
access_store (Write e v r) o s j = put s e v
access_store (Order n f) o s j = access_store (f (o j n)) o s (suc j)
access_store (Announce t r) o s j = access_store r o s j

abbrev pub access_log : {A : Type 0} → Interaction A → Orders → Store → ℕ → List Event
access_log (Done a) o s j = []
access_log Trap o s j = []
access_log (Read e f) o s j = Reads e ∷ []
access_log (Write e v r) o s j = Writes e ∷ []
access_log (Order n f) o s j = access_log (f (o j n)) o s (suc j)
access_log (Announce t r) o s j = Announces t ∷ access_log r o s j

-- what is left after all accesses: the answer or the trap
abbrev pub run_out : {A : Type 0} → Interaction A → Orders → Store → ℕ → Interaction A
run_out (Done a) o s j = Done a
run_out Trap o s j = Trap
run_out (Read e f) o s j = run_out (f (s e)) o s j
run_out (Write e v r) o s j = run_out r o (put s e v) j
run_out (Order n f) o s j = run_out (f (o j n)) o s (suc j)
run_out (Announce t r) o s j = run_out r o s j

-- what is left of each iteration, the numbers of their next marked loops and their logs, and the one store
pub record Interleaving (A : Type 0) : Type 0 where
  pub run : ℕ → Interaction A
  pub number : ℕ → ℕ
  pub log : ℕ → List Event
  pub store : Store

abbrev pub at_number : {X : Type 0} → (ℕ → X) → ℕ → X → ℕ → X
at_number f k x i = if nat_eq k i then x else f i

abbrev pub start : {A : Type 0} → Steps A → Store → Interleaving A
start w s = record { run = w.step; number = λ k. w.first; log = λ k. []; store = s }

-- after iteration k has come to this rest, number and store, with these events
abbrev pub moved : {A : Type 0} → Interleaving A → ℕ → Interaction A → ℕ → List Event → Store → Interleaving A
moved d k r n ts f = record {
  run = at_number d.run k r;
  number = at_number d.number k n;
  log = at_number d.log k (d.log k ++ ts);
  store = f;
}

-- one iteration goes on through its next access
unfoldable pub goes_on : {A : Type 0} → Orders → Interleaving A → ℕ → Interleaving A
goes_on o d k =
    let r = d.run k in let n = d.number k in
    moved d k (access_rest r o d.store n) (access_number r o d.store n) (access_log r o d.store n) (access_store r o d.store n)

-- one iteration runs to its end
unfoldable pub ends_up : {A : Type 0} → Orders → Interleaving A → ℕ → Interleaving A
ends_up o d k =
    let r = d.run k in let n = d.number k in
    moved d k (run_out r o d.store n) n (log_of r o d.store n) (store_of r o d.store n)

-- the iterations xs under the schedule: a word that names none of them does nothing
abbrev pub scheduled : {A : Type 0} → Orders → List ℕ → List ℕ → Interleaving A → Interleaving A
scheduled o xs [] d = d
scheduled o xs (k ∷ ks) d = scheduled o xs ks (if member k xs then goes_on o d k else d)

abbrev pub finished : {A : Type 0} → Orders → List ℕ → Interleaving A → Interleaving A
finished o [] d = d
finished o (k ∷ ks) d = finished o ks (ends_up o d k)

-- the iterations of a loop under a schedule, and then to their ends
abbrev pub woven : {A : Type 0} → Steps A → List ℕ → List ℕ → Store → Interleaving A
woven w xs ks s = finished w.orders xs (scheduled w.orders xs ks (start w s))

abbrev pub has_ended : {A : Type 0} → Interaction A → Bool
has_ended (Done a) = true
has_ended _ = false

abbrev pub all_ended : {A : Type 0} → Interleaving A → List ℕ → Bool
all_ended d [] = true
all_ended d (k ∷ ks) = has_ended (d.run k) && all_ended d ks

-- no iteration traps, each alone from the opening store
abbrev pub each_ends : {A : Type 0} → Steps A → List ℕ → Store → Bool
each_ends w [] s = true
each_ends w (k ∷ ks) s = ends w k s && each_ends w ks s

-- run alone from the store, no two iterations touch one element unless both only read it
abbrev pub AllClear : {A : Type 0} → Steps A → List ℕ → Store → Type 0
AllClear w xs s = (j k : ℕ) → member j xs ≡ true → member k xs ≡ true → nat_eq j k ≡ false → Clear (trace w j s) (trace w k s)

pub record WovenWell {A : Type 0} (w : Steps A) (xs ks : List ℕ) (s : Store) : Type 0 where
  -- at each moment an iteration has done a prefix of what it does alone, and in the end all of it
  pub prefix : (k : ℕ) → member k xs ≡ true → IsPrefixOf ((scheduled w.orders xs ks (start w s)).log k) (trace w k s)
  pub whole : (k : ℕ) → member k xs ≡ true → (woven w xs ks s).log k ≡ trace w k s
  -- it traps exactly where some iteration traps alone
  pub ends : all_ended (woven w xs ks s) xs ≡ each_ends w xs s
  -- and leaves the store that any order leaves
  pub store : (ys : List ℕ) → Distinct ys → ((k : ℕ) → member k xs ≡ member k ys) → (woven w xs ks s).store ≡ after_all w ys s

-- an interaction goes on through its next access, and then the rest is handed on
abbrev pub advance : {A B : Type 0} → Interaction A → (Interaction A → Interaction B) → Interaction B
advance (Done a) k = k (Done a)
advance Trap k = Trap
advance (Read e f) k = Read e (λ v. k (f v))
advance (Write e v r) k = Write e v (k r)
advance (Order n f) k = Order n (λ o. advance (f o) k)
advance (Announce t r) k = Announce t (advance r k)

abbrev pub to_ends : {A B : Type 0} → B → List ℕ → (ℕ → Interaction A) → Interaction B
to_ends b [] th = Done b
to_ends b (k ∷ ks) th = bind (th k) (λ a. to_ends b ks th)

-- the iterations under the schedule and then to their ends, as one interaction that answers b
abbrev pub weave : {A B : Type 0} → B → List ℕ → List ℕ → (ℕ → Interaction A) → Interaction B
weave b xs [] th = to_ends b xs th
weave b xs (k ∷ ks) th =
    if member k xs then advance (th k) (λ r. weave b xs ks (at_number th k r)) else weave b xs ks th
