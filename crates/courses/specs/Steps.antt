-- Steps that run one after another, in one order or another.
use Rattle.std.specs.Prelude.{◌≡◌, ℕ, List, [], ◌∷◌, Bool, true, false, ◌&&◌, ◌||◌, nat_eq, if◌then◌else◌, is_some}
use Rattle.courses.specs.Element.{Store}
use Rattle.courses.specs.Interaction.{Event, Interaction, Orders, answer_of, log_of, store_of}
use Rattle.courses.specs.Logs.{Clear}

-- the steps by number, and the orders and the first number that the marked loops inside each take
pub record Steps (A : Type 0) : Type 0 where
  pub step : ℕ → Interaction A
  pub orders : Orders
  pub first : ℕ

-- one step from a store: whether it ends, its log, and the store that it leaves
abbrev pub ends : {A : Type 0} → Steps A → ℕ → Store → Bool
ends w i s = is_some (answer_of (w.step i) w.orders s w.first)

abbrev pub trace : {A : Type 0} → Steps A → ℕ → Store → List Event
trace w i s = log_of (w.step i) w.orders s w.first

abbrev pub after : {A : Type 0} → Steps A → ℕ → Store → Store
after w i s = store_of (w.step i) w.orders s w.first

-- no step traps, each starting from the store that the one before it left
abbrev pub all_end : {A : Type 0} → Steps A → List ℕ → Store → Bool
all_end w [] s = true
all_end w (i ∷ is) s = ends w i s && all_end w is (after w i s)

abbrev pub after_all : {A : Type 0} → Steps A → List ℕ → Store → Store
after_all w [] s = s
after_all w (i ∷ is) s = after_all w is (after w i s)

-- the log of one step in the run of them all
abbrev pub log_in : {A : Type 0} → Steps A → List ℕ → Store → ℕ → List Event
log_in w [] s k = []
log_in w (i ∷ is) s k = if nat_eq i k then trace w i s else log_in w is (after w i s) k

abbrev pub member : ℕ → List ℕ → Bool
member k [] = false
member k (i ∷ is) = nat_eq i k || member k is

abbrev pub Distinct : List ℕ → Type 0
Distinct [] = Unit {0}
Distinct (i ∷ is) = (member i is ≡ false) × Distinct is

-- one stands before the other
abbrev pub before : ℕ → ℕ → List ℕ → Bool
before j k [] = false
before j k (i ∷ is) = if nat_eq i j then member k is else before j k is

-- the same steps, each once
pub record SameSteps (xs ys : List ℕ) : Type 0 where
  pub once : Distinct xs
  pub once' : Distinct ys
  pub members : (k : ℕ) → member k xs ≡ member k ys

-- in the run of the first list no step traps, and two steps whose order differs in the second are clear of one another
pub record MayReorder {A : Type 0} (w : Steps A) (s : Store) (xs ys : List ℕ) : Type 0 where
  pub ends : all_end w xs s ≡ true
  pub clear : (j k : ℕ) → before j k xs ≡ true → before k j ys ≡ true → Clear (log_in w xs s j) (log_in w xs s k)

-- the second list runs without a trap, leaves an equal store, and each step does what it did
pub record SameRun {A : Type 0} (w : Steps A) (s : Store) (xs ys : List ℕ) : Type 0 where
  pub ends : all_end w ys s ≡ true
  pub store : after_all w ys s ≡ after_all w xs s
  pub logs : (k : ℕ) → log_in w ys s k ≡ log_in w xs s k
