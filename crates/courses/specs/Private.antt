-- Steps that have elements of their own, in one order or another.
use Rattle.std.specs.Prelude.{◌≡◌, ℕ, List, [], ◌∷◌, Bool, true, false, nat_eq, if◌then◌else◌, is_some}
use Rattle.courses.specs.Element.{Element, Store}
use Rattle.courses.specs.Interaction.{Event, Interaction, Orders, answer_of, next_of, log_of, store_of}
use Rattle.courses.specs.Logs.{Clear, others}
use Rattle.courses.specs.Steps.{before}
use Rattle.courses.specs.Course.{all_of}

-- equal but for what is own
abbrev pub AgreeBut : (Element → Bool) → Store → Store → Type 0
AgreeBut own t s = (e : Element) → own e ≡ false → t e ≡ s e

-- the log of one step in the run of them all on the one store
abbrev pub log_run : (ℕ → Interaction (Unit {0})) → List ℕ → Orders → Store → ℕ → ℕ → List Event
log_run step [] o s j k = []
log_run step (i ∷ is) o s j k = if nat_eq i k then log_of (step i) o s j else log_run step is o (store_of (step i) o s j) (next_of (step i) o s j) k

-- in the run of the first list no step traps, and two steps whose order differs in the second are clear of one another,
-- what is own set aside
pub record MayReorderBut (own : Element → Bool) (step : ℕ → Interaction (Unit {0})) (o : Orders) (s : Store) (j : ℕ) (xs ys : List ℕ) : Type 0 where
  pub ends : is_some (answer_of (all_of step xs) o s j) ≡ true
  pub clear : (i k : ℕ) → before i k xs ≡ true → before k i ys ≡ true → Clear (others own (log_run step xs o s j i)) (others own (log_run step xs o s j k))

-- the second list runs without a trap, leaves an equal store but for what is own, and each step touches what it did
pub record SameRunBut (own : Element → Bool) (step : ℕ → Interaction (Unit {0})) (o : Orders) (s : Store) (j : ℕ) (xs ys : List ℕ) : Type 0 where
  pub ends : is_some (answer_of (all_of step ys) o s j) ≡ true
  pub store : AgreeBut own (store_of (all_of step ys) o s j) (store_of (all_of step xs) o s j)
  pub logs : (k : ℕ) → others own (log_run step ys o s j k) ≡ others own (log_run step xs o s j k)
