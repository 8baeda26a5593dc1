-- A course with its marked loops woven by a schedule, and what makes a loop safe to weave.
use Rattle.std.specs.Prelude.{◌≡◌, ℕ, List, [], ◌∷◌, Bool, true, false, nat_eq, if◌then◌else◌, is_some, Option, Some, None}
use Rattle.courses.specs.Element.{Value, Element, Store, put, merged, blank}
use Rattle.courses.specs.Ranges.{up_from}
use Rattle.courses.specs.Interaction.{Event, Interaction, Done, Trap, Read, Write, Announce, bind, Orders, answer_of, log_of, store_of}
use Rattle.courses.specs.Logs.{others, Clear, IsPrefixOf}
use Rattle.courses.specs.Steps.{Steps, trace, member, SameSteps}
use Rattle.courses.specs.Handlers.{keeping, Forgets, IsSettled}
use Rattle.courses.specs.Interleaving.{start, scheduled, woven, all_ended, weave}
use Rattle.courses.specs.Course.{Sort, Nothing, Answer, Course, Give, Fail, Get, Put, Tell, Loop, Scope, line, on_some}

-- each marked loop runs each of its iterations once
abbrev pub IsFair : Orders → Type 0
IsFair o = (j n : ℕ) → SameSteps (up_from 0 n) (o j n)

-- increasing order, whatever the loop
abbrev pub rising : Orders
rising j n = up_from 0 n

-- the iterations of a marked loop, each with what is its own; a marked loop inside runs in increasing order
abbrev pub iterations_of : (Element → Bool) → (ℕ → Course Nothing) → Steps (Unit {0})
iterations_of own body = record { step = λ i. keeping own blank (line (body i)); orders = rising; first = 0 }

-- a call weaves the loops of the callee over the one store and the callee's own elements
abbrev mutual
  pub answer_woven : {k : Sort} → Course k → List ℕ → Store → Option (Answer k)
  answer_woven (Give a) ks s = Some a
  answer_woven Fail ks s = None
  answer_woven (Get e f) ks s = answer_woven (f (s e)) ks s
  answer_woven (Put e v r) ks s = answer_woven r ks (put s e v)
  answer_woven (Tell t r) ks s = answer_woven r ks s
  answer_woven (Loop n own body r) ks s =
      let d = woven (iterations_of own body) (up_from 0 n) ks s in
      if all_ended d (up_from 0 n) then answer_woven r ks d.store else None
  answer_woven (Scope p q h) ks s =
      on_some (answer_woven q ks (merged p blank s)) None (λ a. answer_woven (h a) ks (merged p s (store_woven q ks (merged p blank s))))

  pub store_woven : {k : Sort} → Course k → List ℕ → Store → Store
  store_woven (Give a) ks s = s
  store_woven Fail ks s = s
  store_woven (Get e f) ks s = store_woven (f (s e)) ks s
  store_woven (Put e v r) ks s = store_woven r ks (put s e v)
  store_woven (Tell t r) ks s = store_woven r ks s
  store_woven (Loop n own body r) ks s =
      let d = woven (iterations_of own body) (up_from 0 n) ks s in
      if all_ended d (up_from 0 n) then store_woven r ks d.store else d.store
  store_woven (Scope p q h) ks s =
      let t = merged p s (store_woven q ks (merged p blank s)) in
      on_some (answer_woven q ks (merged p blank s)) t (λ a. store_woven (h a) ks t)

-- in each marked loop each iteration makes a prefix of what it makes alone from the loop's opening store
abbrev pub Prefixes : {k : Sort} → Course k → List ℕ → Store → Type 0
Prefixes (Give a) ks s = Unit {0}
Prefixes Fail ks s = Unit {0}
Prefixes (Get e f) ks s = Prefixes (f (s e)) ks s
Prefixes (Put e v r) ks s = Prefixes r ks (put s e v)
Prefixes (Tell t r) ks s = Prefixes r ks s
Prefixes (Loop n own body r) ks s =
    let w = iterations_of own body in
    let xs = up_from 0 n in
    ((i : ℕ) → member i xs ≡ true → IsPrefixOf ((scheduled w.orders xs ks (start w s)).log i) (trace w i s))
    × (all_ended (woven w xs ks s) xs ≡ true → Prefixes r ks (woven w xs ks s).store)
Prefixes (Scope p q h) ks s =
    Prefixes q ks (merged p blank s)
    × ((a : Answer _) → answer_woven q ks (merged p blank s) ≡ Some a → Prefixes (h a) ks (merged p s (store_woven q ks (merged p blank s))))

-- whatever they start from, no two iterations touch one element that isn't their own, unless both only read it
abbrev pub IsApart : (Element → Bool) → (ℕ → Interaction (Unit {0})) → Type 0
IsApart own step =
    (i k : ℕ) (o o' : Orders) (s s' : Store) (j j' : ℕ) → nat_eq i k ≡ false → Clear (others own (log_of (step i) o s j)) (others own (log_of (step k) o' s' j'))

-- whatever the replies: the iterations of each marked loop are apart, ask for no order, and neither they nor the rest
-- depend on what the iterations' own elements held before
abbrev pub IsOrderly : {k : Sort} → Course k → Type 0
IsOrderly (Give a) = Unit {0}
IsOrderly Fail = Unit {0}
IsOrderly (Get e f) = (v : Value) → IsOrderly (f v)
IsOrderly (Put e v r) = IsOrderly r
IsOrderly (Tell t r) = IsOrderly r
IsOrderly (Loop n own body r) =
    IsApart own (λ i. line (body i)) × ((i : ℕ) → IsSettled (line (body i))) × ((i : ℕ) → Forgets own (line (body i))) × Forgets own (line r) × ((i : ℕ) → IsOrderly (body i)) × IsOrderly r
IsOrderly (Scope p q h) = IsOrderly q × ((a : Answer _) → IsOrderly (h a))

-- whatever the replies: the iterations of each marked loop are apart, those of loops inside loops and inside callees too
abbrev pub AreApart : {k : Sort} → Course k → Type 0
AreApart (Give a) = Unit {0}
AreApart Fail = Unit {0}
AreApart (Get e f) = (v : Value) → AreApart (f v)
AreApart (Put e v r) = AreApart r
AreApart (Tell t r) = AreApart r
AreApart (Loop n own body r) = IsApart own (λ i. line (body i)) × ((i : ℕ) → AreApart (body i)) × AreApart r
AreApart (Scope p q h) = AreApart q × ((a : Answer _) → AreApart (h a))

-- a loop run whose iterations are clear of one another
abbrev pub ClearOfAll : List Event → List (List Event) → Type 0
ClearOfAll ts [] = Unit {0}
ClearOfAll ts (us ∷ uss) = Clear ts us × ClearOfAll ts uss

abbrev pub Apart : List (List Event) → Type 0
Apart [] = Unit {0}
Apart (ts ∷ tss) = ClearOfAll ts tss × Apart tss

abbrev pub AllApart : List (List (List Event)) → Type 0
AllApart [] = Unit {0}
AllApart (run ∷ runs) = Apart run × AllApart runs

-- under the schedule the course ends or traps as under these orders, and leaves the same store
pub record WovenAlike {k : Sort} (q : Course k) (ks : List ℕ) (o : Orders) (s : Store) (j : ℕ) : Type 0 where
  pub answer : answer_woven q ks s ≡ answer_of (line q) o s j
  pub store : is_some (answer_of (line q) o s j) ≡ true → store_woven q ks s ≡ store_of (line q) o s j
  pub prefix : Prefixes q ks s

-- the course under a schedule as one line of accesses, which differs from `line` at a marked loop alone
abbrev pub woven_line : {k : Sort} → Course k → List ℕ → Interaction (Answer k)
woven_line (Give a) ks = Done a
woven_line Fail ks = Trap
woven_line (Get e f) ks = Read e (λ v. woven_line (f v) ks)
woven_line (Put e v r) ks = Write e v (woven_line r ks)
woven_line (Tell t r) ks = Announce t (woven_line r ks)
woven_line (Loop n own body r) ks = bind (weave (tt {0}) (up_from 0 n) ks (λ i. keeping own blank (line (body i)))) (λ u. woven_line r ks)
woven_line (Scope p q h) ks = bind (keeping p blank (woven_line q ks)) (λ a. woven_line (h a) ks)

-- the one line does what the other does, whatever the schedule and the orders
pub record LinesAlike {k : Sort} (q : Course k) (ks : List ℕ) (o : Orders) (s : Store) (j : ℕ) : Type 0 where
  pub answer : answer_of (woven_line q ks) rising s j ≡ answer_of (line q) o s j
  pub store : is_some (answer_of (line q) o s j) ≡ true → store_of (woven_line q ks) rising s j ≡ store_of (line q) o s j
