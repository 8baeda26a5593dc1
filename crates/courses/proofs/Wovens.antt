-- An orderly course does the same under every schedule as under every order, and its loop runs are apart.
use Rattle.std.proofs.Common.{◌≡◌, ℕ, suc, refl, ap, sym, ◌∙◌, subst, List, [], ◌∷◌, ◌++◌, Bool, true, false, ◌&&◌, eqb, eq-eqb, Option, Some, None}
use Rattle.std.specs.Prelude.{is_some, if◌then◌else◌}
use Rattle.std.proofs.lemmas.Bool.{eqb-true, false≢true}
use Rattle.courses.specs.Element.{Element, Store, put, merged, blank}
use Rattle.courses.specs.Ranges.{up_from}
use Rattle.courses.specs.Interaction.{Event, Interaction, Done, bind, Orders, answer_of, next_of, store_of}
use Rattle.courses.specs.Steps.{Steps, ends, after_all, member, SameSteps}
use Rattle.courses.specs.Handlers.{KeptAside, keeping}
use Rattle.courses.specs.Interleaving.{woven, all_ended, each_ends, WovenWell}
use Rattle.courses.specs.Course.{Sort, Nothing, Answer, Course, Give, Fail, Get, Put, Tell, Loop, Scope, on_some, in_order, all_of, line, loop_runs, inner_runs}
use Rattle.courses.specs.Weaving.{IsFair, rising, iterations_of, answer_woven, store_woven, Prefixes, IsOrderly, AllApart, AreApart, WovenAlike}
use Rattle.courses.proofs.Alike.{or_left, or_right}
use Rattle.courses.proofs.Lines.{in_order_bind}
use Rattle.courses.proofs.Binds.{follows, stops}
use Rattle.courses.proofs.Handled.{keeping_run, kept_store}
use Rattle.courses.proofs.Weaves.{woven_well}
use Rattle.courses.proofs.Independent.{independent}
use Rattle.courses.proofs.Loops.{not_some, some_of, agree_merged, alone, AllAlone, all_alone, all_clear, run_apart}

pub all_each : {A : Type 0} (w : Steps A) (s : Store) (ks : List ℕ) → ((k : ℕ) → member k ks ≡ true → ends w k s ≡ true) → each_ends w ks s ≡ true
all_each w s [] h = refl
all_each w s (k ∷ ks) h = rw (h k (or_left _ _ (eq-eqb k k refl))) (all_each w s ks (λ i m. h i (or_right (eqb k i) _ m)))

pub one_fails : {A : Type 0} (w : Steps A) (s : Store) (ks : List ℕ) (k : ℕ) → member k ks ≡ true → ends w k s ≡ false → each_ends w ks s ≡ false
one_fails w s [] k m h = absurd (false≢true m)
one_fails w s (x ∷ ks) k m h = go (ends w x s) (eqb x k) refl refl (one_fails w s ks k)
  where
    go : (a b : Bool) → ends w x s ≡ a → eqb x k ≡ b → (member k ks ≡ true → ends w k s ≡ false → each_ends w ks s ≡ false) → ends w x s && each_ends w ks s ≡ false
    go false b p q ih = rw p
    go true true p q ih = absurd (false≢true (sym h ∙ ap (λ i. ends w i s) (sym (eqb-true x k q)) ∙ p))
    go true false p q ih = rw p (ih (rw q at m) h)

each_of : {A : Type 0} (w : Steps A) (s : Store) (ks : List ℕ) → each_ends w ks s ≡ true → (k : ℕ) → member k ks ≡ true → ends w k s ≡ true
each_of w s ks h k m = go (ends w k s) refl
  where
    go : (b : Bool) → ends w k s ≡ b → ends w k s ≡ true
    go true q = q
    go false q = absurd (false≢true (sym (one_fails w s ks k m q) ∙ h))

each_members : {A : Type 0} (w : Steps A) (s : Store) (xs ys : List ℕ) → ((k : ℕ) → member k xs ≡ member k ys) → each_ends w xs s ≡ each_ends w ys s
each_members w s xs ys same = go (each_ends w xs s) (each_ends w ys s) refl refl
  where
    go : (a b : Bool) → each_ends w xs s ≡ a → each_ends w ys s ≡ b → each_ends w xs s ≡ each_ends w ys s
    go true b p q = p ∙ sym (all_each w s ys (λ k m. each_of w s xs p k (same k ∙ m)))
    go false true p q = absurd (false≢true (sym p ∙ all_each w s xs (λ k m. each_of w s ys q k (sym (same k) ∙ m))))
    go false false p q = p ∙ sym q

-- a loop in a course
module _ {k : Sort} (n : ℕ) (own : Element → Bool) (body : ℕ → Course Nothing) (r : Course k) (h : IsOrderly (Loop n own body r)) (o : Orders) (s : Store) (j : ℕ) (same : SameSteps (up_from 0 n) (o j n)) where
  abbrev step : ℕ → Interaction (Unit {0})
  step i = line (body i)

  all : AllAlone own step h.1 h.2 (o j n) o s s (suc j) rising
  all = all_alone own step h.1 h.2 (o j n) o s s (suc j) rising (λ e m. refl)

  parts : in_order step (o j n) (line r) ≡ bind (all_of step (o j n)) (λ u. line r)
  parts = in_order_bind step (o j n) (Done tt) (λ u. line r)

  left : Store
  left = after_all (alone own step h.1 h.2 rising) (o j n) s

  reached : Store
  reached = store_of (all_of step (o j n)) o s (suc j)

  at_last : ℕ
  at_last = next_of (all_of step (o j n)) o s (suc j)

  -- woven, it ends where it ends in any order, and leaves that store
  woven_ends : (ks : List ℕ) → all_ended (woven (iterations_of own body) (up_from 0 n) ks s) (up_from 0 n) ≡ is_some (answer_of (all_of step (o j n)) o s (suc j))
  unfolding alone
  woven_ends ks =
      let w = iterations_of own body in
      (woven_well w (up_from 0 n) ks s (all_clear own step h.1 h.2 h.0 (up_from 0 n) rising s)).ends
      ∙ each_members w s (up_from 0 n) (o j n) same.members
      ∙ sym (independent w (o j n) s same.once' (all_clear own step h.1 h.2 h.0 (o j n) rising s)).ends
      ∙ sym all.ends

  woven_frame : (ks : List ℕ) → (woven (iterations_of own body) (up_from 0 n) ks s).store ≡ left
  unfolding alone left
  woven_frame ks =
      (woven_well (iterations_of own body) (up_from 0 n) ks s (all_clear own step h.1 h.2 h.0 (up_from 0 n) rising s)).store (o j n) same.once' same.members

  -- the rest, from where the iterations leave the one store
  rest_answer : is_some (answer_of (all_of step (o j n)) o s (suc j)) ≡ true → answer_of (line (Loop n own body r)) o s j ≡ answer_of (line r) o left at_last
  unfolding left reached at_last
  rest_answer q =
      let a = some_of (answer_of (all_of step (o j n)) o s (suc j)) q in
      let m = agree_merged own reached left (all.store (sym all.ends ∙ q)) in
      ap (λ x. answer_of x o s (suc j)) parts
      ∙ (follows (all_of step (o j n)) (λ u. line r) a.0 o s (suc j) a.1).answer
      ∙ h.3.answer o reached at_last
      ∙ ap (λ u. answer_of (line r) o u at_last) m
      ∙ sym (h.3.answer o left at_last)

  rest_store : is_some (answer_of (all_of step (o j n)) o s (suc j)) ≡ true → store_of (line (Loop n own body r)) o s j ≡ store_of (line r) o left at_last
  unfolding left reached at_last
  rest_store q =
      let a = some_of (answer_of (all_of step (o j n)) o s (suc j)) q in
      let m = agree_merged own reached left (all.store (sym all.ends ∙ q)) in
      ap (λ x. store_of x o s (suc j)) parts
      ∙ (follows (all_of step (o j n)) (λ u. line r) a.0 o s (suc j) a.1).store
      ∙ h.3.store o reached at_last
      ∙ ap (λ u. store_of (line r) o u at_last) m
      ∙ sym (h.3.store o left at_last)

  no_answer : is_some (answer_of (all_of step (o j n)) o s (suc j)) ≡ false → answer_of (line (Loop n own body r)) o s j ≡ None
  no_answer q = ap (λ x. answer_of x o s (suc j)) parts ∙ (stops (all_of step (o j n)) (λ u. line r) o s (suc j) (not_some _ q)).answer

  loop_alike : (ks : List ℕ) → ((t : Store) (m : ℕ) → WovenAlike r ks o t m) → WovenAlike (Loop n own body r) ks o s j
  unfolding alone
  loop_alike ks ih = go (is_some (answer_of (all_of step (o j n)) o s (suc j))) refl
    where
      well : WovenWell (iterations_of own body) (up_from 0 n) ks s
      well = woven_well (iterations_of own body) (up_from 0 n) ks s (all_clear own step h.1 h.2 h.0 (up_from 0 n) rising s)

      go : (b : Bool) → is_some (answer_of (all_of step (o j n)) o s (suc j)) ≡ b → WovenAlike (Loop n own body r) ks o s j
      go false q =
          let e = woven_ends ks ∙ q in
          record {
            answer = rw e (sym (no_answer q));
            store = λ t. absurd (false≢true (sym (ap is_some (no_answer q)) ∙ t));
            prefix = (well.prefix, λ t. absurd (false≢true (sym e ∙ t)));
          }
      go true q =
          let e = woven_ends ks ∙ q in
          let i = ih left at_last in
          record {
            answer = rw e (ap (answer_woven r ks) (woven_frame ks) ∙ i.answer ∙ sym (rest_answer q));
            store = λ t. rw e (ap (store_woven r ks) (woven_frame ks) ∙ i.store (ap is_some (sym (rest_answer q)) ∙ t) ∙ sym (rest_store q));
            prefix = (well.prefix, λ t. subst (Prefixes r ks) (sym (woven_frame ks)) i.prefix);
          }

-- a call in a course
some_is : {A : Type 0} (a b : A) → Some a ≡ Some b → a ≡ b
some_is a b e = cc

scope_alike : {k l : Sort} (p : Element → Bool) (q : Course l) (h : Answer l → Course k) (ks : List ℕ) (o : Orders) (s : Store) (j : ℕ) → WovenAlike q ks o (merged p blank s) j → ((a : Answer l) (t : Store) (m : ℕ) → WovenAlike (h a) ks o t m) → WovenAlike (Scope p q h) ks o s j
scope_alike {k} {l} p q h ks o s j i more = go (answer_of (line q) o (merged p blank s) j) refl
  where
    m : Store
    m = merged p blank s

    kept : KeptAside p blank (line q) o s j
    kept = keeping_run p blank (line q) o s j

    go : (x : Option (Answer l)) → answer_of (line q) o (merged p blank s) j ≡ x → WovenAlike (Scope p q h) ks o s j
    go None e =
        let n = (stops (keeping p blank (line q)) (λ a. line (h a)) o s j (kept.answer ∙ e)).answer in
        let w = i.answer ∙ e in
        record {
          answer = ap (λ z. on_some z None (λ a. answer_woven (h a) ks (merged p s (store_woven q ks (merged p blank s))))) w ∙ sym n;
          store = λ t. absurd (false≢true (sym (ap is_some n) ∙ t));
          prefix = (i.prefix, λ a c. absurd (false≢true (ap is_some (sym w ∙ c))));
        }
    go (Some a) e =
        let f = follows (keeping p blank (line q)) (λ a. line (h a)) a o s j (kept.answer ∙ e) in
        let w = i.answer ∙ e in
        let at : merged p s (store_woven q ks (merged p blank s)) ≡ store_of (keeping p blank (line q)) o s j = ap (merged p s) (i.store (ap is_some e)) ∙ sym (kept_store p blank (line q) o s j) in
        let n = next_of (keeping p blank (line q)) o s j in
        let t = more a (store_of (keeping p blank (line q)) o s j) n in
        record {
          answer = ap (λ z. on_some z None (λ a. answer_woven (h a) ks (merged p s (store_woven q ks (merged p blank s))))) w ∙ ap (answer_woven (h a) ks) at ∙ t.answer ∙ sym f.answer;
          store = λ c.
              ap (λ z. on_some z (merged p s (store_woven q ks (merged p blank s))) (λ a. store_woven (h a) ks (merged p s (store_woven q ks (merged p blank s))))) w
              ∙ ap (store_woven (h a) ks) at
              ∙ t.store (ap is_some (sym f.answer) ∙ c)
              ∙ sym f.store;
          prefix = (i.prefix, λ b c. subst (λ y. Prefixes (h y) ks (merged p s (store_woven q ks (merged p blank s)))) (some_is a b (sym w ∙ c)) (subst (Prefixes (h a) ks) (sym at) t.prefix));
        }

pub woven_alike : {k : Sort} (q : Course k) → IsOrderly q → (ks : List ℕ) (o : Orders) → IsFair o → (s : Store) (j : ℕ) → WovenAlike q ks o s j
woven_alike (Give a) h ks o fair s j = record { answer = refl; store = λ t. refl; prefix = tt }
woven_alike Fail h ks o fair s j = record { answer = refl; store = λ t. refl; prefix = tt }
woven_alike (Get e f) h ks o fair s j = let t = woven_alike (f (s e)) (h (s e)) ks o fair s j in record { answer = t.answer; store = t.store; prefix = t.prefix }
woven_alike (Put e v r) h ks o fair s j = let t = woven_alike r h ks o fair (put s e v) j in record { answer = t.answer; store = t.store; prefix = t.prefix }
woven_alike (Tell u r) h ks o fair s j = let t = woven_alike r h ks o fair s j in record { answer = t.answer; store = t.store; prefix = t.prefix }
woven_alike (Loop n own body r) h ks o fair s j = loop_alike n own body r h o s j (fair j n) ks (λ t m. woven_alike r h.5 ks o fair t m)
woven_alike (Scope p q g) h ks o fair s j = scope_alike p q g ks o s j (woven_alike q h.0 ks o fair (merged p blank s) j) (λ a t m. woven_alike (g a) (h.1 a) ks o fair t m)

pub orderly_so : {k : Sort} (q : Course k) → IsOrderly q → AreApart q
orderly_so (Give a) h = tt
orderly_so Fail h = tt
orderly_so (Get e f) h = λ v. orderly_so (f v) (h v)
orderly_so (Put e v r) h = orderly_so r h
orderly_so (Tell u r) h = orderly_so r h
orderly_so (Loop n own body r) h = (h.0, λ i. orderly_so (body i) (h.4 i), orderly_so r h.5)
orderly_so (Scope p q g) h = (orderly_so q h.0, λ a. orderly_so (g a) (h.1 a))

both_apart : (xs ys : List (List (List Event))) → AllApart xs → AllApart ys → AllApart (xs ++ ys)
both_apart [] ys h g = g
both_apart (x ∷ xs) ys h g = (h.0, both_apart xs ys h.1 g)

inner_apart : (step : ℕ → Interaction (Unit {0})) (inner : ℕ → Orders → Store → ℕ → List (List (List Event))) → (is : List ℕ) (o : Orders) (s : Store) (j : ℕ) → ((i : ℕ) (s : Store) (j : ℕ) → AllApart (inner i o s j)) → AllApart (inner_runs step inner is o s j)
inner_apart step inner [] o s j h = tt
inner_apart step inner (i ∷ is) o s j h = both_apart (inner i o s j) _ (h i s j) (go (is_some (answer_of (step i) o s j)) refl (inner_apart step inner is o (store_of (step i) o s j) (next_of (step i) o s j) h))
  where
    go : (b : Bool) → is_some (answer_of (step i) o s j) ≡ b → AllApart (inner_runs step inner is o (store_of (step i) o s j) (next_of (step i) o s j)) → AllApart (if is_some (answer_of (step i) o s j) then inner_runs step inner is o (store_of (step i) o s j) (next_of (step i) o s j) else [])
    go true q e = rw q e
    go false q e = rw q tt

if_apart : (b : Bool) (xs : List (List (List Event))) → AllApart xs → AllApart (if b then xs else [])
if_apart true xs h = h
if_apart false xs h = tt

some_apart : {A : Type 0} (x : Option A) (f : A → List (List (List Event))) → ((a : A) → AllApart (f a)) → AllApart (on_some x [] f)
some_apart None f h = tt
some_apart (Some a) f h = h a

pub all_apart : {k : Sort} (q : Course k) → AreApart q → (o : Orders) → IsFair o → (s : Store) (j : ℕ) → AllApart (loop_runs q o s j)
all_apart (Give a) h o fair s j = tt
all_apart Fail h o fair s j = tt
all_apart (Get e f) h o fair s j = all_apart (f (s e)) (h (s e)) o fair s j
all_apart (Put e v r) h o fair s j = all_apart r h o fair (put s e v) j
all_apart (Tell u r) h o fair s j = all_apart r h o fair s j
all_apart (Loop n own body r) h o fair s j =
    let step = λ (i : ℕ). line (body i) in
    let all = all_of step (o j n) in (
      run_apart own step h.0 (o j n) (fair j n).once' o s (suc j),
      both_apart (inner_runs step (λ i. loop_runs (body i)) (o j n) o s (suc j)) (if is_some (answer_of all o s (suc j)) then loop_runs r o (store_of all o s (suc j)) (next_of all o s (suc j)) else [])
          (inner_apart step (λ i. loop_runs (body i)) (o j n) o s (suc j) (λ i t m. all_apart (body i) (h.1 i) o fair t m))
          (if_apart (is_some (answer_of all o s (suc j))) (loop_runs r o (store_of all o s (suc j)) (next_of all o s (suc j))) (all_apart r h.2 o fair (store_of all o s (suc j)) (next_of all o s (suc j)))),
    )
all_apart (Scope p q g) h o fair s j =
    let r = keeping p blank (line q) in
    both_apart (loop_runs q o (merged p blank s) j) (on_some (answer_of r o s j) [] (λ a. loop_runs (g a) o (store_of r o s j) (next_of r o s j)))
    (all_apart q h.0 o fair (merged p blank s) j)
    (some_apart (answer_of r o s j) (λ a. loop_runs (g a) o (store_of r o s j) (next_of r o s j)) (λ a. all_apart (g a) (h.1 a) o fair (store_of r o s j) (next_of r o s j)))
