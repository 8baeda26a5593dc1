-- A marked loop: on the one store its iterations do, in any order, what each does alone on what is its own.
use Rattle.std.proofs.Common.{◌≡◌, ℕ, refl, ap, sym, ◌∙◌, List, [], ◌∷◌, Bool, true, false, ◌||◌, eqb, eq-eqb, Option, Some, None}
use Rattle.std.specs.Prelude.{is_some, if◌then◌else◌}
use Rattle.std.proofs.lemmas.Bool.{eqb-true, false≢true}
use mathlib.Core.Path.{fun_ext}
use Rattle.courses.specs.Element.{Element, Store, merged, blank, nobody}
use Rattle.courses.specs.Interaction.{Interaction, Orders, answer_of, next_of, log_of, store_of}
use Rattle.courses.specs.Logs.{others}
use Rattle.courses.specs.Steps.{Steps, ends, trace, after, all_end, after_all, member, Distinct}
use Rattle.courses.specs.Handlers.{keeping, Forgets, IsSettled}
use Rattle.courses.specs.Interleaving.{AllClear}
use Rattle.courses.specs.Course.{all_of, loop_run}
use Rattle.courses.specs.Weaving.{IsApart, ClearOfAll, Apart}
use Rattle.courses.specs.Private.{AgreeBut}
use Rattle.courses.proofs.Binds.{follows, stops}
use Rattle.courses.proofs.Handled.{keeping_run}
use Rattle.courses.proofs.Settling.{settles, clear_touches}

pub not_some : {A : Type 0} (o : Option A) → is_some o ≡ false → o ≡ None
not_some (Some a) h = absurd (false≢true (sym h))
not_some None h = refl

pub some_of : {A : Type 0} (o : Option A) → is_some o ≡ true → (a : A) × (o ≡ Some a)
some_of (Some a) h = (a, refl)
some_of None h = absurd (false≢true h)

pub agree_merged : (own : Element → Bool) (t s : Store) → AgreeBut own t s → merged own blank t ≡ merged own blank s
unfolding merged
agree_merged own t s h = fun_ext (λ e. go e (own e) refl)
  where
    go : (e : Element) (b : Bool) → own e ≡ b → (if own e then blank e else t e) ≡ (if own e then blank e else s e)
    go e true q = rw q
    go e false q = rw q (h e q)

-- the iterations are clear of one another, run from any lists of them
later_clear : (own : Element → Bool) (step : ℕ → Interaction (Unit {0})) → IsApart own step → (i : ℕ) (o : Orders) (s : Store) (j : ℕ) (is : List ℕ) → member i is ≡ false → (o' : Orders) (s' : Store) (j' : ℕ) → ClearOfAll (others own (log_of (step i) o s j)) (loop_run own step is o' s' j')
later_clear own step ap' i o s j [] n o' s' j' = tt
later_clear own step ap' i o s j (k ∷ is) n o' s' j' =
    (ap' i k o o' s s' j j' (apart (eqb i k) refl), go (is_some (answer_of (step k) o' s' j')) refl (later_clear own step ap' i o s j is (not_there (eqb k i) refl n) o' (store_of (step k) o' s' j') (next_of (step k) o' s' j')))
  where
    not_there : (b : Bool) → eqb k i ≡ b → eqb k i || member i is ≡ false → member i is ≡ false
    not_there true q h = absurd (false≢true (sym (rw q at h)))
    not_there false q h = rw q at h

    ne : (b : Bool) → eqb k i ≡ b → eqb k i || member i is ≡ false → (eqb k i ≡ false) × (member i is ≡ false)
    ne true q h = absurd (false≢true (sym (rw q at h)))
    ne false q h = (q, rw q at h)

    swap : (b : Bool) → eqb i k ≡ b → eqb k i ≡ false → eqb i k ≡ false
    swap true q h = absurd (false≢true (sym h ∙ eq-eqb k i (sym (eqb-true i k q))))
    swap false q h = q

    apart : (b : Bool) → eqb i k ≡ b → eqb i k ≡ false
    apart b q = swap (eqb i k) refl (ne (eqb k i) refl n).0

    go : (b : Bool) → is_some (answer_of (step k) o' s' j') ≡ b → ClearOfAll (others own (log_of (step i) o s j)) (loop_run own step is o' (store_of (step k) o' s' j') (next_of (step k) o' s' j')) → ClearOfAll (others own (log_of (step i) o s j)) (if is_some (answer_of (step k) o' s' j') then loop_run own step is o' (store_of (step k) o' s' j') (next_of (step k) o' s' j') else [])
    go true q h = rw q h
    go false q h = rw q tt

pub run_apart : (own : Element → Bool) (step : ℕ → Interaction (Unit {0})) → IsApart own step → (is : List ℕ) → Distinct is → (o : Orders) (s : Store) (j : ℕ) → Apart (loop_run own step is o s j)
run_apart own step ap' [] d o s j = tt
run_apart own step ap' (i ∷ is) d o s j = go (is_some (answer_of (step i) o s j)) refl (run_apart own step ap' is d.1 o (store_of (step i) o s j) (next_of (step i) o s j))
  where
    go : (b : Bool) → is_some (answer_of (step i) o s j) ≡ b → Apart (loop_run own step is o (store_of (step i) o s j) (next_of (step i) o s j)) → Apart (loop_run own step (i ∷ is) o s j)
    go true q h = rw q (later_clear own step ap' i o s j is d.0 o (store_of (step i) o s j) (next_of (step i) o s j), h)
    go false q h = rw q (tt, tt)

module _ (own : Element → Bool) (step : ℕ → Interaction (Unit {0})) (settled : (i : ℕ) → IsSettled (step i)) (forgets : (i : ℕ) → Forgets own (step i)) where
  unfoldable pub alone : Orders → Steps (Unit {0})
  alone o = record { step = λ i. keeping own blank (step i); orders = o; first = 0 }

  -- an iteration from a store t that agrees with s but for what is its own
  pub record StepAlone (i : ℕ) (o : Orders) (t s : Store) (j : ℕ) (o' : Orders) : Type 0 where
    pub ends : is_some (answer_of (step i) o t j) ≡ ends (alone o') i s
    pub store : (e : Element) → own e ≡ false → store_of (step i) o t j e ≡ after (alone o') i s e
    pub next : next_of (step i) o t j ≡ j
    pub log : others own (log_of (step i) o t j) ≡ others nobody (trace (alone o') i s)

  pub step_alone : (i : ℕ) (o : Orders) (t s : Store) (j : ℕ) (o' : Orders) → AgreeBut own t s → StepAlone i o t s j o'
  unfolding alone
  step_alone i o t s j o' h =
      let m = agree_merged own t s h in
      let f = forgets i in
      let k = keeping_run own blank (step i) o' s 0 in
      let st = settles (step i) o (merged own blank s) j o' 0 (settled i) in
      record {
        ends = ap is_some (f.answer o t j ∙ ap (λ u. answer_of (step i) o u j) m ∙ st.answer ∙ sym k.answer);
        store = λ e n. ap (λ u. u e) (f.store o t j ∙ ap (λ u. store_of (step i) o u j) m ∙ st.store) ∙ sym (k.store e n);
        next = f.next o t j ∙ ap (λ u. next_of (step i) o u j) m ∙ st.next;
        log = ap (others own) (f.log o t j ∙ ap (λ u. log_of (step i) o u j) m ∙ st.log) ∙ sym k.log;
      }

  -- all of them, on the one store
  pub record AllAlone (is : List ℕ) (o : Orders) (t s : Store) (j : ℕ) (o' : Orders) : Type 0 where
    pub ends : is_some (answer_of (all_of step is) o t j) ≡ all_end (alone o') is s
    pub store : all_end (alone o') is s ≡ true → AgreeBut own (store_of (all_of step is) o t j) (after_all (alone o') is s)
    pub next : all_end (alone o') is s ≡ true → next_of (all_of step is) o t j ≡ j

  pub all_alone : (is : List ℕ) (o : Orders) (t s : Store) (j : ℕ) (o' : Orders) → AgreeBut own t s → AllAlone is o t s j o'
  all_alone [] o t s j o' h = record { ends = refl; store = λ q. h; next = λ q. refl }
  all_alone (i ∷ is) o t s j o' h =
      go (is_some (answer_of (step i) o t j)) refl (all_alone is o (store_of (step i) o t j) (after (alone o') i s) (next_of (step i) o t j) o' (step_alone i o t s j o' h).store)
    where
      sa : StepAlone i o t s j o'
      sa = step_alone i o t s j o' h

      go : (b : Bool) → is_some (answer_of (step i) o t j) ≡ b → AllAlone is o (store_of (step i) o t j) (after (alone o') i s) (next_of (step i) o t j) o' → AllAlone (i ∷ is) o t s j o'
      go false q ih =
          let e : ends (alone o') i s ≡ false = sym sa.ends ∙ q in
          record {
            ends = ap is_some (stops (step i) (λ u. all_of step is) o t j (not_some _ q)).answer ∙ rw e;
            store = λ r. absurd (false≢true (rw e at r));
            next = λ r. absurd (false≢true (rw e at r));
          }
      go true q ih =
          let e : ends (alone o') i s ≡ true = sym sa.ends ∙ q in
          let a = some_of (answer_of (step i) o t j) q in
          let fl = follows (step i) (λ u. all_of step is) a.0 o t j a.1 in
          record {
            ends = ap is_some fl.answer ∙ ih.ends ∙ rw e;
            store = λ r x n. ap (λ u. u x) fl.store ∙ ih.store (rw e at r) x n;
            next = λ r. fl.next ∙ ih.next (rw e at r) ∙ sa.next;
          }

  -- on what is their own they are clear of one another
  pub all_clear : IsApart own step → (is : List ℕ) (o : Orders) (s : Store) → AllClear (alone o) is s
  unfolding alone
  all_clear ap' is o s i k mi mk n =
      clear_touches (log_of (keeping own blank (step i)) o s 0) (log_of (keeping own blank (step k)) o s 0) _ _ (keeping_run own blank (step i) o s 0).log (keeping_run own blank (step k) o s 0).log (ap' i k o o (merged own blank s) (merged own blank s) 0 0 n)
