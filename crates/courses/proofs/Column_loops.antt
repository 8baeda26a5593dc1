-- A marked loop whose iterations are the columns, in lock step with the columns' own interactions.
use Rattle.std.proofs.Common.{◌≡◌, ℕ, suc, ℤ, pos, ◌+ℤ◌, refl, ap, sym, ◌∙◌, subst, List, [], ◌∷◌, map, Bool, true, false, ◌||◌, eqb, eqb-true, eq-eqb, Some}
use Rattle.std.specs.Prelude.{is_some}
use Rattle.std.specs.Ordering.{int_eq}
use Rattle.std.proofs.lemmas.Bool.{false≢true}
use mathlib.Core.Path.{fun_ext}
use Rattle.courses.specs.Element.{Value, Undefined, Element, Store, merged, blank, nobody}
use Rattle.courses.specs.Ranges.{up_from, wholes_from}
use Rattle.courses.specs.Interaction.{Interaction, Done, Order, bind, Orders, answer_of, log_of, store_of}
use Rattle.courses.specs.Logs.{is_read, is_written, is_touched, others}
use Rattle.courses.specs.Steps.{Steps, ends, trace, after, all_end, member, SameSteps}
use Rattle.courses.specs.Renaming.{renamed, view}
use Rattle.courses.specs.Handlers.{IsSettled}
use Rattle.courses.specs.Course.{in_order, all_of}
use Rattle.courses.specs.Weaving.{IsApart}
use Rattle.courses.specs.Columns.{Varying, varies, column, is_own, is_column, Knowledge, Knows, Kept, Lockstep, RunsColumn, AreColumns}
use Rattle.courses.proofs.Stores.{same_element-itself}
use Rattle.courses.proofs.Alike.{or_left, or_right}
use Rattle.courses.proofs.Lines.{in_order_bind}
use Rattle.courses.proofs.Binds.{follows, stops}
use Rattle.courses.proofs.Handled.{keeping_run, merged-own, merged-other}
use Rattle.courses.proofs.Renames.{renamed_run}
use Rattle.courses.proofs.Settling.{settles, others_read, others_written, others_spare}
use Rattle.courses.proofs.Allowed.{written_settled, always_leaves}
use Rattle.courses.proofs.Independent.{Independent, independent, eqb_swap}
use Rattle.courses.proofs.Shared.{int_eq-itself, int_eq-equal, column-shared, column-varies, column-keeps, column-foreign, writes_own, spares_others, sums_differ, only_answer}
use Rattle.courses.proofs.Loops.{not_some, some_of, alone, StepAlone, step_alone, AllAlone, all_alone, all_clear}
use Rattle.courses.proofs.Wovens.{all_each, one_fails}

-- columns and the numbers of their iterations
pub column_of : (low : ℤ) (k : ℕ) (xs : List ℕ) → member k xs ≡ true → is_column (low +ℤ pos k) (map (λ i. low +ℤ pos i) xs) ≡ true
column_of low k [] h = h
column_of low k (x ∷ xs) h = go (eqb x k) refl h (column_of low k xs)
  where
    go : (b : Bool) → eqb x k ≡ b → eqb x k || member k xs ≡ true → (member k xs ≡ true → is_column (low +ℤ pos k) (map (λ i. low +ℤ pos i) xs) ≡ true) → is_column (low +ℤ pos k) (map (λ i. low +ℤ pos i) (x ∷ xs)) ≡ true
    go true q h ih = or_left (int_eq (low +ℤ pos x) (low +ℤ pos k)) _ (ap (λ i. int_eq (low +ℤ pos i) (low +ℤ pos k)) (eqb-true x k q) ∙ int_eq-itself (low +ℤ pos k))
    go false q h ih = or_right (int_eq (low +ℤ pos x) (low +ℤ pos k)) _ (ih (rw q at h))

pub of_column : (low : ℤ) (c : ℤ) (xs : List ℕ) → is_column c (map (λ i. low +ℤ pos i) xs) ≡ true → (k : ℕ) × (member k xs ≡ true) × (low +ℤ pos k ≡ c)
of_column low c [] h = absurd (false≢true h)
of_column low c (x ∷ xs) h = go (int_eq (low +ℤ pos x) c) refl h (of_column low c xs)
  where
    go : (b : Bool) → int_eq (low +ℤ pos x) c ≡ b → int_eq (low +ℤ pos x) c || is_column c (map (λ i. low +ℤ pos i) xs) ≡ true → (is_column c (map (λ i. low +ℤ pos i) xs) ≡ true → (k : ℕ) × (member k xs ≡ true) × (low +ℤ pos k ≡ c)) → (k : ℕ) × (eqb x k || member k xs ≡ true) × (low +ℤ pos k ≡ c)
    go true q h ih = (x, or_left _ _ (eq-eqb x x refl), int_eq-equal (low +ℤ pos x) c q)
    go false q h ih = let t = ih (rw q at h) in (t.0, or_right (eqb x t.0) _ t.1, t.2)

module _ {A : Type 0} (vary : Varying) (low : ℤ) (own : Element → Bool) (answer : A) (step : ℕ → Interaction (Unit {0})) (r rest : Interaction A) (are : AreColumns vary low own answer step r rest) where
  -- the column's interaction on its elements of the wide variables
  abbrev R : ℕ → Interaction A
  R k = renamed (column vary (low +ℤ pos k)) r

  -- where what is own is undefined
  abbrev bare : Store → Store
  bare s = merged own blank s

  written : Element → Bool
  written e = varies vary e || own e

  bare_own : (s : Store) (e : Element) → own e ≡ true → bare s e ≡ Undefined
  bare_own s e m = merged-own own blank s e m

  step_runs : (o : Orders) (s : Store) (j k : ℕ) → RunsColumn own (step k) (R k) o (bare s) j
  step_runs o s j k = are.runs o (bare s) j k (bare_own s)

  step_log : (o : Orders) (s : Store) (j k : ℕ) → others own (log_of (step k) o s j) ≡ others own (log_of (R k) o (bare s) j)
  step_log o s j k = ap (others own) ((are.forgets k).log o s j) ∙ (step_runs o s j k).log

  -- what an iteration writes of others is its own column's, and no other iteration touches that
  written_own : (o : Orders) (s : Store) (j k : ℕ) (e : Element) → own e ≡ false → is_written (log_of (R k) o s j) e ≡ true → is_own vary (low +ℤ pos k) e ≡ true
  written_own o s j k e n h =
      writes_own vary (λ x. varies vary x || own x) own (low +ℤ pos k) r o s j e only_left are.private are.writes n h
    where
      only_left : (x : Element) → varies vary x || own x ≡ true → own x ≡ false → varies vary x ≡ true
      only_left x w m = go (varies vary x) refl w
        where
          go : (b : Bool) → varies vary x ≡ b → varies vary x || own x ≡ true → varies vary x ≡ true
          go true q w = q
          go false q w = absurd (false≢true (sym m ∙ rw q at w))

  pub steps_apart : IsApart own step
  steps_apart i k o o' s s' j j' n e =
      (λ h. touches i k o o' s s' j j' n h, λ h. touches k i o' o s' s j' j (eqb_swap i k n) h)
    where
      touches : (i k : ℕ) (o o' : Orders) (s s' : Store) (j j' : ℕ) → eqb i k ≡ false → is_written (others own (log_of (step i) o s j)) e ≡ true → is_touched (others own (log_of (step k) o' s' j')) e ≡ false
      touches i k o o' s s' j j' n h = go (own e) refl
        where
          go : (b : Bool) → own e ≡ b → is_touched (others own (log_of (step k) o' s' j')) e ≡ false
          go true q = absurd (false≢true (sym (others_spare own (log_of (step i) o s j) e q).1 ∙ h))
          go false q =
              let w : is_written (log_of (R i) o (bare s) j) e ≡ true = sym (others_written own (log_of (R i) o (bare s) j) e q) ∙ ap (λ l. is_written l e) (sym (step_log o s j i)) ∙ h in
              let t = spares_others vary (low +ℤ pos k) (low +ℤ pos i) r o' (bare s') j' e (written_own o (bare s) j i e q w) (sums_differ low k i (eqb_swap i k n)) in
              let l = step_log o' s' j' k in
              let a : is_read (others own (log_of (step k) o' s' j')) e ≡ false = ap (λ l. is_read l e) l ∙ others_read own (log_of (R k) o' (bare s') j') e q ∙ t.0 in
              let b : is_written (others own (log_of (step k) o' s' j')) e ≡ false = ap (λ l. is_written l e) l ∙ others_written own (log_of (R k) o' (bare s') j') e q ∙ t.1 in
              rw (a, b)

  r_settled : IsSettled r
  r_settled = written_settled (λ e. varies vary e || own e) r are.writes

  module _ (know : Knowledge) (shared : (e : Element) (v : Value) → know e ≡ Some v → varies vary e ≡ false) (hidden : (e : Element) → own e ≡ true → know e ≡ Some Undefined) (n : ℕ) (o : Orders) (s : Store) (j : ℕ) (o' : Orders) (j' : ℤ → ℕ) (ks : List ℕ) (ss : SameSteps (up_from 0 n) ks) (knows : Knows know s) where
    own_undefined : (e : Element) → own e ≡ true → s e ≡ Undefined
    own_undefined e m = knows e Undefined (hidden e m)

    abbrev w : Steps (Unit {0})
    w = alone own step are.settled are.forgets o

    all : AllAlone own step are.settled are.forgets ks o s s (suc j) o
    all = all_alone own step are.settled are.forgets ks o s s (suc j) o (λ e m. refl)

    one : (k : ℕ) → StepAlone own step are.settled are.forgets k o s s 0 o
    one k = step_alone own step are.settled are.forgets k o s s 0 o (λ e m. refl)

    ind : Independent w ks s
    ind = independent w ks s ss.once' (all_clear own step are.settled are.forgets steps_apart ks o s)

    -- the column's own interaction, and the iteration at its place
    own_ends : (k : ℕ) → ends w k s ≡ is_some (answer_of r o' (view (column vary (low +ℤ pos k)) s) (j' (low +ℤ pos k)))
    own_ends k =
        sym (one k).ends
        ∙ (are.runs o s 0 k own_undefined).ends
        ∙ ap is_some ((renamed_run (column vary (low +ℤ pos k)) r o s 0 (column-keeps vary (low +ℤ pos k))).answer ∙ (settles r o (view (column vary (low +ℤ pos k)) s) 0 o' (j' (low +ℤ pos k)) r_settled).answer)

    own_store : (k : ℕ) (e : Element) → own (column vary (low +ℤ pos k) e) ≡ false → after w k s (column vary (low +ℤ pos k) e) ≡ store_of r o' (view (column vary (low +ℤ pos k)) s) (j' (low +ℤ pos k)) e
    own_store k e m =
        sym ((one k).store (column vary (low +ℤ pos k) e) m)
        ∙ (are.runs o s 0 k own_undefined).store (column vary (low +ℤ pos k) e) m
        ∙ ap (λ u. u e) ((renamed_run (column vary (low +ℤ pos k)) r o s 0 (column-keeps vary (low +ℤ pos k))).store ∙ (settles r o (view (column vary (low +ℤ pos k)) s) 0 o' (j' (low +ℤ pos k)) r_settled).store)

    -- no other iteration writes there
    not_written : (i k : ℕ) → eqb i k ≡ false → (e : Element) → own (column vary (low +ℤ pos k) e) ≡ false → is_written (trace w i s) (column vary (low +ℤ pos k) e) ≡ false
    unfolding alone
    not_written i k n e m = go (is_written (trace w i s) (column vary (low +ℤ pos k) e)) refl
      where
        from : is_written (trace w i s) (column vary (low +ℤ pos k) e) ≡ true → is_written (log_of (R i) o (bare s) 0) (column vary (low +ℤ pos k) e) ≡ true
        from h =
            let t = (keeping_run own blank (step i) o s 0).log ∙ (step_runs o s 0 i).log in
            sym (others_written own (log_of (R i) o (bare s) 0) (column vary (low +ℤ pos k) e) m)
            ∙ ap (λ l. is_written l (column vary (low +ℤ pos k) e)) (sym t)
            ∙ others_written nobody (trace w i s) (column vary (low +ℤ pos k) e) refl
            ∙ h

        go : (b : Bool) → is_written (trace w i s) (column vary (low +ℤ pos k) e) ≡ b → is_written (trace w i s) (column vary (low +ℤ pos k) e) ≡ false
        go true q =
            let x = written_own o (bare s) 0 i (column vary (low +ℤ pos k) e) m (from q) in
            absurd (false≢true (sym (column-foreign vary (low +ℤ pos k) (low +ℤ pos i) e (column vary (low +ℤ pos k) e) x (sums_differ low k i (eqb_swap i k n))) ∙ same_element-itself (column vary (low +ℤ pos k) e)))
        go false q = q

    abbrev q : Interaction A
    q = in_order step ks rest

    parts : q ≡ bind (all_of step ks) (λ u. rest)
    parts = in_order_bind step ks (Done tt) (λ u. rest)

    abbrev reached : Store
    reached = store_of (all_of step ks) o s (suc j)

    module _ (every : (c : ℤ) → is_column c (wholes_from low n) ≡ true → is_some (answer_of r o' (view (column vary c) s) (j' c)) ≡ true) where
      in_list : (k : ℕ) → member k ks ≡ true → is_column (low +ℤ pos k) (wholes_from low n) ≡ true
      in_list k m = column_of low k (up_from 0 n) (ss.members k ∙ m)

      they_end : all_end w ks s ≡ true
      they_end = ind.ends ∙ all_each w s ks (λ k m. own_ends k ∙ every (low +ℤ pos k) (in_list k m))

      ended : is_some (answer_of (all_of step ks) o s (suc j)) ≡ true
      ended = all.ends ∙ they_end

      final_store : store_of q o s (suc j) ≡ merged own blank reached
      final_store =
          let a = some_of (answer_of (all_of step ks) o s (suc j)) ended in
          ap (λ x. store_of x o s (suc j)) parts ∙ (follows (all_of step ks) (λ u. rest) a.0 o s (suc j) a.1).store ∙ are.last_store o reached _

      final_answer : answer_of q o s (suc j) ≡ Some answer
      final_answer =
          let a = some_of (answer_of (all_of step ks) o s (suc j)) ended in
          ap (λ x. answer_of x o s (suc j)) parts ∙ (follows (all_of step ks) (λ u. rest) a.0 o s (suc j) a.1).answer ∙ are.last_answer o reached _

      -- what is known of a column's shared elements is known after it
      own_kept : (c : ℤ) → is_column c (wholes_from low n) ≡ true → (e : Element) → varies vary e ≡ false → (v : Value) → know e ≡ Some v → store_of r o' (view (column vary c) s) (j' c) e ≡ v
      own_kept c m e sh v h = go (own e) refl
        where
          before : s (column vary c e) ≡ v
          before = ap s (column-shared vary c e sh) ∙ knows e v h

          same : Some Undefined ≡ Some v → Undefined ≡ v
          same t = cc

          go : (b : Bool) → own e ≡ b → store_of r o' (view (column vary c) s) (j' c) e ≡ v
          go true q =
              let u : Undefined ≡ v = same (sym (hidden e q) ∙ h) in
              are.restores e q o' (view (column vary c) s) (j' c) (before ∙ sym u) (every c m) ∙ u
          go false q = always_leaves _ r o' (view (column vary c) s) (j' c) e are.writes (rw (sh, q) refl) ∙ before

      store_at : (k : ℕ) → member k ks ≡ true → (e : Element) (b : Bool) → own (column vary (low +ℤ pos k) e) ≡ b → store_of q o s (suc j) (column vary (low +ℤ pos k) e) ≡ store_of r o' (view (column vary (low +ℤ pos k)) s) (j' (low +ℤ pos k)) e
      store_at k m e true t =
          let sh : varies vary e ≡ false = sym (column-varies vary (low +ℤ pos k) e) ∙ are.private (column vary (low +ℤ pos k) e) t in
          let known : know e ≡ Some Undefined = ap know (sym (column-shared vary (low +ℤ pos k) e sh)) ∙ hidden (column vary (low +ℤ pos k) e) t in
          ap (λ u. u (column vary (low +ℤ pos k) e)) final_store
          ∙ merged-own own blank reached (column vary (low +ℤ pos k) e) t
          ∙ sym (own_kept (low +ℤ pos k) (in_list k m) e sh Undefined known)
      store_at k m e false t =
          ap (λ u. u (column vary (low +ℤ pos k) e)) final_store
          ∙ merged-other own blank reached (column vary (low +ℤ pos k) e) t
          ∙ all.store they_end (column vary (low +ℤ pos k) e) t
          ∙ ind.own k m (column vary (low +ℤ pos k) e) (λ i _ n. not_written i k n e t)
          ∙ own_store k e t

      store_seen : (c : ℤ) → is_column c (wholes_from low n) ≡ true → view (column vary c) (store_of q o s (suc j)) ≡ store_of r o' (view (column vary c) s) (j' c)
      store_seen c m =
          let t = of_column low c (up_from 0 n) m in
          subst (λ d. view (column vary d) (store_of q o s (suc j)) ≡ store_of r o' (view (column vary d) s) (j' d)) t.2 (fun_ext (λ e. store_at t.0 (sym (ss.members t.0) ∙ t.1) e (own (column vary (low +ℤ pos t.0) e)) refl))

      pub columns_kept : (c0 : ℤ) → is_column c0 (wholes_from low n) ≡ true → Kept vary (wholes_from low n) know r q o s (suc j) o' j'
      columns_kept c0 m0 = record {
        answer = answer;
        wide = final_answer;
        each = λ c m. only_answer answer r o' (view (column vary c) s) (j' c) are.answers (every c m);
        store = store_seen;
        knows = λ e v h.
            let sh = shared e v h in
            ap (store_of q o s (suc j)) (sym (column-shared vary c0 e sh)) ∙ ap (λ u. u e) (store_seen c0 m0) ∙ own_kept c0 m0 e sh v h;
      }

    pub columns_trap : (c : ℤ) → is_column c (wholes_from low n) ≡ true → is_some (answer_of r o' (view (column vary c) s) (j' c)) ≡ false → is_some (answer_of q o s (suc j)) ≡ false
    columns_trap c m h =
        let t = of_column low c (up_from 0 n) m in
        let h' = subst (λ d. is_some (answer_of r o' (view (column vary d) s) (j' d)) ≡ false) (sym t.2) h in
        let fails : ends w t.0 s ≡ false = own_ends t.0 ∙ h' in
        let none : all_end w ks s ≡ false = ind.ends ∙ one_fails w s ks t.0 (sym (ss.members t.0) ∙ t.1) fails in
        ap (λ x. is_some (answer_of x o s (suc j))) parts
        ∙ ap is_some (stops (all_of step ks) (λ u. rest) o s (suc j) (not_some _ (all.ends ∙ none))).answer

  -- in lock step, in any order, for at least one column
  pub lockstep_columns : (know : Knowledge) → ((e : Element) (v : Value) → know e ≡ Some v → varies vary e ≡ false) → ((e : Element) → own e ≡ true → know e ≡ Some Undefined) → (n : ℕ) (c0 : ℤ) → is_column c0 (wholes_from low n) ≡ true → Lockstep vary (wholes_from low n) know know r (Order n (λ ks. in_order step ks rest))
  lockstep_columns know shared hidden n c0 m0 = record {
    ends = λ o s j o' j' fair cl h.
        let t = columns_kept know shared hidden n o s j o' j' (o j n) (fair j n) cl h c0 m0 in
        record { answer = t.answer; wide = t.wide; each = t.each; store = t.store; knows = t.knows };
    traps = λ o s j o' j' fair cl c m h. columns_trap know shared hidden n o s j o' j' (o j n) (fair j n) cl c m h;
  }
