-- A marked loop over the columns, from its body in one iteration.
use Rattle.std.proofs.Common.{◌≡◌, ℕ, ℤ, pos, ◌+ℤ◌, refl, ap, sym, ◌∙◌, subst, List, ◌∷◌, map, ◌++◌, Bool, true, false, not, ◌&&◌, ◌||◌, Some}
use Rattle.std.specs.Prelude.{is_some, if◌then◌else◌}
use Rattle.std.proofs.lemmas.Bool.{false≢true}
use mathlib.Core.Path.{fun_ext}
use Rattle.courses.specs.Element.{Value, Undefined, Whole, Element, same_element, Store, put, merged, blank, nobody}
use Rattle.courses.specs.Ranges.{wholes_from}
use Rattle.courses.specs.Interaction.{Turn, Writes, Interaction, Orders, answer_of, log_of, store_of}
use Rattle.courses.specs.Logs.{others}
use Rattle.courses.specs.Renaming.{renamed}
use Rattle.courses.specs.Handlers.{hushed, given, holding, Forgets, IsSettled}
use Rattle.courses.specs.Course.{Signal, Normal, Way, Nothing, Course, Give, Put, and_then, line}
use Rattle.courses.specs.Copying.{among, wiped}
use Rattle.courses.specs.Marked.{iteration, marked}
use Rattle.courses.specs.Weaving.{IsOrderly}
use Rattle.courses.specs.Columns.{Varying, varies, column, is_column, Knowledge, Lockstep, RunsColumn, AreColumns, IsColumnBody}
use Rattle.courses.proofs.Alike.{or_left, or_right, or_false}
use Rattle.courses.proofs.Stores.{same_element-itself}
use Rattle.courses.proofs.Lines.{line_then}
use Rattle.courses.proofs.Binds.{hushes}
use Rattle.courses.proofs.Handled.{given_run}
use Rattle.courses.proofs.Settling.{settled_bind, settled_wiped}
use Rattle.courses.proofs.Allowed.{written_settled}
use Rattle.courses.proofs.Shared.{not_true}
use Rattle.courses.proofs.Orderlies.{orderly_then, wiped_orderly}
use Rattle.courses.proofs.Forgetting.{drops, wiped_run, others_wiped, alike_more, but, forgets_nothing, forgets_put, forgets_tell, forgets_wiped}
use Rattle.courses.proofs.Column_loops.{steps_apart, lockstep_columns}

module _ (id : Element) (es : List Element) where
  abbrev own : Element → Bool
  own = among (id ∷ es)

  -- an iteration, whatever its body, forgets what it owns
  pub iteration_forgets : (low : ℤ) (q : Course Way) (i : ℕ) → Forgets own (line (iteration id es low q i))
  iteration_forgets low q i =
      forgets_tell own Turn (wiped es (Put id (Whole (low +ℤ pos i)) (and_then {l = Nothing} q (λ g. Give tt))))
      (forgets_wiped own es (Put id (Whole (low +ℤ pos i)) (and_then {l = Nothing} q (λ g. Give tt)))
      (forgets_put (λ x. own x && not (among es x)) id (Whole (low +ℤ pos i)) (and_then {l = Nothing} q (λ g. Give tt)) (forgets_nothing (but (λ x. own x && not (among es x)) id) (line (and_then {l = Nothing} q (λ g. Give tt))) nothing)))
    where
      nothing : (x : Element) → ((same_element id x || among es x) && not (among es x)) && not (same_element id x) ≡ false
      nothing x = go (same_element id x) (among es x) refl refl
        where
          go : (a b : Bool) → same_element id x ≡ a → among es x ≡ b → ((same_element id x || among es x) && not (among es x)) && not (same_element id x) ≡ false
          go true true m n = rw (m, n) refl
          go true false m n = rw (m, n) refl
          go false true m n = rw (m, n) refl
          go false false m n = rw (m, n) refl

  -- and so does what follows the loop
  pub rest_forgets : Forgets own (line (wiped (id ∷ es) (Give {k = Way} Normal)))
  rest_forgets = forgets_wiped own (id ∷ es) (Give {k = Way} Normal) (forgets_nothing (λ x. own x && not (among (id ∷ es) x)) (line (Give {k = Way} Normal)) (λ x. never (same_element id x || among es x)))
    where
      never : (b : Bool) → b && not b ≡ false
      never true = refl
      never false = refl

  pub iteration_settled : (low : ℤ) (q : Course Way) (i : ℕ) → IsSettled (line q) → IsSettled (line (iteration id es low q i))
  iteration_settled low q i h =
      settled_wiped es (Put id (Whole (low +ℤ pos i)) (and_then {l = Nothing} q (λ g. Give tt)))
      (subst IsSettled (sym (line_then {l = Nothing} q (λ g. Give tt))) (settled_bind (line q) (λ g. line (Give {k = Nothing} tt)) h (λ g. tt)))

  module _ (vary : Varying) (low : ℤ) (q r : Course Way) (is_body : IsColumnBody vary id es q r) where
    abbrev step : ℕ → Interaction (Unit {0})
    step k = line (iteration id es low q k)

    abbrev R : ℕ → Interaction Signal
    R k = renamed (column vary (low +ℤ pos k)) (line r)

    abbrev rest : Interaction Signal
    rest = line (wiped (id ∷ es) (Give {k = Way} Normal))

    wiped_same : (s : Store) → ((e : Element) → own e ≡ true → s e ≡ Undefined) → merged (among es) blank s ≡ s
    unfolding merged
    wiped_same s u = fun_ext (λ e. go e (among es e) refl)
      where
        go : (e : Element) (b : Bool) → among es e ≡ b → (if among es e then Undefined else s e) ≡ s e
        go e true m = rw m (sym (u e (or_right (same_element id e) (among es e) m)))
        go e false m = rw m refl

    held : (c : Value) (s : Store) → holding (same_element id) c s ≡ put s id c
    unfolding holding put
    held c s = refl

    held_other : (c : Value) (s : Store) (e : Element) → same_element id e ≡ false → holding (same_element id) c s e ≡ s e
    unfolding holding
    held_other c s e h = rw h refl

    runs : (o : Orders) (s : Store) (j k : ℕ) → ((e : Element) → own e ≡ true → s e ≡ Undefined) → RunsColumn own (step k) (R k) o s j
    runs o s j k u =
        let c = Whole (low +ℤ pos k) in
        let inside : Course Nothing = Put id (Whole (low +ℤ pos k)) (and_then {l = Nothing} q (λ g. Give tt)) in
        let w = wiped_run es inside o s j in
        let same_s = wiped_same s u in
        let t = put s id (Whole (low +ℤ pos k)) in
        let hold = sym (held (Whole (low +ℤ pos k)) s) in
        let l = line_then {l = Nothing} q (λ g. Give tt) in
        let d = drops (line q) o t j in
        let g = given_run (same_element id) (λ e. not (same_element id e)) (Whole (low +ℤ pos k)) (line q) o s j (λ e n. not_true (same_element id e) n) is_body.spares in
        let h = hushes (given (same_element id) (Whole (low +ℤ pos k)) (line q)) o s j in
        let both = is_body.sides (low +ℤ pos k) in
        let f = hushes (R k) o s j in
        let l1 = log_of (line q) o (holding (same_element id) (Whole (low +ℤ pos k)) s) j in
        let l2 = log_of (given (same_element id) (Whole (low +ℤ pos k)) (line q)) o s j in
        let l3 = log_of (hushed (given (same_element id) (Whole (low +ℤ pos k)) (line q))) o s j in
        let l4 = log_of (hushed (R k)) o s j in
        let l5 = log_of (R k) o s j in
        record {
          ends =
              ap is_some (w.answer ∙ ap (λ z. answer_of (line inside) o z j) same_s ∙ ap (λ z. answer_of z o t j) l)
              ∙ d.ends
              ∙ ap is_some (ap (λ z. answer_of (line q) o z j) hold ∙ sym g.answer ∙ sym h.answer ∙ ap (λ z. answer_of z o s j) both ∙ f.answer);
          store = λ e n.
              ap (λ z. z e) (w.store ∙ ap (λ z. store_of (line inside) o z j) same_s ∙ ap (λ z. store_of z o t j) l ∙ d.store ∙ ap (λ z. store_of (line q) o z j) hold ∙ sym g.store)
              ∙ held_other (Whole (low +ℤ pos k)) (store_of (given (same_element id) (Whole (low +ℤ pos k)) (line q)) o s j) e (or_false (same_element id e) (among es e) n).0
              ∙ ap (λ z. z e) (sym h.store ∙ ap (λ z. store_of z o s j) both ∙ f.store);
          log =
              ap (others own) (w.log ∙ ap (λ z. map Writes es ++ log_of (line inside) o z j) same_s)
              ∙ others_wiped own es _ (λ e m. or_right (same_element id e) (among es e) m)
              ∙ rw (or_left (same_element id id) (among es id) (same_element-itself id)) (ap (others own) (ap (λ z. log_of z o t j) l ∙ d.log ∙ ap (λ z. log_of (line q) o z j) hold))
              ∙ sym (alike_more (same_element id) own l2 l1 (λ e m. or_left (same_element id e) (among es e) m) g.log)
              ∙ sym (alike_more nobody own l3 l2 (λ e m. absurd (false≢true m)) h.log)
              ∙ ap (λ z. others own (log_of z o s j)) both
              ∙ alike_more nobody own l4 l5 (λ e m. absurd (false≢true m)) f.log;
        }

    pub are_columns : AreColumns vary low own Normal step (line r) rest
    are_columns = record {
      private = is_body.private;
      settled = λ k. iteration_settled low q k (written_settled (λ e. not (same_element id e)) (line q) is_body.spares);
      forgets = λ k. iteration_forgets low q k;
      last_answer = λ o s j. (wiped_run (id ∷ es) (Give {k = Way} Normal) o s j).answer;
      last_store = λ o s j. (wiped_run (id ∷ es) (Give {k = Way} Normal) o s j).store;
      writes = is_body.writes;
      restores = is_body.restores;
      answers = is_body.answers;
      runs = runs;
    }

    pub lockstep_marked : (know : Knowledge) → ((e : Element) (v : Value) → know e ≡ Some v → varies vary e ≡ false) → ((e : Element) → own e ≡ true → know e ≡ Some Undefined) → (n : ℕ) (c : ℤ) → is_column c (wholes_from low n) ≡ true → Lockstep vary (wholes_from low n) know know (line r) (line (marked id es low n q))
    lockstep_marked know shared hidden n c m = lockstep_columns vary low own Normal step (line r) rest are_columns know shared hidden n c m

    pub marked_orderly : (n : ℕ) → IsOrderly q → IsOrderly (marked id es low n q)
    marked_orderly n inner = (
      steps_apart vary low own Normal step (line r) rest are_columns,
      are_columns.settled,
      are_columns.forgets,
      rest_forgets,
      (λ i. wiped_orderly es (Put id (Whole (low +ℤ pos i)) (and_then {l = Nothing} q (λ g. Give tt))) (orderly_then {l = Nothing} q (λ g. Give tt) inner (λ g. tt))),
      wiped_orderly (id ∷ es) (Give {k = Way} Normal) tt,
    )
