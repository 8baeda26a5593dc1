-- The law of orders where each step has elements of its own, which are set aside.
use Rattle.std.proofs.Common.{◌≡◌, ℕ, refl, ap, sym, ◌∙◌, List, [], ◌∷◌, Bool, true, false, eqb}
use Rattle.std.specs.Prelude.{if◌then◌else◌}
use Rattle.courses.specs.Element.{Element, Store, nobody}
use Rattle.courses.specs.Interaction.{Interaction, Orders, next_of, log_of, store_of}
use Rattle.courses.specs.Logs.{others}
use Rattle.courses.specs.Steps.{Steps, trace, after, all_end, log_in, SameSteps}
use Rattle.courses.specs.Handlers.{Forgets, IsSettled}
use Rattle.courses.specs.Private.{AgreeBut, log_run, MayReorderBut, SameRunBut}
use Rattle.courses.proofs.Settling.{clear_touches}
use Rattle.courses.proofs.Reorder.{reordered}
use Rattle.courses.proofs.Loops.{alone, step_alone, all_alone}

module _ (own : Element → Bool) (step : ℕ → Interaction (Unit {0})) (settled : (i : ℕ) → IsSettled (step i)) (forgets : (i : ℕ) → Forgets own (step i)) where
  abbrev w : Orders → Steps (Unit {0})
  w o = alone own step settled forgets o

  log_alone : (is : List ℕ) (o : Orders) (t s : Store) (j k : ℕ) → AgreeBut own t s → others own (log_run step is o t j k) ≡ others nobody (log_in (w o) is s k)
  log_alone [] o t s j k h = refl
  log_alone (i ∷ is) o t s j k h =
      go (eqb i k) refl (log_alone is o (store_of (step i) o t j) (after (w o) i s) (next_of (step i) o t j) k (step_alone own step settled forgets i o t s j o h).store)
    where
      go : (b : Bool) → eqb i k ≡ b → others own (log_run step is o (store_of (step i) o t j) (next_of (step i) o t j) k) ≡ others nobody (log_in (w o) is (after (w o) i s) k) → others own (if eqb i k then log_of (step i) o t j else log_run step is o (store_of (step i) o t j) (next_of (step i) o t j) k) ≡ others nobody (if eqb i k then trace (w o) i s else log_in (w o) is (after (w o) i s) k)
      go true q ih = rw q (step_alone own step settled forgets i o t s j o h).log
      go false q ih = rw q ih

  same_run_but : (o : Orders) (s : Store) (j : ℕ) (xs ys : List ℕ) → SameSteps xs ys → MayReorderBut own step o s j xs ys → SameRunBut own step o s j xs ys
  same_run_but o s j xs ys same may =
      let ax = all_alone own step settled forgets xs o s s j o (λ e m. refl) in
      let ay = all_alone own step settled forgets ys o s s j o (λ e m. refl) in
      let x_ends : all_end (w o) xs s ≡ true = sym ax.ends ∙ may.ends in
      let r = reordered (w o) s xs ys same (record {
        ends = x_ends;
        clear = λ i k b c. clear_touches (log_in (w o) xs s i) (log_in (w o) xs s k) (others own (log_run step xs o s j i)) (others own (log_run step xs o s j k)) (sym (log_alone xs o s s j i (λ e m. refl))) (sym (log_alone xs o s s j k (λ e m. refl))) (may.clear i k b c);
      }) in
      record {
        ends = ay.ends ∙ r.ends;
        store = λ e m. ay.store r.ends e m ∙ ap (λ u. u e) r.store ∙ sym (ax.store x_ends e m);
        logs = λ k. log_alone ys o s s j k (λ e m. refl) ∙ ap (others nobody) (r.logs k) ∙ sym (log_alone xs o s s j k (λ e m. refl));
      }

-- two lists of the same steps
pub reordered_but : (own : Element → Bool) (step : ℕ → Interaction (Unit {0})) → ((i : ℕ) → IsSettled (step i)) → ((i : ℕ) → Forgets own (step i)) → (o : Orders) (s : Store) (j : ℕ) (xs ys : List ℕ) → SameSteps xs ys → MayReorderBut own step o s j xs ys → SameRunBut own step o s j xs ys
reordered_but own step settled forgets o s j xs ys same may = same_run_but own step settled forgets o s j xs ys same may
