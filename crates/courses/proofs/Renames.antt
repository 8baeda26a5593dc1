-- An interaction with renamed elements does what it does on the store seen through the renaming.
use Rattle.std.proofs.Common.{◌≡◌, ℕ, suc, refl, ap, ◌∙◌, ◌∷◌, map}
use mathlib.Core.Path.{fun_ext}
use Rattle.courses.specs.Element.{Value, Element, Store, put}
use Rattle.courses.specs.Interaction.{Reads, Writes, Announces, Interaction, Done, Trap, Read, Write, Order, Announce, Orders, answer_of, next_of, log_of, store_of}
use Rattle.courses.specs.Renaming.{renamed_event, KeepsApart, view, RenamedRun}
use Rattle.courses.proofs.Stores.{put-other}

view-put : (f : Element → Element) (s : Store) (e : Element) (v : Value) → KeepsApart f → view f (put s (f e) v) ≡ put (view f s) e v
unfolding put
view-put f s e v h = fun_ext (λ x. rw (h e x))

pub renamed_run : {A : Type 0} (f : Element → Element) (r : Interaction A) (o : Orders) (s : Store) (j : ℕ) → KeepsApart f → RenamedRun f r o s j
renamed_run f (Done a) o s j h = record { answer = refl; next = refl; log = refl; store = refl; outside = λ e n. refl }
renamed_run f Trap o s j h = record { answer = refl; next = refl; log = refl; store = refl; outside = λ e n. refl }
renamed_run f (Read e g) o s j h =
    let r = renamed_run f (g (s (f e))) o s j h in
    record { answer = r.answer; next = r.next; log = ap (λ l. Reads (f e) ∷ l) r.log; store = r.store; outside = r.outside }
renamed_run f (Write e v r) o s j h =
    let t = renamed_run f r o (put s (f e) v) j h in
    let p = view-put f s e v h in
    record {
      answer = t.answer ∙ ap (λ u. answer_of r o u j) p;
      next = t.next ∙ ap (λ u. next_of r o u j) p;
      log = ap (λ l. Writes (f e) ∷ l) (t.log ∙ ap (λ u. map (renamed_event f) (log_of r o u j)) p);
      store = t.store ∙ ap (λ u. store_of r o u j) p;
      outside = λ x n. t.outside x n ∙ put-other s (f e) v x (n e);
    }
renamed_run f (Order n g) o s j h =
    let r = renamed_run f (g (o j n)) o s (suc j) h in
    record { answer = r.answer; next = r.next; log = r.log; store = r.store; outside = r.outside }
renamed_run f (Announce t r) o s j h =
    let r' = renamed_run f r o s j h in
    record { answer = r'.answer; next = r'.next; log = ap (λ l. Announces t ∷ l) r'.log; store = r'.store; outside = r'.outside }
