-- The woven line of an orderly course does what its line does.
use Rattle.std.proofs.Common.{◌≡◌, ℕ, refl, ap, ◌∙◌, List, Bool, true, false, Option, Some, None}
use Rattle.std.specs.Prelude.{is_some}
use Rattle.std.proofs.lemmas.Bool.{false≢true}
use Rattle.courses.specs.Element.{Element, Store, put, merged, blank}
use Rattle.courses.specs.Ranges.{up_from}
use Rattle.courses.specs.Interaction.{Orders, answer_of, next_of, store_of}
use Rattle.courses.specs.Handlers.{KeptAside, keeping}
use Rattle.courses.specs.Interleaving.{start, woven, all_ended, weave}
use Rattle.courses.specs.Course.{Sort, Nothing, Answer, Course, Give, Fail, Get, Put, Tell, Loop, Scope, line}
use Rattle.courses.specs.Weaving.{IsFair, rising, iterations_of, answer_woven, store_woven, IsOrderly, woven_line, LinesAlike}
use Rattle.courses.proofs.Binds.{follows, stops}
use Rattle.courses.proofs.Handled.{keeping_run, kept_store}
use Rattle.courses.proofs.Settling.{keeping_settled}
use Rattle.courses.proofs.Weave_run.{Gives, weave_gives}
use Rattle.courses.proofs.Wovens.{woven_alike}
use Rattle.courses.proofs.Planned.{up_distinct}

record AsWorld {k : Sort} (q : Course k) (ks : List ℕ) (s : Store) (j : ℕ) : Type 0 where
  answer : answer_of (woven_line q ks) rising s j ≡ answer_woven q ks s
  store : is_some (answer_woven q ks s) ≡ true → store_of (woven_line q ks) rising s j ≡ store_woven q ks s

loop_world : {k : Sort} (n : ℕ) (own : Element → Bool) (body : ℕ → Course Nothing) (r : Course k) (ks : List ℕ) (s : Store) (j : ℕ) → IsOrderly (Loop n own body r) → ((t : Store) (m : ℕ) → AsWorld r ks t m) → AsWorld (Loop n own body r) ks s j
loop_world n own body r ks s j h ih = go (all_ended (woven (iterations_of own body) (up_from 0 n) ks s) (up_from 0 n)) refl
  where
    gives : Gives (weave (tt {0}) (up_from 0 n) ks (λ i. keeping own blank (line (body i)))) (tt {0}) rising s j (all_ended (woven (iterations_of own body) (up_from 0 n) ks s) (up_from 0 n)) (woven (iterations_of own body) (up_from 0 n) ks s).store
    gives = weave_gives (tt {0}) rising (up_from 0 n) ks (start (iterations_of own body) s) j (up_distinct 0 n) (λ i. keeping_settled own blank (line (body i)) (h.1 i))

    go : (b : Bool) → all_ended (woven (iterations_of own body) (up_from 0 n) ks s) (up_from 0 n) ≡ b → AsWorld (Loop n own body r) ks s j
    go false q =
        let all = weave (tt {0}) (up_from 0 n) ks (λ i. keeping own blank (line (body i))) in
        record {
          answer = (stops all (λ u. woven_line r ks) rising s j (gives.no q)).answer ∙ rw q;
          store = λ t. absurd (false≢true (rw q at t));
        }
    go true q =
        let all = weave (tt {0}) (up_from 0 n) ks (λ i. keeping own blank (line (body i))) in
        let y = gives.yes q in
        let f = follows all (λ u. woven_line r ks) tt rising s j y.0 in
        let m = next_of all rising s j in
        let i = ih (woven (iterations_of own body) (up_from 0 n) ks s).store m in
        record {
          answer = rw q (f.answer ∙ ap (λ u. answer_of (woven_line r ks) rising u m) y.1 ∙ i.answer);
          store = λ t. rw q (f.store ∙ ap (λ u. store_of (woven_line r ks) rising u m) y.1 ∙ i.store (rw q at t));
        }

scope_world : {k l : Sort} (p : Element → Bool) (q : Course l) (g : Answer l → Course k) (ks : List ℕ) (s : Store) (j : ℕ) → AsWorld q ks (merged p blank s) j → ((a : Answer l) (t : Store) (m : ℕ) → AsWorld (g a) ks t m) → AsWorld (Scope p q g) ks s j
scope_world {k} {l} p q g ks s j i ih = go (answer_woven q ks (merged p blank s)) refl
  where
    kept : KeptAside p blank (woven_line q ks) rising s j
    kept = keeping_run p blank (woven_line q ks) rising s j

    go : (x : Option (Answer l)) → answer_woven q ks (merged p blank s) ≡ x → AsWorld (Scope p q g) ks s j
    go None e =
        let n = (stops (keeping p blank (woven_line q ks)) (λ a. woven_line (g a) ks) rising s j (kept.answer ∙ i.answer ∙ e)).answer in
        record { answer = n ∙ rw e; store = λ t. absurd (false≢true (rw e at t)) }
    go (Some a) e =
        let r = keeping p blank (woven_line q ks) in
        let f = follows r (λ a. woven_line (g a) ks) a rising s j (kept.answer ∙ i.answer ∙ e) in
        let m = next_of r rising s j in
        let at : store_of r rising s j ≡ merged p s (store_woven q ks (merged p blank s)) = kept_store p blank (woven_line q ks) rising s j ∙ ap (merged p s) (i.store (ap is_some e)) in
        let t = ih a (merged p s (store_woven q ks (merged p blank s))) m in
        record {
          answer = rw e (f.answer ∙ ap (λ u. answer_of (woven_line (g a) ks) rising u m) at ∙ t.answer);
          store = λ c. rw e (f.store ∙ ap (λ u. store_of (woven_line (g a) ks) rising u m) at ∙ t.store (rw e at c));
        }

as_world : {k : Sort} (q : Course k) → IsOrderly q → (ks : List ℕ) (s : Store) (j : ℕ) → AsWorld q ks s j
as_world (Give a) h ks s j = record { answer = refl; store = λ t. refl }
as_world Fail h ks s j = record { answer = refl; store = λ t. refl }
as_world (Get e f) h ks s j = let t = as_world (f (s e)) (h (s e)) ks s j in record { answer = t.answer; store = t.store }
as_world (Put e v r) h ks s j = let t = as_world r h ks (put s e v) j in record { answer = t.answer; store = t.store }
as_world (Tell u r) h ks s j = let t = as_world r h ks s j in record { answer = t.answer; store = t.store }
as_world (Loop n own body r) h ks s j = loop_world n own body r ks s j h (λ t m. as_world r h.5 ks t m)
as_world (Scope p q g) h ks s j = scope_world p q g ks s j (as_world q h.0 ks (merged p blank s) j) (λ a t m. as_world (g a) (h.1 a) ks t m)

pub lines_alike : {k : Sort} (q : Course k) → IsOrderly q → (ks : List ℕ) (o : Orders) → IsFair o → (s : Store) (j : ℕ) → LinesAlike q ks o s j
lines_alike q h ks o fair s j =
    let w = as_world q h ks s j in
    let a = woven_alike q h ks o fair s j in
    record {
      answer = w.answer ∙ a.answer;
      store = λ t. w.store (ap is_some a.answer ∙ t) ∙ a.store t;
    }
