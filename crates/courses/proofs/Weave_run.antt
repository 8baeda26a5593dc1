-- The iterations under a schedule as one interaction do what their interleaving on one store does.
use Rattle.std.proofs.Common.{◌≡◌, ℕ, refl, ap, sym, ◌∙◌, List, [], ◌∷◌, Bool, true, false, ◌&&◌, Option, Some, None, eqb, eq-eqb}
use Rattle.std.specs.Prelude.{is_some, if◌then◌else◌}
use Rattle.std.proofs.lemmas.Bool.{eqb-true, false≢true}
use Rattle.courses.specs.Element.{Store, put}
use Rattle.courses.specs.Interaction.{Interaction, Done, Trap, Read, Write, Order, Announce, Orders, answer_of, next_of, store_of}
use Rattle.courses.specs.Steps.{member, Distinct}
use Rattle.courses.specs.Handlers.{IsSettled}
use Rattle.courses.specs.Interleaving.{access_rest, access_store, run_out, Interleaving, at_number, goes_on, ends_up, scheduled, finished, has_ended, all_ended, advance, to_ends, weave}
use Rattle.courses.proofs.Binds.{follows, stops}
use Rattle.courses.proofs.Settling.{settles}
use Rattle.courses.proofs.Alike.{or_left, or_right, or_false}
use Rattle.courses.proofs.Reorder.{other_name}

-- the interaction ends exactly where this test says, and then leaves this store
pub record Gives {B : Type 0} (r : Interaction B) (b : B) (o : Orders) (s : Store) (j : ℕ) (x : Bool) (f : Store) : Type 0 where
  pub yes : x ≡ true → (answer_of r o s j ≡ Some b) × (store_of r o s j ≡ f)
  pub no : x ≡ false → answer_of r o s j ≡ None

advance_gives : {A B : Type 0} (r : Interaction A) (k : Interaction A → Interaction B) (b : B) (o : Orders) (s : Store) (j n : ℕ) (x : Bool) (f : Store) → IsSettled r → (access_rest r o s n ≡ Trap → x ≡ false) → Gives (k (access_rest r o s n)) b o (access_store r o s n) j x f → Gives (advance r k) b o s j x f
advance_gives (Done a) k b o s j n x f h t g = g
advance_gives Trap k b o s j n x f h t g = record { yes = λ q. absurd (false≢true (sym (t refl) ∙ q)); no = λ q. refl }
advance_gives (Read e r) k b o s j n x f h t g = record { yes = g.yes; no = g.no }
advance_gives (Write e v r) k b o s j n x f h t g = record { yes = g.yes; no = g.no }
advance_gives (Order m r) k b o s j n x f h t g = absurd h
advance_gives (Announce u r) k b o s j n x f h t g = let i = advance_gives r k b o s j n x f h t g in record { yes = i.yes; no = i.no }

rest_settled : {A : Type 0} (r : Interaction A) (o : Orders) (s : Store) (j : ℕ) → IsSettled r → IsSettled (access_rest r o s j)
rest_settled (Done a) o s j h = tt
rest_settled Trap o s j h = tt
rest_settled (Read e f) o s j h = h (s e)
rest_settled (Write e v r) o s j h = h
rest_settled (Order n f) o s j h = absurd h
rest_settled (Announce u r) o s j h = rest_settled r o s j h

-- other iterations stay as they are
goes_other : {A : Type 0} (o : Orders) (d : Interleaving A) (k i : ℕ) → eqb k i ≡ false → (goes_on o d k).run i ≡ d.run i
unfolding goes_on
goes_other o d k i h = rw h

ends_other : {A : Type 0} (o : Orders) (d : Interleaving A) (k i : ℕ) → eqb k i ≡ false → (ends_up o d k).run i ≡ d.run i
unfolding ends_up
ends_other o d k i h = rw h

ends_own : {A : Type 0} (o : Orders) (d : Interleaving A) (k : ℕ) → (ends_up o d k).run k ≡ run_out (d.run k) o d.store (d.number k)
unfolding ends_up
ends_own o d k = rw (eq-eqb k k refl)

finished_other : {A : Type 0} (o : Orders) (ks : List ℕ) (d : Interleaving A) (i : ℕ) → member i ks ≡ false → (finished o ks d).run i ≡ d.run i
finished_other o [] d i h = refl
finished_other o (k ∷ ks) d i h = let t = or_false (eqb k i) (member i ks) h in finished_other o ks (ends_up o d k) i t.1 ∙ ends_other o d k i t.0

-- a trap stays
goes_trap : {A : Type 0} (o : Orders) (d : Interleaving A) (k i : ℕ) → d.run i ≡ Trap → (goes_on o d k).run i ≡ Trap
unfolding goes_on
goes_trap o d k i h = go (eqb k i) refl
  where
    go : (b : Bool) → eqb k i ≡ b → (if eqb k i then access_rest (d.run k) o d.store (d.number k) else d.run i) ≡ Trap
    go true q = rw q (ap (λ r. access_rest r o d.store (d.number k)) (ap d.run (eqb-true k i q) ∙ h))
    go false q = rw q h

ends_trap : {A : Type 0} (o : Orders) (d : Interleaving A) (k i : ℕ) → d.run i ≡ Trap → (ends_up o d k).run i ≡ Trap
unfolding ends_up
ends_trap o d k i h = go (eqb k i) refl
  where
    go : (b : Bool) → eqb k i ≡ b → (if eqb k i then run_out (d.run k) o d.store (d.number k) else d.run i) ≡ Trap
    go true q = rw q (ap (λ r. run_out r o d.store (d.number k)) (ap d.run (eqb-true k i q) ∙ h))
    go false q = rw q h

finished_trap : {A : Type 0} (o : Orders) (ks : List ℕ) (d : Interleaving A) (i : ℕ) → d.run i ≡ Trap → (finished o ks d).run i ≡ Trap
finished_trap o [] d i h = h
finished_trap o (k ∷ ks) d i h = finished_trap o ks (ends_up o d k) i (ends_trap o d k i h)

scheduled_trap : {A : Type 0} (o : Orders) (xs ks : List ℕ) (d : Interleaving A) (i : ℕ) → d.run i ≡ Trap → (scheduled o xs ks d).run i ≡ Trap
scheduled_trap o xs [] d i h = h
scheduled_trap o xs (k ∷ ks) d i h = go (member k xs) refl (scheduled_trap o xs ks (goes_on o d k) i (goes_trap o d k i h)) (scheduled_trap o xs ks d i h)
  where
    go : (b : Bool) → member k xs ≡ b → (scheduled o xs ks (goes_on o d k)).run i ≡ Trap → (scheduled o xs ks d).run i ≡ Trap → (scheduled o xs ks (if member k xs then goes_on o d k else d)).run i ≡ Trap
    go true q a c = rw q a
    go false q a c = rw q c

one_not_ended : {A : Type 0} (d : Interleaving A) (ks : List ℕ) (i : ℕ) → member i ks ≡ true → has_ended (d.run i) ≡ false → all_ended d ks ≡ false
one_not_ended d [] i m h = absurd (false≢true m)
one_not_ended d (k ∷ ks) i m h = go (eqb k i) (has_ended (d.run k)) refl refl (one_not_ended d ks i)
  where
    go : (b c : Bool) → eqb k i ≡ b → has_ended (d.run k) ≡ c → (member i ks ≡ true → has_ended (d.run i) ≡ false → all_ended d ks ≡ false) → has_ended (d.run k) && all_ended d ks ≡ false
    go b false q e ih = rw e
    go true true q e ih = absurd (false≢true (sym h ∙ ap (λ n. has_ended (d.run n)) (sym (eqb-true k i q)) ∙ e))
    go false true q e ih = rw e (ih (rw q at m) h)

over_ended : {A : Type 0} (r : Interaction A) (o : Orders) (s : Store) (n j : ℕ) → IsSettled r → has_ended (run_out r o s n) ≡ is_some (answer_of r o s j)
over_ended (Done a) o s n j h = refl
over_ended Trap o s n j h = refl
over_ended (Read e f) o s n j h = over_ended (f (s e)) o s n j (h (s e))
over_ended (Write e v r) o s n j h = over_ended r o (put s e v) n j h
over_ended (Order m f) o s n j h = absurd h
over_ended (Announce u r) o s n j h = over_ended r o s n j h

-- to their ends, one after another
ends_give : {A B : Type 0} (b : B) (o : Orders) (ks : List ℕ) (th : ℕ → Interaction A) (d : Interleaving A) (j : ℕ) → Distinct ks → ((i : ℕ) → IsSettled (th i)) → ((i : ℕ) → member i ks ≡ true → d.run i ≡ th i) → Gives (to_ends b ks th) b o d.store j (all_ended (finished o ks d) ks) (finished o ks d).store
unfolding ends_up
ends_give b o [] th d j dis st same = record { yes = λ q. (refl, refl); no = λ q. absurd (false≢true (sym q)) }
ends_give {A} {B} b o (k ∷ ks) th d j dis st same = go (answer_of (th k) o d.store j) refl (λ n. ends_give b o ks th (ends_up o d k) n dis.1 st others)
  where
    own : d.run k ≡ th k
    own = same k (or_left _ _ (eq-eqb k k refl))

    others : (i : ℕ) → member i ks ≡ true → (ends_up o d k).run i ≡ th i
    others i m = ends_other o d k i (other_name k i ks dis.0 m) ∙ same i (or_right (eqb k i) _ m)

    last : has_ended ((finished o ks (ends_up o d k)).run k) ≡ is_some (answer_of (th k) o d.store j)
    last =
        ap has_ended (finished_other o ks (ends_up o d k) k dis.0 ∙ ends_own o d k)
        ∙ ap (λ r. has_ended (run_out r o d.store (d.number k))) own
        ∙ over_ended (th k) o d.store (d.number k) j (st k)

    store : (ends_up o d k).store ≡ store_of (th k) o d.store j
    store = ap (λ r. store_of r o d.store (d.number k)) own ∙ (settles (th k) o d.store (d.number k) o j (st k)).store

    go : (a : Option A) → answer_of (th k) o d.store j ≡ a → ((n : ℕ) → Gives (to_ends b ks th) b o (ends_up o d k).store n (all_ended (finished o ks (ends_up o d k)) ks) (finished o ks (ends_up o d k)).store) → Gives (to_ends b (k ∷ ks) th) b o d.store j (has_ended ((finished o ks (ends_up o d k)).run k) && all_ended (finished o ks (ends_up o d k)) ks) (finished o ks (ends_up o d k)).store
    go None q ih =
        let e : has_ended ((finished o ks (ends_up o d k)).run k) ≡ false = last ∙ ap is_some q in
        record { yes = λ x. absurd (false≢true (rw e at x)); no = λ x. (stops (th k) (λ a. to_ends b ks th) o d.store j q).answer }
    go (Some a) q ih =
        let e : has_ended ((finished o ks (ends_up o d k)).run k) ≡ true = last ∙ ap is_some q in
        let f = follows (th k) (λ a. to_ends b ks th) a o d.store j q in
        let g = ih (next_of (th k) o d.store j) in
        record {
          yes = λ x. let y = g.yes (rw e at x) in (f.answer ∙ ap (λ t. answer_of (to_ends b ks th) o t (next_of (th k) o d.store j)) (sym store) ∙ y.0, f.store ∙ ap (λ t. store_of (to_ends b ks th) o t (next_of (th k) o d.store j)) (sym store) ∙ y.1);
          no = λ x. f.answer ∙ ap (λ t. answer_of (to_ends b ks th) o t (next_of (th k) o d.store j)) (sym store) ∙ g.no (rw e at x);
        }

-- under a schedule, and then to their ends
pub weave_gives : {A B : Type 0} (b : B) (o : Orders) (xs ks : List ℕ) (d : Interleaving A) (j : ℕ) → Distinct xs → ((i : ℕ) → IsSettled (d.run i)) → Gives (weave b xs ks d.run) b o d.store j (all_ended (finished o xs (scheduled o xs ks d)) xs) (finished o xs (scheduled o xs ks d)).store
unfolding goes_on
weave_gives b o xs [] d j dis st = ends_give b o xs d.run d j dis st (λ i m. refl)
weave_gives b o xs (k ∷ ks) d j dis st = go (member k xs) refl (weave_gives b o xs ks (goes_on o d k) j dis settled) (weave_gives b o xs ks d j dis st)
  where
    settled : (i : ℕ) → IsSettled ((goes_on o d k).run i)
    settled i = pick (eqb k i) refl
      where
        pick : (c : Bool) → eqb k i ≡ c → IsSettled (if eqb k i then access_rest (d.run k) o d.store (d.number k) else d.run i)
        pick true q = rw q (rest_settled (d.run k) o d.store (d.number k) (st k))
        pick false q = rw q (st i)

    dead : member k xs ≡ true → access_rest (d.run k) o d.store (d.number k) ≡ Trap → all_ended (finished o xs (scheduled o xs ks (goes_on o d k))) xs ≡ false
    dead m t =
        let own : (goes_on o d k).run k ≡ Trap = rw (eq-eqb k k refl) t in
        one_not_ended (finished o xs (scheduled o xs ks (goes_on o d k))) xs k m
        (ap has_ended (finished_trap o xs (scheduled o xs ks (goes_on o d k)) k (scheduled_trap o xs ks (goes_on o d k) k own)))

    go : (c : Bool) → member k xs ≡ c → Gives (weave b xs ks (goes_on o d k).run) b o (goes_on o d k).store j (all_ended (finished o xs (scheduled o xs ks (goes_on o d k))) xs) (finished o xs (scheduled o xs ks (goes_on o d k))).store → Gives (weave b xs ks d.run) b o d.store j (all_ended (finished o xs (scheduled o xs ks d)) xs) (finished o xs (scheduled o xs ks d)).store → Gives (weave b xs (k ∷ ks) d.run) b o d.store j (all_ended (finished o xs (scheduled o xs (k ∷ ks) d)) xs) (finished o xs (scheduled o xs (k ∷ ks) d)).store
    go true q g h = rw q (advance_gives (d.run k) (λ r. weave b xs ks (at_number d.run k r)) b o d.store j (d.number k) _ _ (st k) (dead q) g)
    go false q g h = rw q h
