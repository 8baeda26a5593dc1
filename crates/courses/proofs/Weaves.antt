-- Weaving: iterations that are clear of one another do, under every schedule, what each does alone.
use Rattle.std.proofs.Common.{◌≡◌, ℕ, suc, refl, ap, sym, ◌∙◌, subst, List, [], ◌∷◌, ◌++◌, Bool, true, false, ◌||◌, eqb, eq-eqb, append_assoc, ◌⊎◌, inl, inr}
use Rattle.std.proofs.lemmas.List.{append-nil}
use Rattle.std.specs.Prelude.{is_some, if◌then◌else◌}
use mathlib.Core.Path.{fun_ext}
use Rattle.std.proofs.lemmas.Bool.{eqb-true, false≢true}
use Rattle.courses.specs.Element.{Element, same_element, Store, put}
use Rattle.courses.specs.Interaction.{Event, Announces, Interaction, Done, Trap, Read, Write, Order, Announce, Orders, answer_of, log_of, store_of}
use Rattle.courses.specs.Logs.{reads_it, writes_it, is_read, is_written, Agree, Alike, is_touched}
use Rattle.courses.specs.Steps.{Steps, ends, trace, after, after_all, member, Distinct}
use Rattle.courses.specs.Interleaving.{access_rest, access_number, access_store, access_log, run_out, Interleaving, at_number, moved, start, goes_on, ends_up, scheduled, finished, woven, has_ended, all_ended, each_ends, AllClear, WovenWell}
use Rattle.courses.proofs.Stores.{same_element-itself, put-other}
use Rattle.courses.proofs.Alike.{put_alike, alike, unwritten, or_left, or_right, or_false}

pub apart : (a b : Bool) → (a ≡ true → b ≡ false) → b ≡ true → a ≡ false
apart true b h q = absurd (false≢true (sym (h refl) ∙ q))
apart false b h q = refl

or_assoc : (a b c : Bool) → a || (b || c) ≡ (a || b) || c
or_assoc true b c = refl
or_assoc false b c = refl

-- what is done and what is left make the whole
record Splits {A : Type 0} (r : Interaction A) (o : Orders) (s : Store) (j : ℕ) : Type 0 where
  log : log_of r o s j ≡ access_log r o s j ++ log_of (access_rest r o s j) o (access_store r o s j) (access_number r o s j)
  answer : answer_of (access_rest r o s j) o (access_store r o s j) (access_number r o s j) ≡ answer_of r o s j
  store : store_of (access_rest r o s j) o (access_store r o s j) (access_number r o s j) ≡ store_of r o s j

splits : {A : Type 0} (r : Interaction A) (o : Orders) (s : Store) (j : ℕ) → Splits r o s j
splits (Done a) o s j = record { log = refl; answer = refl; store = refl }
splits Trap o s j = record { log = refl; answer = refl; store = refl }
splits (Read e f) o s j = record { log = refl; answer = refl; store = refl }
splits (Write e v r) o s j = record { log = refl; answer = refl; store = refl }
splits (Order n f) o s j = let t = splits (f (o j n)) o s (suc j) in record { log = t.log; answer = t.answer; store = t.store }
splits (Announce u r) o s j = let t = splits r o s j in record { log = ap (λ l. Announces u ∷ l) t.log; answer = t.answer; store = t.store }

-- an interaction goes on alike from a store that agrees on what it reads next
record GoesAlike {A : Type 0} (r : Interaction A) (o : Orders) (j : ℕ) (s s' : Store) : Type 0 where
  rest : access_rest r o s' j ≡ access_rest r o s j
  number : access_number r o s' j ≡ access_number r o s j
  said : access_log r o s' j ≡ access_log r o s j
  kept : (e : Element) → s' e ≡ s e → access_store r o s' j e ≡ access_store r o s j e

goes_alike : {A : Type 0} (r : Interaction A) (o : Orders) (j : ℕ) (s s' : Store) → Agree (access_log r o s j) s s' → GoesAlike r o j s s'
goes_alike (Done a) o j s s' h = record { rest = refl; number = refl; said = refl; kept = λ e q. q }
goes_alike Trap o j s s' h = record { rest = refl; number = refl; said = refl; kept = λ e q. q }
goes_alike (Read e f) o j s s' h =
    record { rest = ap f (sym (h e (or_left (same_element e e) false (same_element-itself e)))); number = refl; said = refl; kept = λ e q. q }
goes_alike (Write e v r) o j s s' h = record { rest = refl; number = refl; said = refl; kept = λ x q. put_alike s' s e v x q }
goes_alike (Order n f) o j s s' h =
    let t = goes_alike (f (o j n)) o (suc j) s s' h in record { rest = t.rest; number = t.number; said = t.said; kept = t.kept }
goes_alike (Announce u r) o j s s' h =
    let t = goes_alike r o j s s' h in record { rest = t.rest; number = t.number; said = ap (λ l. Announces u ∷ l) t.said; kept = t.kept }

unsaid : {A : Type 0} (r : Interaction A) (o : Orders) (s : Store) (j : ℕ) (e : Element) → is_written (access_log r o s j) e ≡ false → access_store r o s j e ≡ s e
unsaid (Done a) o s j e h = refl
unsaid Trap o s j e h = refl
unsaid (Read x f) o s j e h = refl
unsaid (Write x v r) o s j e h = put-other s x v e (or_false (same_element x e) false h).0
unsaid (Order n f) o s j e h = unsaid (f (o j n)) o s (suc j) e h
unsaid (Announce u r) o s j e h = unsaid r o s j e h

-- an interaction that is over
record Over {A : Type 0} (r : Interaction A) (o : Orders) (s : Store) (j : ℕ) : Type 0 where
  log : (t : Store) (n : ℕ) → log_of (run_out r o s j) o t n ≡ []
  answer : (t : Store) (n : ℕ) → answer_of (run_out r o s j) o t n ≡ answer_of r o s j
  store : (t : Store) (n : ℕ) → store_of (run_out r o s j) o t n ≡ t
  ended : has_ended (run_out r o s j) ≡ is_some (answer_of r o s j)

over : {A : Type 0} (r : Interaction A) (o : Orders) (s : Store) (j : ℕ) → Over r o s j
over (Done a) o s j = record { log = λ t n. refl; answer = λ t n. refl; store = λ t n. refl; ended = refl }
over Trap o s j = record { log = λ t n. refl; answer = λ t n. refl; store = λ t n. refl; ended = refl }
over (Read e f) o s j = let x = over (f (s e)) o s j in record { log = x.log; answer = x.answer; store = x.store; ended = x.ended }
over (Write e v r) o s j = let x = over r o (put s e v) j in record { log = x.log; answer = x.answer; store = x.store; ended = x.ended }
over (Order n f) o s j = let x = over (f (o j n)) o s (suc j) in record { log = x.log; answer = x.answer; store = x.store; ended = x.ended }
over (Announce u r) o s j = let x = over r o s j in record { log = x.log; answer = x.answer; store = x.store; ended = x.ended }

-- the same end from a store that agrees on what is read
over_alike : {A : Type 0} (r : Interaction A) (o : Orders) (j : ℕ) (s s' : Store) → Agree (log_of r o s j) s s' → run_out r o s' j ≡ run_out r o s j
over_alike (Done a) o j s s' h = refl
over_alike Trap o j s s' h = refl
over_alike (Read e f) o j s s' h =
    let same = h e (or_left (same_element e e) _ (same_element-itself e)) in
    subst (λ v. run_out (f v) o s' j ≡ run_out (f (s e)) o s j) same (over_alike (f (s e)) o j s s' (λ x w. h x (or_right (same_element e x) _ w)))
over_alike (Write e v r) o j s s' h = over_alike r o j (put s e v) (put s' e v) (λ x w. put_alike s s' e v x (h x w))
over_alike (Order n f) o j s s' h = over_alike (f (o j n)) o (suc j) s s' h
over_alike (Announce u r) o j s s' h = over_alike r o j s s' h

is_read-append : (ts us : List Event) (e : Element) → is_read (ts ++ us) e ≡ is_read ts e || is_read us e
is_read-append [] us e = refl
is_read-append (t ∷ ts) us e = ap (λ b. reads_it t e || b) (is_read-append ts us e) ∙ or_assoc (reads_it t e) _ _

is_written-append : (ts us : List Event) (e : Element) → is_written (ts ++ us) e ≡ is_written ts e || is_written us e
is_written-append [] us e = refl
is_written-append (t ∷ ts) us e = ap (λ b. writes_it t e || b) (is_written-append ts us e) ∙ or_assoc (writes_it t e) _ _

pub same_end : {A : Type 0} (r : Interaction A) (o : Orders) (j : ℕ) (s s' : Store) (e : Element) → Alike r o j s s' → s' e ≡ s e → store_of r o s' j e ≡ store_of r o s j e
same_end r o j s s' e a h = go (is_written (log_of r o s j) e) refl
  where
    go : (b : Bool) → is_written (log_of r o s j) e ≡ b → store_of r o s' j e ≡ store_of r o s j e
    go true q = a.written e q
    go false q = unwritten r o s' j e (ap (λ l. is_written l e) a.log ∙ q) ∙ h ∙ sym (unwritten r o s j e q)

-- where the iterations stand: each as far as it would be alone, and the store made of what each has done
record Fits {A : Type 0} (w : Steps A) (xs : List ℕ) (s : Store) (d : Interleaving A) : Type 0 where
  alone : ℕ → Store
  log : (k : ℕ) → member k xs ≡ true → d.log k ++ log_of (d.run k) w.orders (alone k) (d.number k) ≡ trace w k s
  answer : (k : ℕ) → member k xs ≡ true → answer_of (d.run k) w.orders (alone k) (d.number k) ≡ answer_of (w.step k) w.orders s w.first
  store : (k : ℕ) → member k xs ≡ true → store_of (d.run k) w.orders (alone k) (d.number k) ≡ after w k s
  touched : (k : ℕ) → member k xs ≡ true → (e : Element) → is_touched (trace w k s) e ≡ true → d.store e ≡ alone k e
  untouched : (e : Element) → ((k : ℕ) → member k xs ≡ true → is_written (trace w k s) e ≡ false) → d.store e ≡ s e

fits_start : {A : Type 0} (w : Steps A) (xs : List ℕ) (s : Store) → Fits w xs s (start w s)
fits_start w xs s = record {
  alone = λ k. s;
  log = λ k m. refl;
  answer = λ k m. refl;
  store = λ k m. refl;
  touched = λ k m e t. refl;
  untouched = λ e h. refl;
}

module _ {A : Type 0} (w : Steps A) (xs : List ℕ) (s : Store) (clear : AllClear w xs s) (d : Interleaving A) (fits : Fits w xs s d) (k : ℕ) (at : member k xs ≡ true) where
  -- what is left of iteration k, alone
  left : List Event
  left = log_of (d.run k) w.orders (fits.alone k) (d.number k)

  left_read : (e : Element) → is_read left e ≡ true → is_touched (trace w k s) e ≡ true
  unfolding left
  left_read e h =
      or_left _ _ (ap (λ l. is_read l e) (sym (fits.log k at)) ∙ is_read-append (d.log k) left e ∙ or_right (is_read (d.log k) e) _ h)

  left_agrees : Agree left (fits.alone k) d.store
  left_agrees e h = sym (fits.touched k at e (left_read e h))

  -- what another iteration touches is not written in what is left
  left_spares : (i : ℕ) → member i xs ≡ true → eqb k i ≡ false → (e : Element) → is_touched (trace w i s) e ≡ true → is_written left e ≡ false
  unfolding left
  left_spares i m n e t = apart (is_written left e) (is_touched (trace w i s) e) (λ q. (clear k i at m n e).0 (whole q)) t
    where
      whole : is_written left e ≡ true → is_written (trace w k s) e ≡ true
      whole q = ap (λ l. is_written l e) (sym (fits.log k at)) ∙ is_written-append (d.log k) left e ∙ or_right (is_written (d.log k) e) _ q

  left_unwritten : (e : Element) → is_written (trace w k s) e ≡ false → is_written left e ≡ false
  unfolding left
  left_unwritten e h = (or_false (is_written (d.log k) e) _ (sym (is_written-append (d.log k) left e) ∙ ap (λ l. is_written l e) (fits.log k at) ∙ h)).1

  -- iteration k comes to this rest, this number and this store, and alone to this store
  fits_move : (r : Interaction A) (n : ℕ) (ts : List Event) (f a : Store) → left ≡ ts ++ log_of r w.orders a n → answer_of r w.orders a n ≡ answer_of (d.run k) w.orders (fits.alone k) (d.number k) → store_of r w.orders a n ≡ store_of (d.run k) w.orders (fits.alone k) (d.number k) → ((e : Element) → d.store e ≡ fits.alone k e → f e ≡ a e) → ((e : Element) → is_written left e ≡ false → f e ≡ d.store e) → Fits w xs s (moved d k r n ts f)
  unfolding left
  fits_move r n ts f a split an st same spared = record {
    alone = at_number fits.alone k a;
    log = λ i m. log_at i m (eqb k i) refl;
    answer = λ i m. answer_at i m (eqb k i) refl;
    store = λ i m. store_at i m (eqb k i) refl;
    touched = λ i m e t. touched_at i m e t (eqb k i) refl;
    untouched = λ e h. spared e (left_unwritten e (h k at)) ∙ fits.untouched e h;
  }
    where
      log_at : (i : ℕ) → member i xs ≡ true → (b : Bool) → eqb k i ≡ b → (if eqb k i then d.log k ++ ts else d.log i) ++ log_of (if eqb k i then r else d.run i) w.orders (if eqb k i then a else fits.alone i) (if eqb k i then n else d.number i) ≡ trace w i s
      log_at i m true q =
          let ki = eqb-true k i q in
          rw (q, ← ki) (append_assoc (d.log k) ts _ ∙ ap (λ l. d.log k ++ l) (sym split) ∙ fits.log k at)
      log_at i m false q = rw q (fits.log i m)

      answer_at : (i : ℕ) → member i xs ≡ true → (b : Bool) → eqb k i ≡ b → answer_of (if eqb k i then r else d.run i) w.orders (if eqb k i then a else fits.alone i) (if eqb k i then n else d.number i) ≡ answer_of (w.step i) w.orders s w.first
      answer_at i m true q = let ki = eqb-true k i q in rw (q, ← ki) (an ∙ fits.answer k at)
      answer_at i m false q = rw q (fits.answer i m)

      store_at : (i : ℕ) → member i xs ≡ true → (b : Bool) → eqb k i ≡ b → store_of (if eqb k i then r else d.run i) w.orders (if eqb k i then a else fits.alone i) (if eqb k i then n else d.number i) ≡ after w i s
      store_at i m true q = let ki = eqb-true k i q in rw (q, ← ki) (st ∙ fits.store k at)
      store_at i m false q = rw q (fits.store i m)

      touched_at : (i : ℕ) → member i xs ≡ true → (e : Element) → is_touched (trace w i s) e ≡ true → (b : Bool) → eqb k i ≡ b → f e ≡ (if eqb k i then a else fits.alone i) e
      touched_at i m e t true q =
          let ki = eqb-true k i q in
          rw q (same e (fits.touched k at e (rw (← ki) at t)))
      touched_at i m e t false q = rw q (spared e (left_spares i m q e t) ∙ fits.touched i m e t)

  fits_on : Fits w xs s (goes_on w.orders d k)
  unfolding left goes_on
  fits_on =
      let sp = splits (d.run k) w.orders (fits.alone k) (d.number k) in
      let said = access_log (d.run k) w.orders (fits.alone k) (d.number k) in
      let more = log_of (access_rest (d.run k) w.orders (fits.alone k) (d.number k)) w.orders (access_store (d.run k) w.orders (fits.alone k) (d.number k)) (access_number (d.run k) w.orders (fits.alone k) (d.number k)) in
      let said_read : (e : Element) → is_read said e ≡ true → is_read left e ≡ true =
      λ e h. ap (λ l. is_read l e) sp.log ∙ is_read-append said more e ∙ or_left _ _ h in
      let said_unwritten : (e : Element) → is_written left e ≡ false → is_written said e ≡ false =
      λ e h. (or_false (is_written said e) (is_written more e) (sym (is_written-append said more e) ∙ ap (λ l. is_written l e) (sym sp.log) ∙ h)).0 in
      let ga = goes_alike (d.run k) w.orders (d.number k) (fits.alone k) d.store (λ e h. left_agrees e (said_read e h)) in
      fits_move
      (access_rest (d.run k) w.orders d.store (d.number k))
      (access_number (d.run k) w.orders d.store (d.number k))
      (access_log (d.run k) w.orders d.store (d.number k))
      (access_store (d.run k) w.orders d.store (d.number k))
      (access_store (d.run k) w.orders (fits.alone k) (d.number k))
      (rw (ga.said, ga.rest, ga.number) sp.log)
      (rw (ga.rest, ga.number) sp.answer)
      (rw (ga.rest, ga.number) sp.store)
      ga.kept
      (λ e h. unsaid (d.run k) w.orders d.store (d.number k) e (ap (λ l. is_written l e) ga.said ∙ said_unwritten e h))

  fits_end : Fits w xs s (ends_up w.orders d k)
  unfolding left ends_up
  fits_end =
      let al = alike (d.run k) w.orders (d.number k) (fits.alone k) d.store left_agrees in
      let ov = over (d.run k) w.orders d.store (d.number k) in
      fits_move
      (run_out (d.run k) w.orders d.store (d.number k))
      (d.number k)
      (log_of (d.run k) w.orders d.store (d.number k))
      (store_of (d.run k) w.orders d.store (d.number k))
      (store_of (d.run k) w.orders (fits.alone k) (d.number k))
      (rw (ov.log (store_of (d.run k) w.orders (fits.alone k) (d.number k)) (d.number k)) (sym (append-nil _ ∙ al.log)))
      (ov.answer _ _ ∙ al.answer)
      (ov.store _ _)
      (λ e q. same_end (d.run k) w.orders (d.number k) (fits.alone k) d.store e al q)
      (λ e h. unwritten (d.run k) w.orders d.store (d.number k) e (ap (λ l. is_written l e) al.log ∙ h))

fits_scheduled : {A : Type 0} (w : Steps A) (xs : List ℕ) (s : Store) → AllClear w xs s → (ks : List ℕ) (d : Interleaving A) → Fits w xs s d → Fits w xs s (scheduled w.orders xs ks d)
fits_scheduled w xs s clear [] d fits = fits
fits_scheduled w xs s clear (k ∷ ks) d fits = fits_scheduled w xs s clear ks _ (go (member k xs) refl)
  where
    go : (b : Bool) → member k xs ≡ b → Fits w xs s (if member k xs then goes_on w.orders d k else d)
    go true q = rw q (fits_on w xs s clear d fits k q)
    go false q = rw q fits

fits_finished : {A : Type 0} (w : Steps A) (xs : List ℕ) (s : Store) → AllClear w xs s → (ks : List ℕ) → ((k : ℕ) → member k ks ≡ true → member k xs ≡ true) → (d : Interleaving A) → Fits w xs s d → Fits w xs s (finished w.orders ks d)
fits_finished w xs s clear [] sub d fits = fits
fits_finished w xs s clear (k ∷ ks) sub d fits =
    fits_finished w xs s clear ks (λ i m. sub i (or_right (eqb k i) _ m)) (ends_up w.orders d k) (fits_end w xs s clear d fits k (sub k (or_left _ _ (eq-eqb k k refl))))

-- an interaction that is over
record Still {A : Type 0} (r : Interaction A) (o : Orders) : Type 0 where
  log : (t : Store) (n : ℕ) → log_of r o t n ≡ []
  store : (t : Store) (n : ℕ) → store_of r o t n ≡ t
  ended : (t : Store) (n : ℕ) → has_ended r ≡ is_some (answer_of r o t n)

still_over : {A : Type 0} (r : Interaction A) (o : Orders) (s : Store) (j : ℕ) → Still (run_out r o s j) o
still_over r o s j = let x = over r o s j in record { log = x.log; store = x.store; ended = λ t n. x.ended ∙ sym (ap is_some (x.answer t n)) }

still_ends_up : {A : Type 0} (o : Orders) (d : Interleaving A) (k i : ℕ) → eqb k i ≡ true ⊎ Still (d.run i) o → Still ((ends_up o d k).run i) o
unfolding ends_up
still_ends_up o d k i h = go (eqb k i) refl
  where
    from : eqb k i ≡ false → eqb k i ≡ true ⊎ Still (d.run i) o → Still (d.run i) o
    from q (inl t) = absurd (false≢true (sym q ∙ t))
    from q (inr t) = t

    go : (b : Bool) → eqb k i ≡ b → Still (if eqb k i then run_out (d.run k) o d.store (d.number k) else d.run i) o
    go true q = rw q (still_over (d.run k) o d.store (d.number k))
    go false q = rw q (from q h)

still_finished : {A : Type 0} (o : Orders) (ks : List ℕ) (d : Interleaving A) (i : ℕ) → member i ks ≡ true ⊎ Still (d.run i) o → Still ((finished o ks d).run i) o
still_finished o [] d i (inl h) = absurd (false≢true h)
still_finished o [] d i (inr h) = h
still_finished o (k ∷ ks) d i h = still_finished o ks (ends_up o d k) i (go (eqb k i) refl h)
  where
    go : (b : Bool) → eqb k i ≡ b → (eqb k i || member i ks ≡ true) ⊎ Still (d.run i) o → member i ks ≡ true ⊎ Still ((ends_up o d k).run i) o
    go true q h = inr (still_ends_up o d k i (inl q))
    go false q (inl h) = inl (rw q at h)
    go false q (inr h) = inr (still_ends_up o d k i (inr h))

-- the store of iterations that each run to their end at once is that of the sequence
finished_frame : {A : Type 0} (w : Steps A) (ys : List ℕ) (d : Interleaving A) → Distinct ys → ((k : ℕ) → member k ys ≡ true → (d.run k ≡ w.step k) × (d.number k ≡ w.first)) → (finished w.orders ys d).store ≡ after_all w ys d.store
unfolding ends_up
finished_frame w [] d dis h = refl
finished_frame w (y ∷ ys) d dis h =
    let own = h y (or_left _ _ (eq-eqb y y refl)) in
    let first : (ends_up w.orders d y).store ≡ after w y d.store = rw (own.0, own.1) in
    finished_frame w ys (ends_up w.orders d y) dis.1 (λ k m. others k m (eqb y k) refl) ∙ ap (after_all w ys) first
  where
    others : (k : ℕ) → member k ys ≡ true → (b : Bool) → eqb y k ≡ b → ((ends_up w.orders d y).run k ≡ w.step k) × ((ends_up w.orders d y).number k ≡ w.first)
    others k m true q = let r : member y ys ≡ true = rw (eqb-true y k q) m in absurd (false≢true (sym dis.0 ∙ r))
    others k m false q = let t = h k (or_right (eqb y k) _ m) in (rw q t.0, rw q t.1)

-- an iteration that touches the element, or none
toucher : {A : Type 0} (w : Steps A) (s : Store) (e : Element) (ks : List ℕ) → ((k : ℕ) × (member k ks ≡ true) × (is_touched (trace w k s) e ≡ true)) ⊎ ((k : ℕ) → member k ks ≡ true → is_touched (trace w k s) e ≡ false)
toucher w s e [] = inr (λ k m. absurd (false≢true m))
toucher w s e (x ∷ ks) = go (is_touched (trace w x s) e) refl (toucher w s e ks)
  where
    go : (b : Bool) → is_touched (trace w x s) e ≡ b → ((k : ℕ) × (member k ks ≡ true) × (is_touched (trace w k s) e ≡ true)) ⊎ ((k : ℕ) → member k ks ≡ true → is_touched (trace w k s) e ≡ false) → ((k : ℕ) × (eqb x k || member k ks ≡ true) × (is_touched (trace w k s) e ≡ true)) ⊎ ((k : ℕ) → eqb x k || member k ks ≡ true → is_touched (trace w k s) e ≡ false)
    go true q t = inl (x, or_left _ _ (eq-eqb x x refl), q)
    go false q (inl t) = inl (t.0, or_right _ _ t.1, t.2)
    go false q (inr t) = inr (λ k m. other k (eqb x k) refl m)
      where
        other : (k : ℕ) (b : Bool) → eqb x k ≡ b → eqb x k || member k ks ≡ true → is_touched (trace w k s) e ≡ false
        other k true p m = rw (← eqb-true x k p) q
        other k false p m = t k (rw p at m)

-- two interleavings in which all is over have one store
one_frame : {A : Type 0} (w : Steps A) (xs : List ℕ) (s : Store) (d d' : Interleaving A) → Fits w xs s d → Fits w xs s d' → ((k : ℕ) → member k xs ≡ true → Still (d.run k) w.orders) → ((k : ℕ) → member k xs ≡ true → Still (d'.run k) w.orders) → d.store ≡ d'.store
one_frame w xs s d d' f f' st st' = fun_ext (λ e. go e (toucher w s e xs))
  where
    last : (d : Interleaving _) (f : Fits w xs s d) → ((k : ℕ) → member k xs ≡ true → Still (d.run k) w.orders) → (k : ℕ) → member k xs ≡ true → f.alone k ≡ after w k s
    last d f st k m = sym ((st k m).store (f.alone k) (d.number k)) ∙ f.store k m

    go : (e : Element) → ((k : ℕ) × (member k xs ≡ true) × (is_touched (trace w k s) e ≡ true)) ⊎ ((k : ℕ) → member k xs ≡ true → is_touched (trace w k s) e ≡ false) → d.store e ≡ d'.store e
    go e (inl (k, m, t)) =
        f.touched k m e t ∙ ap (λ u. u e) (last d f st k m ∙ sym (last d' f' st' k m)) ∙ sym (f'.touched k m e t)
    go e (inr h) =
        let n : (k : ℕ) → member k xs ≡ true → is_written (trace w k s) e ≡ false = λ k m. (or_false (is_read (trace w k s) e) _ (h k m)).1 in
        f.untouched e n ∙ sym (f'.untouched e n)

ended_so : {A : Type 0} (w : Steps A) (xs : List ℕ) (s : Store) (d : Interleaving A) → Fits w xs s d → ((k : ℕ) → member k xs ≡ true → Still (d.run k) w.orders) → (ks : List ℕ) → ((k : ℕ) → member k ks ≡ true → member k xs ≡ true) → all_ended d ks ≡ each_ends w ks s
ended_so w xs s d f st [] sub = refl
ended_so w xs s d f st (k ∷ ks) sub =
    let m = sub k (or_left _ _ (eq-eqb k k refl)) in
    let e : has_ended (d.run k) ≡ ends w k s = (st k m).ended (f.alone k) (d.number k) ∙ ap is_some (f.answer k m) in
    rw (e, ended_so w xs s d f st ks (λ i n. sub i (or_right (eqb k i) _ n)))

pub woven_well : {A : Type 0} (w : Steps A) (xs ks : List ℕ) (s : Store) → AllClear w xs s → WovenWell w xs ks s
woven_well w xs ks s clear =
    let mid = fits_scheduled w xs s clear ks (start w s) (fits_start w xs s) in
    let end = fits_finished w xs s clear xs (λ k m. m) _ mid in
    let st = λ (k : ℕ) (m : member k xs ≡ true). still_finished w.orders xs (scheduled w.orders xs ks (start w s)) k (inl m) in
    record {
      prefix = λ k m. (log_of ((scheduled w.orders xs ks (start w s)).run k) w.orders (mid.alone k) ((scheduled w.orders xs ks (start w s)).number k), mid.log k m);
      whole = λ k m. sym (append-nil _) ∙ ap (λ l. (woven w xs ks s).log k ++ l) (sym ((st k m).log (end.alone k) ((woven w xs ks s).number k))) ∙ end.log k m;
      ends = ended_so w xs s (woven w xs ks s) end st xs (λ k m. m);
      store = λ ys dis mem.
          let other = fits_finished w xs s clear ys (λ k m. mem k ∙ m) (start w s) (fits_start w xs s) in
          one_frame w xs s (woven w xs ks s) (finished w.orders ys (start w s)) end other st (λ k m. still_finished w.orders ys (start w s) k (inl (sym (mem k) ∙ m)))
          ∙ finished_frame w ys (start w s) dis (λ k m. (refl, refl));
    }
