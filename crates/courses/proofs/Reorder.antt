-- The law of orders: steps that are clear of one another in another order.
use Rattle.std.proofs.Common.{◌≡◌, ℕ, refl, ap, sym, ◌∙◌, subst, List, [], ◌∷◌, Bool, true, false, ◌&&◌, ◌||◌, eqb, eq-eqb}
use Rattle.std.specs.Prelude.{is_some, if◌then◌else◌}
use mathlib.Core.Path.{fun_ext}
use Rattle.std.proofs.lemmas.Bool.{eqb-true, false≢true}
use Rattle.courses.specs.Element.{Element, Store}
use Rattle.courses.specs.Logs.{is_read, is_written, Agree, Clear}
use Rattle.courses.specs.Steps.{Steps, ends, trace, after, all_end, after_all, log_in, member, Distinct, before, SameSteps, MayReorder, SameRun}
use Rattle.courses.proofs.Alike.{alike, unwritten, or_left, or_right, or_false}

and_both : (a b : Bool) → a && b ≡ true → (a ≡ true) × (b ≡ true)
and_both true b h = (refl, h)
and_both false b h = absurd (cc)

apart : (a b : Bool) → (a ≡ true → b ≡ false) → b ≡ true → a ≡ false
apart true b h q = let r = h refl in cc
apart false b h q = refl

-- two steps change places
record Swapped {A : Type 0} (w : Steps A) (x y : ℕ) (s : Store) : Type 0 where
  y_ends : ends w y s ≡ ends w y (after w x s)
  x_ends : ends w x (after w y s) ≡ ends w x s
  y_trace : trace w y s ≡ trace w y (after w x s)
  x_trace : trace w x (after w y s) ≡ trace w x s
  store : after w x (after w y s) ≡ after w y (after w x s)

swapped : {A : Type 0} (w : Steps A) (x y : ℕ) (s : Store) → Clear (trace w x s) (trace w y (after w x s)) → Swapped w x y s
swapped w x y s clear =
    let o = w.orders in let n = w.first in
    let s1 = after w x s in
    -- y from s1, and then from s
    let y_agree : Agree (trace w y s1) s1 s = λ e r. unwritten (w.step x) o s n e (not_written e r) in
    let ay = alike (w.step y) o n s1 s y_agree in
    let s2 = after w y s in
    let x_agree : Agree (trace w x s) s s2 = λ e r. sym (unwritten (w.step y) o s n e (ap (λ l. is_written l e) ay.log ∙ y_leaves e r)) in
    let ax = alike (w.step x) o n s s2 x_agree in
    record {
      y_ends = ap is_some ay.answer;
      x_ends = ap is_some ax.answer;
      y_trace = ay.log;
      x_trace = ax.log;
      store = fun_ext (λ e. same_at_end ay.log ay.written ax.log ax.written e);
    }
  where
    not_written : (e : Element) → is_read (trace w y (after w x s)) e ≡ true → is_written (trace w x s) e ≡ false
    not_written e r = apart (is_written (trace w x s) e) (is_read (trace w y (after w x s)) e) (λ q. (or_false _ (is_written (trace w y (after w x s)) e) ((clear e).0 q)).0) r

    y_leaves : (e : Element) → is_read (trace w x s) e ≡ true → is_written (trace w y (after w x s)) e ≡ false
    y_leaves e r = apart (is_written (trace w y (after w x s)) e) (is_read (trace w x s) e) (λ q. (or_false _ (is_written (trace w x s) e) ((clear e).1 q)).0) r

    same_at_end : trace w y s ≡ trace w y (after w x s) → ((e : Element) → is_written (trace w y (after w x s)) e ≡ true → after w y s e ≡ after w y (after w x s) e) → trace w x (after w y s) ≡ trace w x s → ((e : Element) → is_written (trace w x s) e ≡ true → after w x (after w y s) e ≡ after w x s e) → (e : Element) → after w x (after w y s) e ≡ after w y (after w x s) e
    same_at_end ly wy lx wx e = go (is_written (trace w x s) e) (is_written (trace w y (after w x s)) e) refl refl
      where
        go : (b c : Bool) → is_written (trace w x s) e ≡ b → is_written (trace w y (after w x s)) e ≡ c → after w x (after w y s) e ≡ after w y (after w x s) e
        go true c p q =
            let t = or_false (is_read (trace w y (after w x s)) e) (is_written (trace w y (after w x s)) e) ((clear e).0 p) in
            wx e p ∙ sym (unwritten (w.step y) w.orders (after w x s) w.first e t.1)
        go false true p q =
            unwritten (w.step x) w.orders (after w y s) w.first e (ap (λ l. is_written l e) lx ∙ p) ∙ wy e q
        go false false p q =
            unwritten (w.step x) w.orders (after w y s) w.first e (ap (λ l. is_written l e) lx ∙ p)
            ∙ unwritten (w.step y) w.orders s w.first e (ap (λ l. is_written l e) ly ∙ q)
            ∙ sym (unwritten (w.step x) w.orders s w.first e p)
            ∙ sym (unwritten (w.step y) w.orders (after w x s) w.first e q)

-- lists without one name
abbrev pub without : ℕ → List ℕ → List ℕ
without k [] = []
without k (i ∷ is) = if eqb i k then is else i ∷ without k is

true_is : (a b : ℕ) → eqb a b ≡ true → a ≡ b
true_is a b h = eqb-true a b h

not_same : (x k i : ℕ) → eqb x k ≡ true → eqb i k ≡ false → eqb x i ≡ false
not_same x k i h q = go (eqb x i) refl
  where
    go : (b : Bool) → eqb x i ≡ b → eqb x i ≡ false
    go true t =
        let e : i ≡ k = sym (eqb-true x i t) ∙ eqb-true x k h in
        let r = sym (eq-eqb i k e) ∙ q in
        cc
    go false t = t

member_without : (k : ℕ) (xs : List ℕ) (i : ℕ) → eqb i k ≡ false → member i (without k xs) ≡ member i xs
member_without k [] i h = refl
member_without k (x ∷ xs) i h = go (eqb x k) refl (member_without k xs i h)
  where
    go : (b : Bool) → eqb x k ≡ b → member i (without k xs) ≡ member i xs → member i (if eqb x k then xs else x ∷ without k xs) ≡ eqb x i || member i xs
    go true q ih = rw (q, not_same x k i q h)
    go false q ih = rw q (ap (λ m. eqb x i || m) ih)

member_of_without : (k : ℕ) (xs : List ℕ) (i : ℕ) → member i (without k xs) ≡ true → member i xs ≡ true
member_of_without k [] i h = h
member_of_without k (x ∷ xs) i h = go (eqb x k) (eqb x i) refl refl h (member_of_without k xs i)
  where
    go : (b c : Bool) → eqb x k ≡ b → eqb x i ≡ c → member i (if eqb x k then xs else x ∷ without k xs) ≡ true → (member i (without k xs) ≡ true → member i xs ≡ true) → eqb x i || member i xs ≡ true
    go b true q t h ih = rw t
    go true false q t h ih = rw t (rw q at h)
    go false false q t h ih = rw t (ih (rw (q, t) at h))

without_distinct : (k : ℕ) (xs : List ℕ) → Distinct xs → Distinct (without k xs)
without_distinct k [] d = tt
without_distinct k (x ∷ xs) d = go (eqb x k) refl (without_distinct k xs d.1)
  where
    go : (b : Bool) → eqb x k ≡ b → Distinct (without k xs) → Distinct (if eqb x k then xs else x ∷ without k xs)
    go true q ih = rw q d.1
    go false q ih = rw q (member_without k xs x q ∙ d.0, ih)

without_member : (k : ℕ) (xs : List ℕ) → Distinct xs → member k (without k xs) ≡ false
without_member k [] d = refl
without_member k (x ∷ xs) d = go (eqb x k) refl (without_member k xs d.1)
  where
    go : (b : Bool) → eqb x k ≡ b → member k (without k xs) ≡ false → member k (if eqb x k then xs else x ∷ without k xs) ≡ false
    go true q ih = rw (q, ← eqb-true x k q) d.0
    go false q ih = rw (q, q) ih

before_members : (i j : ℕ) (xs : List ℕ) → before i j xs ≡ true → (member i xs ≡ true) × (member j xs ≡ true)
before_members i j [] h = absurd (false≢true h)
before_members i j (x ∷ xs) h = go (eqb x i) refl h (before_members i j xs)
  where
    go : (b : Bool) → eqb x i ≡ b → (if eqb x i then member j xs else before i j xs) ≡ true → (before i j xs ≡ true → (member i xs ≡ true) × (member j xs ≡ true)) → (eqb x i || member i xs ≡ true) × (eqb x j || member j xs ≡ true)
    go true q h ih = (rw q, or_right _ _ (rw q at h))
    go false q h ih = let m = ih (rw q at h) in (or_right _ _ m.0, or_right _ _ m.1)

before_without : (k : ℕ) (xs : List ℕ) (i j : ℕ) → before i j (without k xs) ≡ true → before i j xs ≡ true
before_without k [] i j h = h
before_without k (x ∷ xs) i j h = go (eqb x k) (eqb x i) refl refl h (before_without k xs i j)
  where
    go : (b c : Bool) → eqb x k ≡ b → eqb x i ≡ c → before i j (if eqb x k then xs else x ∷ without k xs) ≡ true → (before i j (without k xs) ≡ true → before i j xs ≡ true) → (if eqb x i then member j xs else before i j xs) ≡ true
    go true true q t h ih = rw t (before_members i j xs (rw q at h)).1
    go true false q t h ih = rw t (rw q at h)
    go false true q t h ih = rw t (member_of_without k xs j (rw (q, t) at h))
    go false false q t h ih = rw t (ih (rw (q, t) at h))

-- the run with one step pulled to the front
record Pulled {A : Type 0} (w : Steps A) (k : ℕ) (xs : List ℕ) (s : Store) : Type 0 where
  ends : all_end w (k ∷ without k xs) s ≡ true
  store : after_all w (k ∷ without k xs) s ≡ after_all w xs s
  logs : (i : ℕ) → log_in w (k ∷ without k xs) s i ≡ log_in w xs s i

pub other_name : (x i : ℕ) (xs : List ℕ) → member x xs ≡ false → member i xs ≡ true → eqb x i ≡ false
other_name x i xs h m = go (eqb x i) refl
  where
    go : (b : Bool) → eqb x i ≡ b → eqb x i ≡ false
    go true q = let r : member i xs ≡ false = rw (← eqb-true x i q) h in absurd (false≢true (sym r ∙ m))
    go false q = q

-- a step that comes to the front of the rest is pulled over the first one too
pulled_over : {A : Type 0} (w : Steps A) (k x : ℕ) (xs : List ℕ) (s : Store) → eqb x k ≡ false → ends w x s ≡ true → Clear (trace w x s) (log_in w xs (after w x s) k) → Pulled w k xs (after w x s) → Pulled w k (x ∷ xs) s
pulled_over w k x xs s q ex clear ih =
    let own : trace w k s1 ≡ log_in w xs s1 k = rw (eq-eqb k k refl) at (ih.logs k) in
    let sw = swapped w x k s (subst (λ l. Clear (trace w x s) l) (sym own) clear) in
    record {
      ends = rw (q, sw.y_ends, sw.x_ends, sw.store, ex) ih.ends;
      store = rw q (ap (after_all w (without k xs)) sw.store ∙ ih.store);
      logs = λ i. rw q (logs_over i sw (eqb k i) (eqb x i) refl refl);
    }
  where
    s1 : Store
    s1 = after w x s

    logs_over : (i : ℕ) → Swapped w x k s → (b c : Bool) → eqb k i ≡ b → eqb x i ≡ c → log_in w (k ∷ x ∷ without k xs) s i ≡ log_in w (x ∷ xs) s i
    logs_over i sw true true qk qx = absurd (false≢true (sym q ∙ eq-eqb x k (eqb-true x i qx ∙ sym (eqb-true k i qk))))
    logs_over i sw true false qk qx = rw (qk, qx) (sw.y_trace ∙ rw qk at (ih.logs i))
    logs_over i sw false true qk qx = rw (qk, qx) sw.x_trace
    logs_over i sw false false qk qx = rw (qk, qx) (ap (λ t. log_in w (without k xs) t i) sw.store ∙ rw qk at (ih.logs i))

pulled : {A : Type 0} (w : Steps A) (k : ℕ) (xs : List ℕ) (s : Store) → Distinct xs → member k xs ≡ true → all_end w xs s ≡ true → ((i : ℕ) → before i k xs ≡ true → Clear (log_in w xs s i) (log_in w xs s k)) → Pulled w k xs s
pulled w k [] s d m e clear = absurd (false≢true m)
pulled w k (x ∷ xs) s d m e clear = go (eqb x k) refl (pulled w k xs (after w x s) d.1)
  where
    itself : (i : ℕ) → eqb i i ≡ true
    itself i = eq-eqb i i refl

    go : (b : Bool) → eqb x k ≡ b → (member k xs ≡ true → all_end w xs (after w x s) ≡ true → ((i : ℕ) → before i k xs ≡ true → Clear (log_in w xs (after w x s) i) (log_in w xs (after w x s) k)) → Pulled w k xs (after w x s)) → Pulled w k (x ∷ xs) s
    go true q rest = let xk = eqb-true x k q in record { ends = rw (q, ← xk) e; store = rw (q, ← xk); logs = λ i. rw (q, ← xk) }
    go false q rest =
        let s1 = after w x s in
        let m' : member k xs ≡ true = rw q at m in
        let es = and_both (ends w x s) (all_end w xs s1) e in
        let clear' : (i : ℕ) → before i k xs ≡ true → Clear (log_in w xs s1 i) (log_in w xs s1 k) =
        λ i bf. let t = other_name x i xs d.0 (before_members i k xs bf).0 in rw (t, q) at (clear i (rw t bf)) in
        pulled_over w k x xs s q es.0 (rw (itself x, q) at (clear x (rw (itself x) m'))) (rest m' es.1 clear')

apart_names : (x i k : ℕ) → eqb x i ≡ true → eqb x k ≡ false → eqb k i ≡ false
apart_names x i k h n = go (eqb k i) refl
  where
    go : (b : Bool) → eqb k i ≡ b → eqb k i ≡ false
    go true q = absurd (false≢true (sym n ∙ eq-eqb x k (eqb-true x i h ∙ sym (eqb-true k i q))))
    go false q = q

before_apart : (i k : ℕ) (xs : List ℕ) → Distinct xs → before i k xs ≡ true → eqb k i ≡ false
before_apart i k [] d h = absurd (false≢true h)
before_apart i k (x ∷ xs) d h = go (eqb x i) refl (before_apart i k xs d.1)
  where
    go : (b : Bool) → eqb x i ≡ b → (before i k xs ≡ true → eqb k i ≡ false) → eqb k i ≡ false
    go true q rest = apart_names x i k q (other_name x k xs d.0 (rw q at h))
    go false q rest = rest (rw q at h)

pub reordered : {A : Type 0} (w : Steps A) (s : Store) (xs ys : List ℕ) → SameSteps xs ys → MayReorder w s xs ys → SameRun w s xs ys
reordered w s [] [] same may = record { ends = refl; store = refl; logs = λ k. refl }
reordered w s (x ∷ xs) [] same may = absurd (false≢true (sym (same.members x) ∙ or_left _ _ (eq-eqb x x refl)))
reordered w s xs (y ∷ ys) same may =
    over (reordered w s1 xs' ys rest_same rest_may)
  where
    s1 : Store
    s1 = after w y s

    xs' : List ℕ
    xs' = without y xs

    yy : eqb y y ≡ true
    yy = eq-eqb y y refl

    pull : Pulled w y xs s
    pull = pulled w y xs s same.once (same.members y ∙ or_left _ _ yy) may.ends (λ i bf. may.clear i y bf (front i bf))
      where
        front : (i : ℕ) → before i y xs ≡ true → before y i (y ∷ ys) ≡ true
        front i bf =
            let m = before_members i y xs bf in
            let n = before_apart i y xs same.once bf in
            let t : member i ys ≡ true = rw n at (sym (same.members i) ∙ m.0) in
            rw yy t

    members : (k : ℕ) → member k xs' ≡ member k ys
    members k = go (eqb k y) refl
      where
        go : (b : Bool) → eqb k y ≡ b → member k xs' ≡ member k ys
        go true q = rw (eqb-true k y q) (without_member y xs same.once ∙ sym same.once'.0)
        go false q =
            let t : eqb y k ≡ false = apart_names k k y (eq-eqb k k refl) q in
            member_without y xs k q ∙ rw t at (same.members k)

    rest_same : SameSteps xs' ys
    rest_same = record { once = without_distinct y xs same.once; once' = same.once'.1; members = members }

    own_log : (k : ℕ) → member k xs' ≡ true → log_in w xs' s1 k ≡ log_in w xs s k
    own_log k m = let t = other_name y k xs' (without_member y xs same.once) m in rw t at (pull.logs k)

    rest_may : MayReorder w s1 xs' ys
    rest_may = record {
      ends = (and_both _ (all_end w xs' s1) pull.ends).1;
      clear = λ j k bf bg.
          let m = before_members j k xs' bf in
          let t = other_name y k xs' (without_member y xs same.once) m.1 in
          let c = may.clear j k (before_without y xs j k bf) (rw t bg) in
          rw (own_log j m.0, own_log k m.1) c;
    }

    over : SameRun w s1 xs' ys → SameRun w s xs (y ∷ ys)
    over r = record {
      ends = rw ((and_both (ends w y s) (all_end w xs' s1) pull.ends).0) r.ends;
      store = r.store ∙ pull.store;
      logs = λ k. go k (eqb y k) refl;
    }
      where
        go : (k : ℕ) (b : Bool) → eqb y k ≡ b → log_in w (y ∷ ys) s k ≡ log_in w xs s k
        go k true q = rw q (rw q at (pull.logs k))
        go k false q = rw q (r.logs k ∙ rw q at (pull.logs k))
