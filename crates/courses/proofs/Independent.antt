-- Steps that are clear of one another do, one after another, what each does alone from the opening store.
use Rattle.std.proofs.Common.{◌≡◌, ℕ, refl, ap, sym, ◌∙◌, List, [], ◌∷◌, Bool, true, false, ◌&&◌, eqb, eq-eqb}
use Rattle.std.specs.Prelude.{is_some}
use Rattle.std.proofs.lemmas.Bool.{eqb-true, false≢true}
use Rattle.courses.specs.Element.{Element, Store}
use Rattle.courses.specs.Logs.{is_read, is_written, Alike}
use Rattle.courses.specs.Steps.{Steps, ends, trace, after, all_end, after_all, member, Distinct}
use Rattle.courses.specs.Interleaving.{each_ends, AllClear}
use Rattle.courses.proofs.Alike.{alike, unwritten, or_left, or_right, or_false}
use Rattle.courses.proofs.Reorder.{other_name}
use Rattle.courses.proofs.Weaves.{same_end, apart}

pub record Independent {A : Type 0} (w : Steps A) (xs : List ℕ) (s : Store) : Type 0 where
  -- all end exactly where each ends alone
  pub ends : all_end w xs s ≡ each_ends w xs s
  -- an element that no other step writes is as this step leaves it, alone
  pub own : (k : ℕ) → member k xs ≡ true → (e : Element) → ((i : ℕ) → member i xs ≡ true → eqb i k ≡ false → is_written (trace w i s) e ≡ false) → after_all w xs s e ≡ after w k s e
  -- an element that no step writes stays
  pub spared : (e : Element) → ((i : ℕ) → member i xs ≡ true → is_written (trace w i s) e ≡ false) → after_all w xs s e ≡ s e

pub eqb_swap : (a b : ℕ) → eqb a b ≡ false → eqb b a ≡ false
eqb_swap a b h = go (eqb b a) refl
  where
    go : (c : Bool) → eqb b a ≡ c → eqb b a ≡ false
    go true q = absurd (false≢true (sym h ∙ eq-eqb a b (sym (eqb-true b a q))))
    go false q = q

each_same : {A : Type 0} (w : Steps A) (xs : List ℕ) (s s' : Store) → ((k : ℕ) → member k xs ≡ true → ends w k s' ≡ ends w k s) → each_ends w xs s' ≡ each_ends w xs s
each_same w [] s s' h = refl
each_same w (x ∷ xs) s s' h =
    rw (h x (or_left _ _ (eq-eqb x x refl)), each_same w xs s s' (λ k m. h k (or_right (eqb x k) _ m)))

pub independent : {A : Type 0} (w : Steps A) (xs : List ℕ) (s : Store) → Distinct xs → AllClear w xs s → Independent w xs s
independent w [] s d clear = record { ends = refl; own = λ k m e h. absurd (false≢true m); spared = λ e h. refl }
independent w (x ∷ xs) s d clear = over (independent w xs s1 d.1 clear1)
  where
    s1 : Store
    s1 = after w x s

    xx : eqb x x ≡ true
    xx = eq-eqb x x refl

    other : (k : ℕ) → member k xs ≡ true → eqb x k ≡ false
    other k m = other_name x k xs d.0 m

    al : (k : ℕ) → member k xs ≡ true → Alike (w.step k) w.orders w.first s s1
    al k m = alike (w.step k) w.orders w.first s s1 (λ e r. sym (unwritten (w.step x) w.orders s w.first e (spares e r)))
      where
        spares : (e : Element) → is_read (trace w k s) e ≡ true → is_written (trace w x s) e ≡ false
        spares e r = apart (is_written (trace w x s) e) (is_read (trace w k s) e) (λ q. (or_false _ (is_written (trace w k s) e) ((clear x k (or_left _ _ xx) (or_right (eqb x k) _ m) (other k m) e).0 q)).0) r

    clear1 : AllClear w xs s1
    clear1 j k mj mk n = rw ((al j mj).log, (al k mk).log) (clear j k (or_right (eqb x j) _ mj) (or_right (eqb x k) _ mk) n)

    written1 : (i : ℕ) → member i xs ≡ true → (e : Element) → is_written (trace w i s) e ≡ false → is_written (trace w i s1) e ≡ false
    written1 i m e h = ap (λ l. is_written l e) (al i m).log ∙ h

    over : Independent w xs s1 → Independent w (x ∷ xs) s
    over ih = record {
      ends = ap (λ b. ends w x s && b) (ih.ends ∙ each_same w xs s s1 (λ k m. ap is_some (al k m).answer));
      own = λ k m e h. own k m e h (eqb x k) refl;
      spared = λ e h. ih.spared e (λ i m. written1 i m e (h i (or_right (eqb x i) _ m))) ∙ unwritten (w.step x) w.orders s w.first e (h x (or_left _ _ xx));
    }
      where
        own : (k : ℕ) → member k (x ∷ xs) ≡ true → (e : Element) → ((i : ℕ) → member i (x ∷ xs) ≡ true → eqb i k ≡ false → is_written (trace w i s) e ≡ false) → (b : Bool) → eqb x k ≡ b → after_all w xs s1 e ≡ after w k s e
        own k m e h true q =
            let xk = eqb-true x k q in
            ih.spared e (λ i n. written1 i n e (h i (or_right (eqb x i) _ n) (apart_from i n (eqb-true x k q)))) ∙ ap (λ i. after w i s e) xk
          where
            apart_from : (i : ℕ) → member i xs ≡ true → x ≡ k → eqb i k ≡ false
            apart_from i n xk = rw (← xk) (eqb_swap x i (other i n))
        own k m e h false q =
            let m' : member k xs ≡ true = rw q at m in
            ih.own k m' e (λ i n t. written1 i n e (h i (or_right (eqb x i) _ n) t))
            ∙ same_end (w.step k) w.orders w.first s s1 e (al k m') (unwritten (w.step x) w.orders s w.first e (h x (or_left _ _ xx) q))
