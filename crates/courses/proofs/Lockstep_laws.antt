-- Columns in lock step: one part after another, parts on shared elements alone, and what is known.
use Rattle.std.proofs.Common.{◌≡◌, ℕ, ℤ, refl, ap, sym, ◌∙◌, subst, List, [], ◌∷◌, Bool, true, false, ◌||◌, ◌⊎◌, inl, inr, Option, Some, None}
use Rattle.std.specs.Prelude.{is_some}
use Rattle.std.specs.Ordering.{int_eq}
use Rattle.std.proofs.lemmas.Bool.{false≢true}
use Rattle.courses.specs.Element.{Value, Element, Store}
use Rattle.courses.specs.Interaction.{Note, Interaction, Announce, bind, Orders, answer_of, next_of, store_of}
use Rattle.courses.specs.Renaming.{view}
use Rattle.courses.specs.Handlers.{IsSettled}
use Rattle.courses.specs.Weaving.{IsFair}
use Rattle.courses.specs.Columns.{Varying, Knowledge, column, is_column, Knows, Kept, Lockstep, IsShared}
use Rattle.courses.proofs.Binds.{follows, stops}
use Rattle.courses.proofs.Renames.{renamed_run}
use Rattle.courses.proofs.Loops.{not_some}
use Rattle.courses.proofs.Settling.{settles}
use Rattle.courses.proofs.Shared.{int_eq-itself, int_eq-equal, shared_settled, shared_renamed, column-keeps}
use Rattle.courses.proofs.Alike.{or_left, or_right}

-- all columns end, or one does not
pub all_or_one : (P : ℤ → Bool) (cs : List ℤ) → ((c : ℤ) → is_column c cs ≡ true → P c ≡ true) ⊎ ((c : ℤ) × (is_column c cs ≡ true) × (P c ≡ false))
all_or_one P [] = inl (λ c m. absurd (false≢true m))
all_or_one P (x ∷ cs) = go (P x) refl (all_or_one P cs)
  where
    go : (b : Bool) → P x ≡ b → ((c : ℤ) → is_column c cs ≡ true → P c ≡ true) ⊎ ((c : ℤ) × (is_column c cs ≡ true) × (P c ≡ false)) → ((c : ℤ) → int_eq x c || is_column c cs ≡ true → P c ≡ true) ⊎ ((c : ℤ) × (int_eq x c || is_column c cs ≡ true) × (P c ≡ false))
    go false q t = inr (x, or_left _ _ (int_eq-itself x), q)
    go true q (inr t) = inr (t.0, or_right _ _ t.1, t.2)
    go true q (inl t) = inl (λ c m. other c (int_eq x c) refl m)
      where
        other : (c : ℤ) (b : Bool) → int_eq x c ≡ b → int_eq x c || is_column c cs ≡ true → P c ≡ true
        other c true p m = subst (λ i. P i ≡ true) (int_eq-equal x c p) q
        other c false p m = t c (rw p at m)

-- the first part ends where the whole does
pub first_ends : {A B : Type 0} (r : Interaction A) (k : A → Interaction B) (o : Orders) (s : Store) (j : ℕ) → is_some (answer_of (bind r k) o s j) ≡ true → is_some (answer_of r o s j) ≡ true
first_ends r k o s j h = go (is_some (answer_of r o s j)) refl
  where
    go : (b : Bool) → is_some (answer_of r o s j) ≡ b → is_some (answer_of r o s j) ≡ true
    go true q = q
    go false q = absurd (false≢true (sym (ap is_some (stops r k o s j (not_some _ q)).answer) ∙ h))

-- the second part, from where the first leaves all
module _ {A B : Type 0} (vary : Varying) (cols : List ℤ) (mid post : Knowledge) (r q : Interaction A) (k l : A → Interaction B) (o : Orders) (s : Store) (j : ℕ) (o' : Orders) (j' : ℤ → ℕ) (a : Kept vary cols mid r q o s j o' j') where
  next_each : ℤ → ℕ
  next_each c = next_of r o' (view (column vary c) s) (j' c)

  own_part : (c : ℤ) → is_column c cols ≡ true → answer_of (bind r k) o' (view (column vary c) s) (j' c) ≡ answer_of (k a.answer) o' (view (column vary c) (store_of q o s j)) (next_each c)
  unfolding next_each
  own_part c m =
      (follows r k a.answer o' (view (column vary c) s) (j' c) (a.each c m)).answer
      ∙ ap (λ t. answer_of (k a.answer) o' t (next_of r o' (view (column vary c) s) (j' c))) (sym (a.store c m))

  both_kept : Kept vary cols post (k a.answer) (l a.answer) o (store_of q o s j) (next_of q o s j) o' next_each → Kept vary cols post (bind r k) (bind q l) o s j o' j'
  unfolding next_each
  both_kept b =
      let fw = follows q l a.answer o s j a.wide in
      record {
        answer = b.answer;
        wide = fw.answer ∙ b.wide;
        each = λ c m. own_part c m ∙ b.each c m;
        store = λ c m.
            ap (view (column vary c)) fw.store
            ∙ b.store c m
            ∙ ap (λ t. store_of (k a.answer) o' t (next_of r o' (view (column vary c) s) (j' c))) (a.store c m)
            ∙ sym (follows r k a.answer o' (view (column vary c) s) (j' c) (a.each c m)).store;
        knows = subst (Knows post) (sym fw.store) b.knows;
      }

pub lockstep_bind : {A B : Type 0} (vary : Varying) (cols : List ℤ) (pre mid post : Knowledge) (r q : Interaction A) (k l : A → Interaction B) → Lockstep vary cols pre mid r q → ((a : A) → Lockstep vary cols mid post (k a) (l a)) → Lockstep vary cols pre post (bind r k) (bind q l)
lockstep_bind {A} {B} vary cols pre mid post r q k l first rest = record {
  ends = λ o s j o' j' fair cl h.
      let a = first.ends o s j o' j' fair cl (λ c m. first_ends r k o' (view (column vary c) s) (j' c) (h c m)) in
      both_kept vary cols mid post r q k l o s j o' j' a
      ((rest a.answer).ends o (store_of q o s j) (next_of q o s j) o' (next_each vary cols mid post r q k l o s j o' j' a) fair a.knows (λ c m. ap is_some (sym (own_part vary cols mid post r q k l o s j o' j' a c m)) ∙ h c m));
  traps = λ o s j o' j' fair cl c m h. trap o s j o' j' fair cl c m h (all_or_one (λ d. is_some (answer_of r o' (view (column vary d) s) (j' d))) cols);
}
  where
    trap : (o : Orders) (s : Store) (j : ℕ) (o' : Orders) (j' : ℤ → ℕ) → IsFair o → Knows pre s → (c : ℤ) → is_column c cols ≡ true → is_some (answer_of (bind r k) o' (view (column vary c) s) (j' c)) ≡ false → ((d : ℤ) → is_column d cols ≡ true → is_some (answer_of r o' (view (column vary d) s) (j' d)) ≡ true) ⊎ ((d : ℤ) × (is_column d cols ≡ true) × (is_some (answer_of r o' (view (column vary d) s) (j' d)) ≡ false)) → is_some (answer_of (bind q l) o s j) ≡ false
    trap o s j o' j' fair cl c m h (inr (d, n, t)) = ap is_some (stops q l o s j (not_some _ (first.traps o s j o' j' fair cl d n t))).answer
    trap o s j o' j' fair cl c m h (inl all) =
        let a = first.ends o s j o' j' fair cl all in
        ap is_some (follows q l a.answer o s j a.wide).answer
        ∙ (rest a.answer).traps o (store_of q o s j) (next_of q o s j) o' (next_each vary cols mid post r q k l o s j o' j' a) fair a.knows c m (ap is_some (sym (own_part vary cols mid post r q k l o s j o' j' a c m)) ∙ h)

-- an interaction on shared elements, after which post is known
pub lockstep_shared : {A : Type 0} (vary : Varying) (cols : List ℤ) (pre post : Knowledge) (w : Element → Bool) (c : ℤ) (r : Interaction A) → is_column c cols ≡ true → IsShared vary w r → ((o : Orders) (s : Store) (j : ℕ) → Knows pre s → Knows post (store_of r o s j)) → Lockstep vary cols pre post r r
lockstep_shared {A} vary cols pre post w c r inside sh knows = record {
  ends = λ o s j o' j' fair cl h. kept o s j o' j' cl (answer_of r o s j) refl (sym (one_answer o s j o' c (j' c)) ∙ h c inside);
  traps = λ o s j o' j' fair cl d m h. sym (one_answer o s j o' d (j' d)) ∙ h;
}
  where
    settled : IsSettled r
    settled = shared_settled vary w r sh

    same_answer : (o : Orders) (s : Store) (j : ℕ) (o' : Orders) (d : ℤ) (n : ℕ) → answer_of r o' (view (column vary d) s) n ≡ answer_of r o s j
    same_answer o s j o' d n =
        sym (renamed_run (column vary d) r o' s n (column-keeps vary d)).answer
        ∙ ap (λ t. answer_of t o' s n) (shared_renamed vary w d r sh)
        ∙ (settles r o' s n o j settled).answer

    one_answer : (o : Orders) (s : Store) (j : ℕ) (o' : Orders) (d : ℤ) (n : ℕ) → is_some (answer_of r o' (view (column vary d) s) n) ≡ is_some (answer_of r o s j)
    one_answer o s j o' d n = ap is_some (same_answer o s j o' d n)

    kept : (o : Orders) (s : Store) (j : ℕ) (o' : Orders) (j' : ℤ → ℕ) → Knows pre s → (a : Option A) → answer_of r o s j ≡ a → is_some (answer_of r o s j) ≡ true → Kept vary cols post r r o s j o' j'
    kept o s j o' j' cl None e h = absurd (false≢true (sym (ap is_some e) ∙ h))
    kept o s j o' j' cl (Some a) e h = record {
      answer = a;
      wide = e;
      each = λ d m. same_answer o s j o' d (j' d) ∙ e;
      store = λ d m.
          ap (view (column vary d)) ((settles r o s j o' (j' d) settled).store ∙ ap (λ t. store_of t o' s (j' d)) (sym (shared_renamed vary w d r sh)))
          ∙ (renamed_run (column vary d) r o' s (j' d) (column-keeps vary d)).store;
      knows = knows o s j cl;
    }

pub lockstep_announced : {A : Type 0} (vary : Varying) (cols : List ℤ) (pre post : Knowledge) (r q : Interaction A) (t u : Note) → Lockstep vary cols pre post r q → Lockstep vary cols pre post (Announce t r) (Announce u q)
lockstep_announced vary cols pre post r q t u l = record {
  ends = λ o s j o' j' fair cl h. let k = l.ends o s j o' j' fair cl h in record { answer = k.answer; wide = k.wide; each = k.each; store = k.store; knows = k.knows };
  traps = l.traps;
}

pub lockstep_wide_announced : {A : Type 0} (vary : Varying) (cols : List ℤ) (pre post : Knowledge) (r q : Interaction A) (u : Note) → Lockstep vary cols pre post r q → Lockstep vary cols pre post r (Announce u q)
lockstep_wide_announced vary cols pre post r q u l = record {
  ends = λ o s j o' j' fair cl h. let k = l.ends o s j o' j' fair cl h in record { answer = k.answer; wide = k.wide; each = k.each; store = k.store; knows = k.knows };
  traps = l.traps;
}

-- more may be known before, and less after
pub lockstep_from : {A : Type 0} (vary : Varying) (cols : List ℤ) (pre more post : Knowledge) (r q : Interaction A) → ((e : Element) (v : Value) → pre e ≡ Some v → more e ≡ Some v) → Lockstep vary cols pre post r q → Lockstep vary cols more post r q
lockstep_from vary cols pre more post r q w l = record {
  ends = λ o s j o' j' fair cl h. l.ends o s j o' j' fair (λ e v t. cl e v (w e v t)) h;
  traps = λ o s j o' j' fair cl c m h. l.traps o s j o' j' fair (λ e v t. cl e v (w e v t)) c m h;
}

pub lockstep_to : {A : Type 0} (vary : Varying) (cols : List ℤ) (pre post less : Knowledge) (r q : Interaction A) → ((e : Element) (v : Value) → less e ≡ Some v → post e ≡ Some v) → Lockstep vary cols pre post r q → Lockstep vary cols pre less r q
lockstep_to vary cols pre post less r q w l = record {
  ends = λ o s j o' j' fair cl h.
      let k = l.ends o s j o' j' fair cl h in
      record { answer = k.answer; wide = k.wide; each = k.each; store = k.store; knows = λ e v t. k.knows e v (w e v t) };
  traps = l.traps;
}
