-- Single steps in lock step, for any number of columns: answers, and reads and writes of shared elements; and two
-- interactions in lock step where nothing varies.
use Rattle.std.proofs.Common.{◌≡◌, ℕ, ℤ, pos, refl, ap, sym, ◌∙◌, List, [], ◌∷◌, Bool, true, false, Option, Some, None}
use Rattle.std.specs.Prelude.{is_some}
use Rattle.std.proofs.lemmas.Bool.{false≢true}
use Rattle.courses.specs.Element.{Value, Element, same_element, Store, put}
use Rattle.courses.specs.Interaction.{Interaction, Done, Trap, Read, Write, Orders, answer_of, store_of}
use Rattle.courses.specs.Renaming.{view}
use Rattle.courses.specs.Weaving.{IsFair}
use Rattle.courses.specs.Columns.{Varying, varies, column, is_column, Knowledge, Knows, minus, Lockstep, nothing_varies}
use Rattle.courses.proofs.Stores.{put-same, put-other, same_element-equal, same_element-itself}
use Rattle.courses.proofs.Loops.{some_of}
use Rattle.courses.proofs.Shared.{column-shared}
use Rattle.courses.proofs.Column_calls.{put_shared}

pub lockstep_give : {A : Type 0} (vary : Varying) (cols : List ℤ) (know : Knowledge) (a : A) → Lockstep vary cols know know (Done a) (Done a)
lockstep_give vary cols know a = record {
  ends = λ o s j o' j' fair kn h. record { answer = a; wide = refl; each = λ c m. refl; store = λ c m. refl; knows = kn };
  traps = λ o s j o' j' fair kn c m h. absurd (false≢true (sym h));
}

pub lockstep_fail : {A : Type 0} (vary : Varying) (cols : List ℤ) (pre post : Knowledge) (c : ℤ) → is_column c cols ≡ true → Lockstep {A = A} vary cols pre post Trap Trap
lockstep_fail vary cols pre post c m = record {
  ends = λ o s j o' j' fair kn h. absurd (false≢true (h c m));
  traps = λ o s j o' j' fair kn c m h. refl;
}

-- a shared element: all find what the wide one finds
pub lockstep_read : {A : Type 0} (vary : Varying) (cols : List ℤ) (pre post : Knowledge) (e : Element) (f g : Value → Interaction A) → varies vary e ≡ false → ((v : Value) → ((w : Value) → pre e ≡ Some w → v ≡ w) → Lockstep vary cols pre post (f v) (g v)) → Lockstep vary cols pre post (Read e f) (Read e g)
lockstep_read vary cols pre post e f g sh rest = record {
  ends = λ o s j o' j' fair kn h.
      let k = (rest (s e) (λ w q. kn e w q)).ends o s j o' j' fair kn (λ c m. ap (λ v. is_some (answer_of (f v) o' (view (column vary c) s) (j' c))) (sym (seen s c)) ∙ h c m) in
      record {
        answer = k.answer;
        wide = k.wide;
        each = λ c m. ap (λ v. answer_of (f v) o' (view (column vary c) s) (j' c)) (seen s c) ∙ k.each c m;
        store = λ c m. k.store c m ∙ ap (λ v. store_of (f v) o' (view (column vary c) s) (j' c)) (sym (seen s c));
        knows = k.knows;
      };
  traps = λ o s j o' j' fair kn c m h. (rest (s e) (λ w q. kn e w q)).traps o s j o' j' fair kn c m (ap (λ v. is_some (answer_of (f v) o' (view (column vary c) s) (j' c))) (sym (seen s c)) ∙ h);
}
  where
    seen : (s : Store) (c : ℤ) → view (column vary c) s e ≡ s e
    seen s c = ap s (column-shared vary c e sh)

-- a write of a shared element on both sides, after which the element is known to hold the value, and all else as before
pub lockstep_write : {A : Type 0} (vary : Varying) (cols : List ℤ) (pre mid post : Knowledge) (e : Element) (v : Value) (r q : Interaction A) → varies vary e ≡ false → ((w : Value) → mid e ≡ Some w → v ≡ w) → ((x : Element) (w : Value) → same_element e x ≡ false → mid x ≡ Some w → pre x ≡ Some w) → Lockstep vary cols mid post r q → Lockstep vary cols pre post (Write e v r) (Write e v q)
lockstep_write vary cols pre mid post e v r q sh here elsewhere rest = record {
  ends = λ o s j o' j' fair kn h.
      let k = rest.ends o (put s e v) j o' j' fair (knows s kn) (λ c m. ap (λ t. is_some (answer_of r o' t (j' c))) (put_shared vary c s e v sh) ∙ h c m) in
      record {
        answer = k.answer;
        wide = k.wide;
        each = λ c m. ap (λ t. answer_of r o' t (j' c)) (sym (put_shared vary c s e v sh)) ∙ k.each c m;
        store = λ c m. k.store c m ∙ ap (λ t. store_of r o' t (j' c)) (put_shared vary c s e v sh);
        knows = k.knows;
      };
  traps = λ o s j o' j' fair kn c m h. rest.traps o (put s e v) j o' j' fair (knows s kn) c m (ap (λ t. is_some (answer_of r o' t (j' c))) (put_shared vary c s e v sh) ∙ h);
}
  where
    knows : (s : Store) → Knows pre s → Knows mid (put s e v)
    knows s kn x w t = go (same_element e x) refl
      where
        go : (b : Bool) → same_element e x ≡ b → put s e v x ≡ w
        go true m = ap (put s e v) (sym (same_element-equal e x m)) ∙ put-same s e v ∙ here w (ap mid (same_element-equal e x m) ∙ t)
        go false m = put-other s e v x m ∙ kn x w (elsewhere x w m t)

-- after a write of any value nothing is known of the element
pub lockstep_write_minus : {A : Type 0} (vary : Varying) (cols : List ℤ) (know post : Knowledge) (e : Element) (v : Value) (r q : Interaction A) → varies vary e ≡ false → Lockstep vary cols (minus know e) post r q → Lockstep vary cols know post (Write e v r) (Write e v q)
lockstep_write_minus vary cols know post e v r q sh rest = lockstep_write vary cols know (minus know e) post e v r q sh here elsewhere rest
  where
    here : (w : Value) → minus know e e ≡ Some w → v ≡ w
    here w h = let t : None ≡ Some w = rw (same_element-itself e) at h in absurd (cc)

    elsewhere : (x : Element) (w : Value) → same_element e x ≡ false → minus know e x ≡ Some w → know x ≡ Some w
    elsewhere x w n h = rw n at h

-- a write of the value that is to be known brings the knowledge back
pub lockstep_write_back : {A : Type 0} (vary : Varying) (cols : List ℤ) (know post : Knowledge) (e : Element) (v : Value) (r q : Interaction A) → varies vary e ≡ false → know e ≡ Some v → Lockstep vary cols know post r q → Lockstep vary cols (minus know e) post (Write e v r) (Write e v q)
lockstep_write_back vary cols know post e v r q sh k rest = lockstep_write vary cols (minus know e) know post e v r q sh here elsewhere rest
  where
    here : (w : Value) → know e ≡ Some w → v ≡ w
    here w h = let t : Some v ≡ Some w = sym k ∙ h in cc

    elsewhere : (x : Element) (w : Value) → same_element e x ≡ false → know x ≡ Some w → minus know e x ≡ Some w
    elsewhere x w n h = rw n h

-- Where nothing varies a column is the whole store.
pub nothing_view : (c : ℤ) (s : Store) → view (column nothing_varies c) s ≡ s
unfolding column
nothing_view c s = refl

-- two interactions that end or trap alike, with equal answers and stores
pub record EndsAlike {A : Type 0} (pre post : Knowledge) (r q : Interaction A) : Type 0 where
  pub answer : (o : Orders) (s : Store) (j : ℕ) (o' : Orders) (j' : ℕ) → IsFair o → Knows pre s → answer_of q o s j ≡ answer_of r o' s j'
  pub store : (o : Orders) (s : Store) (j : ℕ) (o' : Orders) (j' : ℕ) → IsFair o → Knows pre s → is_some (answer_of r o' s j') ≡ true → store_of q o s j ≡ store_of r o' s j'
  pub knows : (o : Orders) (s : Store) (j : ℕ) → IsFair o → Knows pre s → Knows post (store_of q o s j)

pub ends_lockstep : {A : Type 0} (pre post : Knowledge) (r q : Interaction A) → EndsAlike pre post r q → Lockstep nothing_varies (pos 0 ∷ []) pre post r q
unfolding column
ends_lockstep pre post r q e = record {
  ends = λ o s j o' j' fair kn h.
      let a = some_of (answer_of r o' s (j' (pos 0))) (h (pos 0) refl) in
      record {
        answer = a.0;
        wide = e.answer o s j o' (j' (pos 0)) fair kn ∙ a.1;
        each = λ c m. sym (e.answer o s j o' (j' c) fair kn) ∙ e.answer o s j o' (j' (pos 0)) fair kn ∙ a.1;
        store = λ c m. e.store o s j o' (j' c) fair kn (h c m);
        knows = e.knows o s j fair kn;
      };
  traps = λ o s j o' j' fair kn c m h. ap is_some (e.answer o s j o' (j' c) fair kn) ∙ h;
}

pub lockstep_ends : {A : Type 0} (pre post : Knowledge) (r q : Interaction A) → Lockstep nothing_varies (pos 0 ∷ []) pre post r q → (o : Orders) (s : Store) (j : ℕ) (o' : Orders) (j' : ℕ) → IsFair o → Knows pre s → answer_of q o s j ≡ answer_of r o' s j'
unfolding column
lockstep_ends {A} pre post r q l o s j o' j' fair kn = go (answer_of r o' s j') refl
  where
    gone : (x : Option A) → is_some x ≡ false → x ≡ None
    gone (Some a) h = absurd (false≢true (sym h))
    gone None h = refl

    go : (x : Option A) → answer_of r o' s j' ≡ x → answer_of q o s j ≡ answer_of r o' s j'
    go (Some a) h = let k = l.ends o s j o' (λ c. j') fair kn (λ c m. ap is_some h) in k.wide ∙ sym (k.each (pos 0) refl)
    go None h = gone (answer_of q o s j) (l.traps o s j o' (λ c. j') fair kn (pos 0) refl (ap is_some h)) ∙ sym h
