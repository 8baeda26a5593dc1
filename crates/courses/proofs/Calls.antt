-- What a call by copy does to a store, and copies seen from one column.
use Rattle.std.proofs.Common.{◌≡◌, ℕ, ℤ, refl, ap, sym, ◌∙◌, List, [], ◌∷◌, ◌++◌, map, length, ◌||◌, arith, Bool, true, false, Option, Some, None}
use Rattle.std.specs.Prelude.{if◌then◌else◌}
use Rattle.std.proofs.lemmas.Bool.{false≢true}
use mathlib.Core.Path.{ap₂}
use Rattle.courses.specs.Element.{Value, Element, same_index, same_element, Store, put, blank, merged}
use Rattle.courses.specs.Interaction.{Interaction, bind, Orders, answer_of, next_of, store_of}
use Rattle.courses.specs.Handlers.{keeping}
use Rattle.courses.specs.Course.{Sort, Item, Many, Both, Answer, Course, Give, Scope, and_then, line, on_some}
use Rattle.courses.specs.Copying.{with_values, stored, put_all, or_else, source, Callee, called, entered, returned, CallDoes}
use Rattle.courses.specs.Frames.{is_place}
use Rattle.courses.proofs.Stores.{same_index-decides, put-same, put-other, same_element-equal}
use Rattle.courses.proofs.Binds.{follows, stops}
use Rattle.courses.proofs.Handled.{keeping_run, kept_store}
use Rattle.courses.proofs.Lines.{line_then}
use Rattle.courses.proofs.Forgetting.{stored_run}

-- a course that reads elements does from a store what it does with their values
pub record Reading {k : Sort} (es : List Element) (g : List Value → Course k) (o : Orders) (s : Store) (j : ℕ) : Type 0 where
  pub answer : answer_of (line (with_values es g)) o s j ≡ answer_of (line (g (map s es))) o s j
  pub next : next_of (line (with_values es g)) o s j ≡ next_of (line (g (map s es))) o s j
  pub store : store_of (line (with_values es g)) o s j ≡ store_of (line (g (map s es))) o s j

pub values_run : {k : Sort} (es : List Element) (g : List Value → Course k) (o : Orders) (s : Store) (j : ℕ) → Reading es g o s j
values_run [] g o s j = record { answer = refl; next = refl; store = refl }
values_run (e ∷ es) g o s j = let h = values_run es (λ vs. g (s e ∷ vs)) o s j in record { answer = h.answer; next = h.next; store = h.store }

module _ {k l : Sort} (f : Callee k) (vs : List Value) (xs es : List Element) (g : Answer k → Course l) (o : Orders) (s : Store) (j : ℕ) where
  abbrev back : Answer k × List Value → Course l
  back p = stored es p.1 (g p.0)

  abbrev hand : Answer k → Course (Both k (Many Item))
  hand a = with_values f.leaves (λ us. Give {k = Both k (Many Item)} (a, us))

  abbrev m : Store
  m = merged f.owns blank s

  abbrev inside : List Value → Course (Both k (Many Item))
  inside ws = stored f.given vs (stored f.takes ws (and_then f.body hand))

  abbrev body_line : Interaction (Answer k × List Value)
  body_line = line (inside (map s xs))

  abbrev whole_call : Interaction (Answer l)
  whole_call = bind (keeping f.owns blank body_line) (λ p. line (back p))

  abbrev t : Store
  t = entered f vs xs s

  inner_answer : answer_of body_line o m j ≡ answer_of (bind (line f.body) (λ a. line (hand a))) o t j
  inner_answer =
      (stored_run f.given vs (stored f.takes (map s xs) (and_then f.body hand)) o m j).answer
      ∙ (stored_run f.takes (map s xs) (and_then f.body hand) o (put_all f.given vs m) j).answer
      ∙ ap (λ r. answer_of r o t j) (line_then f.body hand)

  inner_next : next_of body_line o m j ≡ next_of (bind (line f.body) (λ a. line (hand a))) o t j
  inner_next =
      (stored_run f.given vs (stored f.takes (map s xs) (and_then f.body hand)) o m j).next
      ∙ (stored_run f.takes (map s xs) (and_then f.body hand) o (put_all f.given vs m) j).next
      ∙ ap (λ r. next_of r o t j) (line_then f.body hand)

  inner_store : store_of body_line o m j ≡ store_of (bind (line f.body) (λ a. line (hand a))) o t j
  inner_store =
      (stored_run f.given vs (stored f.takes (map s xs) (and_then f.body hand)) o m j).store
      ∙ (stored_run f.takes (map s xs) (and_then f.body hand) o (put_all f.given vs m) j).store
      ∙ ap (λ r. store_of r o t j) (line_then f.body hand)

  goes_in : Reading xs (λ ws. Scope f.owns (inside ws) back) o s j
  goes_in = values_run xs (λ ws. Scope f.owns (inside ws) back) o s j

  record Goes (a : Answer k) : Type 0 where
    answer : answer_of (line (called f vs xs es g)) o s j ≡ answer_of (line (g a)) o (returned f es s (store_of (line f.body) o t j)) (next_of (line f.body) o t j)
    store : store_of (line (called f vs xs es g)) o s j ≡ store_of (line (g a)) o (returned f es s (store_of (line f.body) o t j)) (next_of (line f.body) o t j)

  goes : (a : Answer k) → answer_of (line f.body) o t j ≡ Some a → Goes a
  goes a q =
      let u = store_of (line f.body) o t j in
      let n = next_of (line f.body) o t j in
      let fb = follows (line f.body) (λ b. line (hand b)) a o t j q in
      let v = values_run f.leaves (λ us. Give {k = Both k (Many Item)} (a, us)) o u n in
      let kp = keeping_run f.owns blank body_line o s j in
      let ka = kp.answer ∙ inner_answer ∙ fb.answer ∙ v.answer in
      let kn = kp.next ∙ inner_next ∙ fb.next ∙ v.next in
      let ks = kept_store f.owns blank body_line o s j ∙ ap (merged f.owns s) (inner_store ∙ fb.store ∙ v.store) in
      let fk = follows (keeping f.owns blank body_line) (λ p. line (back p)) (a, map u f.leaves) o s j ka in
      let w = stored_run es (map u f.leaves) (g a) o (merged f.owns s u) n in
      record {
        answer = goes_in.answer ∙ fk.answer ∙ ap₂ (λ z i. answer_of (line (back (a, map u f.leaves))) o z i) ks kn ∙ w.answer;
        store = goes_in.store ∙ fk.store ∙ ap₂ (λ z i. store_of (line (back (a, map u f.leaves))) o z i) ks kn ∙ w.store;
      }

  stuck : answer_of (line f.body) o t j ≡ None → answer_of (line (called f vs xs es g)) o s j ≡ None
  stuck q =
      let ka = (keeping_run f.owns blank body_line o s j).answer ∙ inner_answer ∙ (stops (line f.body) (λ b. line (hand b)) o t j q).answer in
      goes_in.answer ∙ (stops (keeping f.owns blank body_line) (λ p. line (back p)) o s j ka).answer

pub call_does : {k l : Sort} (f : Callee k) (vs : List Value) (xs es : List Element) (g : Answer k → Course l) (o : Orders) (s : Store) (j : ℕ) → CallDoes f vs xs es g o s j
call_does f vs xs es g o s j = record {
  traps = λ q. stuck f vs xs es g o s j q;
  answer = λ a q. (goes f vs xs es g o s j a q).answer;
  store = λ a q. (goes f vs xs es g o s j a q).store;
}

-- what stands at an element after copies
pub copied : (ds xs : List Element) (s t : Store) (e : Element) → put_all ds (map s xs) t e ≡ on_some (source ds xs e) (t e) s
copied [] xs s t e = refl
copied (d ∷ ds) [] s t e = refl
copied (d ∷ ds) (x ∷ xs) s t e = copied ds xs s (put t d (s x)) e ∙ go (source ds xs e) (same_element d e) refl
  where
    go : (a : Option Element) (b : Bool) → same_element d e ≡ b → on_some a (put t d (s x) e) s ≡ on_some (or_else a (if same_element d e then Some x else None)) (t e) s
    go (Some y) b q = refl
    go None true q = ap (put t d (s x)) (sym (same_element-equal d e q)) ∙ put-same t d (s x) ∙ rw q refl
    go None false q = put-other t d (s x) e q ∙ rw q refl

-- none of them is one of p
abbrev pub NoneIn : (Element → Bool) → List Element → Type 0
NoneIn p [] = Unit {0}
NoneIn p (e ∷ es) = (p e ≡ false) × NoneIn p es

-- where none of p is set, these stay
pub put_all-other : (p : Element → Bool) (es : List Element) (vs : List Value) (t : Store) (e : Element) → NoneIn p es → p e ≡ true → put_all es vs t e ≡ t e
put_all-other p [] vs t e h m = refl
put_all-other p (d ∷ ds) [] t e h m = refl
put_all-other p (d ∷ ds) (v ∷ vs) t e h m = put_all-other p ds vs (put t d v) e h.1 m ∙ put-other t d v e (go (same_element d e) refl)
  where
    go : (b : Bool) → same_element d e ≡ b → same_element d e ≡ false
    go true q = absurd (false≢true (sym h.0 ∙ ap p (same_element-equal d e q) ∙ m))
    go false q = q

-- Where copies come from, for lists put together and for lists over the places of an array.

or_else-nested : {A : Type 0} (a b c : Option A) → or_else (or_else a b) c ≡ or_else a (or_else b c)
or_else-nested (Some x) b c = refl
or_else-nested None b c = refl

pub source_appended : (ds xs es ys : List Element) (e : Element) → length ds ≡ length xs → source (ds ++ es) (xs ++ ys) e ≡ or_else (source es ys e) (source ds xs e)
source_appended [] [] es ys e n = sym (nothing (source es ys e))
  where
    nothing : (a : Option Element) → or_else a None ≡ a
    nothing (Some x) = refl
    nothing None = refl
source_appended [] (x ∷ xs) es ys e n = absurd (omega arith)
source_appended (d ∷ ds) [] es ys e n = absurd (omega arith)
source_appended (d ∷ ds) (x ∷ xs) es ys e n =
    let m : length ds ≡ length xs = omega arith in
    ap (λ a. or_else a (if same_element d e then Some x else None)) (source_appended ds xs es ys e m) ∙ or_else-nested (source es ys e) (source ds xs e) (if same_element d e then Some x else None)

-- to an element that stands for its subscripts
pub source_mapped : (d a : List ℤ → Element) → ((p q : List ℤ) → same_element (d p) (d q) ≡ same_index p q) → (ps : List (List ℤ)) (q : List ℤ) → source (map d ps) (map a ps) (d q) ≡ (if is_place ps q then Some (a q) else None)
source_mapped d a h [] q = refl
source_mapped d a h (p ∷ ps) q =
    ap₂ (λ x b. or_else x (if b then Some (a p) else None)) (source_mapped d a h ps q) (h p q) ∙ go (is_place ps q) (same_index p q) refl
  where
    go : (b c : Bool) → same_index p q ≡ c → or_else (if b then Some (a q) else None) (if c then Some (a p) else None) ≡ (if c || b then Some (a q) else None)
    go true true e = refl
    go true false e = refl
    go false true e = ap (λ i. Some (a i)) ((same_index-decides p q).0 e)
    go false false e = refl

-- to another element none
pub source_none : (d a : List ℤ → Element) (e : Element) → ((p : List ℤ) → same_element (d p) e ≡ false) → (ps : List (List ℤ)) → source (map d ps) (map a ps) e ≡ None
source_none d a e h [] = refl
source_none d a e h (p ∷ ps) = ap₂ (λ x b. or_else x (if b then Some (a p) else None)) (source_none d a e h ps) (h p)
