-- Where the wide elements of a column lie, and what a column's interaction on them touches.
use Rattle.std.proofs.Common.{◌≡◌, ℕ, zero, suc, ℤ, pos, ◌+ℤ◌, refl, ap, sym, ◌∙◌, subst, List, [], ◌∷◌, Bool, true, false, not, ◌&&◌, ◌||◌, Option, Some, None, eqb, eq-eqb, arith}
use Rattle.std.specs.Prelude.{is_some}
use Rattle.std.specs.Ordering.{int_eq}
use Rattle.std.specs.Cmp.{signed_Decides}
use Rattle.std.proofs.lemmas.Int.{ints}
use Rattle.std.proofs.lemmas.Bool.{false≢true}
use mathlib.Core.Path.{fun_ext, ap₂}
use Rattle.courses.specs.Element.{Element, same_name, same_index, same_element, Store, put}
use Rattle.courses.specs.Interaction.{Interaction, Done, Trap, Read, Write, Order, Announce, Orders, answer_of, log_of}
use Rattle.courses.specs.Logs.{is_read, is_written}
use Rattle.courses.specs.Renaming.{renamed, KeepsApart}
use Rattle.courses.specs.Handlers.{IsSettled}
use Rattle.courses.specs.Always.{WritesOnly, writes_of}
use Rattle.courses.specs.Columns.{Varying, varies, inserted, placed, column, has_at, is_own, IsShared, shared_of, AnswersOnly}
use Rattle.courses.proofs.Stores.{and_both, same_name-decides, same_element-equal}
use Rattle.courses.proofs.Allowed.{always_settled, always_more}

pub not_true : (b : Bool) → not b ≡ true → b ≡ false
not_true true h = absurd (false≢true h)
not_true false h = refl

pub int_eq-itself : (c : ℤ) → int_eq c c ≡ true
int_eq-itself c = (signed_Decides c c).1 refl

pub int_eq-equal : (c d : ℤ) → int_eq c d ≡ true → c ≡ d
int_eq-equal c d = (signed_Decides c d).0

and_none : (b : Bool) → b && false ≡ false
and_none true = refl
and_none false = refl

never_empty : (k : ℕ) (c : ℤ) (is : List ℤ) → same_index [] (inserted k c is) ≡ false
never_empty zero c is = refl
never_empty (suc k) c [] = refl
never_empty (suc k) c (i ∷ is) = refl

never_empty' : (k : ℕ) (c : ℤ) (is : List ℤ) → same_index (inserted k c is) [] ≡ false
never_empty' zero c is = refl
never_empty' (suc k) c [] = refl
never_empty' (suc k) c (i ∷ is) = refl

-- one more subscript at one place keeps lists of subscripts as equal or different as they are
pub same_inserted : (k : ℕ) (c : ℤ) (is js : List ℤ) → same_index (inserted k c is) (inserted k c js) ≡ same_index is js
same_inserted zero c is js = rw (int_eq-itself c) refl
same_inserted (suc k) c [] [] = rw (int_eq-itself c) refl
same_inserted (suc k) c [] (j ∷ js) = ap (λ b. int_eq c j && b) (never_empty k c js) ∙ and_none (int_eq c j)
same_inserted (suc k) c (i ∷ is) [] = ap (λ b. int_eq i c && b) (never_empty' k c is) ∙ and_none (int_eq i c)
same_inserted (suc k) c (i ∷ is) (j ∷ js) = ap (λ b. int_eq i j && b) (same_inserted k c is js)

has_past : (k n : ℕ) (c d i : ℤ) (is : List ℤ) → has_at (suc k) d (i ∷ inserted n c is) ≡ has_at k d (inserted n c is)
has_past k zero c d i is = refl
has_past k (suc n) c d i [] = refl
has_past k (suc n) c d i (h ∷ is) = refl

-- the subscript that was inserted is found there
pub has_inserted : (k : ℕ) (c d : ℤ) (is : List ℤ) → has_at k d (inserted k c is) ≡ int_eq c d
has_inserted zero c d is = refl
has_inserted (suc k) c d [] = refl
has_inserted (suc k) c d (i ∷ is) = has_past k k c d i is ∙ has_inserted k c d is

-- two elements of two variables are different, whatever their subscripts
by_names : (e x : Element) (a b : Bool) → (e.home ≡ x.home → e.name ≡ x.name → a ≡ b) → same_name e.home x.home && (same_name e.name x.name && a) ≡ same_name e.home x.home && (same_name e.name x.name && b)
by_names e x a b h = go (same_name e.home x.home) (same_name e.name x.name) refl refl
  where
    go : (m n : Bool) → same_name e.home x.home ≡ m → same_name e.name x.name ≡ n → same_name e.home x.home && (same_name e.name x.name && a) ≡ same_name e.home x.home && (same_name e.name x.name && b)
    go false n p q = rw p refl
    go true false p q = rw (p, q) refl
    go true true p q = rw (p, q) (h ((same_name-decides e.home x.home).0 p) ((same_name-decides e.name x.name).0 q))

pub column-keeps : (vary : Varying) (c : ℤ) → KeepsApart (column vary c)
unfolding column same_element
column-keeps vary c e x = go (vary e.home e.name) (vary x.home x.name) refl refl
  where
    alike : e.home ≡ x.home → e.name ≡ x.name → vary e.home e.name ≡ vary x.home x.name
    alike m n = ap₂ vary m n

    same_place : (k l : ℕ) → Some k ≡ Some l → k ≡ l
    same_place k l h = cc

    go : (a b : Option ℕ) → vary e.home e.name ≡ a → vary x.home x.name ≡ b → same_element (placed (vary e.home e.name) c e) (placed (vary x.home x.name) c x) ≡ same_element e x
    go None None p q = rw (p, q) refl
    go (Some k) None p q = rw (p, q) (by_names e x (same_index (inserted k c e.index) x.index) (same_index e.index x.index) (λ m n. let t : Some k ≡ None = sym p ∙ alike m n ∙ q in absurd (cc)))
    go None (Some l) p q = rw (p, q) (by_names e x (same_index e.index (inserted l c x.index)) (same_index e.index x.index) (λ m n. let t : None ≡ Some l = sym p ∙ alike m n ∙ q in absurd (cc)))
    go (Some k) (Some l) p q =
        rw (p, q)
        (by_names e x (same_index (inserted k c e.index) (inserted l c x.index)) (same_index e.index x.index)
        (λ m n. ap (λ i. same_index (inserted k c e.index) (inserted i c x.index)) (same_place l k (sym q ∙ sym (alike m n) ∙ p)) ∙ same_inserted k c e.index x.index))

pub column-shared : (vary : Varying) (c : ℤ) (e : Element) → varies vary e ≡ false → column vary c e ≡ e
unfolding column
column-shared vary c e h = go (vary e.home e.name) refl
  where
    go : (a : Option ℕ) → vary e.home e.name ≡ a → placed (vary e.home e.name) c e ≡ e
    go None q = rw q refl
    go (Some k) q = absurd (false≢true (sym h ∙ ap is_some q))

-- a column's element is of the same variable
pub column-varies : (vary : Varying) (c : ℤ) (e : Element) → varies vary (column vary c e) ≡ varies vary e
unfolding column
column-varies vary c e = go (vary e.home e.name)
  where
    go : (a : Option ℕ) → varies vary (placed a c e) ≡ varies vary e
    go None = refl
    go (Some k) = refl

-- a column's element lies in this column, and in no other
pub own_of_column : (vary : Varying) (c d : ℤ) (e : Element) → is_own vary d (column vary c e) ≡ varies vary e && int_eq c d
unfolding column is_own
own_of_column vary c d e = go (vary e.home e.name) refl
  where
    go : (a : Option ℕ) → vary e.home e.name ≡ a → is_own vary d (placed (vary e.home e.name) c e) ≡ is_some (vary e.home e.name) && int_eq c d
    go None q = rw (q, q) refl
    go (Some k) q = rw (q, q) (has_inserted k c d e.index)

pub column-own : (vary : Varying) (c : ℤ) (e : Element) → varies vary e ≡ true → is_own vary c (column vary c e) ≡ true
column-own vary c e h = own_of_column vary c c e ∙ rw h (int_eq-itself c)

-- an element of another column is none of these
pub column-foreign : (vary : Varying) (c d : ℤ) (x y : Element) → is_own vary d y ≡ true → int_eq c d ≡ false → same_element (column vary c x) y ≡ false
column-foreign vary c d x y h n = go (same_element (column vary c x) y) refl
  where
    go : (b : Bool) → same_element (column vary c x) y ≡ b → same_element (column vary c x) y ≡ false
    go true q =
        absurd (false≢true (sym (and_none (varies vary x)) ∙ ap (λ b. varies vary x && b) (sym n) ∙ sym (own_of_column vary c d x) ∙ ap (is_own vary d) (same_element-equal (column vary c x) y q) ∙ h))
    go false q = q

-- elements of a shared and of a varying variable are different
pub names_apart : (vary : Varying) (x y : Element) → varies vary x ≡ false → varies vary y ≡ true → same_element x y ≡ false
names_apart vary x y a b = go (same_element x y) refl
  where
    go : (t : Bool) → same_element x y ≡ t → same_element x y ≡ false
    go true q = absurd (false≢true (sym a ∙ ap (varies vary) (same_element-equal x y q) ∙ b))
    go false q = q

-- two columns from low on are different
pub sums_differ : (low : ℤ) (k i : ℕ) → eqb k i ≡ false → int_eq (low +ℤ pos k) (low +ℤ pos i) ≡ false
sums_differ low k i h = go (int_eq (low +ℤ pos k) (low +ℤ pos i)) refl
  where
    go : (b : Bool) → int_eq (low +ℤ pos k) (low +ℤ pos i) ≡ b → int_eq (low +ℤ pos k) (low +ℤ pos i) ≡ false
    go true q =
        let e : low +ℤ pos k ≡ low +ℤ pos i = int_eq-equal (low +ℤ pos k) (low +ℤ pos i) q in
        let t : k ≡ i = omega (arith, ints) in
        absurd (false≢true (sym h ∙ eq-eqb k i t))
    go false q = q

-- interactions on shared elements alone
pub shared_settled : {A : Type 0} (vary : Varying) (w : Element → Bool) (r : Interaction A) → IsShared vary w r → IsSettled r
shared_settled vary w r h = always_settled (shared_of vary w) r refl h

pub shared_renamed : {A : Type 0} (vary : Varying) (w : Element → Bool) (c : ℤ) (r : Interaction A) → IsShared vary w r → renamed (column vary c) r ≡ r
shared_renamed vary w c (Done a) h = refl
shared_renamed vary w c Trap h = refl
shared_renamed vary w c (Read e f) h = rw (column-shared vary c e (not_true (varies vary e) h.0)) (ap (Read e) (fun_ext (λ v. shared_renamed vary w c (f v) (h.1 v))))
shared_renamed vary w c (Write e v r) h = rw (column-shared vary c e (not_true (varies vary e) (and_both (not (varies vary e)) (w e) h.0).0)) (ap (Write e v) (shared_renamed vary w c r h.1))
shared_renamed vary w c (Order n f) h = absurd (false≢true h.0)
shared_renamed vary w c (Announce u r) h = ap (Announce u) (shared_renamed vary w c r h.1)

pub shared_written : {A : Type 0} (vary : Varying) (w : Element → Bool) (r : Interaction A) → IsShared vary w r → WritesOnly w r
shared_written vary w r h =
    always_more (shared_of vary w) (writes_of w false) r (record { read = λ e n. refl; write = λ e n. (and_both (not (varies vary e)) (w e) n).1; note = λ u n. refl; order = λ n. n }) h

-- what a column's interaction writes is its own, or one of p
pub writes_own : {A : Type 0} (vary : Varying) (w p : Element → Bool) (c : ℤ) (r : Interaction A) (o : Orders) (s : Store) (j : ℕ) (y : Element) → ((e : Element) → w e ≡ true → p e ≡ false → varies vary e ≡ true) → ((e : Element) → p e ≡ true → varies vary e ≡ false) → WritesOnly w r → p y ≡ false → is_written (log_of (renamed (column vary c) r) o s j) y ≡ true → is_own vary c y ≡ true
writes_own vary w p c (Done a) o s j y only sh h n t = absurd (false≢true t)
writes_own vary w p c Trap o s j y only sh h n t = absurd (false≢true t)
writes_own vary w p c (Read e f) o s j y only sh h n t = writes_own vary w p c (f (s (column vary c e))) o s j y only sh (h.1 (s (column vary c e))) n t
writes_own vary w p c (Write e v r) o s j y only sh h n t =
    go (same_element (column vary c e) y) (p e) refl refl t (writes_own vary w p c r o (put s (column vary c e) v) j y only sh h.1 n)
  where
    go : (b d : Bool) → same_element (column vary c e) y ≡ b → p e ≡ d → same_element (column vary c e) y || is_written (log_of (renamed (column vary c) r) o (put s (column vary c e) v) j) y ≡ true → (is_written (log_of (renamed (column vary c) r) o (put s (column vary c e) v) j) y ≡ true → is_own vary c y ≡ true) → is_own vary c y ≡ true
    go true true q m t ih = absurd (false≢true (sym n ∙ ap p (sym (same_element-equal (column vary c e) y q) ∙ column-shared vary c e (sh e m)) ∙ m))
    go true false q m t ih = subst (λ z. is_own vary c z ≡ true) (same_element-equal (column vary c e) y q) (column-own vary c e (only e h.0 m))
    go false d q m t ih = ih (rw q at t)
writes_own vary w p c (Order m f) o s j y only sh h n t = absurd (false≢true h.0)
writes_own vary w p c (Announce u r) o s j y only sh h n t = writes_own vary w p c r o s j y only sh h.1 n t

-- what is another column's is not touched
pub spares_others : {A : Type 0} (vary : Varying) (c d : ℤ) (r : Interaction A) (o : Orders) (s : Store) (j : ℕ) (y : Element) → is_own vary d y ≡ true → int_eq c d ≡ false → (is_read (log_of (renamed (column vary c) r) o s j) y ≡ false) × (is_written (log_of (renamed (column vary c) r) o s j) y ≡ false)
spares_others vary c d (Done a) o s j y h n = (refl, refl)
spares_others vary c d Trap o s j y h n = (refl, refl)
spares_others vary c d (Read e f) o s j y h n =
    let t = spares_others vary c d (f (s (column vary c e))) o s j y h n in (rw (column-foreign vary c d e y h n) t.0, t.1)
spares_others vary c d (Write e v r) o s j y h n =
    let t = spares_others vary c d r o (put s (column vary c e) v) j y h n in (t.0, rw (column-foreign vary c d e y h n) t.1)
spares_others vary c d (Order m f) o s j y h n = spares_others vary c d (f (o j m)) o s (suc j) y h n
spares_others vary c d (Announce u r) o s j y h n = spares_others vary c d r o s j y h n

pub only_answer : {A : Type 0} (a : A) (r : Interaction A) (o : Orders) (s : Store) (j : ℕ) → AnswersOnly a r → is_some (answer_of r o s j) ≡ true → answer_of r o s j ≡ Some a
only_answer a (Done b) o s j h q = ap Some h
only_answer a Trap o s j h q = absurd (false≢true q)
only_answer a (Read e f) o s j h q = only_answer a (f (s e)) o s j (h (s e)) q
only_answer a (Write e v r) o s j h q = only_answer a r o (put s e v) j h q
only_answer a (Order n f) o s j h q = only_answer a (f (o j n)) o s (suc j) (h (o j n)) q
only_answer a (Announce u r) o s j h q = only_answer a r o s j h q
