-- Courses one after another: the laws of and_then, and what it does to loop runs, to woven lines and to logs.
use Rattle.std.proofs.Common.{◌≡◌, ℕ, suc, refl, ap, sym, ◌∙◌, List, [], ◌∷◌, ◌++◌, Bool, true, false, Option, Some, None}
use Rattle.std.specs.Prelude.{is_some}
use mathlib.Core.Path.{fun_ext, ap₂}
use Rattle.courses.specs.Element.{Element, Store, put, merged, blank}
use Rattle.courses.specs.Ranges.{up_from}
use Rattle.courses.specs.Interaction.{Event, Reads, Writes, Announces, Interaction, Done, Read, Write, Announce, bind, Orders, answer_of, next_of, store_of}
use Rattle.courses.specs.Logs.{others}
use Rattle.courses.specs.Handlers.{keeping}
use Rattle.courses.specs.Interleaving.{weave}
use Rattle.courses.specs.Course.{Sort, Answer, Course, Give, Fail, Get, Put, Tell, Loop, Scope, and_then, in_order, all_of, line, loop_run, inner_runs, on_some, loop_runs}
use Rattle.courses.specs.Weaving.{woven_line}
use Rattle.courses.proofs.Monad.{bind_bind}
use Rattle.courses.proofs.Binds.{follows, stops}
use Rattle.courses.proofs.Lines.{in_order_bind}
use Rattle.courses.proofs.Loops.{not_some, some_of}

pub and_then_give : {k : Sort} (q : Course k) → and_then q (λ a. Give {k = k} a) ≡ q
and_then_give (Give a) = refl
and_then_give Fail = refl
and_then_give (Get e f) = ap (Get e) (fun_ext (λ v. and_then_give (f v)))
and_then_give (Put e v r) = ap (Put e v) (and_then_give r)
and_then_give (Tell t r) = ap (Tell t) (and_then_give r)
and_then_give (Loop n own body r) = ap (Loop n own body) (and_then_give r)
and_then_give (Scope p q h) = ap (Scope p q) (fun_ext (λ a. and_then_give (h a)))

pub and_then_then : {k l m : Sort} (q : Course k) (f : Answer k → Course l) (g : Answer l → Course m) → and_then (and_then q f) g ≡ and_then q (λ a. and_then (f a) g)
and_then_then (Give a) f g = refl
and_then_then Fail f g = refl
and_then_then (Get e h) f g = ap (Get e) (fun_ext (λ v. and_then_then (h v) f g))
and_then_then (Put e v r) f g = ap (Put e v) (and_then_then r f g)
and_then_then (Tell t r) f g = ap (Tell t) (and_then_then r f g)
and_then_then (Loop n own body r) f g = ap (Loop n own body) (and_then_then r f g)
and_then_then (Scope p q h) f g = ap (Scope p q) (fun_ext (λ a. and_then_then (h a) f g))

pub woven_line_then : {k l : Sort} (q : Course k) (g : Answer k → Course l) (ks : List ℕ) → woven_line (and_then q g) ks ≡ bind (woven_line q ks) (λ a. woven_line (g a) ks)
woven_line_then (Give a) g ks = refl
woven_line_then Fail g ks = refl
woven_line_then (Get e f) g ks = ap (Read e) (fun_ext (λ v. woven_line_then (f v) g ks))
woven_line_then (Put e v r) g ks = ap (Write e v) (woven_line_then r g ks)
woven_line_then (Tell t r) g ks = ap (Announce t) (woven_line_then r g ks)
woven_line_then (Loop n own body r) g ks =
    let w = weave (tt {0}) (up_from 0 n) ks (λ i. keeping own blank (line (body i))) in
    ap (bind w) (fun_ext (λ u. woven_line_then r g ks)) ∙ sym (bind_bind w (λ u. woven_line r ks) (λ a. woven_line (g a) ks))
woven_line_then (Scope p q h) g ks =
    let w = keeping p blank (woven_line q ks) in
    ap (bind w) (fun_ext (λ a. woven_line_then (h a) g ks)) ∙ sym (bind_bind w (λ a. woven_line (h a) ks) (λ a. woven_line (g a) ks))

pub others_appended : (own : Element → Bool) (ts us : List Event) → others own (ts ++ us) ≡ others own ts ++ others own us
others_appended own [] us = refl
others_appended own (Reads e ∷ ts) us = go (own e) refl (others_appended own ts us)
  where
    go : (b : Bool) → own e ≡ b → others own (ts ++ us) ≡ others own ts ++ others own us → others own ((Reads e ∷ ts) ++ us) ≡ others own (Reads e ∷ ts) ++ others own us
    go true q ih = rw q ih
    go false q ih = rw q (ap (λ l. Reads e ∷ l) ih)
others_appended own (Writes e ∷ ts) us = go (own e) refl (others_appended own ts us)
  where
    go : (b : Bool) → own e ≡ b → others own (ts ++ us) ≡ others own ts ++ others own us → others own ((Writes e ∷ ts) ++ us) ≡ others own (Writes e ∷ ts) ++ others own us
    go true q ih = rw q ih
    go false q ih = rw q (ap (λ l. Writes e ∷ l) ih)
others_appended own (Announces t ∷ ts) us = others_appended own ts us

-- Loop runs of two parts.

append_more : {A : Type 0} (xs ys zs : List A) → (xs ++ ys) ++ zs ≡ xs ++ (ys ++ zs)
append_more [] ys zs = refl
append_more (x ∷ xs) ys zs = ap (λ l. x ∷ l) (append_more xs ys zs)

append_nothing : {A : Type 0} (xs : List A) → xs ++ [] ≡ xs
append_nothing [] = refl
append_nothing (x ∷ xs) = ap (λ l. x ∷ l) (append_nothing xs)

-- what follows a part, where it ends
abbrev pub runs_after : {A : Type 0} {l : Sort} → Interaction A → (A → Course l) → Orders → Store → ℕ → List (List (List Event))
runs_after r g o s j = on_some (answer_of r o s j) [] (λ a. loop_runs (g a) o (store_of r o s j) (next_of r o s j))

-- after two parts in a row comes what follows the second
after_both : {A B : Type 0} {l : Sort} (r : Interaction A) (h : A → Interaction B) (g : B → Course l) (o : Orders) (s : Store) (j : ℕ) (a : A) → answer_of r o s j ≡ Some a → runs_after (bind r h) g o s j ≡ runs_after (h a) g o (store_of r o s j) (next_of r o s j)
after_both r h g o s j a q =
    let f = follows r h a o s j q in
    ap (λ x. on_some x [] (λ b. loop_runs (g b) o (store_of (bind r h) o s j) (next_of (bind r h) o s j))) f.answer
    ∙ ap₂ (λ t i. on_some (answer_of (h a) o (store_of r o s j) (next_of r o s j)) [] (λ b. loop_runs (g b) o t i)) f.store f.next

after_none : {A B : Type 0} {l : Sort} (r : Interaction A) (h : A → Interaction B) (g : B → Course l) (o : Orders) (s : Store) (j : ℕ) → answer_of r o s j ≡ None → runs_after (bind r h) g o s j ≡ []
after_none r h g o s j q = ap (λ x. on_some x [] (λ b. loop_runs (g b) o (store_of (bind r h) o s j) (next_of (bind r h) o s j))) (stops r h o s j q).answer

pub loop_runs_then : {k l : Sort} (q : Course k) (g : Answer k → Course l) (o : Orders) (s : Store) (j : ℕ) → loop_runs (and_then q g) o s j ≡ loop_runs q o s j ++ on_some (answer_of (line q) o s j) [] (λ a. loop_runs (g a) o (store_of (line q) o s j) (next_of (line q) o s j))
loop_runs_then (Give a) g o s j = refl
loop_runs_then Fail g o s j = refl
loop_runs_then (Get e f) g o s j = loop_runs_then (f (s e)) g o s j
loop_runs_then (Put e v r) g o s j = loop_runs_then r g o (put s e v) j
loop_runs_then (Tell t r) g o s j = loop_runs_then r g o s j
loop_runs_then {k} {l} (Loop n own body r) g o s j = go (is_some (answer_of all o s (suc j))) refl (loop_runs_then r g o last next)
  where
    step : ℕ → Interaction (Unit {0})
    step i = line (body i)

    all : Interaction (Unit {0})
    all = all_of (λ i. line (body i)) (o j n)

    last : Store
    last = store_of (all_of (λ i. line (body i)) (o j n)) o s (suc j)

    next : ℕ
    next = next_of (all_of (λ i. line (body i)) (o j n)) o s (suc j)

    first : List (List (List Event))
    first = inner_runs (λ i. line (body i)) (λ i. loop_runs (body i)) (o j n) o s (suc j)

    parts : in_order (λ i. line (body i)) (o j n) (line r) ≡ bind (all_of (λ i. line (body i)) (o j n)) (λ u. line r)
    parts = in_order_bind (λ i. line (body i)) (o j n) (Done tt) (λ u. line r)

    as_parts : runs_after (in_order (λ i. line (body i)) (o j n) (line r)) g o s (suc j) ≡ runs_after (bind (all_of (λ i. line (body i)) (o j n)) (λ u. line r)) g o s (suc j)
    as_parts = ap (λ x. runs_after x g o s (suc j)) parts

    go : (b : Bool) → is_some (answer_of (all_of (λ i. line (body i)) (o j n)) o s (suc j)) ≡ b → loop_runs (and_then r g) o (store_of (all_of (λ i. line (body i)) (o j n)) o s (suc j)) (next_of (all_of (λ i. line (body i)) (o j n)) o s (suc j)) ≡ loop_runs r o (store_of (all_of (λ i. line (body i)) (o j n)) o s (suc j)) (next_of (all_of (λ i. line (body i)) (o j n)) o s (suc j)) ++ runs_after (line r) g o (store_of (all_of (λ i. line (body i)) (o j n)) o s (suc j)) (next_of (all_of (λ i. line (body i)) (o j n)) o s (suc j)) → loop_runs (and_then (Loop n own body r) g) o s j ≡ loop_runs (Loop n own body r) o s j ++ runs_after (line (Loop n own body r)) g o s j
    go true q ih =
        let a = some_of (answer_of all o s (suc j)) q in
        rw q
        (ap (λ x. loop_run own step (o j n) o s (suc j) ∷ x)
        (ap (λ x. first ++ x) ih
        ∙ sym (append_more first (loop_runs r o last next) (runs_after (line r) g o last next))
        ∙ ap (λ x. (first ++ loop_runs r o last next) ++ x) (sym (as_parts ∙ after_both all (λ u. line r) g o s (suc j) a.0 a.1))))
    go false q ih =
        rw q
        (ap (λ x. loop_run own step (o j n) o s (suc j) ∷ x)
        (sym (append_nothing (first ++ [])) ∙ ap (λ x. (first ++ []) ++ x) (sym (as_parts ∙ after_none all (λ u. line r) g o s (suc j) (not_some (answer_of all o s (suc j)) q)))))
loop_runs_then {k} {l} (Scope {l = m} p q h) g o s j =
    go (answer_of w o s j) refl (λ a. loop_runs_then (h a) g o (store_of (keeping p blank (line q)) o s j) (next_of (keeping p blank (line q)) o s j))
  where
    w : Interaction (Answer m)
    w = keeping p blank (line q)

    go : (x : Option (Answer m)) → answer_of (keeping p blank (line q)) o s j ≡ x → ((a : Answer m) → loop_runs (and_then (h a) g) o (store_of (keeping p blank (line q)) o s j) (next_of (keeping p blank (line q)) o s j) ≡ loop_runs (h a) o (store_of (keeping p blank (line q)) o s j) (next_of (keeping p blank (line q)) o s j) ++ runs_after (line (h a)) g o (store_of (keeping p blank (line q)) o s j) (next_of (keeping p blank (line q)) o s j)) → loop_runs (and_then (Scope p q h) g) o s j ≡ loop_runs (Scope p q h) o s j ++ runs_after (line (Scope p q h)) g o s j
    go None e ih =
        rw e
        (sym (append_nothing (loop_runs q o (merged p blank s) j ++ []))
        ∙ ap (λ x. (loop_runs q o (merged p blank s) j ++ []) ++ x) (sym (after_none w (λ a. line (h a)) g o s j e)))
    go (Some a) e ih =
        rw e
        (ap (λ x. loop_runs q o (merged p blank s) j ++ x) (ih a)
        ∙ sym (append_more (loop_runs q o (merged p blank s) j) _ _)
        ∙ ap (λ x. (loop_runs q o (merged p blank s) j ++ loop_runs (h a) o (store_of w o s j) (next_of w o s j)) ++ x) (sym (after_both w (λ a. line (h a)) g o s j a e)))
