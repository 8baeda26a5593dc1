-- Faults noted one after the other give the first of them.
use Rattle.std.proofs.Common.{◌≡◌, ℕ, Bool, true, false, cond, not, ◌&&◌, ◌||◌, List, [], ◌∷◌, ◌++◌, Option, None, Some, refl, sym, ap, ◌∙◌, subst, arith, append_assoc}
use Rattle.std.specs.Prelude.{◌==◌, nat_lt}
use Rattle.std.specs.List.{list_all}
use Rattle.std.proofs.lemmas.List.{append-nil}
use Rattle.std.proofs.lemmas.Bool.{true≢false, and_parts}
use Rattle.std.proofs.lemmas.Bool.Decides.{nat_tests}
use Rattle.fort_tree.specs.Code.{code_number}
use Rattle.fort_tree.specs.declared.fault.Fault.{Fault}
use Rattle.fort_units.specs.Passing.{comes_before, IsFirst, FirstOf, earlier, first_of, noted}

pub noted_append : (first : Option Fault) (xs ys : List Fault) → noted first (xs ++ ys) ≡ noted (noted first xs) ys
noted_append first [] ys = refl
noted_append first (x ∷ xs) ys = noted_append (earlier first x) xs ys

-- by four numbers, the first counting most
abbrev less : ℕ → ℕ → ℕ → ℕ → ℕ → ℕ → ℕ → ℕ → Bool
less a b c d e f g h = (nat_lt a e || (a == e && (nat_lt b f || (b == f && nat_lt c g)))) || ((a == e && (b == f && c == g)) && nat_lt d h)

unless : (a b c d : ℕ) → less a b c d a b c d ≡ false
unless a b c d = grind (arith, nat_tests)

less-back : (a b c d e f g h : ℕ) → less a b c d e f g h ≡ true → less e f g h a b c d ≡ false
less-back a b c d e f g h l = grind (arith, nat_tests, l)

less-not : (a b c d e f g h i j k m : ℕ) → less a b c d e f g h ≡ false → less e f g h i j k m ≡ false → less a b c d i j k m ≡ false
less-not a b c d e f g h i j k m p q = grind (arith, nat_tests, p, q)

abbrev later : Fault → Fault → Bool
later first other = not (comes_before other first)

not-self : (f : Fault) → comes_before f f ≡ false
not-self f = unless f.place.file f.place.line f.place.column (code_number f.code)

not-back : (f g : Fault) → comes_before f g ≡ true → comes_before g f ≡ false
not-back f g h = less-back f.place.file f.place.line f.place.column (code_number f.code) g.place.file g.place.line g.place.column (code_number g.code) h

not-through : (f g i : Fault) → comes_before f g ≡ false → comes_before g i ≡ false → comes_before f i ≡ false
not-through f g i h k =
    less-not f.place.file f.place.line f.place.column (code_number f.code) g.place.file g.place.line g.place.column (code_number g.code) i.place.file i.place.line i.place.column (code_number i.code) h k

not-true : (b : Bool) → not b ≡ true → b ≡ false
not-true true h = absurd (true≢false (sym h))
not-true false h = refl

both : (a b : Bool) → a ≡ true → b ≡ true → (a && b) ≡ true
both true b h k = k
both false b h k = absurd (true≢false (sym h))

all-append : (p : Fault → Bool) (a b : List Fault) → list_all p a ≡ true → list_all p b ≡ true → list_all p (a ++ b) ≡ true
all-append p [] b h k = k
all-append p (x ∷ a) b h k = let parts = and_parts (p x) (list_all p a) h in both (p x) (list_all p (a ++ b)) parts.0 (all-append p a b parts.1 k)

-- what comes before no fault behind which another stands comes not before the other
all-through : (f g : Fault) (xs : List Fault) → comes_before g f ≡ false → list_all (later g) xs ≡ true → list_all (later f) xs ≡ true
all-through f g [] h k = refl
all-through f g (x ∷ xs) h k =
    let parts = and_parts (later g x) (list_all (later g) xs) k in
    both (later f x) (list_all (later f) xs) (ap not (not-through x g f (not-true (comes_before x g) parts.0) h)) (all-through f g xs h parts.1)

alone : (f : Fault) → IsFirst f (f ∷ [])
alone f = record { front = []; back = []; is_one = refl; is_least = both (later f f) true (ap not (not-self f)) refl }

first-left : (f g : Fault) (a b : List Fault) → comes_before g f ≡ false → IsFirst f a → IsFirst g b → IsFirst f (a ++ b)
first-left f g a b h i j = record {
  front = i.front;
  back = i.back ++ b;
  is_one = ap (λ x. x ++ b) i.is_one ∙ append_assoc i.front (f ∷ i.back) b;
  is_least = all-append (later f) a b i.is_least (all-through f g b h j.is_least);
}

first-right : (f g : Fault) (a b : List Fault) → comes_before g f ≡ true → IsFirst f a → IsFirst g b → IsFirst g (a ++ b)
first-right f g a b h i j = record {
  front = a ++ j.front;
  back = j.back;
  is_one = ap (λ x. a ++ x) j.is_one ∙ sym (append_assoc a j.front (g ∷ j.back));
  is_least = all-append (later g) a b (all-through g f a (not-back g f h) i.is_least) j.is_least;
}

first-at : (f g : Fault) (a b : List Fault) (t : Bool) → comes_before g f ≡ t → IsFirst f a → IsFirst g b → FirstOf (cond t (Some g) (Some f)) (a ++ b)
first-at f g a b true h i j = first-right f g a b h i j
first-at f g a b false h i j = first-left f g a b h i j

-- the earlier one is the first of both
one-more : (o : Option Fault) (g : Fault) (a : List Fault) → FirstOf o a → FirstOf (earlier o g) (a ++ g ∷ [])
one-more None g a i = subst (λ x. IsFirst g (x ++ g ∷ [])) (sym i) (alone g)
one-more (Some f) g a i = first-at f g a (g ∷ []) (comes_before g f) refl i (alone g)

notes : (o : Option Fault) (a b : List Fault) → FirstOf o a → FirstOf (noted o b) (a ++ b)
notes o a [] i = subst (FirstOf o) (sym (append-nil a)) i
notes o a (f ∷ b) i = subst (FirstOf (noted (earlier o f) b)) (append_assoc a (f ∷ []) b) (notes (earlier o f) (a ++ f ∷ []) b (one-more o f a i))

-- noting faults one after the other gives the first
pub noted_first : (faults : List Fault) → FirstOf (noted None faults) faults
noted_first faults = notes None [] faults refl

-- the first of two firsts is the first of both lists
pub firsts : (o p : Option Fault) (a b : List Fault) → FirstOf o a → FirstOf p b → FirstOf (first_of o p) (a ++ b)
firsts o None a b i j = subst (λ x. FirstOf o (a ++ x)) (sym j) (subst (FirstOf o) (sym (append-nil a)) i)
firsts None (Some g) a b i j = subst (λ x. IsFirst g (x ++ b)) (sym i) j
firsts (Some f) (Some g) a b i j = first-at f g a b (comes_before g f) refl i j
