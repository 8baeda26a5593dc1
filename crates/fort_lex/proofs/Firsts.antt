-- The first of faults.
use Rattle.std.proofs.Common.{◌≡◌, ℕ, Bool, true, false, cond, not, ◌&&◌, ◌||◌, List, [], ◌∷◌, ◌++◌, Option, None, Some, refl, sym, ap, ◌∙◌, subst, arith, append_assoc}
use Rattle.std.specs.Prelude.{◌==◌, nat_lt}
use Rattle.std.specs.List.{list_all}
use Rattle.std.proofs.lemmas.List.{append-nil}
use Rattle.std.proofs.lemmas.Bool.{true≢false, and_parts}
use Rattle.std.proofs.lemmas.Bool.Decides.{nat_tests}
use Rattle.fort_tree.specs.Code.{code_number}
use Rattle.fort_tree.specs.declared.fault.Fault.{Fault}
use Rattle.fort_lex.specs.Lines.{comes_before, IsFirst}
use Rattle.fort_lex.specs.Machine.{earlier, noted}
use Rattle.fort_lex.specs.Going.{FirstOf}

-- by three numbers, the first counting most
abbrev less : ℕ → ℕ → ℕ → ℕ → ℕ → ℕ → Bool
less a b c d e f = (nat_lt a d || (a == d && nat_lt b e)) || (a == d && b == e && nat_lt c f)

unless : (a b c : ℕ) → less a b c a b c ≡ false
unless a b c = grind (arith, nat_tests)

less-back : (a b c d e f : ℕ) → less a b c d e f ≡ true → less d e f a b c ≡ false
less-back a b c d e f h = grind (arith, nat_tests, h)

less-not : (a b c d e f g i j : ℕ) → less a b c d e f ≡ false → less d e f g i j ≡ false → less a b c g i j ≡ false
less-not a b c d e f g i j h k = grind (arith, nat_tests, h, k)

abbrev later : Fault → Fault → Bool
later first other = not (comes_before other first)

not-self : (f : Fault) → comes_before f f ≡ false
not-self f = unless f.place.line f.place.column (code_number f.code)

not-back : (f g : Fault) → comes_before f g ≡ true → comes_before g f ≡ false
not-back f g h = less-back f.place.line f.place.column (code_number f.code) g.place.line g.place.column (code_number g.code) h

not-through : (f g i : Fault) → comes_before f g ≡ false → comes_before g i ≡ false → comes_before f i ≡ false
not-through f g i h k =
    less-not f.place.line f.place.column (code_number f.code) g.place.line g.place.column (code_number g.code) i.place.line i.place.column (code_number i.code) h k

not-true : (b : Bool) → not b ≡ true → b ≡ false
not-true true h = absurd (true≢false (sym h))
not-true false h = refl

both : (a b : Bool) → a ≡ true → b ≡ true → (a && b) ≡ true
both true b h k = k
both false b h k = absurd (true≢false (sym h))

all-append : (p : Fault → Bool) (a b : List Fault) → list_all p a ≡ true → list_all p b ≡ true → list_all p (a ++ b) ≡ true
all-append p [] b h k = k
all-append p (x ∷ a) b h k = let parts = and_parts (p x) (list_all p a) h in both (p x) (list_all p (a ++ b)) parts.0 (all-append p a b parts.1 k)

-- what comes before no fault behind which another stands comes not before the other
all-through : (f g : Fault) (xs : List Fault) → comes_before g f ≡ false → list_all (later g) xs ≡ true → list_all (later f) xs ≡ true
all-through f g [] h k = refl
all-through f g (x ∷ xs) h k =
    let parts = and_parts (later g x) (list_all (later g) xs) k in
    both (later f x) (list_all (later f) xs) (ap not (not-through x g f (not-true (comes_before x g) parts.0) h)) (all-through f g xs h parts.1)

alone : (f : Fault) → IsFirst f (f ∷ [])
alone f = record { front = []; back = []; is_one = refl; is_least = both (later f f) true (ap not (not-self f)) refl }

first-left : (f g : Fault) (a b : List Fault) → comes_before g f ≡ false → IsFirst f a → IsFirst g b → IsFirst f (a ++ b)
first-left f g a b h i j = record {
  front = i.front;
  back = i.back ++ b;
  is_one = ap (λ x. x ++ b) i.is_one ∙ append_assoc i.front (f ∷ i.back) b;
  is_least = all-append (later f) a b i.is_least (all-through f g b h j.is_least);
}

first-right : (f g : Fault) (a b : List Fault) → comes_before g f ≡ true → IsFirst f a → IsFirst g b → IsFirst g (a ++ b)
first-right f g a b h i j = record {
  front = a ++ j.front;
  back = j.back;
  is_one = ap (λ x. a ++ x) j.is_one ∙ sym (append_assoc a j.front (g ∷ j.back));
  is_least = all-append (later g) a b (all-through g f a (not-back g f h) i.is_least) j.is_least;
}

first-at : (f g : Fault) (a b : List Fault) (t : Bool) → comes_before g f ≡ t → IsFirst f a → IsFirst g b → FirstOf (cond t (Some g) (Some f)) (a ++ b)
first-at f g a b true h i j = first-right f g a b h i j
first-at f g a b false h i j = first-left f g a b h i j

-- the earlier one is the first of both lists
pub firsts : (o p : Option Fault) (a b : List Fault) → FirstOf o a → FirstOf p b → FirstOf (earlier o p) (a ++ b)
firsts None None a b i j = ap (λ x. x ++ b) i ∙ j
firsts None (Some g) a b i j = subst (λ x. IsFirst g (x ++ b)) (sym i) j
firsts (Some f) None a b i j = subst (λ x. IsFirst f (a ++ x)) (sym j) (subst (λ x. IsFirst f x) (sym (append-nil a)) i)
firsts (Some f) (Some g) a b i j = first-at f g a b (comes_before g f) refl i j

notes : (o : Option Fault) (a b : List Fault) → FirstOf o a → FirstOf (noted o b) (a ++ b)
notes o a [] i = subst (FirstOf o) (sym (append-nil a)) i
notes o a (f ∷ b) i = subst (FirstOf (noted (earlier o (Some f)) b)) (append_assoc a (f ∷ []) b) (notes (earlier o (Some f)) (a ++ f ∷ []) b (firsts o (Some f) a (f ∷ []) i (alone f)))

-- noting faults one after the other gives the first
pub noted-first : (faults : List Fault) → FirstOf (noted None faults) faults
noted-first faults = notes None [] faults refl
