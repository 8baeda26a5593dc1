-- A text that goes on has its new shape, and one that ends within bounds is a token.
use Rattle.std.proofs.Common.{◌≡◌, ℕ, Bool, true, false, cond, List, [], ◌∷◌, ◌++◌, Option, None, Some, refl, sym, ap, ◌∙◌, subst, append_assoc, ◌⊎◌, inl, inr}
use Rattle.std.specs.Prelude.{◌==◌, ⊤}
use Rattle.std.specs.List.{list_all}
use Rattle.std.specs.Char.{is_ascii_lowercase, is_ascii_digit}
use Rattle.std.proofs.lemmas.Bool.{true≢false, and_parts, eqb-true}
use Rattle.std.proofs.lemmas.List.{append-nil}
use Rattle.fort_tokens.specs.declared.shape.Shape.{Shape}
use Rattle.fort_tokens.specs.declared.shape.Shape.TheVariants as shape
use Rattle.fort_tokens.specs.Texts.{is_name_byte, is_kind, is_begun, front}
use Rattle.fort_tokens.specs.Forms.{is_number_tail, is_number_form}
use Rattle.fort_tokens.specs.Machine.{first_shape, goes_on}
use Rattle.fort_tokens.specs.Standing.{is_name_form, is_digits, HasShape}
use Rattle.fort_tokens.proofs.FormCases.{both}
use Rattle.fort_tokens.proofs.Settling.{front-is}

-- the new shape, if there is one
abbrev HasShapeOf : Option Shape → List ℕ → Type 0
HasShapeOf None text = ⊤
HasShapeOf (Some sh) text = HasShape sh text

first-shape : (b : ℕ) (x y z : Bool) → is_ascii_lowercase b ≡ x → is_ascii_digit b ≡ y →
    HasShapeOf (cond x (Some shape.Name) (cond y (Some shape.Digits) (cond z (Some shape.Fixed) None))) (b ∷ [])
first-shape b true y z ex ey = rw ex refl
first-shape b false true z ex ey = rw ey refl
first-shape b false false true ex ey = tt
first-shape b false false false ex ey = tt

all-more : (p : ℕ → Bool) (t : List ℕ) (b : ℕ) → list_all p t ≡ true → p b ≡ true → list_all p (t ++ b ∷ []) ≡ true
all-more p [] b h e = rw e refl
all-more p (c ∷ t) b h e = let h = and_parts (p c) (list_all p t) h in both (p c) (list_all p (t ++ b ∷ [])) h.0 (all-more p t b h.1 e)

name-more : (t : List ℕ) (b : ℕ) → is_name_form t ≡ true → is_name_byte b ≡ true → is_name_form (t ++ b ∷ []) ≡ true
name-more [] b h e = absurd (true≢false (sym h))
name-more (c ∷ t) b h e = let h = and_parts (is_ascii_lowercase c) (list_all is_name_byte t) h in
    both (is_ascii_lowercase c) (list_all is_name_byte (t ++ b ∷ [])) h.0 (all-more is_name_byte t b h.1 e)

digits-more : (t : List ℕ) (b : ℕ) → is_digits t ≡ true → is_ascii_digit b ≡ true → is_digits (t ++ b ∷ []) ≡ true
digits-more [] b h e = absurd (true≢false (sym h))
digits-more (c ∷ t) b h e = let h = and_parts (is_ascii_digit c) (list_all is_ascii_digit t) h in
    both (is_ascii_digit c) (list_all is_ascii_digit (t ++ b ∷ [])) h.0 (all-more is_ascii_digit t b h.1 e)

tail-digits : (t s : List ℕ) → list_all is_ascii_digit t ≡ true → is_number_tail s ≡ true → is_number_tail (t ++ s) ≡ true
tail-digits [] s h e = e
tail-digits (c ∷ t) s h e = let h = and_parts (is_ascii_digit c) (list_all is_ascii_digit t) h in rw h.0 (tail-digits t s h.1 e)

number-digits : (t s : List ℕ) → is_digits t ≡ true → is_number_tail s ≡ true → is_number_form (t ++ s) ≡ true
number-digits [] s h e = absurd (true≢false (sym h))
number-digits (c ∷ t) s h e = let h = and_parts (is_ascii_digit c) (list_all is_ascii_digit t) h in rw h.0 (tail-digits t s h.1 e)

pub digits-number : (t : List ℕ) → is_digits t ≡ true → is_number_form t ≡ true
digits-number t h = subst (λ t. is_number_form t ≡ true) (append-nil t) (number-digits t [] h refl)

-- a text with one byte more
from-name : (t : List ℕ) (b : ℕ) (x : Bool) → is_name_form t ≡ true → is_name_byte b ≡ x → HasShapeOf (cond x (Some shape.Name) None) (t ++ b ∷ [])
from-name t b true h e = name-more t b h e
from-name t b false h e = tt

behind : (t : List ℕ) (b d : ℕ) → b ≡ d → t ++ b ∷ [] ≡ front (t ++ b ∷ []) ++ d ∷ []
behind t b d e = ap (λ b. t ++ b ∷ []) e ∙ ap (λ t. t ++ d ∷ []) (sym (front-is t b))

from-point : (t : List ℕ) (b : ℕ) (x : Bool) → is_number_form t ≡ true → (b == 46) ≡ x → HasShapeOf (cond x (Some shape.Point) None) (t ++ b ∷ [])
from-point t b true h e = (ap is_number_form (front-is t b) ∙ h, behind t b 46 (eqb-true b 46 e))
from-point t b false h e = tt

from-digits : (t : List ℕ) (b : ℕ) (x y : Bool) → is_digits t ≡ true → is_ascii_digit b ≡ x → (b == 95) ≡ y →
    HasShapeOf (cond x (Some shape.Digits) (cond y (Some shape.Under) (cond (b == 46) (Some shape.Point) None))) (t ++ b ∷ [])
from-digits t b true y h ex ey = digits-more t b h ex
from-digits t b false true h ex ey = (ap is_digits (front-is t b) ∙ h, behind t b 95 (eqb-true b 95 ey))
from-digits t b false false h ex ey = from-point t b (b == 46) (digits-number t h) refl

from-under : (t : List ℕ) (b : ℕ) (x : Bool) → is_digits (front t) ≡ true → t ≡ front t ++ 95 ∷ [] → is_kind b ≡ x → HasShapeOf (cond x (Some shape.Suffixed) None) (t ++ b ∷ [])
from-under t b true h e k = ap (λ t. is_number_form (t ++ b ∷ [])) e ∙ ap is_number_form (append_assoc (front t) (95 ∷ []) (b ∷ [])) ∙ number-digits (front t) (95 ∷ b ∷ []) h k
from-under t b false h e k = tt

from-fixed : (x : Bool) (t : List ℕ) → HasShapeOf (cond x (Some shape.Fixed) None) t
from-fixed true t = tt
from-fixed false t = tt

more : (sh : Shape) (t : List ℕ) (b : ℕ) → HasShape sh t → HasShapeOf (goes_on sh t b) (t ++ b ∷ [])
more shape.Empty t b h = subst (λ t. HasShapeOf (first_shape b) (t ++ b ∷ [])) (sym h) (first-shape b (is_ascii_lowercase b) (is_ascii_digit b) (is_begun (b ∷ [])) refl refl)
more shape.Name t b h = from-name t b (is_name_byte b) h refl
more shape.Digits t b h = from-digits t b (is_ascii_digit b) (b == 95) h refl refl
more shape.Under t b h = from-under t b (is_kind b) h.0 h.1 refl
more shape.Suffixed t b h = from-point t b (b == 46) h refl
more shape.Point t b h = tt
more shape.Fixed t b h = from-fixed (is_begun (t ++ b ∷ [])) (t ++ b ∷ [])

pub has_shape-more : (sh to : Shape) (t : List ℕ) (b : ℕ) → HasShape sh t → goes_on sh t b ≡ Some to → HasShape to (t ++ b ∷ [])
has_shape-more sh to t b h e = subst (λ o. HasShapeOf o (t ++ b ∷ [])) e (more sh t b h)

-- in either shape of a whole number
pub number-shape : (sh : Shape) (t : List ℕ) → (sh ≡ shape.Digits) ⊎ (sh ≡ shape.Suffixed) → HasShape sh t → is_number_form t ≡ true
number-shape sh t (inl e) h = digits-number t (subst (λ sh. HasShape sh t) e h)
number-shape sh t (inr e) h = subst (λ sh. HasShape sh t) e h
