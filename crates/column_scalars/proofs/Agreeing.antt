-- Assignments in two stores that agree, and what they leave as it is.
use Rattle.std.proofs.Common.{◌≡◌, refl, ap, ap₂, sym, ◌∙◌, subst, List, [], ◌∷◌, Option, Some, None, Contains}
use Rattle.std.specs.Prelude.{⊤}
use Rattle.std.specs.Option.{option_and_then, option_map}
use Rattle.fort_arith.specs.declared.kind.Kind.TheVariants.{I4}
use Rattle.fort_arith.specs.Operators.{applied}
use Rattle.courses.specs.Element.{Value, Whole, Element, Store, put}
use Rattle.courses.proofs.Stores.{put-same}
use Rattle.claw_meaning.specs.Syntax.{Text, Expr, Numeral, Boolean, Name, Reference, Signed, Binary, Paren}
use Rattle.claw_meaning.specs.Statements.{whole_of}
use Rattle.column_scalars.specs.Scalars.{IsSum, AreSums}
use Rattle.column_scalars.specs.Model.{sum_value, signed, held, item, integer, ran}
use Rattle.column_scalars.proofs.Members.{by_text}
use Rattle.column_scalars.proofs.Places.{put_apart}

pub no_some : {A P : Type 0} (a : A) → ◌≡◌ {A = Option A} None (Some a) → P
no_some a e = absurd (cc)

pub some_same : {A : Type 0} (a b : A) → Some a ≡ Some b → a ≡ b
some_same a b e = cc

sum_same : (names : List Text) (f g : Text → Value) → ((x : Text) → Contains names x → f x ≡ g x) → (e : Expr) → IsSum names e → sum_value f e ≡ sum_value g e
sum_same names f g same (Numeral n suffix) h = refl
sum_same names f g same (Boolean b) h = refl
sum_same names f g same (Name x) h = ap whole_of (same x h)
sum_same names f g same (Reference x subs) h = refl
sum_same names f g same (Signed sign e) h = ap (option_and_then (signed sign)) (sum_same names f g same e h.1)
sum_same names f g same (Binary op a b) h =
    ap₂ (λ p q. option_and_then (λ m. option_and_then (λ n. applied op I4 m n) q) p) (sum_same names f g same a h.1) (sum_same names f g same b h.2)
sum_same names f g same (Paren e) h = refl

item_same : (names : List Text) (f g : Text → Value) → ((x : Text) → Contains names x → f x ≡ g x) → (e : Expr) → IsSum names e → item f e ≡ item g e
item_same names f g same (Numeral n suffix) h = refl
item_same names f g same (Boolean b) h = refl
item_same names f g same (Name x) h = ap held (same x h)
item_same names f g same (Reference x subs) h = refl
item_same names f g same (Signed sign e) h = ap (option_map Whole) (sum_same names f g same (Signed sign e) h)
item_same names f g same (Binary op a b) h = ap (option_map Whole) (sum_same names f g same (Binary op a b) h)
item_same names f g same (Paren e) h = refl

abbrev pub Injective : (Text → Element) → Type 0
Injective at = (x y : Text) → at x ≡ at y → x ≡ y

-- the names hold the same
abbrev pub Agree : List Text → (Text → Element) → (Text → Element) → Store → Store → Type 0
Agree names at at' s s' = (x : Text) → Contains names x → s (at x) ≡ s' (at' x)

-- both are none, or the names hold the same in both
abbrev pub BothEnd : List Text → (Text → Element) → (Text → Element) → Option Store → Option Store → Type 0
BothEnd names at at' None None = ⊤
BothEnd names at at' None (Some t) = ⊥
BothEnd names at at' (Some t) None = ⊥
BothEnd names at at' (Some t) (Some t') = Agree names at at' t t'

module _ (names : List Text) (at at' : Text → Element) (apart : Injective at) (apart' : Injective at') where
  put_agrees : (s s' : Store) (x : Text) (v : Value) → Agree names at at' s s' → Agree names at at' (put s (at x) v) (put s' (at' x) v)
  put_agrees s s' x v same y h = by_text x y
      (λ e. subst (λ z. put s (at x) v (at z) ≡ put s' (at' x) v (at' z)) e (put-same s (at x) v ∙ sym (put-same s' (at' x) v)))
      (λ n. put_apart s (at x) v (at y) (λ e. n (apart x y e)) ∙ same y h ∙ sym (put_apart s' (at' x) v (at' y) (λ e. n (apart' x y e))))

  pub runs_agree : (assigned : List (Text × Expr)) → AreSums names assigned → (s s' : Store) → Agree names at at' s s' → BothEnd names at at' (ran at assigned s) (ran at' assigned s')
  runs_agree [] h s s' same = same
  runs_agree (a ∷ rest) h s s' same =
      subst (λ q. BothEnd names at at' (ran at (a ∷ rest) s) (option_and_then (λ v. ran at' rest (put s' (at' a.0) v)) q))
      (ap (option_and_then integer) (item_same names (λ x. s (at x)) (λ x. s' (at' x)) same a.1 h.1))
      (go (option_and_then integer (item (λ x. s (at x)) a.1)) (λ v. runs_agree rest h.2 (put s (at a.0) v) (put s' (at' a.0) v) (put_agrees s s' a.0 v same)))
    where
      go : (r : Option Value) → ((v : Value) → BothEnd names at at' (ran at rest (put s (at a.0) v)) (ran at' rest (put s' (at' a.0) v)))
          → BothEnd names at at' (option_and_then (λ v. ran at rest (put s (at a.0) v)) r) (option_and_then (λ v. ran at' rest (put s' (at' a.0) v)) r)
      go None f = tt
      go (Some v) f = f v

-- what no name is stays
pub ran_stays : (names : List Text) (at : Text → Element) (e : Element) → ((x : Text) → Contains names x → e ≡ at x → ⊥) → (assigned : List (Text × Expr)) → AreSums names assigned → (s t : Store) → ran at assigned s ≡ Some t → t e ≡ s e
ran_stays names at e n [] h s t k = ap (λ q. q e) (sym (some_same s t k))
ran_stays names at e n (a ∷ rest) h s t k = go (option_and_then integer (item (λ x. s (at x)) a.1)) (λ v. ran_stays names at e n rest h.2 (put s (at a.0) v) t) k
  where
    go : (r : Option Value) → ((v : Value) → ran at rest (put s (at a.0) v) ≡ Some t → t e ≡ put s (at a.0) v e) → option_and_then (λ v. ran at rest (put s (at a.0) v)) r ≡ Some t → t e ≡ s e
    go None f q = no_some t q
    go (Some v) f q = f v q ∙ put_apart s (at a.0) v e (λ p. n a.0 h.0 (sym p))
