-- What a dummy of a unit of column scalars is there: listed, a column dummy, and widened at its first place.
use Rattle.std.proofs.Common.{◌≡◌, ℕ, refl, ap, List, [], ◌∷◌, ◌⊎◌, inl, inr, Contains, slice_get, unwrap_or, is_some, Some, None, Bool, true, false, ◌||◌, zero, suc}
use Rattle.std.specs.Str.{bytes_eq}
use Rattle.std.specs.List.{list_any}
use Rattle.std.proofs.lemmas.Bool.{false≢true, and_right}
use mathlib.Core.Path.{subst}
use Rattle.fort_tree.specs.declared.unit.Intent.{Intent}
use Rattle.fort_tree.specs.Intrinsic.{intrinsic_named}
use Rattle.claw_meaning.specs.Syntax.{Text, Unit, Program}
use Rattle.claw_meaning.specs.Evaluation.{is_in}
use Rattle.claw_meaning.specs.Units.{is_listed, is_column_of, is_column_dummy}
use Rattle.claw_meaning.specs.Columns.{place_of}
use Rattle.claw_meaning.specs.Interface.{Widening, widening, is_shared_decl}
use Rattle.claw_meaning.specs.Erasure.{rank_in}
use Rattle.column_scalars.specs.Scalars.{Scalars, IsScalars, NoIntrinsics, dummy_decl, source_unit}
use Rattle.column_scalars.proofs.MemberCases.{contains_first, contains_later, contains_none, contains_cases, names_equal, listed_here}
use Rattle.column_scalars.proofs.Naming.{column_name}

-- the widening of a unit of column scalars in a program
abbrev pub widened : Program → Scalars → Widening
widened p u = widening p (source_unit u) (λ x. is_listed u.dummies x)

-- a name that is listed is in the list
pub in_list : (ys : List Text) (x : Text) → list_any (λ y. bytes_eq y x) ys ≡ true → Contains ys x
in_list [] x h = absurd (false≢true h)
in_list (y ∷ ys) x h = go (bytes_eq y x) refl (in_list ys x)
  where
    go : (b : Bool) → bytes_eq y x ≡ b → (list_any (λ z. bytes_eq z x) ys ≡ true → Contains ys x) → Contains (y ∷ ys) x
    go true e ih = contains_first y x ys (names_equal y x e)
    go false e ih = contains_later y ys x (ih (subst (λ b. (b || list_any (λ z. bytes_eq z x) ys) ≡ true) e h))

-- a dummy is listed in `data` and is no intrinsic
listed_of : (ls : List Text) (v : Unit) (x : Text) → Contains ls x → is_column_of ls v x ≡ true
listed_of [] v x t = absurd (contains_none x t)
listed_of (y ∷ ys) v x t = listed_here (y ∷ ys) x t

pub column_dummy : (u : Scalars) → IsScalars u → (x : Text) → Contains u.dummies x → is_column_dummy (source_unit u) x ≡ true
column_dummy u w x t = rw (listed_here u.dummies x t, listed_of u.listed (source_unit u) x (w.all_data x t)) refl

pub no_intrinsic : (names : List Text) → NoIntrinsics names → (x : Text) → Contains names x → intrinsic_named x ≡ None
no_intrinsic [] n x t = absurd (contains_none x t)
no_intrinsic (y ∷ ys) n x t = go (contains_cases y ys x t) (no_intrinsic ys n.1 x)
  where
    go : (y ≡ x) ⊎ Contains ys x → (Contains ys x → intrinsic_named x ≡ None) → intrinsic_named x ≡ None
    go (inl e) ih = subst (λ z. intrinsic_named z ≡ None) e n.0
    go (inr r) ih = ih r

-- it gains the dimension before no other, and has the rank zero
pub first_place : (u : Scalars) → IsScalars u → (x : Text) → Contains u.dummies x → place_of (source_unit u) x ≡ 0
first_place u w x t = rw (column_name u w x t).source refl

pub rank_zero : (p : Program) (u : Scalars) → IsScalars u → (x : Text) → Contains u.dummies x → rank_in p (source_unit u) x ≡ 0
rank_zero p u w x t = rw (column_name u w x t).source refl

-- it isn't shared by the columns
pub not_shared : (u : Scalars) → IsScalars u → (x : Text) (intent : Intent) → Contains u.dummies x → is_shared_decl (source_unit u) (dummy_decl x intent) ≡ false
not_shared u w x intent t = rw (column_dummy u w x t) (and_right (is_in intent) false refl)

-- the only unit of a program
pub one_unit : (a : Unit) (holds : ℕ → Unit → Type 0) → holds 0 a → (i : ℕ) (u : Unit) → slice_get (a ∷ []) i ≡ Some u → holds i u
one_unit a holds h zero u e = subst (λ v. holds 0 v) (ap (λ o. unwrap_or o a) e) h
one_unit a holds h (suc i) u e = absurd (false≢true (ap is_some e))

pub only_unit : (a b : Unit) (holds : ℕ → Unit → Unit → Type 0) → holds 0 a b → (i : ℕ) (u t : Unit) → slice_get (a ∷ []) i ≡ Some u → slice_get (b ∷ []) i ≡ Some t → holds i u t
only_unit a b holds h zero u t e f = subst (λ v. holds 0 u v) (ap (λ o. unwrap_or o b) f) (subst (λ v. holds 0 v b) (ap (λ o. unwrap_or o a) e) h)
only_unit a b holds h (suc i) u t e f = absurd (false≢true (ap is_some e))
