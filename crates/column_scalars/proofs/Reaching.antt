-- In a unit of column scalars the variables that depend on the column are its dummies.
use Rattle.std.proofs.Common.{◌≡◌, refl, ap, subst, ◌∙◌, List, [], ◌∷◌, ◌++◌, ◌⊎◌, inl, inr, Contains, map, cond, Option, Bool, true, false, not}
use Rattle.std.specs.List.{filter}
use Rattle.std.proofs.lemmas.List.Elements.{Contains-append_left, Contains-append_cases}
use Rattle.claw_meaning.specs.Syntax.{Text, Expr, Name, Assign, Unit, Program}
use Rattle.claw_meaning.specs.Units.{is_listed, is_column_dummy}
use Rattle.claw_meaning.specs.Dependence.{Reached, root, led, Varies, called_in, pairs, pairs_in, pairs_of, roots_in, roots_of, do_variables_in}
use Rattle.claw_meaning.specs.Interface.{AreWide}
use Rattle.column_scalars.specs.Scalars.{Scalars, IsScalars, AreSums, assignments, source_unit}
use Rattle.column_scalars.proofs.MemberCases.{contains_first, contains_later, contains_none, contains_cases, listed_here}
use Rattle.column_scalars.proofs.Listed.{in_list, column_dummy}

in_filter : {X : Type 0} (p : X → Bool) (xs : List X) (x : X) → Contains (filter p xs) x → Contains xs x
in_filter p [] x t = t
in_filter {X} p (y ∷ ys) x t = go (p y) t (in_filter p ys x)
  where
    either : (y ≡ x) ⊎ Contains (filter p ys) x → (Contains (filter p ys) x → Contains ys x) → Contains (y ∷ ys) x
    either (inl e) ih = contains_first y x ys e
    either (inr r) ih = contains_later y ys x (ih r)

    go : (b : Bool) → Contains (cond b (y ∷ filter p ys) (filter p ys)) x → (Contains (filter p ys) x → Contains ys x) → Contains (y ∷ ys) x
    go true s ih = either (contains_cases y (filter p ys) x s) ih
    go false s ih = contains_later y ys x (ih s)

filtered_in : {X : Type 0} (p : X → Bool) (xs : List X) (x : X) → p x ≡ true → Contains xs x → Contains (filter p xs) x
filtered_in p [] x h t = t
filtered_in {X} p (y ∷ ys) x h t = go (contains_cases y ys x t) (filtered_in p ys x h)
  where
    behind : (b : Bool) → Contains (filter p ys) x → Contains (cond b (y ∷ filter p ys) (filter p ys)) x
    behind true r = contains_later y (filter p ys) x r
    behind false r = r

    go : (y ≡ x) ⊎ Contains ys x → (Contains ys x → Contains (filter p ys) x) → Contains (filter p (y ∷ ys)) x
    go (inl e) ih = let here : p y ≡ true = ap p e ∙ h in rw here (contains_first y x (filter p ys) e)
    go (inr r) ih = behind (p y) (ih r)

-- pairs lead to the variable that is assigned
all_to : (ys : List Text) (x : Text) (z : Text × Text) → Contains (map (λ y. (y, x)) ys ++ []) z → x ≡ z.1
all_to [] x z t = absurd (contains_none z t)
all_to (y ∷ ys) x z t = go (contains_cases (y, x) (map (λ v. (v, x)) ys ++ []) z t) (all_to ys x z)
  where
    go : ((y, x) ≡ z) ⊎ Contains (map (λ v. (v, x)) ys ++ []) z → (Contains (map (λ v. (v, x)) ys ++ []) z → x ≡ z.1) → x ≡ z.1
    go (inl e) ih = ap (λ q. q.1) e
    go (inr r) ih = ih r

lead : (names : List Text) (called : Text → Option Unit) (assigned : List (Text × Expr)) → AreSums names assigned → (z : Text × Text) → Contains (pairs_in called [] (assignments assigned)) z → Contains names z.1
lead names called [] s z t = absurd (contains_none z t)
lead names called (a ∷ rest) s z t = go (Contains-append_cases (pairs called [] (Assign (Name a.0) a.1)) (pairs_in called [] (assignments rest)) z t) (lead names called rest s.2 z)
  where
    go : Contains (pairs called [] (Assign (Name a.0) a.1)) z ⊎ Contains (pairs_in called [] (assignments rest)) z → (Contains (pairs_in called [] (assignments rest)) z → Contains names z.1) → Contains names z.1
    go (inl h) ih = subst (Contains names) (all_to _ a.0 z h) s.0
    go (inr r) ih = ih r

no_roots : (called : Text → Option Unit) (assigned : List (Text × Expr)) → roots_in called (assignments assigned) ≡ []
no_roots called [] = refl
no_roots called (a ∷ rest) = no_roots called rest

from_reached : (from : List Text) (by : List (Text × Text)) (holds : Text → Type 0) → ((x : Text) → Contains from x → holds x) → ((z : Text × Text) → Contains by z → holds z.1) → (x : Text) → Reached from by x → holds x
from_reached from by holds f g x (root r) = f x r
from_reached from by holds f g x (led y p r) = g (y, x) p

from_root : (p : Program) (u : Scalars) (x : Text) → Contains (roots_of p (source_unit u)) x → Contains u.dummies x
from_root p u x t = go (Contains-append_cases (filter (is_column_dummy (source_unit u)) u.dummies) (roots_in (called_in p (source_unit u)) (assignments u.assigned)) x t)
  where
    go : Contains (filter (is_column_dummy (source_unit u)) u.dummies) x ⊎ Contains (roots_in (called_in p (source_unit u)) (assignments u.assigned)) x → Contains u.dummies x
    go (inl h) = in_filter (is_column_dummy (source_unit u)) u.dummies x h
    go (inr r) = absurd (contains_none x (subst (λ l. Contains l x) (no_roots (called_in p (source_unit u)) u.assigned) r))

from_pair : (p : Program) (u : Scalars) → IsScalars u → (z : Text × Text) → Contains (pairs_of p (source_unit u)) z → Contains u.dummies z.1
from_pair p u w z t =
    lead u.dummies (called_in p (source_unit u)) u.assigned w.assigned z
    (in_filter (λ pair. not (is_listed (do_variables_in (assignments u.assigned)) pair.1)) (pairs_in (called_in p (source_unit u)) [] (assignments u.assigned)) z t)

varies : (p : Program) (u : Scalars) → IsScalars u → (x : Text) → Contains u.dummies x → Varies p (source_unit u) x
varies p u w x t =
    root (Contains-append_left (filter (is_column_dummy (source_unit u)) u.dummies) (roots_in (called_in p (source_unit u)) (assignments u.assigned)) x
    (filtered_in (is_column_dummy (source_unit u)) u.dummies x (column_dummy u w x t) t))

pub dummies_vary : (p : Program) (u : Scalars) → IsScalars u → AreWide p (source_unit u) (λ x. is_listed u.dummies x)
dummies_vary p u w x = (
  (λ h. varies p u w x (in_list u.dummies x h)),
  (λ r. listed_here u.dummies x (from_reached (roots_of p (source_unit u)) (pairs_of p (source_unit u)) (Contains u.dummies) (from_root p u) (from_pair p u w) x r)),
)
