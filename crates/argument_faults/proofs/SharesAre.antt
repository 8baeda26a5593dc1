-- Actual arguments that refer to one variable, by what counts of them.
use Rattle.std.proofs.Common.{◌≡◌, Bool, true, false, ◌&&◌, ◌||◌, cond, List, [], ◌∷◌, ◌++◌, map, Option, Some, None, refl, sym, ap, ◌∙◌}
use Rattle.std.specs.Prelude.{flat_map, if◌then◌else◌}
use Rattle.std.specs.List.{filter, list_any}
use Rattle.std.specs.Option.{option_and_then, option_to_list}
use Rattle.std.specs.Str.{bytes_eq}
use Rattle.std.proofs.lemmas.List.Folds.{flat_map-map}
use Rattle.fort_tree.specs.declared.stmt.Named.{Named}
use Rattle.claw_meaning.specs.Scope.{Entity}
use Rattle.claw_meaning.specs.Syntax.{Text}
use Rattle.sound_programs.specs.ArgumentFaults.{same_variable, share as placed_share, shared_actuals}
use Rattle.sound_programs.specs.Placed.{Expr, Numeral, Boolean, Name, Reference, Signed, Binary, Paren}
use Rattle.sound_programs.specs.Places.{where_place}
use Rattle.sound_programs.specs.Scopes.{is_variable}
use Rattle.sound_programs.specs.Walks.{Actual, is_written, name_in, named}
use Rattle.argument_faults.specs.declared.shared.Passed.{Passed}
use Rattle.argument_faults.specs.Sharing.{variable_among, variable_in, passed_as, is_same, share, shares_of, all_shares}

abbrev tested : (Text → Bool) → Option Text → Bool
tested test None = false
tested test (Some x) = test x

module _ (entity : Text → Entity) where
  abbrev variables : Option Expr → List Named
  variables o = filter (λ n. is_variable (entity n.name)) (flat_map name_in (option_to_list o))

  module _ (test : Text → Bool) where
    any_named : (n : Named) → list_any (λ m. test m.name) (filter (λ m. is_variable (entity m.name)) (n ∷ [])) ≡ tested test (variable_among entity (n ∷ []))
    any_named n = go (is_variable (entity n.name))
      where
        last : (b : Bool) → (b || false) ≡ b
        last true = refl
        last false = refl

        go : (b : Bool) → list_any (λ m. test m.name) (cond b (n ∷ []) []) ≡ tested test (if b then Some n.name else None)
        go true = last (test n.name)
        go false = refl

    any_of : (e : Expr) → list_any (λ m. test m.name) (variables (Some e)) ≡ tested test (variable_in entity e)
    any_of (Numeral n kind at) = refl
    any_of (Boolean b at) = refl
    any_of (Name x at) = any_named (named x at)
    any_of (Reference x subs at) = any_named (named x at)
    any_of (Signed sign e at) = refl
    any_of (Binary op a b) = refl
    any_of (Paren e at) = refl

    any_variable : (o : Option Expr) → list_any (λ m. test m.name) (variables o) ≡ tested test (option_and_then (variable_in entity) o)
    any_variable None = refl
    any_variable (Some e) = any_of e

  same_tested : (a b : Option Text) → tested (λ x. tested (λ y. bytes_eq x y) b) a ≡ is_same a b
  same_tested None b = refl
  same_tested (Some x) None = refl
  same_tested (Some x) (Some y) = refl

  same_is : (a b : Actual) → same_variable entity a b ≡ is_same (option_and_then (variable_in entity) a.expr) (option_and_then (variable_in entity) b.expr)
  same_is a b =
      (λ i. list_any (λ (m : Named). any_variable (λ y. bytes_eq m.name y) b.expr i) (variables a.expr))
      ∙ any_variable (λ x. tested (λ y. bytes_eq x y) (option_and_then (variable_in entity) b.expr)) a.expr
      ∙ same_tested (option_and_then (variable_in entity) a.expr) (option_and_then (variable_in entity) b.expr)

  share_is : (a b : Actual) → placed_share entity a b ≡ where_place (share (passed_as entity a) (passed_as entity b)) b.at
  share_is a b = ap (λ s. where_place (s && (is_written a || is_written b)) b.at) (same_is a b)

  pub shares_are : (list : List Actual) → all_shares (map (passed_as entity) list) ≡ shared_actuals entity list
  shares_are [] = refl
  shares_are (a ∷ list) =
      (λ i. flat_map-map (λ (b : Passed). where_place (share (passed_as entity a) b) b.at) (passed_as entity) list i ++ shares_are list i)
      ∙ sym (λ i. flat_map (λ (b : Actual). share_is a b i) list ++ shared_actuals entity list)

pub shares_first : (a : Passed) (l : List Passed) → all_shares (a ∷ l) ≡ shares_of a l ++ all_shares l
shares_first a l = refl
