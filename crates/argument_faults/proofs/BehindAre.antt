-- Actual arguments that refer to a module variable that the called unit, or one that it reaches, names.
use Rattle.std.proofs.Common.{◌≡◌, ℕ, Bool, true, false, ◌&&◌, ◌||◌, List, [], ◌∷◌, ◌++◌, Option, Some, None, refl, sym, ◌∙◌, arith}
use Rattle.std.specs.Prelude.{flat_map, slice_get}
use Rattle.std.specs.List.{list_any}
use Rattle.std.specs.Option.{option_to_list}
use Rattle.std.proofs.lemmas.Option.{slice_get_within}
use Rattle.fort_tree.specs.declared.unit.File.{File}
use Rattle.fort_tree.specs.declared.unit.Unit as tree_unit
use Rattle.claw_meaning.specs.Plain.{plain_unit}
use Rattle.claw_meaning.specs.Scope.{Entity}
use Rattle.claw_meaning.specs.Syntax.{Text}
use Rattle.sound_programs.specs.ArgumentFaults.{is_named_by, module_variables}
use Rattle.sound_programs.specs.Placed.{Expr, Numeral, Boolean, Name, Reference, Signed, Binary, Paren, bare_program}
use Rattle.sound_programs.specs.Places.{where_place}
use Rattle.sound_programs.specs.Placing.{placed}
use Rattle.sound_programs.specs.Scopes.{module_variable}
use Rattle.sound_programs.specs.Walks.{Actual, is_written, name_in}
use Rattle.argument_faults.specs.declared.reached.Reached.{Reached}
use Rattle.argument_faults.specs.Behind.{passes_if_any, named_variable, named_expr, behind_actuals}
use Rattle.argument_faults.specs.InUnits.{behind_in}
use Rattle.argument_faults.specs.Reaching.{IsReached, HasUnit, is_marked_for}

module _ (entity : Text → Entity) (unit : Text) (given : Text × Text → Bool) where
  last : (b : Bool) → (b || false) ≡ b
  last true = refl
  last false = refl

  any_if : (o : Option (Text × Text)) → list_any given (option_to_list o ++ []) ≡ passes_if_any given o
  any_if None = refl
  any_if (Some v) = last (given v)

  any_of : (e : Expr) → list_any given (module_variables entity unit (flat_map name_in (e ∷ []))) ≡ named_variable given entity unit (name_in e)
  any_of (Numeral n kind at) = refl
  any_of (Boolean b at) = refl
  any_of (Name x at) = any_if (module_variable unit x (entity x))
  any_of (Reference x subs at) = any_if (module_variable unit x (entity x))
  any_of (Signed sign e at) = refl
  any_of (Binary op a b) = refl
  any_of (Paren e at) = refl

  any_in : (o : Option Expr) → list_any given (module_variables entity unit (flat_map name_in (option_to_list o))) ≡ named_expr given entity unit o
  any_in None = refl
  any_in (Some e) = any_of e

  behind_are : (test : Text × Text → Bool) → ((v : Text × Text) → given v ≡ test v) → (list : List Actual)
      → behind_actuals given entity unit list ≡ flat_map (λ a. where_place (is_written a && list_any test (module_variables entity unit (flat_map name_in (option_to_list a.expr)))) a.at) list
  behind_are test same list =
      sym (λ i. flat_map (λ (a : Actual). where_place (is_written a && any_in a.expr i) a.at) list)
      ∙ (λ i. flat_map (λ (a : Actual). where_place (is_written a && list_any (λ v. same v i) (module_variables entity unit (flat_map name_in (option_to_list a.expr)))) a.at) list)

module _ (f : File) (r : Reached) (is : IsReached f r) (n : ℕ) (u : tree_unit.Unit) (there : slice_get f.units n ≡ Some u) where
  pub has_unit : HasUnit r n
  has_unit = record {
    there = omega (arith, slice_get_within f.units n u there, is.marked.same_length);
    same_length = (is.marked.named n u there).same_length;
  }

  pub behind_callee : (entity : Text → Entity) (unit : Text) (list : List Actual) → behind_actuals (is_marked_for r n) entity unit list ≡ behind_in (placed f) entity unit list (Some (plain_unit u))
  behind_callee entity unit list = behind_are entity unit (is_marked_for r n) (is_named_by (placed f) (bare_program (placed f)) u.name) (is.marked.named n u there).marked list
