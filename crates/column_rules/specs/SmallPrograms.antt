-- Small programs with one column unit `s`, each the least that breaks a rule, or its nearest neighbour that keeps them all.
use Rattle.std.specs.Prelude.{◌≡◌, ℕ, true, false, List, [], ◌∷◌, codes, Option, Some, None}
use Rattle.fort_arith.specs.declared.kind.Kind.TheVariants.{I4, I8}
use Rattle.fort_tree.specs.declared.expr.Unary.TheVariants.{Minus}
use Rattle.fort_tree.specs.declared.stmt.DirectiveWord.{DirectiveWord}
use Rattle.fort_tree.specs.declared.stmt.DirectiveWord.TheVariants.{Define, Parallelize}
use Rattle.fort_tree.specs.declared.unit.Intent.TheVariants.{In, InOut}
use Rattle.fort_tree.specs.declared.unit.Item.TheVariants as item
use Rattle.claw_meaning.specs.Syntax.{Text}
use Rattle.sound_programs.specs.Placed.{Expr, Numeral, Name, Signed, No_more, Decl, Directive, Stmt, Assign, Return, If, No_arm, Arm, Nothing_else, Boolean, Unit, Program}
use Rattle.sound_programs.specs.SmallPrograms.{place, named, declaration, local, dummy, up_to, statements, subroutine, inside, module_of, call_to}
use Rattle.column_rules.specs.Rules.{broken_in}

abbrev pub directive : ℕ → DirectiveWord → List Text → Option (List (Option Text)) → Option Expr → Option Expr → Directive
directive line word names over lower upper =
    record { at = place line 1; word = word; names = names; over = over; number = None; group = None; init = false; lower = lower; upper = upper }

-- `define dimension i(lower:upper)`
abbrev pub define : Expr → Expr → Directive
define lower upper = directive 2 Define (codes "i" ∷ []) None (Some lower) (Some upper)

abbrev pub parallelize : List Text → Option (List (Option Text)) → Directive
parallelize names over = directive 3 Parallelize names over None None

abbrev pub one : Expr
one = Numeral 1 None (place 2 28)

-- `nobody` is visible nowhere
abbrev pub nobody : Expr
nobody = Name (codes "nobody") (place 2 30)

-- `x = x`, where `x` is a column dummy
abbrev pub assigned : Text → Stmt
assigned x = Assign (place 8 3) (Name x (place 8 3)) (Name x (place 8 7))

-- `subroutine s(x, n)` with these directives, declarations and statements
abbrev pub column_unit : List Directive → List Decl → List Stmt → Unit
column_unit marks decls body =
    record (subroutine (codes "s") (place 1 12) (named (codes "x") (place 1 14) ∷ named (codes "n") (place 1 17) ∷ []) [] decls body) { marks = marks }

abbrev pub x_decl : Decl
x_decl = dummy (codes "x") (place 4 29) InOut

abbrev pub n_decl : Decl
n_decl = dummy (codes "n") (place 5 26) In

-- `s` alone
abbrev pub alone : List Directive → List Decl → List Stmt → Program
alone marks decls body = record { modules = []; units = (column_unit marks decls body ∷ []); order = (item.Unit 0 ∷ []) }

-- with `define dimension i(1:nobody)` and `parallelize data(x)`
abbrev pub of_x : List Decl → List Stmt → Program
of_x decls body = alone (define one nobody ∷ parallelize (codes "x" ∷ []) None ∷ []) decls body

-- with these bounds of the dimension
abbrev pub bounded : Expr → Expr → Program
bounded lower upper = alone (define lower upper ∷ parallelize (codes "x" ∷ []) None ∷ []) (x_decl ∷ n_decl ∷ []) (assigned (codes "x") ∷ [])

-- with this upper bound and `parallelize data(x, n)`
abbrev pub both_of_columns : Expr → List Decl → Program
both_of_columns upper decls = alone (define one upper ∷ parallelize (codes "x" ∷ codes "n" ∷ []) None ∷ []) decls (assigned (codes "x") ∷ [])

-- with this `data` and this `over`
abbrev pub listing : List Text → Option (List (Option Text)) → Program
listing names over = alone (define one nobody ∷ parallelize names over ∷ []) (x_decl ∷ n_decl ∷ []) (assigned (codes "x") ∷ [])

-- `v = 1`
abbrev pub v_written : Stmt
v_written = Assign (place 9 3) (Name (codes "v") (place 9 3)) (Numeral 1 None (place 9 7))

abbrev pub call_of_t : Stmt
call_of_t = call_to (codes "t") (place 8 3) (place 8 8) No_more

abbrev pub unit_t : List Stmt → Unit
unit_t body = inside 0 (subroutine (codes "t") (place 12 14) [] [] [] body)

-- `s` with these statements in a module with a variable of this name and this unit `t`
abbrev pub in_module_of : Text → List Stmt → List Stmt → Program
in_module_of variable body in_t = record {
  modules = (module_of (codes "m") (place 1 8) [] (local variable (place 2 14) ∷ []) ∷ []);
  units = (inside 0 (column_unit (define one nobody ∷ parallelize (codes "x" ∷ []) None ∷ []) (x_decl ∷ n_decl ∷ []) body) ∷ unit_t in_t ∷ []);
  order = (item.Module 0 ∷ []);
}

abbrev pub in_module : List Stmt → List Stmt → Program
in_module = in_module_of (codes "v")

-- `s` behind an empty module of this name
abbrev pub behind_module : Text → Program
behind_module x = record {
  modules = (module_of x (place 1 8) [] [] ∷ []);
  units = (column_unit (define one nobody ∷ parallelize (codes "x" ∷ []) None ∷ []) (x_decl ∷ n_decl ∷ []) (assigned (codes "x") ∷ []) ∷ []);
  order = (item.Module 0 ∷ item.Unit 0 ∷ []);
}

abbrev pub returned : Stmt
returned = Return (place 9 5)

-- `if (.true.) return`
abbrev pub returned_in_if : Stmt
returned_in_if = If (place 9 1) (Arm (Boolean true (place 9 5)) (statements (returned ∷ [])) No_arm) Nothing_else

-- `integer, parameter :: p = 3`
abbrev pub p_decl : Decl
p_decl = declaration (codes "p") (place 6 25) I4 None [] (Some (Numeral 3 None (place 6 29)))

abbrev pub array_of : Expr → Decl
array_of upper = declaration (codes "w") (place 6 14) I4 None (up_to upper ∷ []) None

-- a column unit keeps the rules, or the place of its header is told
abbrev pub Keeps : Program → Type 0
Keeps p = broken_in p ≡ []

abbrev pub Breaks : Program → Type 0
Breaks p = broken_in p ≡ place 1 12 ∷ []

pub record RuleRows : Type 0 where
  -- shared dummies: x is shared where `data` lists n alone
  pub column_dummy_written : Keeps (of_x (x_decl ∷ n_decl ∷ []) (assigned (codes "x") ∷ []))
  pub shared_dummy_written : Breaks (listing (codes "n" ∷ []) None)
  -- without `data` the dummy that isn't INTENT(IN) is a column dummy
  pub no_data : Keeps (listing [] None)
  -- writes
  pub module_variable_written : Breaks (in_module (v_written ∷ []) [])
  pub module_variable_written_behind : Breaks (in_module (call_of_t ∷ []) (v_written ∷ []))
  pub module_variable_not_reached : Keeps (in_module [] (v_written ∷ []))
  -- `data`
  pub no_dummy_listed : Breaks (listing (codes "x" ∷ codes "y" ∷ []) None)
  pub listed_twice : Breaks (listing (codes "x" ∷ codes "x" ∷ []) None)
  pub both_listed : Keeps (listing (codes "n" ∷ codes "x" ∷ []) None)
  -- `over`
  pub behind_colon : Keeps (listing (codes "x" ∷ []) (Some (None ∷ Some (codes "i") ∷ [])))
  pub only_colon : Breaks (listing (codes "x" ∷ []) (Some (None ∷ [])))
  pub dimension_twice : Breaks (listing (codes "x" ∷ []) (Some (Some (codes "i") ∷ Some (codes "i") ∷ [])))
  pub other_name : Breaks (listing (codes "x" ∷ []) (Some (Some (codes "i") ∷ Some (codes "j") ∷ [])))
  -- the dimension's name
  pub dimension_declared : Breaks (of_x (x_decl ∷ n_decl ∷ local (codes "i") (place 6 14) ∷ []) (assigned (codes "x") ∷ []))
  pub dimension_of_host : Breaks (in_module_of (codes "i") [] [])
  pub dimension_is_module : Breaks (behind_module (codes "i"))
  pub other_module : Keeps (behind_module (codes "k"))
  pub dimension_is_upper : Breaks (bounded one (Name (codes "i") (place 2 30)))
  -- bounds
  pub negative_lower : Keeps (bounded (Signed Minus one (place 2 27)) nobody)
  pub suffixed_lower : Breaks (bounded (Numeral 1 (Some I4) (place 2 28)) nobody)
  pub literal_upper : Keeps (bounded one (Numeral 5 None (place 2 30)))
  pub negative_upper : Breaks (bounded one (Signed Minus (Numeral 5 None (place 2 31)) (place 2 30)))
  pub suffixed_upper : Breaks (bounded one (Numeral 5 (Some I4) (place 2 30)))
  pub shared_upper : Keeps (bounded one (Name (codes "n") (place 2 30)))
  pub column_dummy_upper : Breaks (both_of_columns (Name (codes "n") (place 2 30)) (x_decl ∷ n_decl ∷ []))
  pub module_upper : Breaks (behind_module (codes "nobody"))
  pub wide_upper : Breaks (alone (define one (Name (codes "n") (place 2 30)) ∷ parallelize (codes "x" ∷ []) None ∷ []) (x_decl ∷ declaration (codes "n") (place 5 29) I8 (Some In) [] None ∷ []) (assigned (codes "x") ∷ []))
  pub constant_upper : Keeps (alone (define one (Name (codes "p") (place 2 30)) ∷ parallelize (codes "x" ∷ []) None ∷ []) (x_decl ∷ n_decl ∷ p_decl ∷ []) (assigned (codes "x") ∷ []))
  pub unit_upper : Breaks (bounded one (Name (codes "s") (place 2 30)))
  pub column_dummy_in_bound : Breaks (both_of_columns nobody (x_decl ∷ n_decl ∷ array_of (Name (codes "n") (place 6 16)) ∷ []))
  pub shared_dummy_in_bound : Keeps (of_x (x_decl ∷ n_decl ∷ array_of (Name (codes "n") (place 6 16)) ∷ []) (assigned (codes "x") ∷ []))
  -- RETURN
  pub return_in_if : Breaks (of_x (x_decl ∷ n_decl ∷ []) (assigned (codes "x") ∷ returned_in_if ∷ []))
  -- a unit that is no column unit has none of these rules
  pub no_column_unit : Keeps (alone (define one nobody ∷ []) (x_decl ∷ n_decl ∷ []) (returned ∷ []))
