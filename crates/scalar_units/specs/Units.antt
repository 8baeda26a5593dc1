-- Tests of the parts of a unit, on its plain tree: the header, each declaration, the two directives and each statement by itself.
-- A unit that passes them all is one of column scalars.
use Rattle.std.specs.Prelude.{Bool, true, false, not, ◌&&◌, ◌==◌, nat_le, List, [], ◌∷◌, Option, None, Some, is_none, is_some, map, count_by}
use Rattle.std.specs.List.{list_any, list_all}
use Rattle.std.specs.Str.{bytes_eq}
use Rattle.fort_arith.specs.declared.kind.Kind.{Kind}
use Rattle.fort_arith.specs.declared.kind.Kind.TheVariants.{I4}
use Rattle.fort_arith.specs.declared.op.Op.{Op}
use Rattle.fort_arith.specs.declared.op.Op.TheVariants.{Add, Sub, Mul}
use Rattle.fort_tree.specs.declared.expr.Unary.{Unary}
use Rattle.fort_tree.specs.declared.expr.Unary.TheVariants.{Plus, Minus}
use Rattle.fort_tree.specs.declared.stmt.DirectiveWord.{DirectiveWord}
use Rattle.fort_tree.specs.declared.stmt.DirectiveWord.TheVariants.{Define, Parallelize}
use Rattle.fort_tree.specs.declared.unit.Intent.{Intent}
use Rattle.fort_tree.specs.declared.unit.Intent.TheVariants.{In}
use Rattle.fort_tree.specs.Intrinsic.{intrinsic_named}
use Rattle.claw_meaning.specs.Interface.{is_fresh}
use Rattle.claw_meaning.specs.Syntax.{Text, Expr, Numeral, Name, Signed, Binary, Decl, Directive, Stmt, Assign, Unit}

-- ---- names

abbrev pub is_among : List Text → Text → Bool
is_among names x = list_any (λ y. bytes_eq y x) names

abbrev pub stands_once : List Text → Text → Bool
stands_once names x = count_by (λ y. bytes_eq y x) names == 1

abbrev pub names_of : List Decl → List Text
names_of decls = map (λ d. d.name) decls

-- no intrinsic function's name, and none that a compiler made
abbrev pub is_ordinary : Text → Bool
is_ordinary x = is_none (intrinsic_named x) && not (is_fresh x)

-- ---- the header

-- a dummy stands once in the header and is declared once
abbrev pub is_dummy : Unit → Text → Bool
is_dummy u x = is_ordinary x && stands_once u.dummies x && stands_once (names_of u.decls) x

abbrev pub is_empty : {A : Type 0} → List A → Bool
is_empty [] = true
is_empty (x ∷ xs) = false

-- an external SUBROUTINE that has dummies
abbrev pub is_header : Unit → Bool
is_header u = is_none u.host && is_none u.result && not (is_empty u.dummies) && list_all (is_dummy u) u.dummies

-- ---- declarations

abbrev pub is_default : Kind → Bool
is_default I4 = true
is_default _ = false

-- a dummy that is a default INTEGER scalar with an INTENT
abbrev pub is_declaration : Unit → Decl → Bool
is_declaration u d = is_default d.kind && is_some d.intent && is_empty d.shape && is_none d.value && is_among u.dummies d.name

-- ---- directives

-- the number of a literal without a suffix, of kind 4
abbrev pub is_small_number : Option Expr → Bool
is_small_number (Some (Numeral n None)) = nat_le n 2147483647
is_small_number _ = false

abbrev pub is_define_word : DirectiveWord → Bool
is_define_word Define = true
is_define_word _ = false

abbrev pub is_parallelize_word : DirectiveWord → Bool
is_parallelize_word Parallelize = true
is_parallelize_word _ = false

-- no `over`, `collapse`, `group` or `init`
abbrev pub is_bare : Directive → Bool
is_bare d = is_none d.over && is_none d.number && is_none d.group && not d.init

-- a name that is no dummy and not the unit's
abbrev pub is_new : Unit → Text → Bool
is_new u x = not (is_among u.dummies x) && not (bytes_eq x u.name)

-- the dimension's name and its upper bound are new, and two
abbrev pub are_new : Unit → List Text → Option Expr → Bool
are_new u (id ∷ []) (Some (Name upper)) = is_new u id && is_new u upper && not (bytes_eq id upper)
are_new u _ _ = false

-- `define dimension id ( number : upper )`
abbrev pub is_define : Unit → Directive → Bool
is_define u d = is_define_word d.word && is_bare d && is_small_number d.lower && are_new u d.names d.upper

-- `parallelize data ( names )`, which are the dummies, each once
abbrev pub is_parallelize : Unit → Directive → Bool
is_parallelize u d =
    is_parallelize_word d.word && is_bare d && is_none d.lower && is_none d.upper && list_all (is_among u.dummies) d.names && list_all (stands_once d.names) u.dummies

-- ---- statements

abbrev pub is_term_op : Op → Bool
is_term_op Add = true
is_term_op Sub = true
is_term_op Mul = true
is_term_op _ = false

abbrev pub is_term_sign : Unary → Bool
is_term_sign Plus = true
is_term_sign Minus = true
is_term_sign _ = false

-- sums of products of these names and of numbers of kind 4, without parentheses
abbrev pub is_sum : List Text → Expr → Bool
is_sum names (Numeral n None) = nat_le n 2147483647
is_sum names (Numeral n (Some kind)) = false
is_sum names (Name x) = is_among names x
is_sum names (Signed sign e) = is_term_sign sign && is_sum names e
is_sum names (Binary op a b) = is_term_op op && is_sum names a && is_sum names b
is_sum names _ = false

abbrev pub is_in : Option Intent → Bool
is_in (Some In) = true
is_in _ = false

-- it is declared INTENT(IN)
abbrev pub is_input : List Decl → Text → Bool
is_input decls x = list_any (λ d. is_in d.intent && bytes_eq d.name x) decls

-- a dummy that isn't INTENT(IN)
abbrev pub is_target : Unit → Expr → Bool
is_target u (Name x) = is_among u.dummies x && not (is_input u.decls x)
is_target u _ = false

-- the assignment of a sum of dummies to a dummy
abbrev pub is_assignment : Unit → Stmt → Bool
is_assignment u (Assign left right) = is_target u left && is_sum u.dummies right
is_assignment u _ = false
