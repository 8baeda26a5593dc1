-- The kind of an expression: a literal has its suffix's kind or kind 4, an operation on two kinds the greater, a relation
-- and a logical operation LOGICAL, a reference the kind of what it names, an intrinsic that of its first argument; but INT
-- has the kind that its second argument names, or 4, and SIZE has kind 4.
use Rattle.std.specs.Prelude.{ℕ, List, [], ◌∷◌, Option, Some, None, Bool, true, false, if◌then◌else◌, nat_eq}
use Rattle.fort_arith.specs.declared.kind.Kind.{Kind}
use Rattle.fort_arith.specs.declared.kind.Kind.TheVariants.{I1, I2, I4, I8, Logical}
use Rattle.fort_arith.specs.declared.op.Op.{Op}
use Rattle.fort_arith.specs.Operators.{is_arithmetic}
use Rattle.fort_arith.specs.declared.op.Intrinsic.{Intrinsic}
use Rattle.fort_arith.specs.declared.op.Intrinsic.TheVariants.{Abs, Int, Max, Min, Mod, Modulo, Sign, Size, Sum}
use Rattle.fort_tree.specs.declared.expr.Unary.{Unary}
use Rattle.fort_tree.specs.declared.expr.Unary.TheVariants.{Plus, Minus, Not}
use Rattle.fort_tree.specs.Intrinsic.{intrinsic_named}
use Rattle.claw_meaning.specs.Syntax.{Text, Decl, Expr, Numeral, Boolean, Name, Reference, Signed, Binary, Paren, Subscripts, No_more, At, Section, Between, Limit, Unbounded, Bounded, Unit}
use Rattle.claw_meaning.specs.Scope.{Entity, Unknown, Variable, Constant, Procedure, decl_named}

abbrev pub kind_of_bytes : ℕ → Kind
kind_of_bytes n = if nat_eq n 1 then I1 else (if nat_eq n 2 then I2 else (if nat_eq n 8 then I8 else I4))

-- INTEGER kinds by their bytes
abbrev pub greater : Kind → Kind → Kind
greater I1 other = other
greater I2 I1 = I2
greater I2 I2 = I2
greater I2 I4 = I4
greater I2 I8 = I8
greater I2 Logical = Logical
greater I4 I8 = I8
greater I4 I1 = I4
greater I4 I2 = I4
greater I4 I4 = I4
greater I4 Logical = Logical
greater I8 other = I8
greater Logical other = Logical

abbrev pub or_default : Option Kind → Kind
or_default None = I4
or_default (Some kind) = kind

abbrev pub kind_of_decl : Option Decl → Kind
kind_of_decl None = I4
kind_of_decl (Some decl) = decl.kind

-- where no RESULT names it, a function's result has the function's name
abbrev pub result_name : Text → Option Text → Text
result_name function None = function
result_name function (Some result) = result

abbrev pub kind_of_entity : Entity → Kind
kind_of_entity Unknown = I4
kind_of_entity (Variable home decl) = decl.kind
kind_of_entity (Constant decl) = decl.kind
kind_of_entity (Procedure unit) = kind_of_decl (decl_named unit.decls (result_name unit.name unit.result))

abbrev pub kind_of_sign : Unary → Kind → Kind
kind_of_sign Plus kind = kind
kind_of_sign Minus kind = kind
kind_of_sign Not kind = Logical

abbrev pub kind_of_operation : Op → Kind → Kind → Kind
kind_of_operation op a b = if is_arithmetic op then greater a b else Logical

-- the number of bytes in a literal, as in the second argument of INT
abbrev pub bytes_in : Subscripts → ℕ
bytes_in (At (Numeral n suffix) rest) = n
bytes_in other = 4

abbrev pub second : Subscripts → Subscripts
second (At e rest) = rest
second other = other

abbrev pub kind_of_intrinsic : Intrinsic → Kind → Subscripts → Kind
kind_of_intrinsic Int first args = kind_of_bytes (bytes_in (second args))
kind_of_intrinsic Size first args = I4
kind_of_intrinsic Abs first args = first
kind_of_intrinsic Max first args = first
kind_of_intrinsic Min first args = first
kind_of_intrinsic Mod first args = first
kind_of_intrinsic Modulo first args = first
kind_of_intrinsic Sign first args = first
kind_of_intrinsic Sum first args = first

abbrev pub kind_of_reference : Option Intrinsic → Kind → Kind → Subscripts → Kind
kind_of_reference None named first args = named
kind_of_reference (Some which) named first args = kind_of_intrinsic which first args

module _ (kind_named : Text → Kind) where
  abbrev mutual
    pub kind_of : Expr → Kind
    kind_of (Numeral n suffix) = or_default suffix
    kind_of (Boolean b) = Logical
    kind_of (Name x) = kind_named x
    kind_of (Reference x subs) = kind_of_reference (intrinsic_named x) (kind_named x) (kind_of_first subs) subs
    kind_of (Signed sign e) = kind_of_sign sign (kind_of e)
    kind_of (Binary op a b) = kind_of_operation op (kind_of a) (kind_of b)
    kind_of (Paren e) = kind_of e

    pub kind_of_first : Subscripts → Kind
    kind_of_first No_more = I4
    kind_of_first (At e rest) = kind_of e
    kind_of_first (Section lower upper rest) = I4
    kind_of_first (Between m n rest) = I4
