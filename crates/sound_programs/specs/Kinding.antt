-- The kind of an expression, where its faults leave one: as `kind_of` of claw_meaning, but there is none where a fault leaves
-- it open, and a kind that is open makes no further fault. A relation and a logical operation are LOGICAL whatever their
-- operands are; SIZE has kind 4; INT has kind 4 or the kind that its second argument gives.
use Rattle.std.specs.Prelude.{ℕ, List, [], ◌∷◌, Option, Some, None, Bool, false, ◌&&◌, if◌then◌else◌, nat_eq}
use Rattle.fort_arith.specs.declared.kind.Kind.{Kind}
use Rattle.fort_arith.specs.declared.kind.Kind.TheVariants.{I1, I2, I4, I8, Logical}
use Rattle.fort_arith.specs.declared.op.Op.{Op}
use Rattle.fort_arith.specs.declared.op.Intrinsic.{Intrinsic}
use Rattle.fort_arith.specs.declared.op.Intrinsic.TheVariants.{Abs, Int, Max, Min, Mod, Modulo, Sign, Size, Sum}
use Rattle.fort_arith.specs.Operators.{is_arithmetic}
use Rattle.fort_arith.specs.Range.{is_whole}
use Rattle.fort_tree.specs.declared.expr.Unary.{Unary}
use Rattle.fort_tree.specs.declared.expr.Unary.TheVariants.{Plus, Minus, Not}
use Rattle.fort_tree.specs.Intrinsic.{intrinsic_named}
use Rattle.fort_tree.specs.Same.{same_kind}
use Rattle.claw_meaning.specs.Syntax as plain
use Rattle.claw_meaning.specs.Syntax.{Text}
use Rattle.claw_meaning.specs.Scope.{Entity, Unknown, Variable, Constant, Procedure, decl_named}
use Rattle.claw_meaning.specs.Kinds.{greater, or_default}
use Rattle.sound_programs.specs.Placed.{Expr, Numeral, Boolean, Name, Reference, Signed, Binary, Paren, Subscripts, No_more, One, Section}

abbrev pub kind_of_decl : Option plain.Decl → Option Kind
kind_of_decl None = None
kind_of_decl (Some d) = Some d.kind

-- a function has the kind of its result, a SUBROUTINE has none
abbrev pub kind_of_result : Option Text → plain.Unit → Option Kind
kind_of_result None v = None
kind_of_result (Some x) v = kind_of_decl (decl_named v.decls x)

abbrev pub kind_of_entity : Entity → Option Kind
kind_of_entity Unknown = None
kind_of_entity (Variable home d) = Some d.kind
kind_of_entity (Constant d) = Some d.kind
kind_of_entity (Procedure v) = kind_of_result v.result v

abbrev pub is_integer : Option Kind → Bool
is_integer None = false
is_integer (Some k) = is_whole k

abbrev pub is_logical : Option Kind → Bool
is_logical None = false
is_logical (Some k) = same_kind (Some k) (Some Logical)

-- an INTEGER kind; one that isn't is left open
abbrev pub integer : Option Kind → Option Kind
integer kind = if is_integer kind then kind else None

-- an operation on two INTEGER kinds has the greater
abbrev pub greater_of : Option Kind → Option Kind → Option Kind
greater_of None other = None
greater_of (Some a) None = None
greater_of (Some a) (Some b) = Some (greater a b)

abbrev pub kind_of_sign : Unary → Option Kind → Option Kind
kind_of_sign Plus kind = integer kind
kind_of_sign Minus kind = integer kind
kind_of_sign Not kind = Some Logical

abbrev pub kind_of_operation : Op → Option Kind → Option Kind → Option Kind
kind_of_operation op a b = if is_arithmetic op then greater_of (integer a) (integer b) else Some Logical

-- the one kind of all, where all are known and one INTEGER kind
abbrev pub agreed : Option Kind → Option Kind → Option Kind
agreed a b = if is_integer a && same_kind a b then a else None

abbrev pub common_kind : List (Option Kind) → Option Kind
common_kind [] = None
common_kind (a ∷ []) = integer a
common_kind (a ∷ (b ∷ rest)) = agreed a (common_kind (b ∷ rest))

abbrev pub first_kind : List (Option Kind) → Option Kind
first_kind [] = None
first_kind (a ∷ rest) = integer a

-- the kind that a literal 1, 2, 4 or 8 without suffix names
abbrev pub kind_by_bytes : ℕ → Option Kind
kind_by_bytes n =
    if nat_eq n 1 then Some I1 else (if nat_eq n 2 then Some I2 else (if nat_eq n 4 then Some I4 else (if nat_eq n 8 then Some I8 else None)))

abbrev pub kind_named_by : Expr → Option Kind
kind_named_by (Numeral n None at) = kind_by_bytes n
kind_named_by other = None

-- INT by what stands behind its first argument
abbrev pub kind_by_second : Subscripts → Option Kind
kind_by_second No_more = Some I4
kind_by_second (One e rest) = kind_named_by e
kind_by_second (Section lower upper at rest) = None

-- a range as first argument is a fault
abbrev pub kind_of_int : Subscripts → Option Kind
kind_of_int No_more = Some I4
kind_of_int (One e rest) = kind_by_second rest
kind_of_int (Section lower upper at rest) = None

abbrev pub kind_of_intrinsic : Intrinsic → Subscripts → List (Option Kind) → Option Kind
kind_of_intrinsic Int args kinds = kind_of_int args
kind_of_intrinsic Size args kinds = Some I4
kind_of_intrinsic Sum args kinds = first_kind kinds
kind_of_intrinsic Abs args kinds = common_kind kinds
kind_of_intrinsic Max args kinds = common_kind kinds
kind_of_intrinsic Min args kinds = common_kind kinds
kind_of_intrinsic Mod args kinds = common_kind kinds
kind_of_intrinsic Modulo args kinds = common_kind kinds
kind_of_intrinsic Sign args kinds = common_kind kinds

abbrev pub kind_of_reference : Option Intrinsic → Option Kind → Subscripts → List (Option Kind) → Option Kind
kind_of_reference None named args kinds = named
kind_of_reference (Some which) named args kinds = kind_of_intrinsic which args kinds

module _ (entity : Text → Entity) where
  abbrev mutual
    pub kind : Expr → Option Kind
    kind (Numeral n suffix at) = Some (or_default suffix)
    kind (Boolean b at) = Some Logical
    kind (Name x at) = kind_of_entity (entity x)
    kind (Reference x subs at) = kind_of_reference (intrinsic_named x) (kind_of_entity (entity x)) subs (kinds_in subs)
    kind (Signed sign e at) = kind_of_sign sign (kind e)
    kind (Binary op a b) = kind_of_operation op (kind a) (kind b)
    kind (Paren e at) = kind e

    -- those of arguments; a range has none
    pub kinds_in : Subscripts → List (Option Kind)
    kinds_in No_more = []
    kinds_in (One e rest) = kind e ∷ kinds_in rest
    kinds_in (Section lower upper at rest) = None ∷ kinds_in rest
