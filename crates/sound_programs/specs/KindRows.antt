-- Small programs with and without faults of kinds: each is the least that shows a clause of a rule, or its neighbour.
use Rattle.std.specs.Prelude.{[], ◌∷◌, codes, Some, None, true, false}
use Rattle.fort_arith.specs.declared.kind.Kind.TheVariants.{I1, I4, I8}
use Rattle.fort_arith.specs.declared.op.Op.TheVariants.{Add, Eq, Gt, Eqv}
use Rattle.fort_tree.specs.declared.expr.Unary.TheVariants.{Minus, Not}
use Rattle.fort_tree.specs.declared.unit.Intent.TheVariants.{In, InOut}
use Rattle.fort_tree.specs.declared.choice.Mode.TheVariants.{Source}
use Rattle.fort_tree.specs.declared.fault.Code.TheVariants.{E32}
use Rattle.fort_tree.specs.declared.unit.Item.TheVariants as item
use Rattle.sound_programs.specs.Placed.{Numeral, Boolean, Name, Reference, Signed, Binary, No_more, One, Single, Span, Assign, If, Select, Do, No_arm, Arm, No_case, Case, Nothing_else, Program}
use Rattle.sound_programs.specs.SmallPrograms.{place, named, declaration, local, dummy, statements, subroutine, call_to}
use Rattle.sound_programs.specs.Rows.{HasNone, HasOnly, HasAll, fault}

-- a literal that isn't in its kind
--
--     subroutine s(x)
--       integer, intent(inout) :: x
--       x = 2147483648
--     end subroutine s
abbrev pub literal_too_great : Program
literal_too_great = record { modules = []; units = (subroutine (codes "s") (place 1 12) (named (codes "x") (place 1 14) ∷ []) [] (dummy (codes "x") (place 2 29) InOut ∷ []) (Assign (place 3 3) (Name (codes "x") (place 3 3)) (Numeral 2147483648 None (place 3 7)) ∷ []) ∷ []); order = (item.Unit 0 ∷ []) }

-- and one of kind 8 that is
--
--     subroutine s(x)
--       integer, intent(inout) :: x
--       x = 2147483648_8
--     end subroutine s
abbrev pub literal_of_kind_8 : Program
literal_of_kind_8 = record { modules = []; units = (subroutine (codes "s") (place 1 12) (named (codes "x") (place 1 14) ∷ []) [] (dummy (codes "x") (place 2 29) InOut ∷ []) (Assign (place 3 3) (Name (codes "x") (place 3 3)) (Numeral 2147483648 (Some I8) (place 3 7)) ∷ []) ∷ []); order = (item.Unit 0 ∷ []) }

-- the sign before a literal doesn't count
--
--     subroutine s(x)
--       integer, intent(inout) :: x
--       x = -2147483648
--     end subroutine s
abbrev pub least_written : Program
least_written = record { modules = []; units = (subroutine (codes "s") (place 1 12) (named (codes "x") (place 1 14) ∷ []) [] (dummy (codes "x") (place 2 29) InOut ∷ []) (Assign (place 3 3) (Name (codes "x") (place 3 3)) (Signed Minus (Numeral 2147483648 None (place 3 8)) (place 3 7)) ∷ []) ∷ []); order = (item.Unit 0 ∷ []) }

-- a PARAMETER's value that isn't in its kind, at its sign
--
--     subroutine s
--       integer(1), parameter :: p = -129
--     end subroutine s
abbrev pub value_not_in_kind : Program
value_not_in_kind = record { modules = []; units = (subroutine (codes "s") (place 1 12) [] [] (declaration (codes "p") (place 2 28) I1 None [] (Some (Signed Minus (Numeral 129 None (place 2 33)) (place 2 32))) ∷ []) [] ∷ []); order = (item.Unit 0 ∷ []) }

-- the least value of the kind
--
--     subroutine s
--       integer(1), parameter :: p = -128
--     end subroutine s
abbrev pub least_value_in_kind : Program
least_value_in_kind = record { modules = []; units = (subroutine (codes "s") (place 1 12) [] [] (declaration (codes "p") (place 2 28) I1 None [] (Some (Signed Minus (Numeral 128 None (place 2 33)) (place 2 32))) ∷ []) [] ∷ []); order = (item.Unit 0 ∷ []) }

-- a truth value for an INTEGER PARAMETER
--
--     subroutine s
--       integer, parameter :: p = .true.
--     end subroutine s
abbrev pub truth_for_number : Program
truth_for_number = record { modules = []; units = (subroutine (codes "s") (place 1 12) [] [] (declaration (codes "p") (place 2 25) I4 None [] (Some (Boolean true (place 2 29))) ∷ []) [] ∷ []); order = (item.Unit 0 ∷ []) }

-- INTEGER where LOGICAL is needed
--
--     subroutine s(x)
--       integer, intent(inout) :: x
--       if (x) x = 1
--     end subroutine s
abbrev pub integer_test : Program
integer_test = record { modules = []; units = (subroutine (codes "s") (place 1 12) (named (codes "x") (place 1 14) ∷ []) [] (dummy (codes "x") (place 2 29) InOut ∷ []) (If (place 3 3) (Arm (Name (codes "x") (place 3 7)) (statements (Assign (place 3 10) (Name (codes "x") (place 3 10)) (Numeral 1 None (place 3 14)) ∷ [])) No_arm) Nothing_else ∷ []) ∷ []); order = (item.Unit 0 ∷ []) }

-- LOGICAL assigned to INTEGER
--
--     subroutine s(x)
--       integer, intent(inout) :: x
--       x = x > 1
--     end subroutine s
abbrev pub logical_assigned : Program
logical_assigned = record { modules = []; units = (subroutine (codes "s") (place 1 12) (named (codes "x") (place 1 14) ∷ []) [] (dummy (codes "x") (place 2 29) InOut ∷ []) (Assign (place 3 3) (Name (codes "x") (place 3 3)) (Binary Gt (Name (codes "x") (place 3 7)) (Numeral 1 None (place 3 11))) ∷ []) ∷ []); order = (item.Unit 0 ∷ []) }

-- a LOGICAL operand of a sum; the kind of the sum is left open
--
--     subroutine s(x)
--       integer, intent(inout) :: x
--       x = 1 + .true.
--     end subroutine s
abbrev pub logical_operand : Program
logical_operand = record { modules = []; units = (subroutine (codes "s") (place 1 12) (named (codes "x") (place 1 14) ∷ []) [] (dummy (codes "x") (place 2 29) InOut ∷ []) (Assign (place 3 3) (Name (codes "x") (place 3 3)) (Binary Add (Numeral 1 None (place 3 7)) (Boolean true (place 3 11))) ∷ []) ∷ []); order = (item.Unit 0 ∷ []) }

-- LOGICAL in a DO's head
--
--     subroutine s(x)
--       integer, intent(inout) :: x
--       integer :: k
--       do k = 1, .true.
--       end do
--     end subroutine s
abbrev pub logical_bound_of_loop : Program
logical_bound_of_loop = record { modules = []; units = (subroutine (codes "s") (place 1 12) (named (codes "x") (place 1 14) ∷ []) [] (dummy (codes "x") (place 2 29) InOut ∷ local (codes "k") (place 3 14) ∷ []) (Do (place 4 3) (record { variable = codes "k"; at = (place 4 6); from = Numeral 1 None (place 4 10); to = Boolean true (place 4 13); step = None }) (statements []) None ∷ []) ∷ []); order = (item.Unit 0 ∷ []) }

-- a relation of truth values
--
--     subroutine s(x)
--       integer, intent(inout) :: x
--       if (.true. == .false.) x = 1
--     end subroutine s
abbrev pub relation_of_truths : Program
relation_of_truths = record { modules = []; units = (subroutine (codes "s") (place 1 12) (named (codes "x") (place 1 14) ∷ []) [] (dummy (codes "x") (place 2 29) InOut ∷ []) (If (place 3 3) (Arm (Binary Eq (Boolean true (place 3 7)) (Boolean false (place 3 17))) (statements (Assign (place 3 26) (Name (codes "x") (place 3 26)) (Numeral 1 None (place 3 30)) ∷ [])) No_arm) Nothing_else ∷ []) ∷ []); order = (item.Unit 0 ∷ []) }

-- an equivalence of truth values
--
--     subroutine s(x)
--       integer, intent(inout) :: x
--       if (.true. .eqv. .false.) x = 1
--     end subroutine s
abbrev pub equivalence_of_truths : Program
equivalence_of_truths = record { modules = []; units = (subroutine (codes "s") (place 1 12) (named (codes "x") (place 1 14) ∷ []) [] (dummy (codes "x") (place 2 29) InOut ∷ []) (If (place 3 3) (Arm (Binary Eqv (Boolean true (place 3 7)) (Boolean false (place 3 20))) (statements (Assign (place 3 29) (Name (codes "x") (place 3 29)) (Numeral 1 None (place 3 33)) ∷ [])) No_arm) Nothing_else ∷ []) ∷ []); order = (item.Unit 0 ∷ []) }

-- a LOGICAL subscript
--
--     subroutine s(q)
--       integer, intent(inout) :: q(3)
--       q(.true.) = 1
--     end subroutine s
abbrev pub logical_subscript : Program
logical_subscript = record { modules = []; units = (subroutine (codes "s") (place 1 12) (named (codes "q") (place 1 14) ∷ []) [] (declaration (codes "q") (place 2 29) I4 (Some InOut) (record { lower = None; upper = (Some (Numeral 3 None (place 2 31))) } ∷ []) None ∷ []) (Assign (place 3 3) (Reference (codes "q") (One (Boolean true (place 3 5)) No_more) (place 3 3)) (Numeral 1 None (place 3 15)) ∷ []) ∷ []); order = (item.Unit 0 ∷ []) }

-- an actual whose kind isn't the dummy's
--
--     subroutine s(x)
--       integer, intent(inout) :: x
--       call t(1_8)
--     end subroutine s
--     subroutine t(a)
--       integer, intent(in) :: a
--     end subroutine t
abbrev pub actual_of_other_kind : Program
actual_of_other_kind = record { modules = []; units = (subroutine (codes "s") (place 1 12) (named (codes "x") (place 1 14) ∷ []) [] (dummy (codes "x") (place 2 29) InOut ∷ []) (call_to (codes "t") (place 3 3) (place 3 8) (One (Numeral 1 (Some I8) (place 3 10)) No_more) ∷ []) ∷ subroutine (codes "t") (place 5 12) (named (codes "a") (place 5 14) ∷ []) [] (dummy (codes "a") (place 6 26) In ∷ []) [] ∷ []); order = (item.Unit 0 ∷ item.Unit 1 ∷ []) }

-- the second argument of INT is a literal
--
--     subroutine s(x)
--       integer, intent(inout) :: x
--       x = int(x, x)
--     end subroutine s
abbrev pub int_by_name : Program
int_by_name = record { modules = []; units = (subroutine (codes "s") (place 1 12) (named (codes "x") (place 1 14) ∷ []) [] (dummy (codes "x") (place 2 29) InOut ∷ []) (Assign (place 3 3) (Name (codes "x") (place 3 3)) (Reference (codes "int") (One (Name (codes "x") (place 3 11)) (One (Name (codes "x") (place 3 14)) No_more)) (place 3 7)) ∷ []) ∷ []); order = (item.Unit 0 ∷ []) }

-- INT with a literal
--
--     subroutine s(x)
--       integer, intent(inout) :: x
--       x = int(x, 8)
--     end subroutine s
abbrev pub int_of_kind_8 : Program
int_of_kind_8 = record { modules = []; units = (subroutine (codes "s") (place 1 12) (named (codes "x") (place 1 14) ∷ []) [] (dummy (codes "x") (place 2 29) InOut ∷ []) (Assign (place 3 3) (Name (codes "x") (place 3 3)) (Reference (codes "int") (One (Name (codes "x") (place 3 11)) (One (Numeral 8 None (place 3 14)) No_more)) (place 3 7)) ∷ []) ∷ []); order = (item.Unit 0 ∷ []) }

-- arguments of one intrinsic that differ in kind: the first that differs
--
--     subroutine s(x)
--       integer, intent(inout) :: x
--       x = max(x, 1_8, 2_8)
--     end subroutine s
abbrev pub arguments_differ : Program
arguments_differ = record { modules = []; units = (subroutine (codes "s") (place 1 12) (named (codes "x") (place 1 14) ∷ []) [] (dummy (codes "x") (place 2 29) InOut ∷ []) (Assign (place 3 3) (Name (codes "x") (place 3 3)) (Reference (codes "max") (One (Name (codes "x") (place 3 11)) (One (Numeral 1 (Some I8) (place 3 14)) (One (Numeral 2 (Some I8) (place 3 19)) No_more))) (place 3 7)) ∷ []) ∷ []); order = (item.Unit 0 ∷ []) }

-- a LOGICAL argument, and no further fault by the kind that is left open
--
--     subroutine s(x)
--       integer, intent(inout) :: x
--       x = abs(.true.)
--     end subroutine s
abbrev pub logical_argument : Program
logical_argument = record { modules = []; units = (subroutine (codes "s") (place 1 12) (named (codes "x") (place 1 14) ∷ []) [] (dummy (codes "x") (place 2 29) InOut ∷ []) (Assign (place 3 3) (Name (codes "x") (place 3 3)) (Reference (codes "abs") (One (Boolean true (place 3 11)) No_more) (place 3 7)) ∷ []) ∷ []); order = (item.Unit 0 ∷ []) }

-- a bound's literal with a suffix
--
--     subroutine s(q)
--       integer, intent(inout) :: q(3_4)
--       q(1) = 1
--     end subroutine s
abbrev pub suffixed_bound : Program
suffixed_bound = record { modules = []; units = (subroutine (codes "s") (place 1 12) (named (codes "q") (place 1 14) ∷ []) [] (declaration (codes "q") (place 2 29) I4 (Some InOut) (record { lower = None; upper = (Some (Numeral 3 (Some I4) (place 2 31))) } ∷ []) None ∷ []) (Assign (place 3 3) (Reference (codes "q") (One (Numeral 1 None (place 3 5)) No_more) (place 3 3)) (Numeral 1 None (place 3 10)) ∷ []) ∷ []); order = (item.Unit 0 ∷ []) }

-- a bound that names a local
--
--     subroutine s(q)
--       integer :: n
--       integer, intent(inout) :: q(n)
--       n = 1
--       q(1) = n
--     end subroutine s
abbrev pub bound_by_local : Program
bound_by_local = record { modules = []; units = (subroutine (codes "s") (place 1 12) (named (codes "q") (place 1 14) ∷ []) [] (local (codes "n") (place 2 14) ∷ declaration (codes "q") (place 3 29) I4 (Some InOut) (record { lower = None; upper = (Some (Name (codes "n") (place 3 31))) } ∷ []) None ∷ []) (Assign (place 4 3) (Name (codes "n") (place 4 3)) (Numeral 1 None (place 4 7)) ∷ Assign (place 5 3) (Reference (codes "q") (One (Numeral 1 None (place 5 5)) No_more) (place 5 3)) (Name (codes "n") (place 5 10)) ∷ []) ∷ []); order = (item.Unit 0 ∷ []) }

-- a bound that names a scalar INTENT(IN) dummy plus a literal
--
--     subroutine s(n, q)
--       integer, intent(in) :: n
--       integer, intent(inout) :: q(n+1)
--       q(1) = n
--     end subroutine s
abbrev pub bound_by_dummy : Program
bound_by_dummy = record { modules = []; units = (subroutine (codes "s") (place 1 12) (named (codes "n") (place 1 14) ∷ named (codes "q") (place 1 17) ∷ []) [] (dummy (codes "n") (place 2 26) In ∷ declaration (codes "q") (place 3 29) I4 (Some InOut) (record { lower = None; upper = (Some (Binary Add (Name (codes "n") (place 3 31)) (Numeral 1 None (place 3 33)))) } ∷ []) None ∷ []) (Assign (place 4 3) (Reference (codes "q") (One (Numeral 1 None (place 4 5)) No_more) (place 4 3)) (Name (codes "n") (place 4 10)) ∷ []) ∷ []); order = (item.Unit 0 ∷ []) }

-- a bound that names a dummy of kind 8
--
--     subroutine s(n, q)
--       integer(8), intent(in) :: n
--       integer, intent(inout) :: q(n)
--       q(1) = 1
--     end subroutine s
abbrev pub bound_of_kind_8 : Program
bound_of_kind_8 = record { modules = []; units = (subroutine (codes "s") (place 1 12) (named (codes "n") (place 1 14) ∷ named (codes "q") (place 1 17) ∷ []) [] (declaration (codes "n") (place 2 29) I8 (Some In) [] None ∷ declaration (codes "q") (place 3 29) I4 (Some InOut) (record { lower = None; upper = (Some (Name (codes "n") (place 3 31))) } ∷ []) None ∷ []) (Assign (place 4 3) (Reference (codes "q") (One (Numeral 1 None (place 4 5)) No_more) (place 4 3)) (Numeral 1 None (place 4 10)) ∷ []) ∷ []); order = (item.Unit 0 ∷ []) }

-- a bound may name a PARAMETER that is declared further down
--
--     subroutine s(q)
--       integer, intent(inout) :: q(n)
--       integer, parameter :: n = 3
--       q(1) = 1
--     end subroutine s
abbrev pub bound_by_later_constant : Program
bound_by_later_constant = record { modules = []; units = (subroutine (codes "s") (place 1 12) (named (codes "q") (place 1 14) ∷ []) [] (declaration (codes "q") (place 2 29) I4 (Some InOut) (record { lower = None; upper = (Some (Name (codes "n") (place 2 31))) } ∷ []) None ∷ declaration (codes "n") (place 3 25) I4 None [] (Some (Numeral 3 None (place 3 29))) ∷ []) (Assign (place 4 3) (Reference (codes "q") (One (Numeral 1 None (place 4 5)) No_more) (place 4 3)) (Numeral 1 None (place 4 10)) ∷ []) ∷ []); order = (item.Unit 0 ∷ []) }

-- a case that names a variable
--
--     subroutine s(x)
--       integer, intent(inout) :: x
--       select case (x)
--       case (x)
--       end select
--     end subroutine s
abbrev pub case_by_variable : Program
case_by_variable = record { modules = []; units = (subroutine (codes "s") (place 1 12) (named (codes "x") (place 1 14) ∷ []) [] (dummy (codes "x") (place 2 29) InOut ∷ []) (Select (place 3 3) (Name (codes "x") (place 3 16)) (Case (Single (Name (codes "x") (place 4 9)) ∷ []) (statements []) No_case) Nothing_else ∷ []) ∷ []); order = (item.Unit 0 ∷ []) }

-- a case that isn't in the kind of the SELECT's expression
--
--     subroutine s(x)
--       integer(1), intent(in) :: x
--       select case (x)
--       case (-129)
--       end select
--     end subroutine s
abbrev pub case_not_in_kind : Program
case_not_in_kind = record { modules = []; units = (subroutine (codes "s") (place 1 12) (named (codes "x") (place 1 14) ∷ []) [] (declaration (codes "x") (place 2 29) I1 (Some In) [] None ∷ []) (Select (place 3 3) (Name (codes "x") (place 3 16)) (Case (Single (Signed Minus (Numeral 129 None (place 4 10)) (place 4 9)) ∷ []) (statements []) No_case) Nothing_else ∷ []) ∷ []); order = (item.Unit 0 ∷ []) }

-- a case of another kind whose value is in it
--
--     subroutine s(x)
--       integer, intent(in) :: x
--       select case (x)
--       case (5_8)
--       end select
--     end subroutine s
abbrev pub case_of_kind_8 : Program
case_of_kind_8 = record { modules = []; units = (subroutine (codes "s") (place 1 12) (named (codes "x") (place 1 14) ∷ []) [] (dummy (codes "x") (place 2 26) In ∷ []) (Select (place 3 3) (Name (codes "x") (place 3 16)) (Case (Single (Numeral 5 (Some I8) (place 4 9)) ∷ []) (statements []) No_case) Nothing_else ∷ []) ∷ []); order = (item.Unit 0 ∷ []) }

-- two cases that overlap: the first value in the later range
--
--     subroutine s(x)
--       integer, intent(inout) :: x
--       select case (x)
--       case (:3)
--       case (3:5)
--       end select
--     end subroutine s
abbrev pub cases_overlap : Program
cases_overlap = record { modules = []; units = (subroutine (codes "s") (place 1 12) (named (codes "x") (place 1 14) ∷ []) [] (dummy (codes "x") (place 2 29) InOut ∷ []) (Select (place 3 3) (Name (codes "x") (place 3 16)) (Case (Span None (Some (Numeral 3 None (place 4 10))) ∷ []) (statements []) (Case (Span (Some (Numeral 3 None (place 5 9))) (Some (Numeral 5 None (place 5 11))) ∷ []) (statements []) No_case)) Nothing_else ∷ []) ∷ []); order = (item.Unit 0 ∷ []) }

-- ranges of one CASE
--
--     subroutine s(x)
--       integer, intent(inout) :: x
--       select case (x)
--       case (1, 0:2)
--       end select
--     end subroutine s
abbrev pub ranges_of_one_case_overlap : Program
ranges_of_one_case_overlap = record { modules = []; units = (subroutine (codes "s") (place 1 12) (named (codes "x") (place 1 14) ∷ []) [] (dummy (codes "x") (place 2 29) InOut ∷ []) (Select (place 3 3) (Name (codes "x") (place 3 16)) (Case (Single (Numeral 1 None (place 4 9)) ∷ Span (Some (Numeral 0 None (place 4 12))) (Some (Numeral 2 None (place 4 14))) ∷ []) (statements []) No_case) Nothing_else ∷ []) ∷ []); order = (item.Unit 0 ∷ []) }

-- a range that holds nothing overlaps nothing
--
--     subroutine s(x)
--       integer, intent(inout) :: x
--       select case (x)
--       case (5:3, 4)
--       end select
--     end subroutine s
abbrev pub empty_range : Program
empty_range = record { modules = []; units = (subroutine (codes "s") (place 1 12) (named (codes "x") (place 1 14) ∷ []) [] (dummy (codes "x") (place 2 29) InOut ∷ []) (Select (place 3 3) (Name (codes "x") (place 3 16)) (Case (Span (Some (Numeral 5 None (place 4 9))) (Some (Numeral 3 None (place 4 11))) ∷ Single (Numeral 4 None (place 4 14)) ∷ []) (statements []) No_case) Nothing_else ∷ []) ∷ []); order = (item.Unit 0 ∷ []) }

-- a SELECT of a truth value
--
--     subroutine s(x)
--       integer, intent(inout) :: x
--       select case (x > 1)
--       case (1)
--       end select
--     end subroutine s
abbrev pub selected_truth : Program
selected_truth = record { modules = []; units = (subroutine (codes "s") (place 1 12) (named (codes "x") (place 1 14) ∷ []) [] (dummy (codes "x") (place 2 29) InOut ∷ []) (Select (place 3 3) (Binary Gt (Name (codes "x") (place 3 16)) (Numeral 1 None (place 3 20))) (Case (Single (Numeral 1 None (place 4 9)) ∷ []) (statements []) No_case) Nothing_else ∷ []) ∷ []); order = (item.Unit 0 ∷ []) }

-- a sign before a truth value
--
--     subroutine s(x)
--       integer, intent(inout) :: x
--       x = -.true.
--     end subroutine s
abbrev pub unary_of_truth : Program
unary_of_truth = record { modules = []; units = (subroutine (codes "s") (place 1 12) (named (codes "x") (place 1 14) ∷ []) [] (dummy (codes "x") (place 2 29) InOut ∷ []) (Assign (place 3 3) (Name (codes "x") (place 3 3)) (Signed Minus (Boolean true (place 3 8)) (place 3 7)) ∷ []) ∷ []); order = (item.Unit 0 ∷ []) }

-- `.not.` before a number
--
--     subroutine s(x)
--       integer, intent(inout) :: x
--       if (.not. x) x = 1
--     end subroutine s
abbrev pub not_of_number : Program
not_of_number = record { modules = []; units = (subroutine (codes "s") (place 1 12) (named (codes "x") (place 1 14) ∷ []) [] (dummy (codes "x") (place 2 29) InOut ∷ []) (If (place 3 3) (Arm (Signed Not (Name (codes "x") (place 3 13)) (place 3 7)) (statements (Assign (place 3 16) (Name (codes "x") (place 3 16)) (Numeral 1 None (place 3 20)) ∷ [])) No_arm) Nothing_else ∷ []) ∷ []); order = (item.Unit 0 ∷ []) }

-- an operation has the greater kind of its operands
--
--     subroutine s(x)
--       integer, intent(inout) :: x
--       call t(x+1_8)
--     end subroutine s
--     subroutine t(a)
--       integer(8), intent(in) :: a
--     end subroutine t
abbrev pub kind_of_greater : Program
kind_of_greater = record { modules = []; units = (subroutine (codes "s") (place 1 12) (named (codes "x") (place 1 14) ∷ []) [] (dummy (codes "x") (place 2 29) InOut ∷ []) (call_to (codes "t") (place 3 3) (place 3 8) (One (Binary Add (Name (codes "x") (place 3 10)) (Numeral 1 (Some I8) (place 3 12))) No_more) ∷ []) ∷ subroutine (codes "t") (place 5 12) (named (codes "a") (place 5 14) ∷ []) [] (declaration (codes "a") (place 6 29) I8 (Some In) [] None ∷ []) [] ∷ []); order = (item.Unit 0 ∷ item.Unit 1 ∷ []) }

-- a literal in a bound that isn't in its kind
--
--     subroutine s(q)
--       integer, intent(inout) :: q(2147483648)
--       q(1) = 1
--     end subroutine s
abbrev pub literal_in_bound : Program
literal_in_bound = record { modules = []; units = (subroutine (codes "s") (place 1 12) (named (codes "q") (place 1 14) ∷ []) [] (declaration (codes "q") (place 2 29) I4 (Some InOut) (record { lower = None; upper = (Some (Numeral 2147483648 None (place 2 31))) } ∷ []) None ∷ []) (Assign (place 3 3) (Reference (codes "q") (One (Numeral 1 None (place 3 5)) No_more) (place 3 3)) (Numeral 1 None (place 3 10)) ∷ []) ∷ []); order = (item.Unit 0 ∷ []) }

-- LOGICAL for an INTEGER dummy
--
--     subroutine s(x)
--       integer, intent(inout) :: x
--       call t(x > 1)
--     end subroutine s
--     subroutine t(a)
--       integer, intent(in) :: a
--     end subroutine t
abbrev pub logical_actual : Program
logical_actual = record { modules = []; units = (subroutine (codes "s") (place 1 12) (named (codes "x") (place 1 14) ∷ []) [] (dummy (codes "x") (place 2 29) InOut ∷ []) (call_to (codes "t") (place 3 3) (place 3 8) (One (Binary Gt (Name (codes "x") (place 3 10)) (Numeral 1 None (place 3 14))) No_more) ∷ []) ∷ subroutine (codes "t") (place 5 12) (named (codes "a") (place 5 14) ∷ []) [] (dummy (codes "a") (place 6 26) In ∷ []) [] ∷ []); order = (item.Unit 0 ∷ item.Unit 1 ∷ []) }

-- what they show
pub record KindRows : Type 0 where
  pub literal_too_great_is_found : HasOnly Source literal_too_great E32 (place 3 7)
  pub literal_of_kind_8_is_sound : HasNone Source literal_of_kind_8
  pub least_written_is_found : HasOnly Source least_written E32 (place 3 8)
  pub value_not_in_kind_is_found : HasOnly Source value_not_in_kind E32 (place 2 32)
  pub least_value_in_kind_is_sound : HasNone Source least_value_in_kind
  pub truth_for_number_is_found : HasOnly Source truth_for_number E32 (place 2 29)
  pub integer_test_is_found : HasOnly Source integer_test E32 (place 3 7)
  pub logical_assigned_is_found : HasOnly Source logical_assigned E32 (place 3 7)
  pub logical_operand_is_found : HasOnly Source logical_operand E32 (place 3 11)
  pub logical_bound_of_loop_is_found : HasOnly Source logical_bound_of_loop E32 (place 4 13)
  pub relation_of_truths_is_found : HasAll Source relation_of_truths (fault E32 3 7 ∷ fault E32 3 17 ∷ [])
  pub equivalence_of_truths_is_sound : HasNone Source equivalence_of_truths
  pub logical_subscript_is_found : HasOnly Source logical_subscript E32 (place 3 5)
  pub actual_of_other_kind_is_found : HasOnly Source actual_of_other_kind E32 (place 3 10)
  pub int_by_name_is_found : HasOnly Source int_by_name E32 (place 3 14)
  pub int_of_kind_8_is_sound : HasNone Source int_of_kind_8
  pub arguments_differ_is_found : HasOnly Source arguments_differ E32 (place 3 14)
  pub logical_argument_is_found : HasOnly Source logical_argument E32 (place 3 11)
  pub suffixed_bound_is_found : HasOnly Source suffixed_bound E32 (place 2 31)
  pub bound_by_local_is_found : HasOnly Source bound_by_local E32 (place 3 31)
  pub bound_by_dummy_is_sound : HasNone Source bound_by_dummy
  pub bound_of_kind_8_is_found : HasOnly Source bound_of_kind_8 E32 (place 3 31)
  pub bound_by_later_constant_is_sound : HasNone Source bound_by_later_constant
  pub case_by_variable_is_found : HasOnly Source case_by_variable E32 (place 4 9)
  pub case_not_in_kind_is_found : HasOnly Source case_not_in_kind E32 (place 4 9)
  pub case_of_kind_8_is_sound : HasNone Source case_of_kind_8
  pub cases_overlap_is_found : HasOnly Source cases_overlap E32 (place 5 9)
  pub ranges_of_one_case_overlap_is_found : HasOnly Source ranges_of_one_case_overlap E32 (place 4 12)
  pub empty_range_is_sound : HasNone Source empty_range
  pub selected_truth_is_found : HasOnly Source selected_truth E32 (place 3 16)
  pub unary_of_truth_is_found : HasOnly Source unary_of_truth E32 (place 3 8)
  pub not_of_number_is_found : HasOnly Source not_of_number E32 (place 3 13)
  pub kind_of_greater_is_sound : HasNone Source kind_of_greater
  pub literal_in_bound_is_found : HasOnly Source literal_in_bound E32 (place 2 31)
  pub logical_actual_is_found : HasOnly Source logical_actual E32 (place 3 10)
