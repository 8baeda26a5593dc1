-- Small programs with and without faults of ranks: each is the least that shows a clause of a rule, or its neighbour.
use Rattle.std.specs.Prelude.{[], ◌∷◌, codes, Some, None}
use Rattle.fort_arith.specs.declared.kind.Kind.TheVariants.{I4}
use Rattle.fort_arith.specs.declared.op.Op.TheVariants.{Add, Gt}
use Rattle.fort_tree.specs.declared.unit.Intent.TheVariants.{In, InOut}
use Rattle.fort_tree.specs.declared.choice.Mode.TheVariants.{Source, Target}
use Rattle.fort_tree.specs.declared.fault.Code.TheVariants.{E33}
use Rattle.fort_tree.specs.declared.unit.Item.TheVariants as item
use Rattle.sound_programs.specs.Placed.{Numeral, Name, Reference, Binary, No_more, One, Section, Unbounded, Bounded, Assign, If, Do, No_arm, Arm, Nothing_else, Program}
use Rattle.sound_programs.specs.SmallPrograms.{place, named, declaration, local, dummy, statements, subroutine, function, call_to}
use Rattle.sound_programs.specs.Rows.{HasNone, HasOnly}

-- a wrong number of subscripts
--
--     subroutine s(x, a, b)
--       integer, intent(inout) :: x
--       integer, intent(inout) :: a(3), b(3,3)
--       x = b(1)
--     end subroutine s
abbrev pub wrong_subscripts : Program
wrong_subscripts = record { modules = []; units = (subroutine (codes "s") (place 1 12) (named (codes "x") (place 1 14) ∷ named (codes "a") (place 1 17) ∷ named (codes "b") (place 1 20) ∷ []) [] (dummy (codes "x") (place 2 29) InOut ∷ declaration (codes "a") (place 3 29) I4 (Some InOut) (record { lower = None; upper = (Some (Numeral 3 None (place 3 31))) } ∷ []) None ∷ declaration (codes "b") (place 3 35) I4 (Some InOut) (record { lower = None; upper = (Some (Numeral 3 None (place 3 37))) } ∷ record { lower = None; upper = (Some (Numeral 3 None (place 3 39))) } ∷ []) None ∷ []) (Assign (place 4 3) (Name (codes "x") (place 4 3)) (Reference (codes "b") (One (Numeral 1 None (place 4 9)) No_more) (place 4 7)) ∷ []) ∷ []); order = (item.Unit 0 ∷ []) }

-- an array where a scalar is needed, at the first token of the whole expression
--
--     subroutine s(x, a, b)
--       integer, intent(inout) :: x
--       integer, intent(inout) :: a(3), b(3,3)
--       x = 1+a
--     end subroutine s
abbrev pub array_to_scalar : Program
array_to_scalar = record { modules = []; units = (subroutine (codes "s") (place 1 12) (named (codes "x") (place 1 14) ∷ named (codes "a") (place 1 17) ∷ named (codes "b") (place 1 20) ∷ []) [] (dummy (codes "x") (place 2 29) InOut ∷ declaration (codes "a") (place 3 29) I4 (Some InOut) (record { lower = None; upper = (Some (Numeral 3 None (place 3 31))) } ∷ []) None ∷ declaration (codes "b") (place 3 35) I4 (Some InOut) (record { lower = None; upper = (Some (Numeral 3 None (place 3 37))) } ∷ record { lower = None; upper = (Some (Numeral 3 None (place 3 39))) } ∷ []) None ∷ []) (Assign (place 4 3) (Name (codes "x") (place 4 3)) (Binary Add (Numeral 1 None (place 4 7)) (Name (codes "a") (place 4 9))) ∷ []) ∷ []); order = (item.Unit 0 ∷ []) }

-- an array in a test
--
--     subroutine s(x, a, b)
--       integer, intent(inout) :: x
--       integer, intent(inout) :: a(3), b(3,3)
--       if (a > 1) x = 1
--     end subroutine s
abbrev pub array_as_test : Program
array_as_test = record { modules = []; units = (subroutine (codes "s") (place 1 12) (named (codes "x") (place 1 14) ∷ named (codes "a") (place 1 17) ∷ named (codes "b") (place 1 20) ∷ []) [] (dummy (codes "x") (place 2 29) InOut ∷ declaration (codes "a") (place 3 29) I4 (Some InOut) (record { lower = None; upper = (Some (Numeral 3 None (place 3 31))) } ∷ []) None ∷ declaration (codes "b") (place 3 35) I4 (Some InOut) (record { lower = None; upper = (Some (Numeral 3 None (place 3 37))) } ∷ record { lower = None; upper = (Some (Numeral 3 None (place 3 39))) } ∷ []) None ∷ []) (If (place 4 3) (Arm (Binary Gt (Name (codes "a") (place 4 7)) (Numeral 1 None (place 4 11))) (statements (Assign (place 4 14) (Name (codes "x") (place 4 14)) (Numeral 1 None (place 4 18)) ∷ [])) No_arm) Nothing_else ∷ []) ∷ []); order = (item.Unit 0 ∷ []) }

-- an array as a subscript
--
--     subroutine s(x, a, b)
--       integer, intent(inout) :: x
--       integer, intent(inout) :: a(3), b(3,3)
--       x = a(a)
--     end subroutine s
abbrev pub array_as_subscript : Program
array_as_subscript = record { modules = []; units = (subroutine (codes "s") (place 1 12) (named (codes "x") (place 1 14) ∷ named (codes "a") (place 1 17) ∷ named (codes "b") (place 1 20) ∷ []) [] (dummy (codes "x") (place 2 29) InOut ∷ declaration (codes "a") (place 3 29) I4 (Some InOut) (record { lower = None; upper = (Some (Numeral 3 None (place 3 31))) } ∷ []) None ∷ declaration (codes "b") (place 3 35) I4 (Some InOut) (record { lower = None; upper = (Some (Numeral 3 None (place 3 37))) } ∷ record { lower = None; upper = (Some (Numeral 3 None (place 3 39))) } ∷ []) None ∷ []) (Assign (place 4 3) (Name (codes "x") (place 4 3)) (Reference (codes "a") (One (Name (codes "a") (place 4 9)) No_more) (place 4 7)) ∷ []) ∷ []); order = (item.Unit 0 ∷ []) }

-- array operands of different rank, the left side counted
--
--     subroutine s(x, a, b)
--       integer, intent(inout) :: x
--       integer, intent(inout) :: a(3), b(3,3)
--       a = x+b
--     end subroutine s
abbrev pub ranks_differ : Program
ranks_differ = record { modules = []; units = (subroutine (codes "s") (place 1 12) (named (codes "x") (place 1 14) ∷ named (codes "a") (place 1 17) ∷ named (codes "b") (place 1 20) ∷ []) [] (dummy (codes "x") (place 2 29) InOut ∷ declaration (codes "a") (place 3 29) I4 (Some InOut) (record { lower = None; upper = (Some (Numeral 3 None (place 3 31))) } ∷ []) None ∷ declaration (codes "b") (place 3 35) I4 (Some InOut) (record { lower = None; upper = (Some (Numeral 3 None (place 3 37))) } ∷ record { lower = None; upper = (Some (Numeral 3 None (place 3 39))) } ∷ []) None ∷ []) (Assign (place 4 3) (Name (codes "a") (place 4 3)) (Binary Add (Name (codes "x") (place 4 7)) (Name (codes "b") (place 4 9))) ∷ []) ∷ []); order = (item.Unit 0 ∷ []) }

-- a section of rank 1
--
--     subroutine s(x, a, b)
--       integer, intent(inout) :: x
--       integer, intent(inout) :: a(3), b(3,3)
--       a = x+b(1,:)
--     end subroutine s
abbrev pub section_of_rank_1 : Program
section_of_rank_1 = record { modules = []; units = (subroutine (codes "s") (place 1 12) (named (codes "x") (place 1 14) ∷ named (codes "a") (place 1 17) ∷ named (codes "b") (place 1 20) ∷ []) [] (dummy (codes "x") (place 2 29) InOut ∷ declaration (codes "a") (place 3 29) I4 (Some InOut) (record { lower = None; upper = (Some (Numeral 3 None (place 3 31))) } ∷ []) None ∷ declaration (codes "b") (place 3 35) I4 (Some InOut) (record { lower = None; upper = (Some (Numeral 3 None (place 3 37))) } ∷ record { lower = None; upper = (Some (Numeral 3 None (place 3 39))) } ∷ []) None ∷ []) (Assign (place 4 3) (Name (codes "a") (place 4 3)) (Binary Add (Name (codes "x") (place 4 7)) (Reference (codes "b") (One (Numeral 1 None (place 4 11)) (Section Unbounded Unbounded (place 4 13) No_more)) (place 4 9))) ∷ []) ∷ []); order = (item.Unit 0 ∷ []) }

-- in a SUM
--
--     subroutine s(x, a, b)
--       integer, intent(inout) :: x
--       integer, intent(inout) :: a(3), b(3,3)
--       x = sum(a+b)
--     end subroutine s
abbrev pub ranks_differ_in_sum : Program
ranks_differ_in_sum = record { modules = []; units = (subroutine (codes "s") (place 1 12) (named (codes "x") (place 1 14) ∷ named (codes "a") (place 1 17) ∷ named (codes "b") (place 1 20) ∷ []) [] (dummy (codes "x") (place 2 29) InOut ∷ declaration (codes "a") (place 3 29) I4 (Some InOut) (record { lower = None; upper = (Some (Numeral 3 None (place 3 31))) } ∷ []) None ∷ declaration (codes "b") (place 3 35) I4 (Some InOut) (record { lower = None; upper = (Some (Numeral 3 None (place 3 37))) } ∷ record { lower = None; upper = (Some (Numeral 3 None (place 3 39))) } ∷ []) None ∷ []) (Assign (place 4 3) (Name (codes "x") (place 4 3)) (Reference (codes "sum") (One (Binary Add (Name (codes "a") (place 4 11)) (Name (codes "b") (place 4 13))) No_more) (place 4 7)) ∷ []) ∷ []); order = (item.Unit 0 ∷ []) }

-- arrays inside SUM don't count outside
--
--     subroutine s(x, a, b)
--       integer, intent(inout) :: x
--       integer, intent(inout) :: a(3), b(3,3)
--       a = a+sum(b)
--     end subroutine s
abbrev pub arrays_under_sum : Program
arrays_under_sum = record { modules = []; units = (subroutine (codes "s") (place 1 12) (named (codes "x") (place 1 14) ∷ named (codes "a") (place 1 17) ∷ named (codes "b") (place 1 20) ∷ []) [] (dummy (codes "x") (place 2 29) InOut ∷ declaration (codes "a") (place 3 29) I4 (Some InOut) (record { lower = None; upper = (Some (Numeral 3 None (place 3 31))) } ∷ []) None ∷ declaration (codes "b") (place 3 35) I4 (Some InOut) (record { lower = None; upper = (Some (Numeral 3 None (place 3 37))) } ∷ record { lower = None; upper = (Some (Numeral 3 None (place 3 39))) } ∷ []) None ∷ []) (Assign (place 4 3) (Name (codes "a") (place 4 3)) (Binary Add (Name (codes "a") (place 4 7)) (Reference (codes "sum") (One (Name (codes "b") (place 4 13)) No_more) (place 4 9))) ∷ []) ∷ []); order = (item.Unit 0 ∷ []) }

-- arguments of an elemental intrinsic belong to the operands around it
--
--     subroutine s(x, a, b)
--       integer, intent(inout) :: x
--       integer, intent(inout) :: a(3), b(3,3)
--       a = max(a, b)
--     end subroutine s
abbrev pub elemental_arguments : Program
elemental_arguments = record { modules = []; units = (subroutine (codes "s") (place 1 12) (named (codes "x") (place 1 14) ∷ named (codes "a") (place 1 17) ∷ named (codes "b") (place 1 20) ∷ []) [] (dummy (codes "x") (place 2 29) InOut ∷ declaration (codes "a") (place 3 29) I4 (Some InOut) (record { lower = None; upper = (Some (Numeral 3 None (place 3 31))) } ∷ []) None ∷ declaration (codes "b") (place 3 35) I4 (Some InOut) (record { lower = None; upper = (Some (Numeral 3 None (place 3 37))) } ∷ record { lower = None; upper = (Some (Numeral 3 None (place 3 39))) } ∷ []) None ∷ []) (Assign (place 4 3) (Name (codes "a") (place 4 3)) (Reference (codes "max") (One (Name (codes "a") (place 4 11)) (One (Name (codes "b") (place 4 14)) No_more)) (place 4 7)) ∷ []) ∷ []); order = (item.Unit 0 ∷ []) }

-- an actual whose rank isn't the dummy's
--
--     subroutine s(x, a, b)
--       integer, intent(inout) :: x
--       integer, intent(inout) :: a(3), b(3,3)
--       call t(a)
--     end subroutine s
--     subroutine t(y)
--       integer, intent(in) :: y
--     end subroutine t
abbrev pub actual_of_other_rank : Program
actual_of_other_rank = record { modules = []; units = (subroutine (codes "s") (place 1 12) (named (codes "x") (place 1 14) ∷ named (codes "a") (place 1 17) ∷ named (codes "b") (place 1 20) ∷ []) [] (dummy (codes "x") (place 2 29) InOut ∷ declaration (codes "a") (place 3 29) I4 (Some InOut) (record { lower = None; upper = (Some (Numeral 3 None (place 3 31))) } ∷ []) None ∷ declaration (codes "b") (place 3 35) I4 (Some InOut) (record { lower = None; upper = (Some (Numeral 3 None (place 3 37))) } ∷ record { lower = None; upper = (Some (Numeral 3 None (place 3 39))) } ∷ []) None ∷ []) (call_to (codes "t") (place 4 3) (place 4 8) (One (Name (codes "a") (place 4 10)) No_more) ∷ []) ∷ subroutine (codes "t") (place 6 12) (named (codes "y") (place 6 14) ∷ []) [] (dummy (codes "y") (place 7 26) In ∷ []) [] ∷ []); order = (item.Unit 0 ∷ item.Unit 1 ∷ []) }

-- an array actual that is no array name or section
--
--     subroutine s(x, a, b)
--       integer, intent(inout) :: x
--       integer, intent(inout) :: a(3), b(3,3)
--       call t(a+1)
--     end subroutine s
--     subroutine t(y)
--       integer, intent(in) :: y(:)
--     end subroutine t
abbrev pub computed_array_actual : Program
computed_array_actual = record { modules = []; units = (subroutine (codes "s") (place 1 12) (named (codes "x") (place 1 14) ∷ named (codes "a") (place 1 17) ∷ named (codes "b") (place 1 20) ∷ []) [] (dummy (codes "x") (place 2 29) InOut ∷ declaration (codes "a") (place 3 29) I4 (Some InOut) (record { lower = None; upper = (Some (Numeral 3 None (place 3 31))) } ∷ []) None ∷ declaration (codes "b") (place 3 35) I4 (Some InOut) (record { lower = None; upper = (Some (Numeral 3 None (place 3 37))) } ∷ record { lower = None; upper = (Some (Numeral 3 None (place 3 39))) } ∷ []) None ∷ []) (call_to (codes "t") (place 4 3) (place 4 8) (One (Binary Add (Name (codes "a") (place 4 10)) (Numeral 1 None (place 4 12))) No_more) ∷ []) ∷ subroutine (codes "t") (place 6 12) (named (codes "y") (place 6 14) ∷ []) [] (declaration (codes "y") (place 7 26) I4 (Some In) (record { lower = None; upper = None } ∷ []) None ∷ []) [] ∷ []); order = (item.Unit 0 ∷ item.Unit 1 ∷ []) }

-- a section as an actual
--
--     subroutine s(x, a, b)
--       integer, intent(inout) :: x
--       integer, intent(inout) :: a(3), b(3,3)
--       call t(b(1,1:2))
--     end subroutine s
--     subroutine t(y)
--       integer, intent(in) :: y(:)
--     end subroutine t
abbrev pub section_actual : Program
section_actual = record { modules = []; units = (subroutine (codes "s") (place 1 12) (named (codes "x") (place 1 14) ∷ named (codes "a") (place 1 17) ∷ named (codes "b") (place 1 20) ∷ []) [] (dummy (codes "x") (place 2 29) InOut ∷ declaration (codes "a") (place 3 29) I4 (Some InOut) (record { lower = None; upper = (Some (Numeral 3 None (place 3 31))) } ∷ []) None ∷ declaration (codes "b") (place 3 35) I4 (Some InOut) (record { lower = None; upper = (Some (Numeral 3 None (place 3 37))) } ∷ record { lower = None; upper = (Some (Numeral 3 None (place 3 39))) } ∷ []) None ∷ []) (call_to (codes "t") (place 4 3) (place 4 8) (One (Reference (codes "b") (One (Numeral 1 None (place 4 12)) (Section (Bounded (Numeral 1 None (place 4 14))) (Bounded (Numeral 2 None (place 4 16))) (place 4 14) No_more)) (place 4 10)) No_more) ∷ []) ∷ subroutine (codes "t") (place 6 12) (named (codes "y") (place 6 14) ∷ []) [] (declaration (codes "y") (place 7 26) I4 (Some In) (record { lower = None; upper = None } ∷ []) None ∷ []) [] ∷ []); order = (item.Unit 0 ∷ item.Unit 1 ∷ []) }

-- a range with no name before it
--
--     subroutine s(x, a, b)
--       integer, intent(inout) :: x
--       integer, intent(inout) :: a(3), b(3,3)
--       call t(1:2)
--     end subroutine s
--     subroutine t(y)
--       integer, intent(in) :: y(:)
--     end subroutine t
abbrev pub range_as_argument : Program
range_as_argument = record { modules = []; units = (subroutine (codes "s") (place 1 12) (named (codes "x") (place 1 14) ∷ named (codes "a") (place 1 17) ∷ named (codes "b") (place 1 20) ∷ []) [] (dummy (codes "x") (place 2 29) InOut ∷ declaration (codes "a") (place 3 29) I4 (Some InOut) (record { lower = None; upper = (Some (Numeral 3 None (place 3 31))) } ∷ []) None ∷ declaration (codes "b") (place 3 35) I4 (Some InOut) (record { lower = None; upper = (Some (Numeral 3 None (place 3 37))) } ∷ record { lower = None; upper = (Some (Numeral 3 None (place 3 39))) } ∷ []) None ∷ []) (call_to (codes "t") (place 4 3) (place 4 8) (Section (Bounded (Numeral 1 None (place 4 10))) (Bounded (Numeral 2 None (place 4 12))) (place 4 10) No_more) ∷ []) ∷ subroutine (codes "t") (place 6 12) (named (codes "y") (place 6 14) ∷ []) [] (declaration (codes "y") (place 7 26) I4 (Some In) (record { lower = None; upper = None } ∷ []) None ∷ []) [] ∷ []); order = (item.Unit 0 ∷ item.Unit 1 ∷ []) }

-- SUM of a scalar, at its name
--
--     subroutine s(x, a, b)
--       integer, intent(inout) :: x
--       integer, intent(inout) :: a(3), b(3,3)
--       x = sum(x)
--     end subroutine s
abbrev pub sum_of_scalar : Program
sum_of_scalar = record { modules = []; units = (subroutine (codes "s") (place 1 12) (named (codes "x") (place 1 14) ∷ named (codes "a") (place 1 17) ∷ named (codes "b") (place 1 20) ∷ []) [] (dummy (codes "x") (place 2 29) InOut ∷ declaration (codes "a") (place 3 29) I4 (Some InOut) (record { lower = None; upper = (Some (Numeral 3 None (place 3 31))) } ∷ []) None ∷ declaration (codes "b") (place 3 35) I4 (Some InOut) (record { lower = None; upper = (Some (Numeral 3 None (place 3 37))) } ∷ record { lower = None; upper = (Some (Numeral 3 None (place 3 39))) } ∷ []) None ∷ []) (Assign (place 4 3) (Name (codes "x") (place 4 3)) (Reference (codes "sum") (One (Name (codes "x") (place 4 11)) No_more) (place 4 7)) ∷ []) ∷ []); order = (item.Unit 0 ∷ []) }

-- SIZE of an array of rank 2 without a dimension
--
--     subroutine s(x, a, b)
--       integer, intent(inout) :: x
--       integer, intent(inout) :: a(3), b(3,3)
--       x = size(b)
--     end subroutine s
abbrev pub size_without_dimension : Program
size_without_dimension = record { modules = []; units = (subroutine (codes "s") (place 1 12) (named (codes "x") (place 1 14) ∷ named (codes "a") (place 1 17) ∷ named (codes "b") (place 1 20) ∷ []) [] (dummy (codes "x") (place 2 29) InOut ∷ declaration (codes "a") (place 3 29) I4 (Some InOut) (record { lower = None; upper = (Some (Numeral 3 None (place 3 31))) } ∷ []) None ∷ declaration (codes "b") (place 3 35) I4 (Some InOut) (record { lower = None; upper = (Some (Numeral 3 None (place 3 37))) } ∷ record { lower = None; upper = (Some (Numeral 3 None (place 3 39))) } ∷ []) None ∷ []) (Assign (place 4 3) (Name (codes "x") (place 4 3)) (Reference (codes "size") (One (Name (codes "b") (place 4 12)) No_more) (place 4 7)) ∷ []) ∷ []); order = (item.Unit 0 ∷ []) }

-- SIZE in a dimension that isn't there
--
--     subroutine s(x, a, b)
--       integer, intent(inout) :: x
--       integer, intent(inout) :: a(3), b(3,3)
--       x = size(b,3)
--     end subroutine s
abbrev pub size_of_third : Program
size_of_third = record { modules = []; units = (subroutine (codes "s") (place 1 12) (named (codes "x") (place 1 14) ∷ named (codes "a") (place 1 17) ∷ named (codes "b") (place 1 20) ∷ []) [] (dummy (codes "x") (place 2 29) InOut ∷ declaration (codes "a") (place 3 29) I4 (Some InOut) (record { lower = None; upper = (Some (Numeral 3 None (place 3 31))) } ∷ []) None ∷ declaration (codes "b") (place 3 35) I4 (Some InOut) (record { lower = None; upper = (Some (Numeral 3 None (place 3 37))) } ∷ record { lower = None; upper = (Some (Numeral 3 None (place 3 39))) } ∷ []) None ∷ []) (Assign (place 4 3) (Name (codes "x") (place 4 3)) (Reference (codes "size") (One (Name (codes "b") (place 4 12)) (One (Numeral 3 None (place 4 14)) No_more)) (place 4 7)) ∷ []) ∷ []); order = (item.Unit 0 ∷ []) }

-- SIZE in one that is
--
--     subroutine s(x, a, b)
--       integer, intent(inout) :: x
--       integer, intent(inout) :: a(3), b(3,3)
--       x = size(b,2)+size(a)
--     end subroutine s
abbrev pub size_of_second : Program
size_of_second = record { modules = []; units = (subroutine (codes "s") (place 1 12) (named (codes "x") (place 1 14) ∷ named (codes "a") (place 1 17) ∷ named (codes "b") (place 1 20) ∷ []) [] (dummy (codes "x") (place 2 29) InOut ∷ declaration (codes "a") (place 3 29) I4 (Some InOut) (record { lower = None; upper = (Some (Numeral 3 None (place 3 31))) } ∷ []) None ∷ declaration (codes "b") (place 3 35) I4 (Some InOut) (record { lower = None; upper = (Some (Numeral 3 None (place 3 37))) } ∷ record { lower = None; upper = (Some (Numeral 3 None (place 3 39))) } ∷ []) None ∷ []) (Assign (place 4 3) (Name (codes "x") (place 4 3)) (Binary Add (Reference (codes "size") (One (Name (codes "b") (place 4 12)) (One (Numeral 2 None (place 4 14)) No_more)) (place 4 7)) (Reference (codes "size") (One (Name (codes "a") (place 4 22)) No_more) (place 4 17))) ∷ []) ∷ []); order = (item.Unit 0 ∷ []) }

-- rank above a source's limit
--
--     subroutine s(q)
--       integer, intent(inout) :: q(1,1,1,1)
--       q(1,1,1,1) = 1
--     end subroutine s
abbrev pub rank_4 : Program
rank_4 = record { modules = []; units = (subroutine (codes "s") (place 1 12) (named (codes "q") (place 1 14) ∷ []) [] (declaration (codes "q") (place 2 29) I4 (Some InOut) (record { lower = None; upper = (Some (Numeral 1 None (place 2 31))) } ∷ record { lower = None; upper = (Some (Numeral 1 None (place 2 33))) } ∷ record { lower = None; upper = (Some (Numeral 1 None (place 2 35))) } ∷ record { lower = None; upper = (Some (Numeral 1 None (place 2 37))) } ∷ []) None ∷ []) (Assign (place 3 3) (Reference (codes "q") (One (Numeral 1 None (place 3 5)) (One (Numeral 1 None (place 3 7)) (One (Numeral 1 None (place 3 9)) (One (Numeral 1 None (place 3 11)) No_more)))) (place 3 3)) (Numeral 1 None (place 3 16)) ∷ []) ∷ []); order = (item.Unit 0 ∷ []) }

-- and just at a target text's
--
--     subroutine s(q)
--       integer, intent(inout) :: q(1,1,1,1,1)
--       q(1,1,1,1,1) = 1
--     end subroutine s
abbrev pub rank_5_in_target : Program
rank_5_in_target = record { modules = []; units = (subroutine (codes "s") (place 1 12) (named (codes "q") (place 1 14) ∷ []) [] (declaration (codes "q") (place 2 29) I4 (Some InOut) (record { lower = None; upper = (Some (Numeral 1 None (place 2 31))) } ∷ record { lower = None; upper = (Some (Numeral 1 None (place 2 33))) } ∷ record { lower = None; upper = (Some (Numeral 1 None (place 2 35))) } ∷ record { lower = None; upper = (Some (Numeral 1 None (place 2 37))) } ∷ record { lower = None; upper = (Some (Numeral 1 None (place 2 39))) } ∷ []) None ∷ []) (Assign (place 3 3) (Reference (codes "q") (One (Numeral 1 None (place 3 5)) (One (Numeral 1 None (place 3 7)) (One (Numeral 1 None (place 3 9)) (One (Numeral 1 None (place 3 11)) (One (Numeral 1 None (place 3 13)) No_more))))) (place 3 3)) (Numeral 1 None (place 3 18)) ∷ []) ∷ []); order = (item.Unit 0 ∷ []) }

-- and past that
--
--     subroutine s(q)
--       integer, intent(inout) :: q(1,1,1,1,1,1)
--       q(1,1,1,1,1,1) = 1
--     end subroutine s
abbrev pub rank_6_in_target : Program
rank_6_in_target = record { modules = []; units = (subroutine (codes "s") (place 1 12) (named (codes "q") (place 1 14) ∷ []) [] (declaration (codes "q") (place 2 29) I4 (Some InOut) (record { lower = None; upper = (Some (Numeral 1 None (place 2 31))) } ∷ record { lower = None; upper = (Some (Numeral 1 None (place 2 33))) } ∷ record { lower = None; upper = (Some (Numeral 1 None (place 2 35))) } ∷ record { lower = None; upper = (Some (Numeral 1 None (place 2 37))) } ∷ record { lower = None; upper = (Some (Numeral 1 None (place 2 39))) } ∷ record { lower = None; upper = (Some (Numeral 1 None (place 2 41))) } ∷ []) None ∷ []) (Assign (place 3 3) (Reference (codes "q") (One (Numeral 1 None (place 3 5)) (One (Numeral 1 None (place 3 7)) (One (Numeral 1 None (place 3 9)) (One (Numeral 1 None (place 3 11)) (One (Numeral 1 None (place 3 13)) (One (Numeral 1 None (place 3 15)) No_more)))))) (place 3 3)) (Numeral 1 None (place 3 20)) ∷ []) ∷ []); order = (item.Unit 0 ∷ []) }

-- an assumed shape on a local
--
--     subroutine s
--       integer :: q(:)
--       q = 1
--     end subroutine s
abbrev pub assumed_local : Program
assumed_local = record { modules = []; units = (subroutine (codes "s") (place 1 12) [] [] (declaration (codes "q") (place 2 14) I4 None (record { lower = None; upper = None } ∷ []) None ∷ []) (Assign (place 3 3) (Name (codes "q") (place 3 3)) (Numeral 1 None (place 3 7)) ∷ []) ∷ []); order = (item.Unit 0 ∷ []) }

-- an assumed shape beside a dimension with an upper bound
--
--     subroutine s(q)
--       integer, intent(inout) :: q(:,3)
--       q = 1
--     end subroutine s
abbrev pub assumed_beside_explicit : Program
assumed_beside_explicit = record { modules = []; units = (subroutine (codes "s") (place 1 12) (named (codes "q") (place 1 14) ∷ []) [] (declaration (codes "q") (place 2 29) I4 (Some InOut) (record { lower = None; upper = None } ∷ record { lower = None; upper = (Some (Numeral 3 None (place 2 33))) } ∷ []) None ∷ []) (Assign (place 3 3) (Name (codes "q") (place 3 3)) (Numeral 1 None (place 3 7)) ∷ []) ∷ []); order = (item.Unit 0 ∷ []) }

-- a function's result that isn't scalar
--
--     function f(a) result(r)
--       integer, intent(in) :: a
--       integer :: r(3)
--       r = a
--     end function f
abbrev pub array_result : Program
array_result = record { modules = []; units = (function (codes "f") (place 1 10) (named (codes "a") (place 1 12) ∷ []) (named (codes "r") (place 1 22)) [] (dummy (codes "a") (place 2 26) In ∷ declaration (codes "r") (place 3 14) I4 None (record { lower = None; upper = (Some (Numeral 3 None (place 3 16))) } ∷ []) None ∷ []) (Assign (place 4 3) (Name (codes "r") (place 4 3)) (Name (codes "a") (place 4 7)) ∷ []) ∷ []); order = (item.Unit 0 ∷ []) }

-- an array in a DO's head
--
--     subroutine s(x, a, b)
--       integer, intent(inout) :: x
--       integer :: k
--       integer, intent(inout) :: a(3), b(3,3)
--       do k = 1, a
--       end do
--     end subroutine s
abbrev pub array_in_head : Program
array_in_head = record { modules = []; units = (subroutine (codes "s") (place 1 12) (named (codes "x") (place 1 14) ∷ named (codes "a") (place 1 17) ∷ named (codes "b") (place 1 20) ∷ []) [] (dummy (codes "x") (place 2 29) InOut ∷ local (codes "k") (place 3 14) ∷ declaration (codes "a") (place 4 29) I4 (Some InOut) (record { lower = None; upper = (Some (Numeral 3 None (place 4 31))) } ∷ []) None ∷ declaration (codes "b") (place 4 35) I4 (Some InOut) (record { lower = None; upper = (Some (Numeral 3 None (place 4 37))) } ∷ record { lower = None; upper = (Some (Numeral 3 None (place 4 39))) } ∷ []) None ∷ []) (Do (place 5 3) (record { variable = codes "k"; at = (place 5 6); from = Numeral 1 None (place 5 10); to = Name (codes "a") (place 5 13); step = None }) (statements []) None ∷ []) ∷ []); order = (item.Unit 0 ∷ []) }

-- an array as a section's bound
--
--     subroutine s(x, a, b)
--       integer, intent(inout) :: x
--       integer, intent(inout) :: a(3), b(3,3)
--       a(a:) = 1
--     end subroutine s
abbrev pub array_section_bound : Program
array_section_bound = record { modules = []; units = (subroutine (codes "s") (place 1 12) (named (codes "x") (place 1 14) ∷ named (codes "a") (place 1 17) ∷ named (codes "b") (place 1 20) ∷ []) [] (dummy (codes "x") (place 2 29) InOut ∷ declaration (codes "a") (place 3 29) I4 (Some InOut) (record { lower = None; upper = (Some (Numeral 3 None (place 3 31))) } ∷ []) None ∷ declaration (codes "b") (place 3 35) I4 (Some InOut) (record { lower = None; upper = (Some (Numeral 3 None (place 3 37))) } ∷ record { lower = None; upper = (Some (Numeral 3 None (place 3 39))) } ∷ []) None ∷ []) (Assign (place 4 3) (Reference (codes "a") (Section (Bounded (Name (codes "a") (place 4 5))) Unbounded (place 4 5) No_more) (place 4 3)) (Numeral 1 None (place 4 11)) ∷ []) ∷ []); order = (item.Unit 0 ∷ []) }

-- a range as an argument of an intrinsic
--
--     subroutine s(x, a, b)
--       integer, intent(inout) :: x
--       integer, intent(inout) :: a(3), b(3,3)
--       x = max(1:2, x)
--     end subroutine s
abbrev pub range_of_intrinsic : Program
range_of_intrinsic = record { modules = []; units = (subroutine (codes "s") (place 1 12) (named (codes "x") (place 1 14) ∷ named (codes "a") (place 1 17) ∷ named (codes "b") (place 1 20) ∷ []) [] (dummy (codes "x") (place 2 29) InOut ∷ declaration (codes "a") (place 3 29) I4 (Some InOut) (record { lower = None; upper = (Some (Numeral 3 None (place 3 31))) } ∷ []) None ∷ declaration (codes "b") (place 3 35) I4 (Some InOut) (record { lower = None; upper = (Some (Numeral 3 None (place 3 37))) } ∷ record { lower = None; upper = (Some (Numeral 3 None (place 3 39))) } ∷ []) None ∷ []) (Assign (place 4 3) (Name (codes "x") (place 4 3)) (Reference (codes "max") (Section (Bounded (Numeral 1 None (place 4 11))) (Bounded (Numeral 2 None (place 4 13))) (place 4 11) (One (Name (codes "x") (place 4 16)) No_more)) (place 4 7)) ∷ []) ∷ []); order = (item.Unit 0 ∷ []) }

-- an array for a scalar dummy of a function
--
--     subroutine s(x, a, b)
--       integer, intent(inout) :: x
--       integer, intent(inout) :: a(3), b(3,3)
--       x = f(a)
--     end subroutine s
--     integer function f(y)
--       integer, intent(in) :: y
--       f = y
--     end function f
abbrev pub array_to_function : Program
array_to_function = record { modules = []; units = (subroutine (codes "s") (place 1 12) (named (codes "x") (place 1 14) ∷ named (codes "a") (place 1 17) ∷ named (codes "b") (place 1 20) ∷ []) [] (dummy (codes "x") (place 2 29) InOut ∷ declaration (codes "a") (place 3 29) I4 (Some InOut) (record { lower = None; upper = (Some (Numeral 3 None (place 3 31))) } ∷ []) None ∷ declaration (codes "b") (place 3 35) I4 (Some InOut) (record { lower = None; upper = (Some (Numeral 3 None (place 3 37))) } ∷ record { lower = None; upper = (Some (Numeral 3 None (place 3 39))) } ∷ []) None ∷ []) (Assign (place 4 3) (Name (codes "x") (place 4 3)) (Reference (codes "f") (One (Name (codes "a") (place 4 9)) No_more) (place 4 7)) ∷ []) ∷ function (codes "f") (place 6 18) (named (codes "y") (place 6 20) ∷ []) (named (codes "f") (place 6 18)) [] (declaration (codes "f") (place 6 1) I4 None [] None ∷ dummy (codes "y") (place 7 26) In ∷ []) (Assign (place 8 3) (Name (codes "f") (place 8 3)) (Name (codes "y") (place 8 7)) ∷ []) ∷ []); order = (item.Unit 0 ∷ item.Unit 1 ∷ []) }

-- a scalar right side spreads
--
--     subroutine s(x, a, b)
--       integer, intent(inout) :: x
--       integer, intent(inout) :: a(3), b(3,3)
--       a = x
--     end subroutine s
abbrev pub scalar_spreads : Program
scalar_spreads = record { modules = []; units = (subroutine (codes "s") (place 1 12) (named (codes "x") (place 1 14) ∷ named (codes "a") (place 1 17) ∷ named (codes "b") (place 1 20) ∷ []) [] (dummy (codes "x") (place 2 29) InOut ∷ declaration (codes "a") (place 3 29) I4 (Some InOut) (record { lower = None; upper = (Some (Numeral 3 None (place 3 31))) } ∷ []) None ∷ declaration (codes "b") (place 3 35) I4 (Some InOut) (record { lower = None; upper = (Some (Numeral 3 None (place 3 37))) } ∷ record { lower = None; upper = (Some (Numeral 3 None (place 3 39))) } ∷ []) None ∷ []) (Assign (place 4 3) (Name (codes "a") (place 4 3)) (Name (codes "x") (place 4 7)) ∷ []) ∷ []); order = (item.Unit 0 ∷ []) }

-- what they show
pub record RankRows : Type 0 where
  pub wrong_subscripts_is_found : HasOnly Source wrong_subscripts E33 (place 4 7)
  pub array_to_scalar_is_found : HasOnly Source array_to_scalar E33 (place 4 7)
  pub array_as_test_is_found : HasOnly Source array_as_test E33 (place 4 7)
  pub array_as_subscript_is_found : HasOnly Source array_as_subscript E33 (place 4 9)
  pub ranks_differ_is_found : HasOnly Source ranks_differ E33 (place 4 9)
  pub section_of_rank_1_is_sound : HasNone Source section_of_rank_1
  pub ranks_differ_in_sum_is_found : HasOnly Source ranks_differ_in_sum E33 (place 4 13)
  pub arrays_under_sum_is_sound : HasNone Source arrays_under_sum
  pub elemental_arguments_is_found : HasOnly Source elemental_arguments E33 (place 4 14)
  pub actual_of_other_rank_is_found : HasOnly Source actual_of_other_rank E33 (place 4 10)
  pub computed_array_actual_is_found : HasOnly Source computed_array_actual E33 (place 4 10)
  pub section_actual_is_sound : HasNone Source section_actual
  pub range_as_argument_is_found : HasOnly Source range_as_argument E33 (place 4 10)
  pub sum_of_scalar_is_found : HasOnly Source sum_of_scalar E33 (place 4 7)
  pub size_without_dimension_is_found : HasOnly Source size_without_dimension E33 (place 4 7)
  pub size_of_third_is_found : HasOnly Source size_of_third E33 (place 4 7)
  pub size_of_second_is_sound : HasNone Source size_of_second
  pub rank_4_is_found : HasOnly Source rank_4 E33 (place 2 29)
  pub rank_5_in_target_is_sound : HasNone Target rank_5_in_target
  pub rank_6_in_target_is_found : HasOnly Target rank_6_in_target E33 (place 2 29)
  pub assumed_local_is_found : HasOnly Source assumed_local E33 (place 2 14)
  pub assumed_beside_explicit_is_found : HasOnly Source assumed_beside_explicit E33 (place 2 29)
  pub array_result_is_found : HasOnly Source array_result E33 (place 3 14)
  pub array_in_head_is_found : HasOnly Source array_in_head E33 (place 5 13)
  pub array_section_bound_is_found : HasOnly Source array_section_bound E33 (place 4 5)
  pub range_of_intrinsic_is_found : HasOnly Source range_of_intrinsic E33 (place 4 11)
  pub array_to_function_is_found : HasOnly Source array_to_function E33 (place 4 9)
  pub scalar_spreads_is_sound : HasNone Source scalar_spreads
