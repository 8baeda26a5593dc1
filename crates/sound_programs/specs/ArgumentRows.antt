-- Small programs with and without faults of arguments and writes: each is the least that shows a clause of a rule, or its neighbour.
use Rattle.std.specs.Prelude.{[], ◌∷◌, codes, Some, None, true}
use Rattle.fort_arith.specs.declared.kind.Kind.TheVariants.{I4}
use Rattle.fort_arith.specs.declared.op.Op.TheVariants.{Gt, And}
use Rattle.fort_tree.specs.declared.unit.Intent.TheVariants.{In, Out, InOut}
use Rattle.fort_tree.specs.declared.choice.Mode.TheVariants.{Source}
use Rattle.fort_tree.specs.declared.fault.Code.TheVariants.{E37, E38, E3A}
use Rattle.fort_tree.specs.declared.unit.Item.TheVariants as item
use Rattle.sound_programs.specs.Placed.{Numeral, Boolean, Name, Reference, Binary, Paren, No_more, One, Assign, If, No_arm, Arm, Nothing_else, Program}
use Rattle.sound_programs.specs.SmallPrograms.{place, named, declaration, local, dummy, statements, subroutine, function, inside, module_of, call_to}
use Rattle.sound_programs.specs.Rows.{HasNone, HasOnly}

-- a CALL with an argument too few
--
--     subroutine s(x, y)
--       integer, intent(inout) :: x, y
--       call t(x)
--     end subroutine s
--     subroutine t(y, z)
--       integer, intent(in) :: y
--       integer, intent(out) :: z
--       z = y
--     end subroutine t
abbrev pub argument_left_out : Program
argument_left_out = record { modules = []; units = (subroutine (codes "s") (place 1 12) (named (codes "x") (place 1 14) ∷ named (codes "y") (place 1 17) ∷ []) [] (dummy (codes "x") (place 2 29) InOut ∷ dummy (codes "y") (place 2 32) InOut ∷ []) (call_to (codes "t") (place 3 3) (place 3 8) (One (Name (codes "x") (place 3 10)) No_more) ∷ []) ∷ subroutine (codes "t") (place 5 12) (named (codes "y") (place 5 14) ∷ named (codes "z") (place 5 17) ∷ []) [] (dummy (codes "y") (place 6 26) In ∷ dummy (codes "z") (place 7 27) Out ∷ []) (Assign (place 8 3) (Name (codes "z") (place 8 3)) (Name (codes "y") (place 8 7)) ∷ []) ∷ []); order = (item.Unit 0 ∷ item.Unit 1 ∷ []) }

-- ABS of two arguments
--
--     subroutine s(x, y)
--       integer, intent(inout) :: x, y
--       x = abs(x, y)
--     end subroutine s
abbrev pub abs_of_two : Program
abs_of_two = record { modules = []; units = (subroutine (codes "s") (place 1 12) (named (codes "x") (place 1 14) ∷ named (codes "y") (place 1 17) ∷ []) [] (dummy (codes "x") (place 2 29) InOut ∷ dummy (codes "y") (place 2 32) InOut ∷ []) (Assign (place 3 3) (Name (codes "x") (place 3 3)) (Reference (codes "abs") (One (Name (codes "x") (place 3 11)) (One (Name (codes "y") (place 3 14)) No_more)) (place 3 7)) ∷ []) ∷ []); order = (item.Unit 0 ∷ []) }

-- MAX of one
--
--     subroutine s(x, y)
--       integer, intent(inout) :: x, y
--       x = max(x)
--     end subroutine s
abbrev pub max_of_one : Program
max_of_one = record { modules = []; units = (subroutine (codes "s") (place 1 12) (named (codes "x") (place 1 14) ∷ named (codes "y") (place 1 17) ∷ []) [] (dummy (codes "x") (place 2 29) InOut ∷ dummy (codes "y") (place 2 32) InOut ∷ []) (Assign (place 3 3) (Name (codes "x") (place 3 3)) (Reference (codes "max") (One (Name (codes "x") (place 3 11)) No_more) (place 3 7)) ∷ []) ∷ []); order = (item.Unit 0 ∷ []) }

-- ABS of none leaves its kind open
--
--     subroutine s(x, y)
--       integer, intent(inout) :: x, y
--       if (abs() > 1 .and. .true.) x = 1
--     end subroutine s
abbrev pub abs_of_none : Program
abs_of_none = record { modules = []; units = (subroutine (codes "s") (place 1 12) (named (codes "x") (place 1 14) ∷ named (codes "y") (place 1 17) ∷ []) [] (dummy (codes "x") (place 2 29) InOut ∷ dummy (codes "y") (place 2 32) InOut ∷ []) (If (place 3 3) (Arm (Binary And (Binary Gt (Reference (codes "abs") No_more (place 3 7)) (Numeral 1 None (place 3 15))) (Boolean true (place 3 23))) (statements (Assign (place 3 31) (Name (codes "x") (place 3 31)) (Numeral 1 None (place 3 35)) ∷ [])) No_arm) Nothing_else ∷ []) ∷ []); order = (item.Unit 0 ∷ []) }

-- one variable for INTENT(IN) and OUT: the later actual
--
--     subroutine s(x, y)
--       integer, intent(inout) :: x, y
--       call t(x, x)
--     end subroutine s
--     subroutine t(y, z)
--       integer, intent(in) :: y
--       integer, intent(out) :: z
--       z = y
--     end subroutine t
abbrev pub one_variable_twice : Program
one_variable_twice = record { modules = []; units = (subroutine (codes "s") (place 1 12) (named (codes "x") (place 1 14) ∷ named (codes "y") (place 1 17) ∷ []) [] (dummy (codes "x") (place 2 29) InOut ∷ dummy (codes "y") (place 2 32) InOut ∷ []) (call_to (codes "t") (place 3 3) (place 3 8) (One (Name (codes "x") (place 3 10)) (One (Name (codes "x") (place 3 13)) No_more)) ∷ []) ∷ subroutine (codes "t") (place 5 12) (named (codes "y") (place 5 14) ∷ named (codes "z") (place 5 17) ∷ []) [] (dummy (codes "y") (place 6 26) In ∷ dummy (codes "z") (place 7 27) Out ∷ []) (Assign (place 8 3) (Name (codes "z") (place 8 3)) (Name (codes "y") (place 8 7)) ∷ []) ∷ []); order = (item.Unit 0 ∷ item.Unit 1 ∷ []) }

-- in parentheses it is a value
--
--     subroutine s(x, y)
--       integer, intent(inout) :: x, y
--       call t((x), x)
--     end subroutine s
--     subroutine t(y, z)
--       integer, intent(in) :: y
--       integer, intent(out) :: z
--       z = y
--     end subroutine t
abbrev pub value_and_variable : Program
value_and_variable = record { modules = []; units = (subroutine (codes "s") (place 1 12) (named (codes "x") (place 1 14) ∷ named (codes "y") (place 1 17) ∷ []) [] (dummy (codes "x") (place 2 29) InOut ∷ dummy (codes "y") (place 2 32) InOut ∷ []) (call_to (codes "t") (place 3 3) (place 3 8) (One (Paren (Name (codes "x") (place 3 11)) (place 3 10)) (One (Name (codes "x") (place 3 15)) No_more)) ∷ []) ∷ subroutine (codes "t") (place 5 12) (named (codes "y") (place 5 14) ∷ named (codes "z") (place 5 17) ∷ []) [] (dummy (codes "y") (place 6 26) In ∷ dummy (codes "z") (place 7 27) Out ∷ []) (Assign (place 8 3) (Name (codes "z") (place 8 3)) (Name (codes "y") (place 8 7)) ∷ []) ∷ []); order = (item.Unit 0 ∷ item.Unit 1 ∷ []) }

-- a variable in the subscript of another actual is no reference to it
--
--     subroutine s(x, q)
--       integer, intent(inout) :: x, q(3)
--       call t(q(x), x)
--     end subroutine s
--     subroutine t(y, z)
--       integer, intent(in) :: y
--       integer, intent(out) :: z
--       z = y
--     end subroutine t
abbrev pub subscript_and_variable : Program
subscript_and_variable = record { modules = []; units = (subroutine (codes "s") (place 1 12) (named (codes "x") (place 1 14) ∷ named (codes "q") (place 1 17) ∷ []) [] (dummy (codes "x") (place 2 29) InOut ∷ declaration (codes "q") (place 2 32) I4 (Some InOut) (record { lower = None; upper = (Some (Numeral 3 None (place 2 34))) } ∷ []) None ∷ []) (call_to (codes "t") (place 3 3) (place 3 8) (One (Reference (codes "q") (One (Name (codes "x") (place 3 12)) No_more) (place 3 10)) (One (Name (codes "x") (place 3 16)) No_more)) ∷ []) ∷ subroutine (codes "t") (place 5 12) (named (codes "y") (place 5 14) ∷ named (codes "z") (place 5 17) ∷ []) [] (dummy (codes "y") (place 6 26) In ∷ dummy (codes "z") (place 7 27) Out ∷ []) (Assign (place 8 3) (Name (codes "z") (place 8 3)) (Name (codes "y") (place 8 7)) ∷ []) ∷ []); order = (item.Unit 0 ∷ item.Unit 1 ∷ []) }

-- all elements of an array are one variable
--
--     subroutine s(q)
--       integer, intent(inout) :: q(3)
--       call t(q(1), q(2))
--     end subroutine s
--     subroutine t(y, z)
--       integer, intent(in) :: y
--       integer, intent(out) :: z
--       z = y
--     end subroutine t
abbrev pub two_elements : Program
two_elements = record { modules = []; units = (subroutine (codes "s") (place 1 12) (named (codes "q") (place 1 14) ∷ []) [] (declaration (codes "q") (place 2 29) I4 (Some InOut) (record { lower = None; upper = (Some (Numeral 3 None (place 2 31))) } ∷ []) None ∷ []) (call_to (codes "t") (place 3 3) (place 3 8) (One (Reference (codes "q") (One (Numeral 1 None (place 3 12)) No_more) (place 3 10)) (One (Reference (codes "q") (One (Numeral 2 None (place 3 18)) No_more) (place 3 16)) No_more)) ∷ []) ∷ subroutine (codes "t") (place 5 12) (named (codes "y") (place 5 14) ∷ named (codes "z") (place 5 17) ∷ []) [] (dummy (codes "y") (place 6 26) In ∷ dummy (codes "z") (place 7 27) Out ∷ []) (Assign (place 8 3) (Name (codes "z") (place 8 3)) (Name (codes "y") (place 8 7)) ∷ []) ∷ []); order = (item.Unit 0 ∷ item.Unit 1 ∷ []) }

-- a module variable for OUT that the called unit names
--
--     module m
--       integer :: v
--     contains
--       subroutine s
--         call t(v)
--       end subroutine s
--       subroutine t(z)
--         integer, intent(out) :: z
--         z = v
--       end subroutine t
--     end module m
abbrev pub module_variable_named_behind : Program
module_variable_named_behind = record { modules = (module_of (codes "m") (place 1 8) [] (local (codes "v") (place 2 14) ∷ []) ∷ []); units = (inside 0 (subroutine (codes "s") (place 4 14) [] [] [] (call_to (codes "t") (place 5 5) (place 5 10) (One (Name (codes "v") (place 5 12)) No_more) ∷ [])) ∷ inside 0 (subroutine (codes "t") (place 7 14) (named (codes "z") (place 7 16) ∷ []) [] (dummy (codes "z") (place 8 29) Out ∷ []) (Assign (place 9 5) (Name (codes "z") (place 9 5)) (Name (codes "v") (place 9 9)) ∷ [])) ∷ []); order = (item.Module 0 ∷ []) }

-- and one that it doesn't
--
--     module m
--       integer :: v
--     contains
--       subroutine s
--         call t(v)
--       end subroutine s
--       subroutine t(z)
--         integer, intent(out) :: z
--         z = 1
--       end subroutine t
--     end module m
abbrev pub module_variable_not_named : Program
module_variable_not_named = record { modules = (module_of (codes "m") (place 1 8) [] (local (codes "v") (place 2 14) ∷ []) ∷ []); units = (inside 0 (subroutine (codes "s") (place 4 14) [] [] [] (call_to (codes "t") (place 5 5) (place 5 10) (One (Name (codes "v") (place 5 12)) No_more) ∷ [])) ∷ inside 0 (subroutine (codes "t") (place 7 14) (named (codes "z") (place 7 16) ∷ []) [] (dummy (codes "z") (place 8 29) Out ∷ []) (Assign (place 9 5) (Name (codes "z") (place 9 5)) (Numeral 1 None (place 9 9)) ∷ [])) ∷ []); order = (item.Module 0 ∷ []) }

-- an INTENT(IN) dummy that is assigned
--
--     subroutine s(x)
--       integer, intent(in) :: x
--       x = 1
--     end subroutine s
abbrev pub in_dummy_assigned : Program
in_dummy_assigned = record { modules = []; units = (subroutine (codes "s") (place 1 12) (named (codes "x") (place 1 14) ∷ []) [] (dummy (codes "x") (place 2 26) In ∷ []) (Assign (place 3 3) (Name (codes "x") (place 3 3)) (Numeral 1 None (place 3 7)) ∷ []) ∷ []); order = (item.Unit 0 ∷ []) }

-- a PARAMETER that is assigned
--
--     subroutine s
--       integer, parameter :: p = 1
--       p = 1
--     end subroutine s
abbrev pub constant_assigned : Program
constant_assigned = record { modules = []; units = (subroutine (codes "s") (place 1 12) [] [] (declaration (codes "p") (place 2 25) I4 None [] (Some (Numeral 1 None (place 2 29))) ∷ []) (Assign (place 3 3) (Name (codes "p") (place 3 3)) (Numeral 1 None (place 3 7)) ∷ []) ∷ []); order = (item.Unit 0 ∷ []) }

-- an actual for OUT that is no variable
--
--     subroutine s(x, y)
--       integer, intent(inout) :: x, y
--       call t(x, (y))
--     end subroutine s
--     subroutine t(y, z)
--       integer, intent(in) :: y
--       integer, intent(out) :: z
--       z = y
--     end subroutine t
abbrev pub value_for_out : Program
value_for_out = record { modules = []; units = (subroutine (codes "s") (place 1 12) (named (codes "x") (place 1 14) ∷ named (codes "y") (place 1 17) ∷ []) [] (dummy (codes "x") (place 2 29) InOut ∷ dummy (codes "y") (place 2 32) InOut ∷ []) (call_to (codes "t") (place 3 3) (place 3 8) (One (Name (codes "x") (place 3 10)) (One (Paren (Name (codes "y") (place 3 14)) (place 3 13)) No_more)) ∷ []) ∷ subroutine (codes "t") (place 5 12) (named (codes "y") (place 5 14) ∷ named (codes "z") (place 5 17) ∷ []) [] (dummy (codes "y") (place 6 26) In ∷ dummy (codes "z") (place 7 27) Out ∷ []) (Assign (place 8 3) (Name (codes "z") (place 8 3)) (Name (codes "y") (place 8 7)) ∷ []) ∷ []); order = (item.Unit 0 ∷ item.Unit 1 ∷ []) }

-- an INTENT(IN) dummy for OUT
--
--     subroutine s(x, y)
--       integer, intent(in) :: x, y
--       call t(x, y)
--     end subroutine s
--     subroutine t(y, z)
--       integer, intent(in) :: y
--       integer, intent(out) :: z
--       z = y
--     end subroutine t
abbrev pub in_dummy_passed_to_out : Program
in_dummy_passed_to_out = record { modules = []; units = (subroutine (codes "s") (place 1 12) (named (codes "x") (place 1 14) ∷ named (codes "y") (place 1 17) ∷ []) [] (dummy (codes "x") (place 2 26) In ∷ dummy (codes "y") (place 2 29) In ∷ []) (call_to (codes "t") (place 3 3) (place 3 8) (One (Name (codes "x") (place 3 10)) (One (Name (codes "y") (place 3 13)) No_more)) ∷ []) ∷ subroutine (codes "t") (place 5 12) (named (codes "y") (place 5 14) ∷ named (codes "z") (place 5 17) ∷ []) [] (dummy (codes "y") (place 6 26) In ∷ dummy (codes "z") (place 7 27) Out ∷ []) (Assign (place 8 3) (Name (codes "z") (place 8 3)) (Name (codes "y") (place 8 7)) ∷ []) ∷ []); order = (item.Unit 0 ∷ item.Unit 1 ∷ []) }

-- a function with a dummy that isn't INTENT(IN)
--
--     integer function f(a)
--       integer, intent(inout) :: a
--       f = a
--     end function f
abbrev pub function_with_out : Program
function_with_out = record { modules = []; units = (function (codes "f") (place 1 18) (named (codes "a") (place 1 20) ∷ []) (named (codes "f") (place 1 18)) [] (declaration (codes "f") (place 1 1) I4 None [] None ∷ dummy (codes "a") (place 2 29) InOut ∷ []) (Assign (place 3 3) (Name (codes "f") (place 3 3)) (Name (codes "a") (place 3 7)) ∷ []) ∷ []); order = (item.Unit 0 ∷ []) }

-- a function that reaches a unit which writes a module variable
--
--     module m
--       integer :: v
--     contains
--       integer function f(a)
--         integer, intent(in) :: a
--         call t
--         f = a
--       end function f
--       subroutine t
--         v = 1
--       end subroutine t
--     end module m
abbrev pub function_writes_module : Program
function_writes_module = record { modules = (module_of (codes "m") (place 1 8) [] (local (codes "v") (place 2 14) ∷ []) ∷ []); units = (inside 0 (function (codes "f") (place 4 20) (named (codes "a") (place 4 22) ∷ []) (named (codes "f") (place 4 20)) [] (declaration (codes "f") (place 4 3) I4 None [] None ∷ dummy (codes "a") (place 5 28) In ∷ []) (call_to (codes "t") (place 6 5) (place 6 10) No_more ∷ Assign (place 7 5) (Name (codes "f") (place 7 5)) (Name (codes "a") (place 7 9)) ∷ [])) ∷ inside 0 (subroutine (codes "t") (place 9 14) [] [] [] (Assign (place 10 5) (Name (codes "v") (place 10 5)) (Numeral 1 None (place 10 9)) ∷ [])) ∷ []); order = (item.Module 0 ∷ []) }

-- a SUBROUTINE may write one
--
--     module m
--       integer :: v
--     contains
--       subroutine t
--         v = 1
--       end subroutine t
--     end module m
abbrev pub subroutine_writes_module : Program
subroutine_writes_module = record { modules = (module_of (codes "m") (place 1 8) [] (local (codes "v") (place 2 14) ∷ []) ∷ []); units = (inside 0 (subroutine (codes "t") (place 4 14) [] [] [] (Assign (place 5 5) (Name (codes "v") (place 5 5)) (Numeral 1 None (place 5 9)) ∷ [])) ∷ []); order = (item.Module 0 ∷ []) }

-- what they show
pub record ArgumentRows : Type 0 where
  pub argument_left_out_is_found : HasOnly Source argument_left_out E37 (place 3 8)
  pub abs_of_two_is_found : HasOnly Source abs_of_two E37 (place 3 7)
  pub max_of_one_is_found : HasOnly Source max_of_one E37 (place 3 7)
  pub abs_of_none_is_found : HasOnly Source abs_of_none E37 (place 3 7)
  pub one_variable_twice_is_found : HasOnly Source one_variable_twice E38 (place 3 13)
  pub value_and_variable_is_sound : HasNone Source value_and_variable
  pub subscript_and_variable_is_sound : HasNone Source subscript_and_variable
  pub two_elements_is_found : HasOnly Source two_elements E38 (place 3 16)
  pub module_variable_named_behind_is_found : HasOnly Source module_variable_named_behind E38 (place 5 12)
  pub module_variable_not_named_is_sound : HasNone Source module_variable_not_named
  pub in_dummy_assigned_is_found : HasOnly Source in_dummy_assigned E3A (place 3 3)
  pub constant_assigned_is_found : HasOnly Source constant_assigned E3A (place 3 3)
  pub value_for_out_is_found : HasOnly Source value_for_out E3A (place 3 13)
  pub in_dummy_passed_to_out_is_found : HasOnly Source in_dummy_passed_to_out E3A (place 3 13)
  pub function_with_out_is_found : HasOnly Source function_with_out E3A (place 2 29)
  pub function_writes_module_is_found : HasOnly Source function_writes_module E3A (place 10 5)
  pub subroutine_writes_module_is_sound : HasNone Source subroutine_writes_module
