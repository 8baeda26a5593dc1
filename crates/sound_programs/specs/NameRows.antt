-- Small programs with and without faults of names: each is the least that shows a clause of a rule, or its neighbour.
use Rattle.std.specs.Prelude.{[], ◌∷◌, codes, Some, None}
use Rattle.fort_arith.specs.declared.kind.Kind.TheVariants.{I4}
use Rattle.fort_tree.specs.declared.unit.Intent.TheVariants.{In, InOut}
use Rattle.fort_tree.specs.declared.choice.Mode.TheVariants.{Source, Target}
use Rattle.fort_tree.specs.declared.fault.Code.TheVariants.{E30, E31, E32, E34, E35, E39, E3B}
use Rattle.fort_tree.specs.declared.unit.Item.TheVariants as item
use Rattle.sound_programs.specs.Placed.{Numeral, Name, Reference, No_more, One, Assign, Do, Program}
use Rattle.sound_programs.specs.SmallPrograms.{place, named, declaration, local, dummy, statements, subroutine, function, inside, module_of, use_all, use_only, call_to, parallel_do}
use Rattle.sound_programs.specs.Rows.{HasNone, HasOnly, HasAll, fault}

-- a name that is read and nowhere declared
--
--     subroutine s(x)
--       integer, intent(inout) :: x
--       x = y
--     end subroutine s
abbrev pub undeclared_variable : Program
undeclared_variable = record { modules = []; units = (subroutine (codes "s") (place 1 12) (named (codes "x") (place 1 14) ∷ []) [] (dummy (codes "x") (place 2 29) InOut ∷ []) (Assign (place 3 3) (Name (codes "x") (place 3 3)) (Name (codes "y") (place 3 7)) ∷ []) ∷ []); order = (item.Unit 0 ∷ []) }

-- its neighbour
--
--     subroutine s(x)
--       integer, intent(inout) :: x
--       x = x
--     end subroutine s
abbrev pub declared_variable : Program
declared_variable = record { modules = []; units = (subroutine (codes "s") (place 1 12) (named (codes "x") (place 1 14) ∷ []) [] (dummy (codes "x") (place 2 29) InOut ∷ []) (Assign (place 3 3) (Name (codes "x") (place 3 3)) (Name (codes "x") (place 3 7)) ∷ []) ∷ []); order = (item.Unit 0 ∷ []) }

-- a left side that names a function
--
--     subroutine s(x)
--       integer, intent(inout) :: x
--       f(1) = x
--     end subroutine s
--     integer function f(a)
--       integer, intent(in) :: a
--       f = a
--     end function f
abbrev pub assigned_function : Program
assigned_function = record { modules = []; units = (subroutine (codes "s") (place 1 12) (named (codes "x") (place 1 14) ∷ []) [] (dummy (codes "x") (place 2 29) InOut ∷ []) (Assign (place 3 3) (Reference (codes "f") (One (Numeral 1 None (place 3 5)) No_more) (place 3 3)) (Name (codes "x") (place 3 10)) ∷ []) ∷ function (codes "f") (place 5 18) (named (codes "a") (place 5 20) ∷ []) (named (codes "f") (place 5 18)) [] (declaration (codes "f") (place 5 1) I4 None [] None ∷ dummy (codes "a") (place 6 26) In ∷ []) (Assign (place 7 3) (Name (codes "f") (place 7 3)) (Name (codes "a") (place 7 7)) ∷ []) ∷ []); order = (item.Unit 0 ∷ item.Unit 1 ∷ []) }

-- a left side that names an intrinsic
--
--     subroutine s(x)
--       integer, intent(inout) :: x
--       max = 3
--     end subroutine s
abbrev pub assigned_intrinsic : Program
assigned_intrinsic = record { modules = []; units = (subroutine (codes "s") (place 1 12) (named (codes "x") (place 1 14) ∷ []) [] (dummy (codes "x") (place 2 29) InOut ∷ []) (Assign (place 3 3) (Name (codes "max") (place 3 3)) (Numeral 3 None (place 3 9)) ∷ []) ∷ []); order = (item.Unit 0 ∷ []) }

-- a name in a subscript of a left side
--
--     subroutine s(q)
--       integer, intent(inout) :: q(3)
--       q(i) = 1
--     end subroutine s
abbrev pub undeclared_in_subscript : Program
undeclared_in_subscript = record { modules = []; units = (subroutine (codes "s") (place 1 12) (named (codes "q") (place 1 14) ∷ []) [] (declaration (codes "q") (place 2 29) I4 (Some InOut) (record { lower = None; upper = (Some (Numeral 3 None (place 2 31))) } ∷ []) None ∷ []) (Assign (place 3 3) (Reference (codes "q") (One (Name (codes "i") (place 3 5)) No_more) (place 3 3)) (Numeral 1 None (place 3 10)) ∷ []) ∷ []); order = (item.Unit 0 ∷ []) }

-- a name in a bound
--
--     subroutine s(q)
--       integer, intent(inout) :: q(n)
--       q(1) = 1
--     end subroutine s
abbrev pub undeclared_bound : Program
undeclared_bound = record { modules = []; units = (subroutine (codes "s") (place 1 12) (named (codes "q") (place 1 14) ∷ []) [] (declaration (codes "q") (place 2 29) I4 (Some InOut) (record { lower = None; upper = (Some (Name (codes "n") (place 2 31))) } ∷ []) None ∷ []) (Assign (place 3 3) (Reference (codes "q") (One (Numeral 1 None (place 3 5)) No_more) (place 3 3)) (Numeral 1 None (place 3 10)) ∷ []) ∷ []); order = (item.Unit 0 ∷ []) }

-- a dummy that isn't declared
--
--     subroutine s(x, y)
--       integer, intent(inout) :: x
--       x = 1
--     end subroutine s
abbrev pub undeclared_dummy : Program
undeclared_dummy = record { modules = []; units = (subroutine (codes "s") (place 1 12) (named (codes "x") (place 1 14) ∷ named (codes "y") (place 1 17) ∷ []) [] (dummy (codes "x") (place 2 29) InOut ∷ []) (Assign (place 3 3) (Name (codes "x") (place 3 3)) (Numeral 1 None (place 3 7)) ∷ []) ∷ []); order = (item.Unit 0 ∷ []) }

-- a result that isn't declared
--
--     function f(a)
--       integer, intent(in) :: a
--     end function f
abbrev pub undeclared_result : Program
undeclared_result = record { modules = []; units = (function (codes "f") (place 1 10) (named (codes "a") (place 1 12) ∷ []) (named (codes "f") (place 1 10)) [] (dummy (codes "a") (place 2 26) In ∷ []) [] ∷ []); order = (item.Unit 0 ∷ []) }

-- a PARAMETER in a mark's private list
--
--     subroutine s(q)
--       integer, parameter :: n = 3
--       integer, intent(inout) :: q(n)
--       integer :: k
--       !$omp parallel do private(n)
--       do k = 1, n
--         q(k) = 1
--       end do
--     end subroutine s
abbrev pub constant_in_private : Program
constant_in_private = record { modules = []; units = (subroutine (codes "s") (place 1 12) (named (codes "q") (place 1 14) ∷ []) [] (declaration (codes "n") (place 2 25) I4 None [] (Some (Numeral 3 None (place 2 29))) ∷ declaration (codes "q") (place 3 29) I4 (Some InOut) (record { lower = None; upper = (Some (Name (codes "n") (place 3 31))) } ∷ []) None ∷ local (codes "k") (place 4 14) ∷ []) (Do (place 6 3) (record { variable = codes "k"; at = (place 6 6); from = Numeral 1 None (place 6 10); to = Name (codes "n") (place 6 13); step = None }) (statements (Assign (place 7 5) (Reference (codes "q") (One (Name (codes "k") (place 7 7)) No_more) (place 7 5)) (Numeral 1 None (place 7 12)) ∷ [])) (Some (parallel_do (place 5 3) (codes "n" ∷ []))) ∷ []) ∷ []); order = (item.Unit 0 ∷ []) }

-- a variable in a mark's private list
--
--     subroutine s(q)
--       integer, parameter :: n = 3
--       integer, intent(inout) :: q(n)
--       integer :: k
--       !$omp parallel do private(k)
--       do k = 1, n
--         q(k) = 1
--       end do
--     end subroutine s
abbrev pub variable_in_private : Program
variable_in_private = record { modules = []; units = (subroutine (codes "s") (place 1 12) (named (codes "q") (place 1 14) ∷ []) [] (declaration (codes "n") (place 2 25) I4 None [] (Some (Numeral 3 None (place 2 29))) ∷ declaration (codes "q") (place 3 29) I4 (Some InOut) (record { lower = None; upper = (Some (Name (codes "n") (place 3 31))) } ∷ []) None ∷ local (codes "k") (place 4 14) ∷ []) (Do (place 6 3) (record { variable = codes "k"; at = (place 6 6); from = Numeral 1 None (place 6 10); to = Name (codes "n") (place 6 13); step = None }) (statements (Assign (place 7 5) (Reference (codes "q") (One (Name (codes "k") (place 7 7)) No_more) (place 7 5)) (Numeral 1 None (place 7 12)) ∷ [])) (Some (parallel_do (place 5 3) (codes "k" ∷ []))) ∷ []) ∷ []); order = (item.Unit 0 ∷ []) }

-- a variable of the host module is visible
--
--     module m
--       integer :: v
--     contains
--       subroutine s(x)
--         integer, intent(inout) :: x
--         x = v
--       end subroutine s
--     end module m
abbrev pub variable_of_host : Program
variable_of_host = record { modules = (module_of (codes "m") (place 1 8) [] (local (codes "v") (place 2 14) ∷ []) ∷ []); units = (inside 0 (subroutine (codes "s") (place 4 14) (named (codes "x") (place 4 16) ∷ []) [] (dummy (codes "x") (place 5 31) InOut ∷ []) (Assign (place 6 5) (Name (codes "x") (place 6 5)) (Name (codes "v") (place 6 9)) ∷ [])) ∷ []); order = (item.Module 0 ∷ []) }

-- USE brings what the used module has by USE
--
--     module a
--       integer :: v
--     end module a
--     module b
--       use a
--     end module b
--     subroutine s(x)
--       use b
--       integer, intent(inout) :: x
--       x = v
--     end subroutine s
abbrev pub used_through_two : Program
used_through_two = record { modules = (module_of (codes "a") (place 1 8) [] (local (codes "v") (place 2 14) ∷ []) ∷ module_of (codes "b") (place 4 8) (use_all (codes "a") (place 5 7) ∷ []) [] ∷ []); units = (subroutine (codes "s") (place 7 12) (named (codes "x") (place 7 14) ∷ []) (use_all (codes "b") (place 8 7) ∷ []) (dummy (codes "x") (place 9 29) InOut ∷ []) (Assign (place 10 3) (Name (codes "x") (place 10 3)) (Name (codes "v") (place 10 7)) ∷ []) ∷ []); order = (item.Module 0 ∷ item.Module 1 ∷ item.Unit 0 ∷ []) }

-- a USE with ONLY brings the names behind it alone
--
--     module a
--       integer :: v
--       integer :: w
--     end module a
--     subroutine s(x)
--       use a, only: w
--       integer, intent(inout) :: x
--       x = v
--     end subroutine s
abbrev pub not_in_only : Program
not_in_only = record { modules = (module_of (codes "a") (place 1 8) [] (local (codes "v") (place 2 14) ∷ local (codes "w") (place 3 14) ∷ []) ∷ []); units = (subroutine (codes "s") (place 5 12) (named (codes "x") (place 5 14) ∷ []) (use_only (codes "a") (place 6 7) (named (codes "w") (place 6 16) ∷ []) ∷ []) (dummy (codes "x") (place 7 29) InOut ∷ []) (Assign (place 8 3) (Name (codes "x") (place 8 3)) (Name (codes "v") (place 8 7)) ∷ []) ∷ []); order = (item.Module 0 ∷ item.Unit 0 ∷ []) }

-- two declarations of one name
--
--     subroutine s(x)
--       integer, intent(inout) :: x, x
--       x = 1
--     end subroutine s
abbrev pub two_declarations : Program
two_declarations = record { modules = []; units = (subroutine (codes "s") (place 1 12) (named (codes "x") (place 1 14) ∷ []) [] (dummy (codes "x") (place 2 29) InOut ∷ dummy (codes "x") (place 2 32) InOut ∷ []) (Assign (place 3 3) (Name (codes "x") (place 3 3)) (Numeral 1 None (place 3 7)) ∷ []) ∷ []); order = (item.Unit 0 ∷ []) }

-- two dummies of one name
--
--     subroutine s(x, x)
--       integer, intent(inout) :: x
--       x = 1
--     end subroutine s
abbrev pub two_dummies : Program
two_dummies = record { modules = []; units = (subroutine (codes "s") (place 1 12) (named (codes "x") (place 1 14) ∷ named (codes "x") (place 1 17) ∷ []) [] (dummy (codes "x") (place 2 29) InOut ∷ []) (Assign (place 3 3) (Name (codes "x") (place 3 3)) (Numeral 1 None (place 3 7)) ∷ []) ∷ []); order = (item.Unit 0 ∷ []) }

-- a dummy and the result of one name: the later in the text
--
--     integer function f(r) result(r)
--       r = 1
--     end function f
abbrev pub dummy_and_result : Program
dummy_and_result = record { modules = []; units = (function (codes "f") (place 1 18) (named (codes "r") (place 1 20) ∷ []) (named (codes "r") (place 1 30)) [] (declaration (codes "r") (place 1 1) I4 None [] None ∷ []) (Assign (place 2 3) (Name (codes "r") (place 2 3)) (Numeral 1 None (place 2 7)) ∷ []) ∷ []); order = (item.Unit 0 ∷ []) }

-- a declaration of a name that a USE of the unit gives
--
--     module m
--       integer :: v
--     end module m
--     subroutine s(x)
--       use m
--       integer, intent(inout) :: x
--       integer :: v
--       x = v
--     end subroutine s
abbrev pub declared_and_used : Program
declared_and_used = record { modules = (module_of (codes "m") (place 1 8) [] (local (codes "v") (place 2 14) ∷ []) ∷ []); units = (subroutine (codes "s") (place 4 12) (named (codes "x") (place 4 14) ∷ []) (use_all (codes "m") (place 5 7) ∷ []) (dummy (codes "x") (place 6 29) InOut ∷ local (codes "v") (place 7 14) ∷ []) (Assign (place 8 3) (Name (codes "x") (place 8 3)) (Name (codes "v") (place 8 7)) ∷ []) ∷ []); order = (item.Module 0 ∷ item.Unit 0 ∷ []) }

-- a declaration hides the host's name
--
--     module m
--       integer :: v
--     contains
--       subroutine s(x)
--         integer, intent(inout) :: x
--         integer :: v
--         v = 1
--         x = v
--       end subroutine s
--     end module m
abbrev pub host_hidden : Program
host_hidden = record { modules = (module_of (codes "m") (place 1 8) [] (local (codes "v") (place 2 14) ∷ []) ∷ []); units = (inside 0 (subroutine (codes "s") (place 4 14) (named (codes "x") (place 4 16) ∷ []) [] (dummy (codes "x") (place 5 31) InOut ∷ local (codes "v") (place 6 16) ∷ []) (Assign (place 7 5) (Name (codes "v") (place 7 5)) (Numeral 1 None (place 7 9)) ∷ Assign (place 8 5) (Name (codes "x") (place 8 5)) (Name (codes "v") (place 8 9)) ∷ [])) ∷ []); order = (item.Module 0 ∷ []) }

-- a module variable beside a unit of the module of that name
--
--     module m
--       integer :: s
--     contains
--       subroutine s(x)
--         integer, intent(inout) :: x
--         x = 1
--       end subroutine s
--     end module m
abbrev pub variable_and_unit_of_module : Program
variable_and_unit_of_module = record { modules = (module_of (codes "m") (place 1 8) [] (local (codes "s") (place 2 14) ∷ []) ∷ []); units = (inside 0 (subroutine (codes "s") (place 4 14) (named (codes "x") (place 4 16) ∷ []) [] (dummy (codes "x") (place 5 31) InOut ∷ []) (Assign (place 6 5) (Name (codes "x") (place 6 5)) (Numeral 1 None (place 6 9)) ∷ [])) ∷ []); order = (item.Module 0 ∷ []) }

-- two units of one name
--
--     subroutine s
--     end subroutine s
--     subroutine s
--     end subroutine s
abbrev pub two_units : Program
two_units = record { modules = []; units = (subroutine (codes "s") (place 1 12) [] [] [] [] ∷ subroutine (codes "s") (place 3 12) [] [] [] [] ∷ []); order = (item.Unit 0 ∷ item.Unit 1 ∷ []) }

-- a module and a unit of one name
--
--     module m
--     end module m
--     subroutine m
--     end subroutine m
abbrev pub module_and_unit : Program
module_and_unit = record { modules = (module_of (codes "m") (place 1 8) [] [] ∷ []); units = (subroutine (codes "m") (place 3 12) [] [] [] [] ∷ []); order = (item.Module 0 ∷ item.Unit 0 ∷ []) }

-- two USE lines that give one name to two entities
--
--     module a
--       integer :: v
--     end module a
--     module b
--       integer :: v
--     end module b
--     subroutine s
--       use a
--       use b, only: v
--     end subroutine s
abbrev pub two_uses : Program
two_uses = record { modules = (module_of (codes "a") (place 1 8) [] (local (codes "v") (place 2 14) ∷ []) ∷ module_of (codes "b") (place 4 8) [] (local (codes "v") (place 5 14) ∷ []) ∷ []); units = (subroutine (codes "s") (place 7 12) [] (use_all (codes "a") (place 8 7) ∷ use_only (codes "b") (place 9 7) (named (codes "v") (place 9 16) ∷ []) ∷ []) [] [] ∷ []); order = (item.Module 0 ∷ item.Module 1 ∷ item.Unit 0 ∷ []) }

-- two USE lines that give one name to one entity
--
--     module a
--       integer :: v
--     end module a
--     module b
--       use a
--     end module b
--     subroutine s
--       use a
--       use b, only: v
--     end subroutine s
abbrev pub one_entity_twice : Program
one_entity_twice = record { modules = (module_of (codes "a") (place 1 8) [] (local (codes "v") (place 2 14) ∷ []) ∷ module_of (codes "b") (place 4 8) (use_all (codes "a") (place 5 7) ∷ []) [] ∷ []); units = (subroutine (codes "s") (place 7 12) [] (use_all (codes "a") (place 8 7) ∷ use_only (codes "b") (place 9 7) (named (codes "v") (place 9 16) ∷ []) ∷ []) [] [] ∷ []); order = (item.Module 0 ∷ item.Module 1 ∷ item.Unit 0 ∷ []) }

-- the unit's own name may be declared again inside it
--
--     subroutine s(x)
--       integer, intent(inout) :: x
--       integer :: s
--       s = 1
--       x = s
--     end subroutine s
abbrev pub own_name_declared : Program
own_name_declared = record { modules = []; units = (subroutine (codes "s") (place 1 12) (named (codes "x") (place 1 14) ∷ []) [] (dummy (codes "x") (place 2 29) InOut ∷ local (codes "s") (place 3 14) ∷ []) (Assign (place 4 3) (Name (codes "s") (place 4 3)) (Numeral 1 None (place 4 7)) ∷ Assign (place 5 3) (Name (codes "x") (place 5 3)) (Name (codes "s") (place 5 7)) ∷ []) ∷ []); order = (item.Unit 0 ∷ []) }

-- a USE of no module
--
--     subroutine s
--       use m
--     end subroutine s
abbrev pub no_module : Program
no_module = record { modules = []; units = (subroutine (codes "s") (place 1 12) [] (use_all (codes "m") (place 2 7) ∷ []) [] [] ∷ []); order = (item.Unit 0 ∷ []) }

-- a name behind ONLY that the module doesn't have
--
--     module m
--     end module m
--     subroutine s
--       use m, only: v
--     end subroutine s
abbrev pub no_name_in_module : Program
no_name_in_module = record { modules = (module_of (codes "m") (place 1 8) [] [] ∷ []); units = (subroutine (codes "s") (place 3 12) [] (use_only (codes "m") (place 4 7) (named (codes "v") (place 4 16) ∷ []) ∷ []) [] [] ∷ []); order = (item.Module 0 ∷ item.Unit 0 ∷ []) }

-- modules that USE each other: the first such line
--
--     module a
--       use b
--     end module a
--     module b
--       use a
--     end module b
abbrev pub uses_in_circle : Program
uses_in_circle = record { modules = (module_of (codes "a") (place 1 8) (use_all (codes "b") (place 2 7) ∷ []) [] ∷ module_of (codes "b") (place 4 8) (use_all (codes "a") (place 5 7) ∷ []) [] ∷ []); units = []; order = (item.Module 0 ∷ item.Module 1 ∷ []) }

-- a module that uses itself
--
--     module a
--       use a
--     end module a
abbrev pub module_uses_itself : Program
module_uses_itself = record { modules = (module_of (codes "a") (place 1 8) (use_all (codes "a") (place 2 7) ∷ []) [] ∷ []); units = []; order = (item.Module 0 ∷ []) }

-- a procedure may USE its own module
--
--     module a
--       integer :: v
--     contains
--       subroutine s(x)
--         use a
--         integer, intent(inout) :: x
--         x = v
--       end subroutine s
--     end module a
abbrev pub own_module_used : Program
own_module_used = record { modules = (module_of (codes "a") (place 1 8) [] (local (codes "v") (place 2 14) ∷ []) ∷ []); units = (inside 0 (subroutine (codes "s") (place 4 14) (named (codes "x") (place 4 16) ∷ []) (use_all (codes "a") (place 5 9) ∷ []) (dummy (codes "x") (place 6 31) InOut ∷ []) (Assign (place 7 5) (Name (codes "x") (place 7 5)) (Name (codes "v") (place 7 9)) ∷ [])) ∷ []); order = (item.Module 0 ∷ []) }

-- a CALL of what is no SUBROUTINE
--
--     subroutine s
--       call t
--     end subroutine s
abbrev pub no_subroutine : Program
no_subroutine = record { modules = []; units = (subroutine (codes "s") (place 1 12) [] [] [] (call_to (codes "t") (place 2 3) (place 2 8) No_more ∷ []) ∷ []); order = (item.Unit 0 ∷ []) }

-- a CALL of a function
--
--     subroutine s
--       call f(1)
--     end subroutine s
--     integer function f(a)
--       integer, intent(in) :: a
--       f = a
--     end function f
abbrev pub function_called : Program
function_called = record { modules = []; units = (subroutine (codes "s") (place 1 12) [] [] [] (call_to (codes "f") (place 2 3) (place 2 8) (One (Numeral 1 None (place 2 10)) No_more) ∷ []) ∷ function (codes "f") (place 4 18) (named (codes "a") (place 4 20) ∷ []) (named (codes "f") (place 4 18)) [] (declaration (codes "f") (place 4 1) I4 None [] None ∷ dummy (codes "a") (place 5 26) In ∷ []) (Assign (place 6 3) (Name (codes "f") (place 6 3)) (Name (codes "a") (place 6 7)) ∷ []) ∷ []); order = (item.Unit 0 ∷ item.Unit 1 ∷ []) }

-- a scalar with parentheses, on the right
--
--     subroutine s(x)
--       integer, intent(inout) :: x
--       x = x(1)
--     end subroutine s
abbrev pub scalar_with_parentheses : Program
scalar_with_parentheses = record { modules = []; units = (subroutine (codes "s") (place 1 12) (named (codes "x") (place 1 14) ∷ []) [] (dummy (codes "x") (place 2 29) InOut ∷ []) (Assign (place 3 3) (Name (codes "x") (place 3 3)) (Reference (codes "x") (One (Numeral 1 None (place 3 9)) No_more) (place 3 7)) ∷ []) ∷ []); order = (item.Unit 0 ∷ []) }

-- and on the left
--
--     subroutine s(x)
--       integer, intent(inout) :: x
--       x(1) = 1
--     end subroutine s
abbrev pub scalar_assigned_with_parentheses : Program
scalar_assigned_with_parentheses = record { modules = []; units = (subroutine (codes "s") (place 1 12) (named (codes "x") (place 1 14) ∷ []) [] (dummy (codes "x") (place 2 29) InOut ∷ []) (Assign (place 3 3) (Reference (codes "x") (One (Numeral 1 None (place 3 5)) No_more) (place 3 3)) (Numeral 1 None (place 3 10)) ∷ []) ∷ []); order = (item.Unit 0 ∷ []) }

-- an unknown name with parentheses
--
--     subroutine s(x)
--       integer, intent(inout) :: x
--       x = y(1)
--     end subroutine s
abbrev pub unknown_with_parentheses : Program
unknown_with_parentheses = record { modules = []; units = (subroutine (codes "s") (place 1 12) (named (codes "x") (place 1 14) ∷ []) [] (dummy (codes "x") (place 2 29) InOut ∷ []) (Assign (place 3 3) (Name (codes "x") (place 3 3)) (Reference (codes "y") (One (Numeral 1 None (place 3 9)) No_more) (place 3 7)) ∷ []) ∷ []); order = (item.Unit 0 ∷ []) }

-- a reference to a SUBROUTINE
--
--     subroutine s(x)
--       integer, intent(inout) :: x
--       x = t(1)
--     end subroutine s
--     subroutine t(a)
--       integer, intent(in) :: a
--     end subroutine t
abbrev pub subroutine_referred : Program
subroutine_referred = record { modules = []; units = (subroutine (codes "s") (place 1 12) (named (codes "x") (place 1 14) ∷ []) [] (dummy (codes "x") (place 2 29) InOut ∷ []) (Assign (place 3 3) (Name (codes "x") (place 3 3)) (Reference (codes "t") (One (Numeral 1 None (place 3 9)) No_more) (place 3 7)) ∷ []) ∷ subroutine (codes "t") (place 5 12) (named (codes "a") (place 5 14) ∷ []) [] (dummy (codes "a") (place 6 26) In ∷ []) [] ∷ []); order = (item.Unit 0 ∷ item.Unit 1 ∷ []) }

-- a DO variable that is a dummy
--
--     subroutine s(x)
--       integer, intent(inout) :: x
--       do x = 1, 3
--       end do
--     end subroutine s
abbrev pub dummy_as_loop_variable : Program
dummy_as_loop_variable = record { modules = []; units = (subroutine (codes "s") (place 1 12) (named (codes "x") (place 1 14) ∷ []) [] (dummy (codes "x") (place 2 29) InOut ∷ []) (Do (place 3 3) (record { variable = codes "x"; at = (place 3 6); from = Numeral 1 None (place 3 10); to = Numeral 3 None (place 3 13); step = None }) (statements []) None ∷ []) ∷ []); order = (item.Unit 0 ∷ []) }

-- a DO variable that is named behind its loop
--
--     subroutine s(x)
--       integer, intent(inout) :: x
--       integer :: k
--       do k = 1, 3
--         x = k
--       end do
--       x = k
--     end subroutine s
abbrev pub named_after_loop : Program
named_after_loop = record { modules = []; units = (subroutine (codes "s") (place 1 12) (named (codes "x") (place 1 14) ∷ []) [] (dummy (codes "x") (place 2 29) InOut ∷ local (codes "k") (place 3 14) ∷ []) (Do (place 4 3) (record { variable = codes "k"; at = (place 4 6); from = Numeral 1 None (place 4 10); to = Numeral 3 None (place 4 13); step = None }) (statements (Assign (place 5 5) (Name (codes "x") (place 5 5)) (Name (codes "k") (place 5 9)) ∷ [])) None ∷ Assign (place 7 3) (Name (codes "x") (place 7 3)) (Name (codes "k") (place 7 7)) ∷ []) ∷ []); order = (item.Unit 0 ∷ []) }

-- and before it
--
--     subroutine s(x)
--       integer, intent(inout) :: x
--       integer :: k
--       x = k
--       do k = 1, 3
--       end do
--     end subroutine s
abbrev pub named_before_loop : Program
named_before_loop = record { modules = []; units = (subroutine (codes "s") (place 1 12) (named (codes "x") (place 1 14) ∷ []) [] (dummy (codes "x") (place 2 29) InOut ∷ local (codes "k") (place 3 14) ∷ []) (Assign (place 4 3) (Name (codes "x") (place 4 3)) (Name (codes "k") (place 4 7)) ∷ Do (place 5 3) (record { variable = codes "k"; at = (place 5 6); from = Numeral 1 None (place 5 10); to = Numeral 3 None (place 5 13); step = None }) (statements []) None ∷ []) ∷ []); order = (item.Unit 0 ∷ []) }

-- the head of its own loop is outside the body
--
--     subroutine s(x)
--       integer, intent(inout) :: x
--       integer :: k
--       do k = 1, k
--       end do
--     end subroutine s
abbrev pub named_in_own_head : Program
named_in_own_head = record { modules = []; units = (subroutine (codes "s") (place 1 12) (named (codes "x") (place 1 14) ∷ []) [] (dummy (codes "x") (place 2 29) InOut ∷ local (codes "k") (place 3 14) ∷ []) (Do (place 4 3) (record { variable = codes "k"; at = (place 4 6); from = Numeral 1 None (place 4 10); to = Name (codes "k") (place 4 13); step = None }) (statements []) None ∷ []) ∷ []); order = (item.Unit 0 ∷ []) }

-- a DO variable that is assigned in its loop
--
--     subroutine s(x)
--       integer, intent(inout) :: x
--       integer :: k
--       do k = 1, 3
--         k = 2
--       end do
--     end subroutine s
abbrev pub assigned_in_loop : Program
assigned_in_loop = record { modules = []; units = (subroutine (codes "s") (place 1 12) (named (codes "x") (place 1 14) ∷ []) [] (dummy (codes "x") (place 2 29) InOut ∷ local (codes "k") (place 3 14) ∷ []) (Do (place 4 3) (record { variable = codes "k"; at = (place 4 6); from = Numeral 1 None (place 4 10); to = Numeral 3 None (place 4 13); step = None }) (statements (Assign (place 5 5) (Name (codes "k") (place 5 5)) (Numeral 2 None (place 5 9)) ∷ [])) None ∷ []) ∷ []); order = (item.Unit 0 ∷ []) }

-- a second DO in the loop with its variable
--
--     subroutine s(x)
--       integer, intent(inout) :: x
--       integer :: k
--       do k = 1, 3
--         do k = 1, 2
--         end do
--       end do
--     end subroutine s
abbrev pub second_loop_inside : Program
second_loop_inside = record { modules = []; units = (subroutine (codes "s") (place 1 12) (named (codes "x") (place 1 14) ∷ []) [] (dummy (codes "x") (place 2 29) InOut ∷ local (codes "k") (place 3 14) ∷ []) (Do (place 4 3) (record { variable = codes "k"; at = (place 4 6); from = Numeral 1 None (place 4 10); to = Numeral 3 None (place 4 13); step = None }) (statements (Do (place 5 5) (record { variable = codes "k"; at = (place 5 8); from = Numeral 1 None (place 5 12); to = Numeral 2 None (place 5 15); step = None }) (statements []) None ∷ [])) None ∷ []) ∷ []); order = (item.Unit 0 ∷ []) }

-- two loops in a row may share a variable
--
--     subroutine s(x)
--       integer, intent(inout) :: x
--       integer :: k
--       do k = 1, 3
--         x = k
--       end do
--       do k = 1, 3
--         x = k
--       end do
--     end subroutine s
abbrev pub loops_in_a_row : Program
loops_in_a_row = record { modules = []; units = (subroutine (codes "s") (place 1 12) (named (codes "x") (place 1 14) ∷ []) [] (dummy (codes "x") (place 2 29) InOut ∷ local (codes "k") (place 3 14) ∷ []) (Do (place 4 3) (record { variable = codes "k"; at = (place 4 6); from = Numeral 1 None (place 4 10); to = Numeral 3 None (place 4 13); step = None }) (statements (Assign (place 5 5) (Name (codes "x") (place 5 5)) (Name (codes "k") (place 5 9)) ∷ [])) None ∷ Do (place 7 3) (record { variable = codes "k"; at = (place 7 6); from = Numeral 1 None (place 7 10); to = Numeral 3 None (place 7 13); step = None }) (statements (Assign (place 8 5) (Name (codes "x") (place 8 5)) (Name (codes "k") (place 8 9)) ∷ [])) None ∷ []) ∷ []); order = (item.Unit 0 ∷ []) }

-- a DO variable that is passed to INOUT in its loop
--
--     subroutine s(x)
--       integer, intent(inout) :: x
--       integer :: k
--       do k = 1, 3
--         call t(k)
--       end do
--     end subroutine s
--     subroutine t(a)
--       integer, intent(inout) :: a
--       a = 1
--     end subroutine t
abbrev pub passed_in_loop : Program
passed_in_loop = record { modules = []; units = (subroutine (codes "s") (place 1 12) (named (codes "x") (place 1 14) ∷ []) [] (dummy (codes "x") (place 2 29) InOut ∷ local (codes "k") (place 3 14) ∷ []) (Do (place 4 3) (record { variable = codes "k"; at = (place 4 6); from = Numeral 1 None (place 4 10); to = Numeral 3 None (place 4 13); step = None }) (statements (call_to (codes "t") (place 5 5) (place 5 10) (One (Name (codes "k") (place 5 12)) No_more) ∷ [])) None ∷ []) ∷ subroutine (codes "t") (place 8 12) (named (codes "a") (place 8 14) ∷ []) [] (dummy (codes "a") (place 9 29) InOut ∷ []) (Assign (place 10 3) (Name (codes "a") (place 10 3)) (Numeral 1 None (place 10 7)) ∷ []) ∷ []); order = (item.Unit 0 ∷ item.Unit 1 ∷ []) }

-- a function's result is a local
--
--     integer function f(a)
--       integer, intent(in) :: a
--       do f = 1, a
--       end do
--     end function f
abbrev pub result_as_loop_variable : Program
result_as_loop_variable = record { modules = []; units = (function (codes "f") (place 1 18) (named (codes "a") (place 1 20) ∷ []) (named (codes "f") (place 1 18)) [] (declaration (codes "f") (place 1 1) I4 None [] None ∷ dummy (codes "a") (place 2 26) In ∷ []) (Do (place 3 3) (record { variable = codes "f"; at = (place 3 6); from = Numeral 1 None (place 3 10); to = Name (codes "a") (place 3 13); step = None }) (statements []) None ∷ []) ∷ []); order = (item.Unit 0 ∷ []) }

-- a dummy without INTENT
--
--     subroutine s(x)
--       integer :: x
--       x = 1
--     end subroutine s
abbrev pub dummy_without_intent : Program
dummy_without_intent = record { modules = []; units = (subroutine (codes "s") (place 1 12) (named (codes "x") (place 1 14) ∷ []) [] (local (codes "x") (place 2 14) ∷ []) (Assign (place 3 3) (Name (codes "x") (place 3 3)) (Numeral 1 None (place 3 7)) ∷ []) ∷ []); order = (item.Unit 0 ∷ []) }

-- INTENT on a local
--
--     subroutine s
--       integer, intent(in) :: x
--     end subroutine s
abbrev pub intent_without_dummy : Program
intent_without_dummy = record { modules = []; units = (subroutine (codes "s") (place 1 12) [] [] (dummy (codes "x") (place 2 26) In ∷ []) [] ∷ []); order = (item.Unit 0 ∷ []) }

-- INTENT in a module
--
--     module m
--       integer, intent(in) :: x
--     end module m
abbrev pub intent_in_module : Program
intent_in_module = record { modules = (module_of (codes "m") (place 1 8) [] (dummy (codes "x") (place 2 26) In ∷ []) ∷ []); units = []; order = (item.Module 0 ∷ []) }

-- a bound of a module's declaration by a PARAMETER of another module
--
--     module a
--       integer, parameter :: n = 3
--     end module a
--     module b
--       use a
--       integer :: v(n)
--     end module b
abbrev pub used_constant_in_bound : Program
used_constant_in_bound = record { modules = (module_of (codes "a") (place 1 8) [] (declaration (codes "n") (place 2 25) I4 None [] (Some (Numeral 3 None (place 2 29))) ∷ []) ∷ module_of (codes "b") (place 4 8) (use_all (codes "a") (place 5 7) ∷ []) (declaration (codes "v") (place 6 14) I4 None (record { lower = None; upper = (Some (Name (codes "n") (place 6 16))) } ∷ []) None ∷ []) ∷ []); units = []; order = (item.Module 0 ∷ item.Module 1 ∷ []) }

-- a USE that gives the result's name stands behind the type before FUNCTION, and so is the second
--
--     module m
--       integer :: r
--     end module m
--     integer function f(a) result(r)
--       use m
--       integer, intent(in) :: a
--       r = a
--     end function f
abbrev pub prefix_and_use : Program
prefix_and_use = record { modules = (module_of (codes "m") (place 1 8) [] (local (codes "r") (place 2 14) ∷ []) ∷ []); units = (function (codes "f") (place 4 18) (named (codes "a") (place 4 20) ∷ []) (named (codes "r") (place 4 30)) (use_all (codes "m") (place 5 7) ∷ []) (declaration (codes "r") (place 4 1) I4 None [] None ∷ dummy (codes "a") (place 6 26) In ∷ []) (Assign (place 7 3) (Name (codes "r") (place 7 3)) (Name (codes "a") (place 7 7)) ∷ []) ∷ []); order = (item.Module 0 ∷ item.Unit 0 ∷ []) }

-- a DO variable that is named in a bound
--
--     subroutine s(q)
--       integer, intent(inout) :: q(k)
--       integer :: k
--       do k = 1, 3
--         q(k) = 1
--       end do
--     end subroutine s
abbrev pub loop_variable_in_bound : Program
loop_variable_in_bound = record { modules = []; units = (subroutine (codes "s") (place 1 12) (named (codes "q") (place 1 14) ∷ []) [] (declaration (codes "q") (place 2 29) I4 (Some InOut) (record { lower = None; upper = (Some (Name (codes "k") (place 2 31))) } ∷ []) None ∷ local (codes "k") (place 3 14) ∷ []) (Do (place 4 3) (record { variable = codes "k"; at = (place 4 6); from = Numeral 1 None (place 4 10); to = Numeral 3 None (place 4 13); step = None }) (statements (Assign (place 5 5) (Reference (codes "q") (One (Name (codes "k") (place 5 7)) No_more) (place 5 5)) (Numeral 1 None (place 5 12)) ∷ [])) None ∷ []) ∷ []); order = (item.Unit 0 ∷ []) }

-- a USE outside a circle that leads into it is no fault
--
--     module c
--       use a
--     end module c
--     module a
--       use b
--     end module a
--     module b
--       use a
--     end module b
abbrev pub later_use_of_circle : Program
later_use_of_circle = record { modules = (module_of (codes "c") (place 1 8) (use_all (codes "a") (place 2 7) ∷ []) [] ∷ module_of (codes "a") (place 4 8) (use_all (codes "b") (place 5 7) ∷ []) [] ∷ module_of (codes "b") (place 7 8) (use_all (codes "a") (place 8 7) ∷ []) [] ∷ []); units = []; order = (item.Module 0 ∷ item.Module 1 ∷ item.Module 2 ∷ []) }

-- what they show
pub record NameRows : Type 0 where
  pub undeclared_variable_is_found : HasOnly Source undeclared_variable E30 (place 3 7)
  pub declared_variable_is_sound : HasNone Source declared_variable
  pub assigned_function_is_found : HasOnly Source assigned_function E30 (place 3 3)
  pub assigned_intrinsic_is_found : HasOnly Source assigned_intrinsic E30 (place 3 3)
  pub undeclared_in_subscript_is_found : HasOnly Source undeclared_in_subscript E30 (place 3 5)
  pub undeclared_bound_is_found : HasAll Source undeclared_bound (fault E30 2 31 ∷ fault E32 2 31 ∷ [])
  pub undeclared_dummy_is_found : HasOnly Source undeclared_dummy E30 (place 1 17)
  pub undeclared_result_is_found : HasOnly Source undeclared_result E30 (place 1 10)
  pub constant_in_private_is_found : HasOnly Target constant_in_private E30 (place 5 3)
  pub variable_in_private_is_sound : HasNone Target variable_in_private
  pub variable_of_host_is_sound : HasNone Source variable_of_host
  pub used_through_two_is_sound : HasNone Source used_through_two
  pub not_in_only_is_found : HasOnly Source not_in_only E30 (place 8 7)
  pub two_declarations_is_found : HasOnly Source two_declarations E31 (place 2 32)
  pub two_dummies_is_found : HasOnly Source two_dummies E31 (place 1 17)
  pub dummy_and_result_is_found : HasOnly Source dummy_and_result E31 (place 1 30)
  pub declared_and_used_is_found : HasOnly Source declared_and_used E31 (place 7 14)
  pub host_hidden_is_sound : HasNone Source host_hidden
  pub variable_and_unit_of_module_is_found : HasOnly Source variable_and_unit_of_module E31 (place 4 14)
  pub two_units_is_found : HasOnly Source two_units E31 (place 3 12)
  pub module_and_unit_is_found : HasOnly Source module_and_unit E31 (place 3 12)
  pub two_uses_is_found : HasOnly Source two_uses E31 (place 9 16)
  pub one_entity_twice_is_sound : HasNone Source one_entity_twice
  pub own_name_declared_is_sound : HasNone Source own_name_declared
  pub no_module_is_found : HasOnly Source no_module E34 (place 2 7)
  pub no_name_in_module_is_found : HasOnly Source no_name_in_module E34 (place 4 16)
  pub uses_in_circle_is_found : HasOnly Source uses_in_circle E34 (place 2 7)
  pub module_uses_itself_is_found : HasOnly Source module_uses_itself E34 (place 2 7)
  pub own_module_used_is_sound : HasNone Source own_module_used
  pub no_subroutine_is_found : HasOnly Source no_subroutine E35 (place 2 8)
  pub function_called_is_found : HasOnly Source function_called E35 (place 2 8)
  pub scalar_with_parentheses_is_found : HasOnly Source scalar_with_parentheses E35 (place 3 7)
  pub scalar_assigned_with_parentheses_is_found : HasOnly Source scalar_assigned_with_parentheses E35 (place 3 3)
  pub unknown_with_parentheses_is_found : HasOnly Source unknown_with_parentheses E35 (place 3 7)
  pub subroutine_referred_is_found : HasOnly Source subroutine_referred E35 (place 3 7)
  pub dummy_as_loop_variable_is_found : HasOnly Source dummy_as_loop_variable E39 (place 3 6)
  pub named_after_loop_is_found : HasOnly Source named_after_loop E39 (place 7 7)
  pub named_before_loop_is_found : HasOnly Source named_before_loop E39 (place 4 7)
  pub named_in_own_head_is_found : HasOnly Source named_in_own_head E39 (place 4 13)
  pub assigned_in_loop_is_found : HasOnly Source assigned_in_loop E39 (place 5 5)
  pub second_loop_inside_is_found : HasOnly Source second_loop_inside E39 (place 5 8)
  pub loops_in_a_row_is_sound : HasNone Source loops_in_a_row
  pub passed_in_loop_is_found : HasOnly Source passed_in_loop E39 (place 5 12)
  pub result_as_loop_variable_is_sound : HasNone Source result_as_loop_variable
  pub dummy_without_intent_is_found : HasOnly Source dummy_without_intent E3B (place 2 14)
  pub intent_without_dummy_is_found : HasOnly Source intent_without_dummy E3B (place 2 26)
  pub intent_in_module_is_found : HasOnly Source intent_in_module E3B (place 2 26)
  pub used_constant_in_bound_is_sound : HasNone Source used_constant_in_bound
  pub prefix_and_use_is_found : HasOnly Source prefix_and_use E31 (place 5 7)
  pub loop_variable_in_bound_is_found : HasAll Source loop_variable_in_bound (fault E39 2 31 ∷ fault E32 2 31 ∷ [])
  pub later_use_of_circle_is_found : HasOnly Source later_use_of_circle E34 (place 5 7)
