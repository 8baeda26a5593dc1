-- Small programs with and without faults of calls: each is the least that shows a clause of a rule, or its neighbour.
use Rattle.std.specs.Prelude.{[], ◌∷◌, codes, None}
use Rattle.fort_arith.specs.declared.kind.Kind.TheVariants.{I4}
use Rattle.fort_tree.specs.declared.unit.Intent.TheVariants.{In, InOut}
use Rattle.fort_tree.specs.declared.choice.Mode.TheVariants.{Source}
use Rattle.fort_tree.specs.declared.fault.Code.TheVariants.{E30, E32, E35, E36}
use Rattle.fort_tree.specs.declared.unit.Item.TheVariants as item
use Rattle.sound_programs.specs.Placed.{Numeral, Name, Reference, No_more, One, Assign, Program}
use Rattle.sound_programs.specs.SmallPrograms.{place, named, declaration, local, dummy, subroutine, function, inside, module_of, use_all, call_to}
use Rattle.sound_programs.specs.Rows.{HasNone, HasOnly, HasAll, fault}

-- a unit that calls itself
--
--     subroutine s
--       call s
--     end subroutine s
abbrev pub calls_itself : Program
calls_itself = record { modules = []; units = (subroutine (codes "s") (place 1 12) [] [] [] (call_to (codes "s") (place 2 3) (place 2 8) No_more ∷ []) ∷ []); order = (item.Unit 0 ∷ []) }

-- a module procedure calls an external SUBROUTINE, which uses that module and calls the procedure: the first reference
--
--     module m
--     contains
--       subroutine s
--         call t
--       end subroutine s
--     end module m
--     subroutine t
--       use m
--       call s
--     end subroutine t
abbrev pub calls_in_circle : Program
calls_in_circle = record { modules = (module_of (codes "m") (place 1 8) [] [] ∷ []); units = (inside 0 (subroutine (codes "s") (place 3 14) [] [] [] (call_to (codes "t") (place 4 5) (place 4 10) No_more ∷ [])) ∷ subroutine (codes "t") (place 7 12) [] (use_all (codes "m") (place 8 7) ∷ []) [] (call_to (codes "s") (place 9 3) (place 9 8) No_more ∷ []) ∷ []); order = (item.Module 0 ∷ item.Unit 1 ∷ []) }

-- inside a function its name is its result, and so no unit to refer to
--
--     integer function f(a)
--       integer, intent(in) :: a
--       f = f(a)
--     end function f
abbrev pub function_refers_to_itself : Program
function_refers_to_itself = record { modules = []; units = (function (codes "f") (place 1 18) (named (codes "a") (place 1 20) ∷ []) (named (codes "f") (place 1 18)) [] (declaration (codes "f") (place 1 1) I4 None [] None ∷ dummy (codes "a") (place 2 26) In ∷ []) (Assign (place 3 3) (Name (codes "f") (place 3 3)) (Reference (codes "f") (One (Name (codes "a") (place 3 9)) No_more) (place 3 7)) ∷ []) ∷ []); order = (item.Unit 0 ∷ []) }

-- with a result of another name a function refers to itself
--
--     function f(a) result(r)
--       integer, intent(in) :: a
--       integer :: r
--       r = f(a)
--     end function f
abbrev pub result_refers_to_itself : Program
result_refers_to_itself = record { modules = []; units = (function (codes "f") (place 1 10) (named (codes "a") (place 1 12) ∷ []) (named (codes "r") (place 1 22)) [] (dummy (codes "a") (place 2 26) In ∷ local (codes "r") (place 3 14) ∷ []) (Assign (place 4 3) (Name (codes "r") (place 4 3)) (Reference (codes "f") (One (Name (codes "a") (place 4 9)) No_more) (place 4 7)) ∷ []) ∷ []); order = (item.Unit 0 ∷ []) }

-- a unit that is called twice
--
--     subroutine s
--       call t
--       call t
--     end subroutine s
--     subroutine t
--     end subroutine t
abbrev pub calls_twice : Program
calls_twice = record { modules = []; units = (subroutine (codes "s") (place 1 12) [] [] [] (call_to (codes "t") (place 2 3) (place 2 8) No_more ∷ call_to (codes "t") (place 3 3) (place 3 8) No_more ∷ []) ∷ subroutine (codes "t") (place 5 12) [] [] [] [] ∷ []); order = (item.Unit 0 ∷ item.Unit 1 ∷ []) }

-- a fault of each phase
--
--     subroutine s(x)
--       integer, intent(inout) :: x
--       x = 2147483648
--       call s(x)
--       x = y
--     end subroutine s
abbrev pub three_phases : Program
three_phases = record { modules = []; units = (subroutine (codes "s") (place 1 12) (named (codes "x") (place 1 14) ∷ []) [] (dummy (codes "x") (place 2 29) InOut ∷ []) (Assign (place 3 3) (Name (codes "x") (place 3 3)) (Numeral 2147483648 None (place 3 7)) ∷ call_to (codes "s") (place 4 3) (place 4 8) (One (Name (codes "x") (place 4 10)) No_more) ∷ Assign (place 5 3) (Name (codes "x") (place 5 3)) (Name (codes "y") (place 5 7)) ∷ []) ∷ []); order = (item.Unit 0 ∷ []) }

-- a fault of calls and one of kinds
--
--     subroutine s(x)
--       integer, intent(inout) :: x
--       x = 2147483648
--       call s(x)
--     end subroutine s
abbrev pub two_phases : Program
two_phases = record { modules = []; units = (subroutine (codes "s") (place 1 12) (named (codes "x") (place 1 14) ∷ []) [] (dummy (codes "x") (place 2 29) InOut ∷ []) (Assign (place 3 3) (Name (codes "x") (place 3 3)) (Numeral 2147483648 None (place 3 7)) ∷ call_to (codes "s") (place 4 3) (place 4 8) (One (Name (codes "x") (place 4 10)) No_more) ∷ []) ∷ []); order = (item.Unit 0 ∷ []) }

-- what they show
pub record CallRows : Type 0 where
  pub calls_itself_is_found : HasOnly Source calls_itself E36 (place 2 8)
  pub calls_in_circle_is_found : HasOnly Source calls_in_circle E36 (place 4 10)
  pub function_refers_to_itself_is_found : HasOnly Source function_refers_to_itself E35 (place 3 7)
  pub result_refers_to_itself_is_found : HasOnly Source result_refers_to_itself E36 (place 4 7)
  pub calls_twice_is_sound : HasNone Source calls_twice
  pub three_phases_is_found : HasAll Source three_phases (fault E30 5 7 ∷ fault E36 4 8 ∷ fault E32 3 7 ∷ [])
  pub two_phases_is_found : HasAll Source two_phases (fault E36 4 8 ∷ fault E32 3 7 ∷ [])
