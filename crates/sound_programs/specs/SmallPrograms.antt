-- Small programs as placed trees: one that is sound, and for each fault the smallest that has it.
use Rattle.std.specs.Prelude.{ℕ, suc, ◌+◌, List, [], ◌∷◌, ◌++◌, map, codes, decimal, Option, Some, None, false}
use Rattle.std.specs.List.{range_with_len}
use Rattle.fort_arith.specs.declared.kind.Kind.{Kind}
use Rattle.fort_arith.specs.declared.kind.Kind.TheVariants.{I4}
use Rattle.fort_arith.specs.declared.op.Op.TheVariants.{Add, Mul}
use Rattle.fort_tree.specs.declared.place.Place.{Place}
use Rattle.fort_tree.specs.declared.stmt.DirectiveWord.TheVariants.{OpenMpLoop}
use Rattle.fort_tree.specs.declared.stmt.Named.{Named}
use Rattle.fort_tree.specs.declared.unit.Intent.{Intent}
use Rattle.fort_tree.specs.declared.unit.Intent.TheVariants.{In, InOut}
use Rattle.fort_tree.specs.declared.unit.Item.{Item}
use Rattle.fort_tree.specs.declared.unit.Item.TheVariants as item
use Rattle.fort_tree.specs.declared.unit.Use.{Use}
use Rattle.claw_meaning.specs.Syntax.{Text}
use Rattle.sound_programs.specs.Placed.{Expr, Numeral, Name, Reference, Binary, Subscripts, No_more, One, Dimension, Decl, Directive, Stmt, Assign, Call, Do, Stmts, Done, Then, Unit, Module, Program}

-- Words for them

abbrev pub place : ℕ → ℕ → Place
place line column = record { file = 0; line = line; column = column }

abbrev pub named : Text → Place → Named
named x at = record { name = x; at = at }

abbrev pub declaration : Text → Place → Kind → Option Intent → List Dimension → Option Expr → Decl
declaration x at kind intent shape value = record { name = x; at = at; kind = kind; intent = intent; shape = shape; value = value }

-- an INTEGER scalar: a local, or a dummy with its INTENT
abbrev pub local : Text → Place → Decl
local x at = declaration x at I4 None [] None

abbrev pub dummy : Text → Place → Intent → Decl
dummy x at intent = declaration x at I4 (Some intent) [] None

abbrev pub up_to : Expr → Dimension
up_to e = record { lower = None; upper = Some e }

abbrev pub assumed : Dimension
assumed = record { lower = None; upper = None }

abbrev pub number : ℕ → Place → Expr
number n at = Numeral n None at

abbrev pub statements : List Stmt → Stmts
statements [] = Done
statements (s ∷ rest) = Then s (statements rest)

abbrev pub subroutine : Text → Place → List Named → List Use → List Decl → List Stmt → Unit
subroutine x at dummies uses decls body =
    record { name = x; at = at; dummies = dummies; result = None; uses = uses; decls = decls; marks = []; body = statements body; host = None }

abbrev pub function : Text → Place → List Named → Named → List Use → List Decl → List Stmt → Unit
function x at dummies result uses decls body =
    record { name = x; at = at; dummies = dummies; result = Some result; uses = uses; decls = decls; marks = []; body = statements body; host = None }

abbrev pub inside : ℕ → Unit → Unit
inside n u = record u { host = Some n }

abbrev pub module_of : Text → Place → List Use → List Decl → Module
module_of x at uses decls = record { name = x; at = at; uses = uses; decls = decls }

abbrev pub use_all : Text → Place → Use
use_all x at = record { name = x; only = None; at = at }

abbrev pub use_only : Text → Place → List Named → Use
use_only x at names = record { name = x; only = Some names; at = at }

-- external units alone
abbrev pub numbered : ℕ → List Unit → List Item
numbered n [] = []
numbered n (u ∷ us) = item.Unit n ∷ numbered (suc n) us

abbrev pub units : List Unit → Program
units us = record { modules = []; units = us; order = numbered 0 us }

abbrev pub call_to : Text → Place → Place → Subscripts → Stmt
call_to x at name args = Call at (named x name) args false

-- `!$omp parallel do` with this private list
abbrev pub parallel_do : Place → List Text → Directive
parallel_do at names = record { at = at; word = OpenMpLoop; names = names; over = None; number = None; group = None; init = false; lower = None; upper = None }

abbrev pub loop : Place → Text → Place → Expr → Expr → List Stmt → Stmt
loop at x var from to body = Do at (record { variable = x; at = var; from = from; to = to; step = None }) (statements body) None

-- A sound program
--
--     module mo                                    1
--       integer, parameter :: n = 4                2
--     contains                                     3
--       function twice(x)                          4
--         integer :: twice                         5
--         integer, intent(in) :: x                 6
--         twice = x*2                              7
--       end function twice                         8
--     end module mo                                9
--     subroutine s(q)                             10
--       use mo, only: n, twice                    11
--       integer, intent(inout) :: q(n)            12
--       integer :: k                              13
--       do k = 1, n                               14
--         q(k) = twice(q(k))                      15
--       end do                                    16
--       call inc(q(1))                            17
--     end subroutine s                            18
--     subroutine inc(y)                           19
--       integer, intent(inout) :: y               20
--       y = y+1                                   21
--     end subroutine inc                          22

abbrev pub n_decl : Decl
n_decl = declaration (codes "n") (place 2 25) I4 None [] (Some (number 4 (place 2 29)))

abbrev pub mo : Module
mo = module_of (codes "mo") (place 1 8) [] (n_decl ∷ [])

abbrev pub twice_assigned : Stmt
twice_assigned = Assign (place 7 5) (Name (codes "twice") (place 7 5)) (Binary Mul (Name (codes "x") (place 7 13)) (number 2 (place 7 15)))

abbrev pub twice : Unit
twice = inside 0 (function (codes "twice") (place 4 12) (named (codes "x") (place 4 18) ∷ []) (named (codes "twice") (place 4 12)) []
    (local (codes "twice") (place 5 16) ∷ dummy (codes "x") (place 6 28) In ∷ []) (twice_assigned ∷ []))

abbrev pub q_of_k : ℕ → Expr
q_of_k column = Reference (codes "q") (One (Name (codes "k") (place 15 (column + 2))) No_more) (place 15 column)

abbrev pub doubled : Stmt
doubled = Assign (place 15 5) (q_of_k 5) (Reference (codes "twice") (One (q_of_k 18) No_more) (place 15 12))

abbrev pub doubling : Stmt
doubling = loop (place 14 3) (codes "k") (place 14 6) (number 1 (place 14 10)) (Name (codes "n") (place 14 13)) (doubled ∷ [])

abbrev pub first_raised : Stmt
first_raised = call_to (codes "inc") (place 17 3) (place 17 8) (One (Reference (codes "q") (One (number 1 (place 17 14)) No_more) (place 17 12)) No_more)

abbrev pub q_decl : Decl
q_decl = declaration (codes "q") (place 12 29) I4 (Some InOut) (up_to (Name (codes "n") (place 12 31)) ∷ []) None

abbrev pub s : Unit
s = subroutine (codes "s") (place 10 12) (named (codes "q") (place 10 14) ∷ [])
    (use_only (codes "mo") (place 11 7) (named (codes "n") (place 11 17) ∷ named (codes "twice") (place 11 20) ∷ []) ∷ [])
    (q_decl ∷ local (codes "k") (place 13 14) ∷ []) (doubling ∷ first_raised ∷ [])

abbrev pub raised : Stmt
raised = Assign (place 21 3) (Name (codes "y") (place 21 3)) (Binary Add (Name (codes "y") (place 21 7)) (number 1 (place 21 9)))

abbrev pub inc : Unit
inc = subroutine (codes "inc") (place 19 12) (named (codes "y") (place 19 16) ∷ []) [] (dummy (codes "y") (place 20 29) InOut ∷ []) (raised ∷ [])

abbrev pub sound : Program
sound = record { modules = mo ∷ []; units = twice ∷ s ∷ inc ∷ []; order = item.Module 0 ∷ item.Unit 1 ∷ item.Unit 2 ∷ [] }

-- 2001 units
abbrev pub unit_on_line : ℕ → Unit
unit_on_line n = subroutine (codes "u" ++ decimal n) (place n 12) [] [] [] []

abbrev pub many_units : Program
many_units = units (map unit_on_line (range_with_len 1 2001))
