-- Small units whose runs are computed: a marked loop whose iterations share a scalar, a DO that an EXIT leaves, a call by
-- copy, arrays and sections, a function, SELECT, and traps.
use Rattle.std.specs.Prelude.{ℕ, ℤ, pos, negsuc, codes, List, [], ◌∷◌, Option, Some, None, true, false}
use Rattle.fort_arith.specs.declared.kind.Kind.{Kind}
use Rattle.fort_arith.specs.declared.kind.Kind.TheVariants.{I1, I4}
use Rattle.fort_arith.specs.declared.op.Op.TheVariants.{Add, Sub, Mul, Div, Gt}
use Rattle.fort_tree.specs.declared.expr.Unary.TheVariants.{Minus}
use Rattle.fort_tree.specs.declared.unit.Intent.{Intent}
use Rattle.fort_tree.specs.declared.unit.Intent.TheVariants.{In, Out, InOut}
use Rattle.fort_tree.specs.declared.stmt.DirectiveWord.TheVariants.{OpenMpLoop}
use Rattle.courses.specs.Element.{Value, Undefined, Whole}
use Rattle.claw_meaning.specs.Syntax.{Text, Expr, Numeral, Name, Reference, Signed, Binary, Subscripts, No_more, At, Section, Limit, Unbounded, Bounded, Dimension, Decl, Directive, Head, Range, Single, Span, Stmt, Assign, Call, If, Select, Do, Exit, Return, Stmts, Done, Then, Arms, No_arm, Arm, Cases, No_case, Case, Otherwise, Nothing_else, Else, Unit, Program, Item, A_unit}
use Rattle.claw_meaning.specs.Frames.{Frame, Held, Key, Cells}

abbrev pub number : ℕ → Expr
number n = Numeral n None

abbrev pub variable : Text → Kind → Option Intent → List Dimension → Decl
variable x kind intent shape = record { name = x; kind = kind; intent = intent; shape = shape; value = None }

abbrev pub scalar : Text → Option Intent → Decl
scalar x intent = variable x I4 intent []

-- `:`, and `upper`
abbrev pub assumed : Dimension
assumed = record { lower = None; upper = None }

abbrev pub up_to : Expr → Dimension
up_to e = record { lower = None; upper = Some e }

abbrev pub held : Text → Kind → List (ℤ × ℤ) → List Value → Held
held x kind bounds values = record { key = record { of_module = None; name = x }; cells = record { kind = kind; bounds = bounds; values = values } }

abbrev pub scalar_held : Text → Value → Held
scalar_held x v = held x I4 [] (v ∷ [])

abbrev pub whole : ℕ → Value
whole n = Whole (pos n)

abbrev pub statements : List Stmt → Stmts
statements [] = Done
statements (s ∷ rest) = Then s (statements rest)

abbrev pub unit_of : Text → List Text → List Decl → List Stmt → Unit
unit_of x dummies decls body = record { name = x; dummies = dummies; result = None; uses = []; decls = decls; marks = []; body = statements body; host = None }

abbrev pub function_of : Text → List Text → Text → List Decl → List Stmt → Unit
function_of x dummies result decls body = record (unit_of x dummies decls body) { result = Some result }

abbrev pub one_unit : Unit → Program
one_unit u = record { modules = []; units = u ∷ []; order = A_unit 0 ∷ [] }

abbrev pub two_units : Unit → Unit → Program
two_units u v = record { modules = []; units = u ∷ v ∷ []; order = A_unit 0 ∷ A_unit 1 ∷ [] }

abbrev pub loop : Text → Expr → Expr → Option Directive → List Stmt → Stmt
loop x from to mark body = Do (record { variable = x; from = from; to = to; step = None }) (statements body) mark

abbrev pub when : Expr → Stmt → Stmt
when test action = If (Arm test (Then action Done) No_arm) Nothing_else

abbrev pub at : Text → Expr → Expr
at x e = Reference x (At e No_more)

abbrev pub plus : Expr → Expr → Expr
plus a b = Binary Add a b

abbrev pub minus : Expr → Expr → Expr
minus a b = Binary Sub a b

abbrev pub i : Expr
i = Name (codes "i")

abbrev pub k : Expr
k = Name (codes "k")

abbrev pub n : Expr
n = Name (codes "n")

abbrev pub s : Expr
s = Name (codes "s")

abbrev pub x : Expr
x = Name (codes "x")

-- `!$omp parallel do` with this list
abbrev pub parallel_do : List Text → Option Directive
parallel_do names = Some (record { word = OpenMpLoop; names = names; over = None; number = None; group = None; init = false; lower = None; upper = None })

-- do i = 1, 2: s = s + 1, as a marked loop
abbrev pub bad : Unit
bad = unit_of (codes "bad") (codes "s" ∷ []) (scalar (codes "s") (Some InOut) ∷ scalar (codes "i") None ∷ [])
    (loop (codes "i") (number 1) (number 2) (parallel_do []) (Assign s (plus s (number 1)) ∷ []) ∷ [])

-- do k = 1, n: if (k > 3) exit; s = s + k
abbrev pub leaving : Unit
leaving = unit_of (codes "leaving") (codes "n" ∷ codes "s" ∷ []) (scalar (codes "n") (Some In) ∷ scalar (codes "s") (Some InOut) ∷ scalar (codes "k") None ∷ [])
    (loop (codes "k") (number 1) n None (when (Binary Gt k (number 3)) Exit ∷ Assign s (plus s k) ∷ []) ∷ [])

-- call inc(x, s): the dummies are copies, and what is OUT goes back at the end
abbrev pub inc : Unit
inc = unit_of (codes "inc") (codes "a" ∷ codes "b" ∷ []) (scalar (codes "a") (Some In) ∷ scalar (codes "b") (Some Out) ∷ [])
    (Assign (Name (codes "b")) (plus (Name (codes "a")) (number 1)) ∷ [])

abbrev pub calling : Unit
calling = unit_of (codes "calling") (codes "x" ∷ codes "s" ∷ []) (scalar (codes "x") (Some In) ∷ scalar (codes "s") (Some InOut) ∷ [])
    (Call (codes "inc") (At (plus x s) (At s No_more)) false ∷ [])

-- q(2:n) = q(1:n-1): all is evaluated before any is stored; then s = sum(q) + size(q)
abbrev pub q : Expr
q = Name (codes "q")

abbrev pub section : Expr → Expr → Expr
section lower upper = Reference (codes "q") (Section (Bounded lower) (Bounded upper) No_more)

abbrev pub shifting : Unit
shifting = unit_of (codes "shifting") (codes "n" ∷ codes "q" ∷ codes "s" ∷ []) (scalar (codes "n") (Some In) ∷ variable (codes "q") I4 (Some InOut) (assumed ∷ []) ∷ scalar (codes "s") (Some Out) ∷ [])
    (Assign (section (number 2) n) (section (number 1) (minus n (number 1)))
    ∷ Assign s (plus (Reference (codes "sum") (At q No_more)) (Reference (codes "size") (At q No_more))) ∷ [])

-- a function and a SELECT that uses its result
abbrev pub twice : Unit
twice = function_of (codes "twice") (codes "a" ∷ []) (codes "twice") (scalar (codes "twice") None ∷ scalar (codes "a") (Some In) ∷ [])
    (Assign (Name (codes "twice")) (Binary Mul (Name (codes "a")) (number 2)) ∷ [])

abbrev pub choosing : Unit
choosing = unit_of (codes "choosing") (codes "x" ∷ codes "s" ∷ []) (scalar (codes "x") (Some In) ∷ scalar (codes "s") (Some Out) ∷ [])
    (Select (Reference (codes "twice") (At x No_more))
    (Case (Single (Signed Minus (number 2)) ∷ Span (Some (number 3)) (Some (number 5)) ∷ []) (statements (Assign s (number 10) ∷ [])) No_case)
    (Else (statements (Assign s (number 20) ∷ []))) ∷ [])

-- m = 1/n and s = s + m
abbrev pub dividing : Unit
dividing = unit_of (codes "dividing") (codes "n" ∷ codes "s" ∷ []) (scalar (codes "n") (Some In) ∷ scalar (codes "s") (Some InOut) ∷ scalar (codes "m") None ∷ [])
    (Assign (Name (codes "m")) (Binary Div (number 1) n) ∷ Assign s (plus s (Name (codes "m"))) ∷ [])

-- s = q(x), where q has n elements
abbrev pub picking : Unit
picking = unit_of (codes "picking") (codes "n" ∷ codes "x" ∷ codes "q" ∷ codes "s" ∷ []) (scalar (codes "n") (Some In) ∷ scalar (codes "x") (Some In) ∷ variable (codes "q") I4 (Some In) (up_to n ∷ []) ∷ scalar (codes "s") (Some Out) ∷ [])
    (Assign s (at (codes "q") x) ∷ [])
