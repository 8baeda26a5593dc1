-- Small column units and their programs for all columns: an assignment of no column before the columns' loop, an element
-- chosen by a column's own subscript, and a loop over columns that calls a column unit.
use Rattle.std.specs.Prelude.{ℕ, ℤ, pos, codes, List, [], ◌∷◌, Option, Some, None, Bool, true, false}
use Rattle.std.specs.List.{list_any}
use Rattle.std.specs.Str.{bytes_eq}
use Rattle.fort_arith.specs.declared.kind.Kind.TheVariants.{I4}
use Rattle.fort_arith.specs.declared.op.Op.TheVariants.{Div, Lt, Le}
use Rattle.fort_tree.specs.declared.unit.Intent.{Intent}
use Rattle.fort_tree.specs.declared.unit.Intent.TheVariants.{In, Out, InOut}
use Rattle.fort_tree.specs.declared.stmt.DirectiveWord.{DirectiveWord}
use Rattle.fort_tree.specs.declared.stmt.DirectiveWord.TheVariants.{Define, Parallelize, Forward}
use Rattle.courses.specs.Element.{Value, Undefined}
use Rattle.claw_meaning.specs.Syntax.{Text, Expr, Name, Reference, Binary, Subscripts, No_more, At, Section, Bounded, Dimension, Decl, Directive, Stmt, Assign, Call, Return, Done, Then, Unit, Program}
use Rattle.claw_meaning.specs.Frames.{Frame}
use Rattle.claw_meaning.specs.SmallUnits.{number, variable, scalar, up_to, held, scalar_held, whole, unit_of, one_unit, two_units, loop, when, at, plus}

abbrev pub directive : DirectiveWord → List Text → Directive
directive word names = record { word = word; names = names; over = None; number = None; group = None; init = false; lower = None; upper = None }

abbrev pub ncol : Expr
ncol = Name (codes "ncol")

abbrev pub col : Expr
col = Name (codes "col")

-- `define dimension col(1:ncol) parallelize`, with this list or none
abbrev pub marks : List Text → List Directive
marks names = record (directive Define (codes "col" ∷ [])) { lower = Some (number 1); upper = Some ncol } ∷ directive Parallelize names ∷ []

abbrev pub columns : Dimension
columns = record { lower = Some (number 1); upper = Some ncol }

abbrev pub counted : Decl
counted = scalar (codes "ncol") (Some In)

abbrev pub dimension : Decl
dimension = scalar (codes "col") None

-- if (ncol < 1) return
abbrev pub guard : Stmt
guard = when (Binary Lt ncol (number 1)) Return

abbrev pub column_loop : List Stmt → Stmt
column_loop body = loop (codes "col") (number 1) ncol None body

abbrev pub names_one : List Text → Text → Bool
names_one names x = list_any (bytes_eq x) names

-- m = 1/n is of no column; q = q + m is of each

abbrev pub inverse : Stmt
inverse = Assign (Name (codes "m")) (Binary Div (number 1) (Name (codes "n")))

abbrev pub zero_source : Unit
zero_source = record (unit_of (codes "zero") (codes "n" ∷ codes "q" ∷ []) (scalar (codes "n") (Some In) ∷ scalar (codes "q") (Some InOut) ∷ scalar (codes "m") None ∷ [])
    (inverse ∷ Assign (Name (codes "q")) (plus (Name (codes "q")) (Name (codes "m"))) ∷ [])) { marks = marks [] }

abbrev pub zero_target : Unit
zero_target = unit_of (codes "zero") (codes "n" ∷ codes "q" ∷ codes "ncol" ∷ [])
    (scalar (codes "n") (Some In) ∷ counted ∷ variable (codes "q") I4 (Some InOut) (columns ∷ []) ∷ scalar (codes "m") None ∷ dimension ∷ [])
    (guard ∷ inverse ∷ column_loop (Assign (at (codes "q") col) (plus (at (codes "q") col) (Name (codes "m"))) ∷ []) ∷ [])

abbrev pub zero_frame : ℕ → ℕ → List Value → Frame
zero_frame n count q = scalar_held (codes "n") (whole n) ∷ held (codes "q") I4 ((pos 1, pos count) ∷ []) q ∷ scalar_held (codes "ncol") (whole count) ∷ []

-- r = a(ix): each column has a subscript and elements of its own

abbrev pub pick_source : Unit
pick_source = record (unit_of (codes "pick") (codes "nz" ∷ codes "ix" ∷ codes "a" ∷ codes "r" ∷ [])
    (scalar (codes "nz") (Some In) ∷ scalar (codes "ix") (Some In) ∷ variable (codes "a") I4 (Some In) (up_to (Name (codes "nz")) ∷ []) ∷ scalar (codes "r") (Some Out) ∷ [])
    (Assign (Name (codes "r")) (at (codes "a") (Name (codes "ix"))) ∷ [])) { marks = marks (codes "ix" ∷ codes "a" ∷ codes "r" ∷ []) }

abbrev pub pick_target : Unit
pick_target = unit_of (codes "pick") (codes "nz" ∷ codes "ix" ∷ codes "a" ∷ codes "r" ∷ codes "ncol" ∷ [])
    (scalar (codes "nz") (Some In) ∷ counted ∷ variable (codes "ix") I4 (Some In) (columns ∷ []) ∷ variable (codes "a") I4 (Some In) (columns ∷ up_to (Name (codes "nz")) ∷ []) ∷ variable (codes "r") I4 (Some Out) (columns ∷ []) ∷ dimension ∷ [])
    (guard ∷ column_loop (Assign (at (codes "r") col) (Reference (codes "a") (At col (At (at (codes "ix") col) No_more))) ∷ []) ∷ [])

-- two levels, three columns
abbrev pub pick_frame : List Value → List Value → Frame
pick_frame ix r =
    scalar_held (codes "nz") (whole 2)
    ∷ held (codes "ix") I4 ((pos 1, pos 3) ∷ []) ix
    ∷ held (codes "a") I4 ((pos 1, pos 3) ∷ (pos 1, pos 2) ∷ []) (whole 10 ∷ whole 20 ∷ whole 30 ∷ whole 11 ∷ whole 21 ∷ whole 31 ∷ [])
    ∷ held (codes "r") I4 ((pos 1, pos 3) ∷ []) r
    ∷ scalar_held (codes "ncol") (whole 3) ∷ []

-- a loop over five columns that calls a column unit; one guarded call for all

abbrev pub one_source : Unit
one_source = record (unit_of (codes "one") (codes "r" ∷ []) (scalar (codes "r") (Some Out) ∷ []) (Assign (Name (codes "r")) (number 7) ∷ [])) { marks = marks [] }

abbrev pub one_target : Unit
one_target = unit_of (codes "one") (codes "r" ∷ codes "ncol" ∷ []) (counted ∷ variable (codes "r") I4 (Some Out) (columns ∷ []) ∷ dimension ∷ [])
    (guard ∷ column_loop (Assign (at (codes "r") col) (number 7) ∷ []) ∷ [])

abbrev pub drive_of : Stmt → Unit
drive_of s = unit_of (codes "drive") (codes "q" ∷ []) (variable (codes "q") I4 (Some InOut) (up_to (number 10) ∷ []) ∷ scalar (codes "i") None ∷ []) (s ∷ [])

abbrev pub drive_source : Unit
drive_source = drive_of (loop (codes "i") (number 1) (number 5) (Some (directive Forward [])) (Call (codes "one") (At (at (codes "q") (Name (codes "i"))) No_more) false ∷ []))

abbrev pub drive_target : Unit
drive_target = drive_of (when (Binary Le (number 1) (number 5)) (Call (codes "one") (At (Reference (codes "q") (Section (Bounded (number 1)) (Bounded (number 5)) No_more)) (At (number 5) No_more)) false))

abbrev pub drive_frame : List Value → Frame
drive_frame q = held (codes "q") I4 ((pos 1, pos 10) ∷ []) q ∷ []

abbrev pub source : Program
source = two_units drive_source one_source

abbrev pub target : Program
target = two_units drive_target one_target
