-- A unit of two column scalars, its program for all columns, and inputs of both.
use Rattle.std.specs.Prelude.{ℕ, ℤ, pos, negsuc, codes, List, [], ◌∷◌, Option, Some, None, false}
use Rattle.fort_arith.specs.declared.kind.Kind.TheVariants.{I4}
use Rattle.fort_arith.specs.declared.op.Op.TheVariants.{Add, Mul, Lt}
use Rattle.fort_tree.specs.declared.unit.Intent.{Intent}
use Rattle.fort_tree.specs.declared.unit.Intent.TheVariants.{In, InOut}
use Rattle.fort_tree.specs.declared.stmt.DirectiveWord.TheVariants.{Define, Parallelize, OpenMpLoop}
use Rattle.courses.specs.Element.{Value, Undefined, Whole}
use Rattle.claw_meaning.specs.Syntax.{Text, Expr, Numeral, Name, Reference, Binary, Subscripts, No_more, At, Dimension, Decl, Directive, Head, Stmt, Assign, If, Do, Return, Stmts, Done, Then, Arms, No_arm, Arm, Otherwise, Nothing_else, Unit, Program, Item, A_unit}
use Rattle.claw_meaning.specs.Frames.{Frame, Held, Key, Cells}

abbrev pub scalar : Text → Option Intent → Decl
scalar x intent = record { name = x; kind = I4; intent = intent; shape = []; value = None }

abbrev pub numeral : ℕ → Expr
numeral n = Numeral n None

abbrev pub directive : Directive
directive = record { word = Define; names = codes "col" ∷ []; over = None; number = None; group = None; init = false; lower = Some (numeral 1); upper = Some (Name (codes "ncol")) }

abbrev pub body_of : Expr → Expr → Stmt
body_of a b = Assign b (Binary Add b (Binary Mul a (numeral 2)))

abbrev pub source_unit : Unit
source_unit = record {
  name = codes "add";
  dummies = codes "a" ∷ codes "b" ∷ [];
  result = None;
  uses = [];
  decls = scalar (codes "a") (Some In) ∷ scalar (codes "b") (Some InOut) ∷ [];
  marks = directive ∷ record directive { word = Parallelize; names = codes "a" ∷ codes "b" ∷ []; lower = None; upper = None } ∷ [];
  body = Then (body_of (Name (codes "a")) (Name (codes "b"))) Done;
  host = None;
}

abbrev pub program_of : Unit → Program
program_of u = record { modules = []; units = u ∷ []; order = A_unit 0 ∷ [] }

abbrev pub source : Program
source = program_of source_unit

abbrev pub wide_decl : Text → Option Intent → Decl
wide_decl x intent = record (scalar x intent) { shape = record { lower = Some (numeral 1); upper = Some (Name (codes "ncol")) } ∷ [] }

abbrev pub in_column : Text → Expr
in_column x = Reference x (At (Name (codes "col")) No_more)

abbrev pub target_unit : Option Directive → Unit
target_unit mark = record {
  name = codes "add";
  dummies = codes "a" ∷ codes "b" ∷ codes "ncol" ∷ [];
  result = None;
  uses = [];
  decls = scalar (codes "ncol") (Some In) ∷ wide_decl (codes "a") (Some In) ∷ wide_decl (codes "b") (Some InOut) ∷ scalar (codes "col") None ∷ [];
  marks = [];
  body =
      Then (If (Arm (Binary Lt (Name (codes "ncol")) (numeral 1)) (Then Return Done) No_arm) Nothing_else)
      (Then (Do (record { variable = codes "col"; from = numeral 1; to = Name (codes "ncol"); step = None }) (Then (body_of (in_column (codes "a")) (in_column (codes "b"))) Done) mark)
      Done);
  host = None;
}

abbrev pub target : Option Directive → Program
target mark = program_of (target_unit mark)

abbrev pub open_mp : Option Directive
open_mp = Some (record directive { word = OpenMpLoop; names = []; lower = None; upper = None })

abbrev pub held : Text → List (ℤ × ℤ) → List Value → Held
held x bounds values = record { key = record { of_module = None; name = x }; cells = record { kind = I4; bounds = bounds; values = values } }

-- two columns
abbrev pub wide : Value → Value → Value → Value → Frame
wide a1 a2 b1 b2 = held (codes "a") ((pos 1, pos 2) ∷ []) (a1 ∷ a2 ∷ []) ∷ held (codes "b") ((pos 1, pos 2) ∷ []) (b1 ∷ b2 ∷ []) ∷ held (codes "ncol") [] (Whole (pos 2) ∷ []) ∷ []
