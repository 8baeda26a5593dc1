-- A unit with column scalars as a unit for all columns: its names get the dimension as subscript, in one loop behind a guard.
use Rattle.std.specs.Prelude.{◌<◌, List, [], ◌∷◌, ◌++◌, map, length, Option, Some, None}
use Rattle.fort_arith.specs.declared.kind.Kind.TheVariants.{I4}
use Rattle.fort_arith.specs.declared.op.Op.TheVariants.{Lt}
use Rattle.fort_tree.specs.declared.unit.Intent.TheVariants.{In}
use Rattle.fort_tree.specs.declared.unit.Unit as tree
use Rattle.fort_tree.specs.declared.stmt.Directive as directive
use Rattle.claw_meaning.specs.Syntax.{Text, Expr, Numeral, Name, Binary, Decl, Directive, Stmt, Assign, If, Do, Return, Stmts, Done, Then, No_arm, Arm, Nothing_else, Unit}
use Rattle.column_scalars.specs.Scalars.{wide_sum, local_decl}

abbrev pub first_name : List Text → Text
first_name [] = []
first_name (x ∷ xs) = x

-- the bounds of the columns; a lower one that isn't given is 1
abbrev pub bound_or_one : Option Expr → Expr
bound_or_one None = Numeral 1 None
bound_or_one (Some e) = e

-- the bare name that an upper bound is
abbrev pub bare_name : Option Expr → Option Text
bare_name (Some (Name x)) = Some x
bare_name other = None

abbrev pub listed : {A : Type 0} → Option A → List A
listed None = []
listed (Some x) = x ∷ []

abbrev pub wide_stmt : Text → Stmt → Stmt
wide_stmt id (Assign left right) = Assign (wide_sum id left) (wide_sum id right)
wide_stmt id other = other

abbrev pub wide_stmts : Text → Stmts → Stmts
wide_stmts id Done = Done
wide_stmts id (Then s rest) = Then (wide_stmt id s) (wide_stmts id rest)

abbrev pub wide_decl_by : Directive → Decl → Decl
wide_decl_by d decl = record decl { shape = record { lower = d.lower; upper = d.upper } ∷ [] }

abbrev pub added_decl : Text → Decl
added_decl x = record { name = x; kind = I4; intent = Some In; shape = []; value = None }

abbrev pub guard_by : Directive → Stmt
guard_by d = If (Arm (Binary Lt (bound_or_one d.upper) (bound_or_one d.lower)) (Then Return Done) No_arm) Nothing_else

abbrev pub loop_by : Directive → Stmts → Stmt
loop_by d body = Do (record { variable = first_name d.names; from = bound_or_one d.lower; to = bound_or_one d.upper; step = None }) body None

-- a unit without statements has no loop
abbrev pub looped_by : Directive → Stmts → Stmts
looped_by d Done = Done
looped_by d (Then s rest) = Then (loop_by d (wide_stmts (first_name d.names) (Then s rest))) Done

abbrev pub widened_by : Directive → Unit → Unit
widened_by d u = record {
  name = u.name;
  dummies = u.dummies ++ listed (bare_name d.upper);
  result = None;
  uses = [];
  decls = map added_decl (listed (bare_name d.upper)) ++ (map (wide_decl_by d) u.decls ++ local_decl (first_name d.names) ∷ []);
  marks = [];
  body = Then (guard_by d) (looped_by d u.body);
  host = None;
}

abbrev pub no_directive : List Directive → Unit → Unit
no_directive [] u = u
no_directive (d ∷ ds) u = widened_by d u

-- by its first directive, which is `define`
abbrev pub widened : Unit → Unit
widened u = no_directive u.marks u

abbrev pub Dimensioned : List directive.Directive → Type 0
Dimensioned [] = ⊥
Dimensioned (d ∷ ds) = 0 < length d.names

-- the unit has a first directive, which names the dimension
abbrev pub HasDimension : tree.Unit → Type 0
HasDimension u = Dimensioned u.marks
