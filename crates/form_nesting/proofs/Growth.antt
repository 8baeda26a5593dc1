-- A statement adds one module and one unit at most, a directive none.
use Rattle.std.proofs.Common.{◌≡◌, ℕ, ◌+◌, ◌≤◌, length, List, [], ◌∷◌, Option, None, Some, sym, subst, arith}
use Rattle.std.proofs.lemmas.List.{length-append}
use Rattle.fort_tree.specs.declared.expr.Expr.{Expr}
use Rattle.fort_tree.specs.declared.place.Place.{Place}
use Rattle.fort_tree.specs.declared.statement.Statement.{Statement, out-Statement}
use Rattle.fort_tree.specs.declared.statement.Statement.TheOpen.{Statement-F}
use Rattle.fort_tree.specs.declared.stmt.Directive.{Directive}
use Rattle.fort_tree.specs.declared.stmt.Stmt.{Stmt}
use Rattle.fort_tree.specs.declared.unit.Decl.{Decl}
use Rattle.fort_tree.specs.declared.unit.File.{File}
use Rattle.fort_tree.specs.declared.unit.Module.{Module}
use Rattle.fort_tree.specs.declared.unit.Unit as unit
use Rattle.fort_tree.specs.declared.unit.Use.{Use}
use Rattle.sound_programs.specs.Forms.{Form, Says, Directs}
use Rattle.form_nesting.specs.declared.construct.Heading.TheVariants as heading
use Rattle.form_nesting.specs.declared.nest.Nest.{Nest}
use Rattle.form_nesting.specs.declared.role.Role.{Role}
use Rattle.form_nesting.specs.declared.role.Role.TheVariants.{OfUnit, Before, Begins, Ends, Nowhere}
use Rattle.form_nesting.specs.declared.statements.Statements.{Statements}
use Rattle.form_nesting.specs.Forms.{statements_among}
use Rattle.form_nesting.specs.Statements.{simple, next_arm, end_if, next_case, end_select, end_do, end_block}
use Rattle.form_nesting.specs.Steps.{trying, act, using_in, declaring_in, marking_in, ended_in, say, role as role_of, directed}
use Rattle.form_nesting.specs.Runs.{step}

-- the file behind a step, which without one is the file before it
abbrev pub file_after : File → Option Nest → File
file_after file None = file
file_after file (Some n) = n.file

pub record Grows (most : ℕ) (before after : File) : Type 0 where
  pub modules : length after.modules ≤ length before.modules + most
  pub units : length after.units ≤ length before.units + most

stays : (most : ℕ) (file : File) → Grows most file file
stays most file = record { modules = omega arith; units = omega arith }

trying_grows : (most : ℕ) (o : Option Statements) (n : Nest) → Grows most n.file (file_after n.file (trying o n))
trying_grows most None n = stays most n.file
trying_grows most (Some ss) n = stays most n.file

act_grows : (at : Place) (test : Expr) (o : Option Stmt) (n : Nest) → Grows 1 n.file (file_after n.file (act at test o n))
act_grows at test None n = stays 1 n.file
act_grows at test (Some s) n = stays 1 n.file

using_grows : (line : Use) (u : Option unit.Unit) (m : Option Module) (n : Nest) → Grows 1 n.file (file_after n.file (using_in line u m n))
using_grows line (Some u) m n = stays 1 n.file
using_grows line None (Some m) n = stays 1 n.file
using_grows line None None n = stays 1 n.file

declaring_grows : (line : List Decl) (u : Option unit.Unit) (m : Option Module) (n : Nest) → Grows 1 n.file (file_after n.file (declaring_in line u m n))
declaring_grows line (Some u) m n = stays 1 n.file
declaring_grows line None (Some m) n = stays 1 n.file
declaring_grows line None None n = stays 1 n.file

marking_grows : (d : Directive) (u : Option unit.Unit) (n : Nest) → Grows 0 n.file (file_after n.file (marking_in d u n))
marking_grows d (Some u) n = stays 0 n.file
marking_grows d None n = stays 0 n.file

ended_grows : (u : Option unit.Unit) (m : Option Module) (n : Nest) → Grows 1 n.file (file_after n.file (ended_in u m n))
ended_grows (Some u) m n = record { modules = omega arith; units = omega (arith, length-append n.file.units (record u { body = n.statements.body } ∷ [])) }
ended_grows None (Some m) n = record { modules = omega (arith, length-append n.file.modules (m ∷ [])); units = omega arith }
ended_grows None None n = stays 1 n.file

say_grows : (at : Place) (level : Statement-F Statement) (n : Nest) → Grows 1 n.file (file_after n.file (say at level n))
say_grows at (Statement-F.Module name) n = stays 1 n.file
say_grows at Statement-F.Contains n = stays 1 n.file
say_grows at (Statement-F.End word name) n = ended_grows n.unit n.host n
say_grows at (Statement-F.Subroutine name dummies) n = stays 1 n.file
say_grows at (Statement-F.Function prefix name dummies outcome) n = stays 1 n.file
say_grows at (Statement-F.Using line) n = using_grows line n.unit n.host n
say_grows at Statement-F.ImplicitNone n = stays 1 n.file
say_grows at (Statement-F.Declare line) n = declaring_grows line n.unit n.host n
say_grows at (Statement-F.Assign left right) n = stays 1 n.file
say_grows at (Statement-F.Call name args) n = stays 1 n.file
say_grows at (Statement-F.IfAction test place action) n = act_grows at test (simple place (out-Statement action)) n
say_grows at (Statement-F.IfThen test) n = stays 1 n.file
say_grows at (Statement-F.ElseIf test) n = trying_grows 1 (next_arm (Some test) n.statements) n
say_grows at Statement-F.Else n = trying_grows 1 (next_arm None n.statements) n
say_grows at Statement-F.EndIf n = trying_grows 1 (end_if n.statements) n
say_grows at (Statement-F.Do head) n = stays 1 n.file
say_grows at Statement-F.EndDo n = trying_grows 1 (end_do n.statements) n
say_grows at Statement-F.Exit n = stays 1 n.file
say_grows at Statement-F.Cycle n = stays 1 n.file
say_grows at Statement-F.Return n = stays 1 n.file
say_grows at (Statement-F.Select on) n = stays 1 n.file
say_grows at Statement-F.EndSelect n = trying_grows 1 (end_select n.statements) n
say_grows at (Statement-F.Case ranges) n = trying_grows 1 (next_case (heading.Ranges ranges) n.statements) n
say_grows at Statement-F.CaseDefault n = trying_grows 1 (next_case heading.Default n.statements) n

directed_grows : (r : Role) (d : Directive) (n : Nest) → Grows 0 n.file (file_after n.file (directed r d n))
directed_grows OfUnit d n = marking_grows d n.unit n
directed_grows Before d n = stays 0 n.file
directed_grows Begins d n = stays 0 n.file
directed_grows Ends d n = trying_grows 0 (end_block n.statements) n
directed_grows Nowhere d n = stays 0 n.file

grows_at : (f : Form) (n : Nest) → Grows (statements_among (f ∷ [])) n.file (file_after n.file (step f n))
grows_at (Says at level) n = say_grows at level n
grows_at (Directs d) n = directed_grows (role_of d.word) d n

pub grows : (f : Form) (n after : Nest) → Some after ≡ step f n → Grows (statements_among (f ∷ [])) n.file after.file
grows f n after e = subst (λ o. Grows (statements_among (f ∷ [])) n.file (file_after n.file o)) (sym e) (grows_at f n)

pub one_among : (f : Form) (fs : List Form) → statements_among (f ∷ fs) ≡ statements_among (f ∷ []) + statements_among fs
one_among (Says at level) fs = omega arith
one_among (Directs d) fs = omega arith
