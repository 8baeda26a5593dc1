-- Constructs with one branch more.
use Rattle.std.specs.Prelude.{List, [], ◌∷◌, ◌++◌, Option, Some, None}
use Rattle.fort_tree.specs.declared.expr.Expr.{Expr}
use Rattle.fort_tree.specs.declared.stmt.Stmt.{Stmt}
use Rattle.sound_programs.specs.Nesting.{arm, case}
use Rattle.form_nesting.specs.declared.construct.Arms.{Arms}
use Rattle.form_nesting.specs.declared.construct.Cases.{Cases}
use Rattle.form_nesting.specs.declared.construct.Heading.{Heading}
use Rattle.form_nesting.specs.declared.construct.Heading.TheVariants.{Nothing, Ranges, Default}

abbrev pub no_arms : Arms
no_arms = record { list = []; other = None }

abbrev pub no_cases : Cases
no_cases = record { list = []; other = None }

abbrev pub with_arm : Option Expr → List Stmt → Arms → Arms
with_arm (Some test) body arms = record arms { list = arms.list ++ arm test body ∷ [] }
with_arm None body arms = record arms { other = Some body }

abbrev pub with_case : Heading → List Stmt → Cases → Cases
with_case Nothing body cases = cases
with_case (Ranges ranges) body cases = record cases { list = cases.list ++ case ranges body ∷ [] }
with_case Default body cases = record cases { other = Some body }
