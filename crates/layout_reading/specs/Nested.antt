-- Statements that can be written, and what they are read as again.
use Rattle.std.specs.Prelude.{◌≡◌, List, []}
use Rattle.fort_tree.specs.declared.choice.Mode.TheVariants.{Target}
use Rattle.fort_tree.specs.declared.stmt.Stmt.{Stmt}
use Rattle.claw_meaning.specs.Plain.{plain_stmts}
use Rattle.sound_programs.specs.Forms.{Form}
use Rattle.sound_programs.specs.Nesting.{Inside, Body}
use Rattle.layout_reading.specs.FormLines.{TokenLine, HaveForms}

-- Lines of tokens have forms that nest into the statements of a target text, places set aside, however they were written.
pub record ArePrintable (around : Inside) (ss : List Stmt) : Type 0 where
  pub lines : List TokenLine
  pub forms : List Form
  pub rest : List Form
  pub written : List Stmt
  pub have : HaveForms lines forms
  pub nest : Body Target around forms written rest
  pub same : plain_stmts written ≡ plain_stmts ss

-- the lines have forms that nest into the statements, places set aside
pub record AreStatements (around : Inside) (ss : List Stmt) (lines : List TokenLine) : Type 0 where
  pub forms : List Form
  pub body : List Stmt
  pub have : HaveForms lines forms
  pub nest : Body Target around forms body []
  pub same : plain_stmts body ≡ plain_stmts ss
