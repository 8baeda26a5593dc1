-- What going over a text gives.
use Rattle.std.specs.Prelude.{ℕ, ◌≡◌, List, [], Option, None, Some}
use Rattle.fort_tree.specs.declared.choice.Mode.{Mode}
use Rattle.fort_tree.specs.declared.fault.Fault.{Fault}
use Rattle.fort_lex.specs.Lines.{HasLines, IsFirst}
use Rattle.fort_lex.specs.Machine.{gone_over, lines_of, first_fault}

-- no fault, or the first
abbrev pub FirstOf : Option Fault → List Fault → Type 0
FirstOf None faults = faults ≡ []
FirstOf (Some f) faults = IsFirst f faults

-- the lines and the faults of a text, and the first of them
pub record Going (file : ℕ) (mode : Mode) (text : List ℕ) : Type 0 where
  pub faults : List Fault
  pub are : HasLines file mode text (lines_of (gone_over file mode text)) faults
  pub is_first : FirstOf (first_fault (gone_over file mode text)) faults
