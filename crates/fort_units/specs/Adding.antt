-- What one line adds to what the lines before it gave.
use Rattle.std.specs.Prelude.{◌≡◌, None, List, ◌++◌, map}
use Rattle.fort_tree.specs.declared.fault.Fault.{Fault}
use Rattle.fort_tree.specs.declared.statement.Line.{Line}
use Rattle.form_nesting.specs.Forms.{form_of}
use Rattle.sound_programs.specs.Forms.{Form}
use Rattle.fort_units.specs.declared.gathering.Gathered.{Gathered}
use Rattle.fort_units.specs.declared.item.Item.{Item}
use Rattle.fort_units.specs.Passing.{noted}
use Rattle.fort_units.specs.Program.{HasLine, HasLines}

-- behind the line there is also what it gives
pub record Adds (line : Line) (before after : Gathered) : Type 0 where
  pub items : List Item
  pub own : List Fault
  pub forms : List Form
  pub has : HasLine line items own forms
  pub more_items : after.items ≡ before.items ++ items
  pub more_forms : map form_of after.forms ≡ map form_of before.forms ++ forms
  pub more_faults : after.least.first ≡ noted before.least.first own

-- what the lines so far give
pub record Gathers (lines : List Line) (g : Gathered) : Type 0 where
  pub own : List Fault
  pub are : HasLines lines g.items own (map form_of g.forms)
  pub first : g.least.first ≡ noted None own
