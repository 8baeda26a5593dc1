-- The forms of a text as the lines by which its nesting is judged, and what laws say of them.
use Rattle.std.specs.Prelude.{◌≡◌, ℕ, ◌≤◌, Bool, true, false, List, [], ◌∷◌, map, IsTrue, ⊤}
use Rattle.std.specs.List.{list_all}
use Rattle.fort_tree.specs.declared.choice.Mode.{Mode}
use Rattle.fort_tree.specs.declared.statement.Statement.{Statement, out-Statement}
use Rattle.fort_tree.specs.declared.statement.Statement.TheOpen.{Statement-F}
use Rattle.fort_tree.specs.declared.unit.File.{File}
use Rattle.sound_programs.specs.Forms.{Form, Says, Directs, is_reference, is_entity, is_range}
use Rattle.sound_programs.specs.Nesting.{Nests}
use Rattle.fort_units.specs.declared.item.Item.{Item}
use Rattle.fort_units.specs.declared.item.Item.TheVariants as item
use Rattle.fort_stmt.specs.Sort.{sort_of_level}
use Rattle.fort_units.specs.Passing.{file_of, faults}

abbrev pub item_of : Form → Item
item_of (Says at level) = item.Statement at (sort_of_level level)
item_of (Directs d) = item.Directive d.at false d.word

abbrev pub items_of : List Form → List Item
items_of forms = map item_of forms

-- The first form stands in this file or a later one, and none stands in an earlier file than the form before it.
abbrev pub FilesFrom : ℕ → List Form → Type 0
FilesFrom file [] = ⊤
FilesFrom file (f ∷ fs) = (file ≤ file_of (item_of f)) × FilesFrom (file_of (item_of f)) fs

-- What a form has of itself: a left side is a reference, a declaration one of the forms, a range has a value, and behind IF
-- on one line stands an action.

abbrev pub is_action_level : Statement-F Statement → Bool
is_action_level (Statement-F.Assign left right) = is_reference left
is_action_level (Statement-F.Call name args) = true
is_action_level Statement-F.Exit = true
is_action_level Statement-F.Cycle = true
is_action_level Statement-F.Return = true
is_action_level other = false

abbrev pub is_level : Statement-F Statement → Bool
is_level (Statement-F.Assign left right) = is_reference left
is_level (Statement-F.Declare line) = list_all is_entity line
is_level (Statement-F.Case ranges) = list_all is_range ranges
is_level (Statement-F.IfAction test at action) = is_action_level (out-Statement action)
is_level other = true

abbrev pub is_form : Form → Bool
is_form (Says at level) = is_level level
is_form (Directs d) = true

-- forms without a fault of nesting nest into a file
abbrev pub FaultlessNest : Type 0
FaultlessNest = (mode : Mode) (forms : List Form) → IsTrue (list_all is_form forms) → faults mode (items_of forms) ≡ [] → (file : File) × Nests mode forms file
