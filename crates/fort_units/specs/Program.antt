-- What the lines of all files give: the lines as nesting is judged by them, their own first faults, and their forms.
use Rattle.std.specs.Prelude.{◌≡◌, Bool, true, false, not, List, [], ◌∷◌, ◌++◌, map, codes, Option, None, Some, Result, Ok, Err, ⊤}
use Rattle.std.specs.Str.{bytes_eq}
use Rattle.fort_tree.specs.declared.choice.Mode.{Mode}
use Rattle.fort_tree.specs.declared.choice.Mode.TheVariants.{Source}
use Rattle.fort_tree.specs.declared.fault.Fault.{Fault}
use Rattle.fort_tree.specs.declared.fault.Stop.{Stop}
use Rattle.fort_tree.specs.declared.fault.Stop.TheVariants as stop
use Rattle.fort_tree.specs.declared.place.Place.{Place}
use Rattle.fort_tree.specs.declared.statement.Line.{Line}
use Rattle.fort_tree.specs.declared.statement.Statement.{Statement}
use Rattle.fort_tree.specs.declared.statement.Token.{Token}
use Rattle.fort_tree.specs.declared.stmt.Directive.{Directive}
use Rattle.fort_tree.specs.declared.unit.File.{File}
use Rattle.sound_programs.specs.Forms.{Form, says, Directs}
use Rattle.sound_programs.specs.Nesting.{Nests}
use Rattle.claw_lines.specs.Answer.{no_form_at}
use Rattle.claw_lines.specs.Forms as directive_line
use Rattle.fort_stmt.specs.declared.sort.Sort.{Sort}
use Rattle.fort_stmt.specs.Sort.{sort_of}
use Rattle.fort_stmt.specs.Verdict as verdict
use Rattle.fort_units.specs.declared.item.Item.{Item}
use Rattle.fort_units.specs.declared.item.Item.TheVariants as item
use Rattle.fort_units.specs.Passing.{faults, IsFirst}

-- a directive line of the compiler's own begins with `!$claw`, a mark line with another sentinel
abbrev pub is_mark_line : List Token → Bool
is_mark_line [] = false
is_mark_line (sentinel ∷ tokens) = not (bytes_eq sentinel.text (codes "!$claw"))

abbrev pub item_of_directive : Bool → Directive → Item
item_of_directive within d = item.Directive d.at within d.word

-- what nesting is judged by of a statement with a fault: its sort where it is whole all the same, being past a limit alone
abbrev pub IsFaultyItem : Line → Item → Type 0
IsFaultyItem line (item.Statement at k) = (at ≡ line.at) × verdict.IsSketch line k
IsFaultyItem line (item.Absent at) = (at ≡ line.at) × ((k : Sort) → verdict.IsSketch line k → ⊥)
IsFaultyItem line other = ⊥

abbrev pub item_of_sketch : Place → Option Sort → Item
item_of_sketch at (Some k) = item.Statement at k
item_of_sketch at None = item.Absent at

-- A line, what nesting is judged by, its first own fault, and its forms.
pub data HasLine (line : Line) : List Item → List Fault → List Form → Type 0 where
  -- a line without tokens is none
  nothing : line.directive ≡ false → line.tokens ≡ [] → HasLine line [] [] []
  -- a statement without a fault of its own
  whole : {s : Statement} → line.directive ≡ false → verdict.Answers (Ok s) line → HasLine line (item.Statement line.at (sort_of s) ∷ []) [] (says line.at s ∷ [])
  -- a statement with a fault
  faulty : {fault : Fault} {i : Item} → line.directive ≡ false → verdict.Answers (Err (stop.Fault fault)) line → IsFaultyItem line i → HasLine line (i ∷ []) (fault ∷ []) []
  directs : {directives : List Directive} → line.directive ≡ true → directive_line.Directs line directives →
      HasLine line (map (item_of_directive line.within) directives) [] (map Directs directives)
  unread : line.directive ≡ true → ((directives : List Directive) → directive_line.Directs line directives → ⊥) →
      HasLine line (item.Unread (directive_line.sentinel_place line) line.within (is_mark_line line.tokens) ∷ []) (no_form_at (directive_line.sentinel_place line) ∷ []) []

-- all lines
pub data HasLines : List Line → List Item → List Fault → List Form → Type 0 where
  no_line : HasLines [] [] [] []
  a_line : {line : Line} {lines : List Line} {is js : List Item} {fs gs : List Fault} {hs ks : List Form} → HasLine line is fs hs → HasLines lines js gs ks →
      HasLines (line ∷ lines) (is ++ js) (fs ++ gs) (hs ++ ks)

-- the mode of the texts, that of the first line
abbrev pub mode_of : List Line → Mode
mode_of [] = Source
mode_of (line ∷ lines) = line.mode

-- the lines judged
pub record Judged (lines : List Line) : Type 0 where
  pub items : List Item
  pub own : List Fault
  pub forms : List Form
  pub are : HasLines lines items own forms

-- the first own fault of each line, and the faults of nesting
abbrev pub all_faults : (lines : List Line) → Judged lines → List Fault
all_faults lines j = j.own ++ faults (mode_of lines) j.items

pub record IsProgram (lines : List Line) (file : File) : Type 0 where
  pub judged : Judged lines
  pub sound : all_faults lines judged ≡ []
  pub nests : Nests (mode_of lines) judged.forms file

pub record HasFirst (lines : List Line) (fault : Fault) : Type 0 where
  pub judged : Judged lines
  pub first : IsFirst fault (all_faults lines judged)

-- the program of the lines, which have no fault; or their first fault; or that memory was refused
abbrev pub Answers : List Line → Result File Stop → Type 0
Answers lines (Ok file) = IsProgram lines file
Answers lines (Err (stop.Fault fault)) = HasFirst lines fault
Answers lines (Err stop.NoMemory) = ⊤
