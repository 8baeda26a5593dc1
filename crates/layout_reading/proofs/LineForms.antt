-- What is known of each form of a program's lines.
use Rattle.std.proofs.Common.{◌≡◌, List, []}
use Rattle.std.specs.List.{AllByRecursion}
use Rattle.fort_tree.specs.declared.fault.Fault.{Fault}
use Rattle.fort_tree.specs.declared.statement.Line.{Line}
use Rattle.fort_tree.specs.declared.statement.Statement.{Statement, out-Statement}
use Rattle.fort_tree.specs.declared.statement.Token.{Token}
use Rattle.fort_tree.specs.declared.place.Place.{Place}
use Rattle.fort_tree.specs.declared.stmt.Directive.{Directive}
use Rattle.fort_tree.specs.declared.unit.File.{File}
use Rattle.fort_stmt.specs.Form.{IsStatement}
use Rattle.fort_units.specs.declared.item.Item.{Item}
use Rattle.fort_units.specs.Passing.{faults}
use Rattle.fort_units.specs.Program as program
use Rattle.fort_units.specs.Program.{HasLine, nothing, whole, faulty, unread, HasLines, no_line, a_line, mode_of, IsProgram}
use Rattle.sound_programs.specs.Forms.{Form, Says, Directs}
use Rattle.layout_reading.proofs.DefineNames.{DefinesFreeNames, line_defines}
use Rattle.layout_reading.proofs.Elements.{each_append, each_mapped, first_none, second_none, some_none}

-- What is known of each statement that tokens are, and of each directive whose names are free where it is a `define`, is known of each form.
module _ (Known : Form → Type 0) (said : (at : Place) (tokens : List Token) (s : Statement) → IsStatement tokens s → Known (Says at (out-Statement s))) (directed : (d : Directive) → DefinesFreeNames d → Known (Directs d)) where
  line_known : {line : Line} {is : List Item} {fs : List Fault} {hs : List Form} → HasLine line is fs hs → fs ≡ [] → AllByRecursion Known hs
  line_known (nothing d e) n = tt
  line_known {line = line} (whole {s = s} d a) n = (said _ line.tokens s a.0.spelled, tt)
  line_known (faulty d a i) n = absurd (some_none n)
  line_known (program.directs {directives = directives} d a) n = each_mapped DefinesFreeNames Known Directs directives directed (line_defines a.form)
  line_known (unread d a) n = absurd (some_none n)

  lines_known : {lines : List Line} {is : List Item} {fs : List Fault} {hs : List Form} → HasLines lines is fs hs → fs ≡ [] → AllByRecursion Known hs
  lines_known no_line n = tt
  lines_known (a_line {fs = fs} {gs = gs} {hs = hs} {ks = ks} here more) n = each_append Known hs ks (line_known here (first_none fs gs n)) (lines_known more (second_none fs gs n))

  pub forms_known : {lines : List Line} {file : File} (p : IsProgram lines file) → AllByRecursion Known p.judged.forms
  forms_known {lines = lines} p = lines_known p.judged.are (first_none p.judged.own (faults (mode_of lines) p.judged.items) p.sound)
