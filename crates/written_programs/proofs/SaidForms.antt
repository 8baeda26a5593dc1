-- Forms that lines have, and the lines of forms.
use Rattle.std.proofs.Common.{◌≡◌, List, [], ◌∷◌, ◌++◌, false, subst}
use Rattle.std.specs.List.{AllByRecursion}
use Rattle.fort_tree.specs.declared.statement.Statement.{Statement, out-Statement}
use Rattle.fort_tree.specs.declared.statement.Statement.TheOpen.{Statement-F}
use Rattle.fort_tree.specs.declared.statement.Token.{Token}
use Rattle.fort_tree.specs.declared.place.Place.{Place}
use Rattle.fort_expr.specs.Words.{front_place}
use Rattle.sound_programs.specs.Forms.{Form, Says, Directs}
use Rattle.fort_stmt.specs.Form.{IsStatement}
use Rattle.layout_reading.specs.FormLines as line
use Rattle.layout_reading.specs.FormLines.{TokenLine, HaveForms}
use Rattle.layout_reading.proofs.DefineNames.{DefinesFreeNames}

-- tokens are a statement of this level
pub record IsSaid (level : Statement-F Statement) : Type 0 where
  pub tokens : List Token
  pub statement : Statement
  pub form : IsStatement tokens statement
  pub same : out-Statement statement ≡ level

abbrev pub place_said : {level : Statement-F Statement} → IsSaid level → Place
place_said s = front_place s.tokens

-- tokens are the statement, and the names of a `define` are free
abbrev pub IsSaidForm : Form → Type 0
IsSaidForm (Says at level) = IsSaid level
IsSaidForm (Directs d) = DefinesFreeNames d

abbrev pub AreSaid : List Form → Type 0
AreSaid forms = AllByRecursion IsSaidForm forms

-- lines have the forms
pub record Lined (forms : List Form) : Type 0 where
  pub lines : List TokenLine
  pub have : HaveForms lines forms

pub no_lines : Lined []
no_lines = record { lines = []; have = line.no_form }

pub say : {level : Statement-F Statement} {rest : List Form} (s : IsSaid level) → Lined rest → Lined (Says (place_said s) level ∷ rest)
say {level = level} {rest = rest} s l = record {
  lines = record { directive = false; tokens = s.tokens } ∷ l.lines;
  have = line.form (subst (λ x. line.HasForm (record { directive = false; tokens = s.tokens }) (Says (place_said s) x)) s.same (line.says s.form)) l.have;
}

have_appended : {ls ms : List TokenLine} {fs gs : List Form} → HaveForms ls fs → HaveForms ms gs → HaveForms (ls ++ ms) (fs ++ gs)
have_appended line.no_form k = k
have_appended (line.form h more) k = line.form h (have_appended more k)

pub lined_appended : {fs gs : List Form} → Lined fs → Lined gs → Lined (fs ++ gs)
lined_appended l m = record { lines = l.lines ++ m.lines; have = have_appended l.have m.have }
