-- Lines of a program say its forms.
use Rattle.std.proofs.Common.{List, refl}
use Rattle.fort_tree.specs.declared.statement.Line.{Line}
use Rattle.fort_tree.specs.declared.unit.File.{File}
use Rattle.fort_units.specs.Program.{IsProgram}
use Rattle.layout_reading.proofs.LineForms.{forms_known}
use Rattle.written_programs.proofs.SaidForms.{IsSaidForm, AreSaid}

-- the forms of a program are said
pub program_said : {lines : List Line} {file : File} (p : IsProgram lines file) → AreSaid p.judged.forms
program_said p = forms_known IsSaidForm (λ at tokens s h. record { tokens = tokens; statement = s; form = h; same = refl }) (λ d h. h) p
