-- What the reading of a line answers.
use Rattle.std.specs.Prelude.{◌≡◌, List, Result, Ok, Err, None, ⊤}
use Rattle.fort_tree.specs.declared.fault.Fault.{Fault}
use Rattle.fort_tree.specs.declared.fault.Code.TheVariants.{E40}
use Rattle.fort_tree.specs.declared.fault.Stop.{Stop}
use Rattle.fort_tree.specs.declared.fault.Stop.TheVariants.{Fault as Faulty, NoMemory}
use Rattle.fort_tree.specs.declared.place.Place.{Place}
use Rattle.fort_tree.specs.declared.statement.Line.{Line}
use Rattle.fort_tree.specs.declared.stmt.Directive.{Directive}
use Rattle.claw_lines.specs.Forms.{Directs, sentinel_place}

-- a directive or mark line of no form
abbrev pub no_form_at : Place → Fault
no_form_at at = record { code = E40; place = at; item = 0; first = None; second = None }

-- what the line asks for; or E40 at its sentinel, where it asks for nothing; or that memory was refused
abbrev pub Answers : Line → Result (List Directive) Stop → Type 0
Answers line (Ok directives) = Directs line directives
Answers line (Err (Faulty fault)) = (fault ≡ no_form_at (sentinel_place line)) × ((directives : List Directive) → Directs line directives → ⊥)
Answers line (Err NoMemory) = ⊤
