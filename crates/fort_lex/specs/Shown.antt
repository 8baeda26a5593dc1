-- What the code's values are seen as.
use Rattle.std.specs.Prelude.{List, ◌∷◌, map, Option, None, Some}
use Rattle.fort_tree.specs.declared.place.Place.{Place}
use Rattle.fort_tokens.specs.declared.character.Char.{Char}
use Rattle.fort_lex.specs.declared.part.Part.{Part as Parted}
use Rattle.fort_lex.specs.declared.statements.Statements.{Statements}
use Rattle.fort_lex.specs.declared.directives.Directives.{Directives}
use Rattle.fort_lex.specs.declared.pass.Pass.{Pass}
use Rattle.fort_lex.specs.Joined.{Part, blank_at}
use Rattle.fort_lex.specs.Lines.{written}
use Rattle.fort_lex.specs.Machine.{StatementState, DirectiveState, PassState}

abbrev pub no_char : Char
no_char = record { byte = 0; at = record { file = 0; line = 0; column = 0 } }

-- a text with a blank before it, if there is one
abbrev pub with_gap : Option Place → List Char → List Char
with_gap None text = text
with_gap (Some at) text = blank_at at ∷ text

abbrev pub shown_part : Parted → Part
shown_part p = record { text = with_gap p.gap p.text.now; mark = p.mark }

abbrev pub shown_statements : Statements → StatementState
shown_statements s = record { reading = s.reader; lines = map written s.lines; fault = s.fault }

abbrev pub shown_directives : Directives → DirectiveState
shown_directives d = record { reading = d.reader; waiting = map written d.waiting; lines = map written d.lines.items; fault = d.fault }

abbrev pub shown_pass : Pass → PassState
shown_pass p = record {
  after = p.after;
  unended = p.unended;
  statements = shown_statements p.statements;
  directives = shown_directives p.directives;
  fault = p.fault;
}
