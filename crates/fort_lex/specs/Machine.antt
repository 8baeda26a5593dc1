-- What one line does to what was read before it.
use Rattle.std.specs.Prelude.{ℕ, ◌+◌, Bool, false, cond, List, [], ◌∷◌, ◌++◌, map, Option, None, Some, is_some}
use Rattle.fort_tree.specs.declared.place.Place.{Place}
use Rattle.fort_tree.specs.declared.choice.Mode.{Mode}
use Rattle.fort_tree.specs.declared.fault.Fault.{Fault}
use Rattle.fort_tree.specs.declared.fault.Code.TheVariants.{E03}
use Rattle.fort_tokens.specs.declared.character.Char.{Char}
use Rattle.fort_tokens.specs.Reading.{Reading}
use Rattle.fort_tokens.specs.Machine.{fresh, fed, fed_all, finished}
use Rattle.fort_lex.specs.declared.sentinel.Sentinel.{Sentinel}
use Rattle.fort_lex.specs.declared.directives.Unended.{Unended}
use Rattle.fort_lex.specs.Rows.{Row, statement, directive, row, code, physical, bad_bytes, too_long, fault}
use Rattle.fort_lex.specs.Joined.{Part, all_blank, mark_off, continuing, next_part, same}
use Rattle.fort_lex.specs.Lines.{Written, statement_line, directive_line, is_semicolon, comes_before, in_order}

-- the one that comes first
abbrev pub earlier : Option Fault → Option Fault → Option Fault
earlier None other = other
earlier (Some f) None = Some f
earlier (Some f) (Some g) = cond (comes_before g f) (Some g) (Some f)

abbrev pub noted : Option Fault → List Fault → Option Fault
noted first [] = first
noted first (f ∷ faults) = noted (earlier first (Some f)) faults

abbrev pub token_fault : Option Place → Option Fault
token_fault None = None
token_fault (Some at) = Some (fault E03 at)

-- the statements so far, and what was read of the next
pub record StatementState : Type 0 where
  pub reading : Reading
  pub lines : List Written
  pub fault : Option Fault

abbrev pub closed_statement : Mode → StatementState → Option Place → StatementState
closed_statement mode s mark = record {
  reading = fresh;
  lines = s.lines ++ statement_line mode (finished s.reading).words mark;
  fault = earlier s.fault (token_fault (finished s.reading).bad);
}

abbrev pub put : Mode → StatementState → Char → StatementState
put mode s c = cond (is_semicolon c) (closed_statement mode s None) (record { reading = fed s.reading c; lines = s.lines; fault = s.fault })

abbrev pub put_all : Mode → StatementState → List Char → StatementState
put_all mode s [] = s
put_all mode s (c ∷ text) = put_all mode (put mode s c) text

-- the line's end, where the statement may go on after a mark
abbrev pub ended : Mode → Option Place → StatementState → StatementState
ended mode None s = closed_statement mode s None
ended mode (Some at) s = s

-- what a line gives to a statement that goes on after a mark, or to a new one
abbrev pub part : Option Place → List Char → Part
part None line = mark_off line
part (Some at) line = next_part at line

-- the text's end
abbrev pub statements_ended : Mode → Option Place → StatementState → StatementState
statements_ended mode None s = s
statements_ended mode (Some at) s = closed_statement mode s (Some at)

-- the directive and mark lines so far: those of which it is not known yet whether they stand within a statement are waiting
pub record DirectiveState : Type 0 where
  pub reading : Reading
  pub waiting : List Written
  pub lines : List Written
  pub fault : Option Fault

abbrev pub fed_directive : DirectiveState → List Char → DirectiveState
fed_directive d text = record { reading = fed_all d.reading text; waiting = d.waiting; lines = d.lines; fault = d.fault }

abbrev pub closed_directive : Mode → DirectiveState → Sentinel → Place → Option Place → DirectiveState
closed_directive mode d sentinel at mark = record {
  reading = fresh;
  waiting = d.waiting ++ directive_line mode sentinel at (finished d.reading).words mark false ∷ [];
  lines = d.lines;
  fault = earlier d.fault (token_fault (finished d.reading).bad);
}

abbrev pub standing : Bool → Written → Written
standing within line =
    record { at = line.at; mode = line.mode; directive = line.directive; unfinished = line.unfinished; within = within; words = line.words }

-- it is known whether the waiting lines stand within a statement
abbrev pub released : Bool → DirectiveState → DirectiveState
released within d = record { reading = d.reading; waiting = []; lines = d.lines ++ map (standing within) d.waiting; fault = d.fault }

-- a line that isn't blank of a statement that goes on, or of a new one
abbrev pub released_by : List Char → Bool → DirectiveState → DirectiveState
released_by line within d = cond (all_blank line) d (released within d)

-- the line that goes on isn't continued
abbrev pub left : Mode → Option Unended → DirectiveState → DirectiveState
left mode None d = d
left mode (Some u) d = closed_directive mode d u.sentinel u.at (Some u.mark)

-- the directive lines, and the one that goes on
pub record Opening : Type 0 where
  pub unended : Option Unended
  pub directives : DirectiveState

abbrev pub opening : Mode → Sentinel → Place → Option Place → DirectiveState → Opening
opening mode sentinel at None d = record { unended = None; directives = closed_directive mode d sentinel at None }
opening mode sentinel at (Some mark) d = record { unended = Some (record { sentinel = sentinel; at = at; mark = mark }); directives = d }

abbrev pub begun : Mode → Sentinel → Place → Part → DirectiveState → Opening
begun mode sentinel at p d = opening mode sentinel at p.mark (fed_directive d p.text)

abbrev pub directive_step : Mode → Option Unended → Sentinel → Place → List Char → DirectiveState → Opening
directive_step mode None sentinel at line d = begun mode sentinel at (mark_off line) d
directive_step mode (Some u) sentinel at line d =
    cond (same u.sentinel sentinel) (begun mode u.sentinel u.at (mark_off (continuing line)) d)
    (begun mode sentinel at (mark_off line) (closed_directive mode d u.sentinel u.at (Some u.mark)))

-- both, the first fault of bytes, and the mark after which a statement goes on
pub record PassState : Type 0 where
  pub after : Option Place
  pub unended : Option Unended
  pub statements : StatementState
  pub directives : DirectiveState
  pub fault : Option Fault

abbrev pub row_taken : Mode → PassState → Row → PassState
row_taken mode p (statement line) = record {
  after = (part p.after line).mark;
  unended = None;
  statements = ended mode (part p.after line).mark (put_all mode p.statements (part p.after line).text);
  directives = released_by line (is_some p.after) (left mode p.unended p.directives);
  fault = p.fault;
}
row_taken mode p (directive sentinel at line) = record {
  after = p.after;
  unended = (directive_step mode p.unended sentinel at line p.directives).unended;
  statements = p.statements;
  directives = (directive_step mode p.unended sentinel at line p.directives).directives;
  fault = p.fault;
}

abbrev pub bytes_noted : ℕ → ℕ → List ℕ → PassState → PassState
bytes_noted f n line p =
    record { after = p.after; unended = p.unended; statements = p.statements; directives = p.directives; fault = noted (noted p.fault (bad_bytes f n 1 (code line))) (too_long f n (code line)) }

abbrev pub line_taken : ℕ → Mode → ℕ → PassState → List ℕ → PassState
line_taken f mode n p line = row_taken mode (bytes_noted f n line p) (row f n line)

abbrev pub lines_taken : ℕ → Mode → ℕ → PassState → List (List ℕ) → PassState
lines_taken f mode n p [] = p
lines_taken f mode n p (line ∷ lines) = lines_taken f mode (n + 1) (line_taken f mode n p line) lines

abbrev pub new_statements : StatementState
new_statements = record { reading = fresh; lines = []; fault = None }

abbrev pub new_directives : DirectiveState
new_directives = record { reading = fresh; waiting = []; lines = []; fault = None }

abbrev pub new_pass : PassState
new_pass = record {
  after = None;
  unended = None;
  statements = new_statements;
  directives = new_directives;
  fault = None;
}

abbrev pub text_ended : Mode → PassState → PassState
text_ended mode p = record {
  after = None;
  unended = None;
  statements = statements_ended mode p.after p.statements;
  directives = released false (left mode p.unended p.directives);
  fault = p.fault;
}

-- the text is gone over
abbrev pub gone_over : ℕ → Mode → List ℕ → PassState
gone_over f mode text = text_ended mode (lines_taken f mode 1 new_pass (physical text))

abbrev pub lines_of : PassState → List Written
lines_of p = in_order p.statements.lines p.directives.lines

abbrev pub first_fault : PassState → Option Fault
first_fault p = earlier (earlier p.fault p.statements.fault) p.directives.fault
