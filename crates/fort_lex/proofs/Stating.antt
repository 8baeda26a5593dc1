-- Going over the lines once gives the statements.
use Rattle.std.proofs.Common.{◌≡◌, ℕ, zero, suc, ◌≤◌, Bool, true, false, cond, List, [], ◌∷◌, ◌++◌, length, Option, None, Some, refl, sym, ap, ◌∙◌, subst, arith, append_assoc}
use Rattle.std.proofs.lemmas.List.{append-nil}
use Rattle.fort_tree.specs.declared.place.Place.{Place}
use Rattle.fort_tree.specs.declared.choice.Mode.{Mode}
use Rattle.fort_tree.specs.declared.fault.Fault.{Fault}
use Rattle.fort_tokens.specs.declared.character.Char.{Char}
use Rattle.fort_tokens.specs.Reading.{Reading}
use Rattle.fort_tokens.specs.Reads.{Reads}
use Rattle.fort_tokens.specs.Machine.{fresh, fed, fed_all, finished}
use Rattle.fort_lex.specs.Joined.{mark_off, next_part, joined, statement_at}
use Rattle.fort_lex.specs.Lines.{Written, statement_line, bad_token, is_semicolon, pieces, PieceLines, last_piece, piece, StatementLines, no_statement, statement_first}
use Rattle.fort_lex.specs.Machine.{noted, earlier, token_fault, StatementState, closed_statement, put, put_all, ended, part, statements_ended}
use Rattle.fort_lex.proofs.Noting.{noted-append, noted-bad}

-- what the reader's crate promises of each line
abbrev pub EachIsRead : Type 0
EachIsRead = (line : List Char) → Reads line (finished (fed_all fresh line)).words (finished (fed_all fresh line)).bad

pub fed-append : (r : Reading) (p q : List Char) → fed_all r (p ++ q) ≡ fed_all (fed_all r p) q
fed-append r [] q = refl
fed-append r (c ∷ p) q = fed-append (fed r c) p q

put-append : (mode : Mode) (s : StatementState) (p q : List Char) → put_all mode s (p ++ q) ≡ put_all mode (put_all mode s p) q
put-append mode s [] q = refl
put-append mode s (c ∷ p) q = put-append mode (put mode s c) p q

abbrev amid : List Written → Option Fault → List Char → StatementState
amid done first front = record { reading = fed_all fresh front; lines = done; fault = first }

-- the lines and the faults that a text's pieces add
pub record Cutting (mode : Mode) (mark : Option Place) (ps : List (List Char)) (done : List Written) (first : Option Fault) (end : StatementState) : Type 0 where
  pub lines : List Written
  pub faults : List Fault
  pub are : PieceLines mode mark ps lines faults
  pub end_is : end ≡ amid (done ++ lines) (noted first faults) []

cut-at : EachIsRead → (mode : Mode) (mark : Option Place) (c : Char) (text front : List Char) (b : Bool) (done : List Written) (first : Option Fault) →
    ((front : List Char) (done : List Written) (first : Option Fault) → Cutting mode mark (pieces front text) done first (closed_statement mode (put_all mode (amid done first front) text) mark)) →
    Cutting mode mark (cond b (front ∷ pieces [] text) (pieces (front ++ c ∷ []) text)) done first
    (closed_statement mode (put_all mode (cond b (closed_statement mode (amid done first front) None) (record { reading = fed (fed_all fresh front) c; lines = done; fault = first })) text) mark)
cut-at reads mode mark c text front true done first more =
    let r = finished (fed_all fresh front) in
    let m = more [] (done ++ statement_line mode r.words None) (earlier first (token_fault r.bad)) in
    record {
      lines = statement_line mode r.words None ++ m.lines;
      faults = bad_token r.bad ++ m.faults;
      are = piece (reads front) m.are;
      end_is = m.end_is
          ∙ ap (λ d. amid d (noted (earlier first (token_fault r.bad)) m.faults) []) (append_assoc done (statement_line mode r.words None) m.lines)
          ∙ ap (λ o. amid (done ++ (statement_line mode r.words None ++ m.lines)) o [])
          (ap (λ o. noted o m.faults) (noted-bad first r.bad) ∙ sym (noted-append first (bad_token r.bad) m.faults));
    }
cut-at reads mode mark c text front false done first more =
    subst (λ r. Cutting mode mark (pieces (front ++ c ∷ []) text) done first (closed_statement mode (put_all mode (record { reading = r; lines = done; fault = first }) text) mark))
    (fed-append fresh front (c ∷ [])) (more (front ++ c ∷ []) done first)

cuts : EachIsRead → (mode : Mode) (mark : Option Place) (text front : List Char) (done : List Written) (first : Option Fault) →
    Cutting mode mark (pieces front text) done first (closed_statement mode (put_all mode (amid done first front) text) mark)
cuts reads mode mark [] front done first =
    let r = finished (fed_all fresh front) in
    record { lines = statement_line mode r.words mark; faults = bad_token r.bad; are = last_piece (reads front); end_is = ap (λ o. amid (done ++ statement_line mode r.words mark) o []) (noted-bad first r.bad) }
cuts reads mode mark (c ∷ text) front done first = cut-at reads mode mark c text front (is_semicolon c) done first (λ f d o. cuts reads mode mark text f d o)

-- the statements of lines, after a mark or none
abbrev pub stated : Mode → Option Place → StatementState → List (List Char) → StatementState
stated mode after s [] = statements_ended mode after s
stated mode after s (line ∷ lines) = stated mode (part after line).mark (ended mode (part after line).mark (put_all mode s (part after line).text)) lines

-- a statement is gone over, and then the lines behind it
joins : (mode : Mode) (s : StatementState) (text : List Char) (mark : Option Place) (lines : List (List Char)) →
    stated mode mark (ended mode mark (put_all mode s text)) lines
    ≡ stated mode None (closed_statement mode (put_all mode s (joined text mark lines).text) (joined text mark lines).mark) (joined text mark lines).rest
joins mode s text None lines = refl
joins mode s text (Some at) [] = refl
joins mode s text (Some at) (line ∷ lines) =
    ap (λ t. stated mode (next_part at line).mark (ended mode (next_part at line).mark t) lines) (sym (put-append mode s text (next_part at line).text))
    ∙ joins mode s (text ++ (next_part at line).text) (next_part at line).mark lines

shorter : (text : List Char) (mark : Option Place) (lines : List (List Char)) → length (joined text mark lines).rest ≤ length lines
shorter text None lines = omega arith
shorter text (Some at) [] = omega arith
shorter text (Some at) (line ∷ lines) = let h = shorter (text ++ (next_part at line).text) (next_part at line).mark lines in omega (arith, h)

pub record Stating (mode : Mode) (lines : List (List Char)) (done : List Written) (first : Option Fault) (end : StatementState) : Type 0 where
  pub added : List Written
  pub faults : List Fault
  pub are : StatementLines mode lines added faults
  pub lines_are : end.lines ≡ done ++ added
  pub fault_is : end.fault ≡ noted first faults

states-in : EachIsRead → (mode : Mode) (n : ℕ) (lines : List (List Char)) (done : List Written) (first : Option Fault) → length lines ≤ n →
    Stating mode lines done first (stated mode None (amid done first []) lines)
states-in reads mode n [] done first h = record { added = []; faults = []; are = no_statement; lines_are = sym (append-nil done); fault_is = refl }
states-in reads mode zero (line ∷ lines) done first h = absurd (omega (arith, h))
states-in reads mode (suc n) (line ∷ lines) done first h =
    let s = statement_at line lines in
    let c = cuts reads mode s.mark s.text [] done first in
    let k = shorter (mark_off line).text (mark_off line).mark lines in
    let rest = states-in reads mode n s.rest (done ++ c.lines) (noted first c.faults) (omega (arith, h, k)) in
    let same : stated mode None (amid done first []) (line ∷ lines) ≡ stated mode None (amid (done ++ c.lines) (noted first c.faults) []) s.rest =
    joins mode (amid done first []) (mark_off line).text (mark_off line).mark lines ∙ ap (λ e. stated mode None e s.rest) c.end_is in
    record {
      added = c.lines ++ rest.added;
      faults = c.faults ++ rest.faults;
      are = statement_first c.are rest.are;
      lines_are = ap (λ e. e.lines) same ∙ rest.lines_are ∙ append_assoc done c.lines rest.added;
      fault_is = ap (λ e. e.fault) same ∙ rest.fault_is ∙ sym (noted-append first c.faults rest.faults);
    }

pub states : EachIsRead → (mode : Mode) (lines : List (List Char)) → Stating mode lines [] None (stated mode None (amid [] None []) lines)
states reads mode lines = states-in reads mode (length lines) lines [] None (omega arith)
