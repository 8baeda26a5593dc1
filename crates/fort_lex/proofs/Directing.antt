-- Going over the lines once gives the directive and mark lines.
use Rattle.std.proofs.Common.{◌≡◌, ℕ, zero, suc, ◌≤◌, Bool, true, false, cond, not, ◌&&◌, ◌||◌, List, [], ◌∷◌, ◌++◌, length, map, Option, None, Some, refl, sym, ap, ◌∙◌, subst, arith, append_assoc}
use Rattle.std.specs.Prelude.{is_some}
use Rattle.std.proofs.lemmas.List.{append-nil, map-append}
use Rattle.std.proofs.lemmas.Bool.{and_parts}
use Rattle.fort_tree.specs.declared.place.Place.{Place}
use Rattle.fort_tree.specs.declared.choice.Mode.{Mode}
use Rattle.fort_tree.specs.declared.fault.Fault.{Fault}
use Rattle.fort_tokens.specs.declared.character.Char.{Char}
use Rattle.fort_tokens.specs.Machine.{fresh, fed_all, finished}
use Rattle.fort_lex.specs.declared.sentinel.Sentinel.{Sentinel}
use Rattle.fort_lex.specs.declared.directives.Unended.{Unended}
use Rattle.fort_lex.specs.Rows.{Row, statement, directive}
use Rattle.fort_lex.specs.Joined.{Part, is_blank, is_mark, all_blank, mark_off, continuing, same, grouped, group_at, has_text, open_after}
use Rattle.fort_lex.specs.Lines.{Written, directive_line, bad_token, DirectiveLines, no_directive, passed_over, directive_first}
use Rattle.fort_lex.specs.Machine.{noted, earlier, token_fault, DirectiveState, fed_directive, closed_directive, standing, released, released_by, left, opening, begun, directive_step, part}
use Rattle.fort_lex.proofs.Noting.{noted-append, noted-bad}
use Rattle.fort_lex.proofs.Stating.{EachIsRead, fed-append}

-- the directive and mark lines of rows, after a mark of a statement or none, and with a directive or mark line that goes on or none
abbrev pub directed : Mode → Option Place → Option Unended → DirectiveState → List Row → DirectiveState
directed mode after u d [] = released false (left mode u d)
directed mode after u d (statement line ∷ rows) = directed mode (part after line).mark None (released_by line (is_some after) (left mode u d)) rows
directed mode after u d (directive s at line ∷ rows) =
    directed mode after (directive_step mode u s at line d).unended (directive_step mode u s at line d).directives rows

abbrev reading : DirectiveState → List Char → DirectiveState
reading d text = fed_directive d text

-- the next row has the same sentinel, or the line is left
group-at : (mode : Mode) (after : Option Place) (s t : Sentinel) (at place m : Place) (line : List Char) (rows : List Row) (d : DirectiveState) (text : List Char) (b : Bool) →
    ((p : Part) → directed mode after (opening mode s at p.mark (fed_directive (fed_directive d text) p.text)).unended (opening mode s at p.mark (fed_directive (fed_directive d text) p.text)).directives rows
    ≡ directed mode after None (closed_directive mode (fed_directive d (grouped s (text ++ p.text) p.mark rows).text) s at (grouped s (text ++ p.text) p.mark rows).mark) (grouped s (text ++ p.text) p.mark rows).rest) →
    directed mode after
    (cond b (begun mode s at (mark_off (continuing line)) (fed_directive d text)) (begun mode t place (mark_off line) (closed_directive mode (fed_directive d text) s at (Some m)))).unended
    (cond b (begun mode s at (mark_off (continuing line)) (fed_directive d text)) (begun mode t place (mark_off line) (closed_directive mode (fed_directive d text) s at (Some m)))).directives rows
    ≡ directed mode after None
    (closed_directive mode (fed_directive d (cond b (grouped s (text ++ (mark_off (continuing line)).text) (mark_off (continuing line)).mark rows) (record { text = text; mark = Some m; rest = directive t place line ∷ rows })).text) s at
    (cond b (grouped s (text ++ (mark_off (continuing line)).text) (mark_off (continuing line)).mark rows) (record { text = text; mark = Some m; rest = directive t place line ∷ rows })).mark)
    (cond b (grouped s (text ++ (mark_off (continuing line)).text) (mark_off (continuing line)).mark rows) (record { text = text; mark = Some m; rest = directive t place line ∷ rows })).rest
group-at mode after s t at place m line rows d text true more = more (mark_off (continuing line))
group-at mode after s t at place m line rows d text false more = refl

fed-more : (d : DirectiveState) (p q : List Char) → fed_directive (fed_directive d p) q ≡ fed_directive d (p ++ q)
fed-more d p q = ap (λ r. record { reading = r; waiting = d.waiting; lines = d.lines; fault = d.fault }) (sym (fed-append d.reading p q))

-- a directive or mark line is gone over, and then the rows behind it
groups : (mode : Mode) (after : Option Place) (s : Sentinel) (at : Place) (d : DirectiveState) (text : List Char) (mark : Option Place) (rows : List Row) →
    directed mode after (opening mode s at mark (fed_directive d text)).unended (opening mode s at mark (fed_directive d text)).directives rows
    ≡ directed mode after None (closed_directive mode (fed_directive d (grouped s text mark rows).text) s at (grouped s text mark rows).mark) (grouped s text mark rows).rest
groups mode after s at d text None rows = refl
groups mode after s at d text (Some m) [] = refl
groups mode after s at d text (Some m) (statement line ∷ rows) = refl
groups mode after s at d text (Some m) (directive t place line ∷ rows) =
    group-at mode after s t at place m line rows d text (same s t) (λ p.
    ap (λ e. directed mode after (opening mode s at p.mark e).unended (opening mode s at p.mark e).directives rows) (fed-more d text p.text)
    ∙ groups mode after s at d (text ++ p.text) p.mark rows)

behind-at : (s t : Sentinel) (place m : Place) (line text : List Char) (rows : List Row) (b : Bool) →
    ((text : List Char) (mark : Option Place) → length (grouped s text mark rows).rest ≤ length rows) →
    length (cond b (grouped s (text ++ (mark_off (continuing line)).text) (mark_off (continuing line)).mark rows) (record { text = text; mark = Some m; rest = directive t place line ∷ rows })).rest
    ≤ suc (length rows)
behind-at s t place m line text rows true more = let h = more (text ++ (mark_off (continuing line)).text) (mark_off (continuing line)).mark in omega (arith, h)
behind-at s t place m line text rows false more = omega arith

shorter : (s : Sentinel) (text : List Char) (mark : Option Place) (rows : List Row) → length (grouped s text mark rows).rest ≤ length rows
shorter s text None rows = omega arith
shorter s text (Some m) [] = omega arith
shorter s text (Some m) (statement line ∷ rows) = omega arith
shorter s text (Some m) (directive t place line ∷ rows) = behind-at s t place m line text rows (same s t) (λ text mark. shorter s text mark rows)

text-at : (s t : Sentinel) (place m : Place) (line text : List Char) (rows : List Row) (b : Bool) →
    ((text : List Char) (mark : Option Place) → has_text (grouped s text mark rows).rest ≡ has_text rows) →
    has_text (cond b (grouped s (text ++ (mark_off (continuing line)).text) (mark_off (continuing line)).mark rows) (record { text = text; mark = Some m; rest = directive t place line ∷ rows })).rest
    ≡ has_text rows
text-at s t place m line text rows true more = more (text ++ (mark_off (continuing line)).text) (mark_off (continuing line)).mark
text-at s t place m line text rows false more = refl

-- a directive or mark line is no text of a statement
same-text : (s : Sentinel) (text : List Char) (mark : Option Place) (rows : List Row) → has_text (grouped s text mark rows).rest ≡ has_text rows
same-text s text None rows = refl
same-text s text (Some m) [] = refl
same-text s text (Some m) (statement line ∷ rows) = refl
same-text s text (Some m) (directive t place line ∷ rows) = text-at s t place m line text rows (same s t) (λ text mark. same-text s text mark rows)

blank-unmarked : (c : Char) (line : List Char) (b : Bool) → is_mark c ≡ b → is_blank c ≡ true → (mark_off line).mark ≡ None →
    (cond {A = Part} (b && all_blank line) (record { text = []; mark = Some c.at }) (record { text = c ∷ (mark_off line).text; mark = (mark_off line).mark })).mark ≡ None
blank-unmarked c line true e h more = absurd (grind (arith, e, h))
blank-unmarked c line false e h more = more

-- a blank line doesn't go on
unmarked : (line : List Char) → all_blank line ≡ true → (mark_off line).mark ≡ None
unmarked [] h = refl
unmarked (c ∷ line) h = let both = and_parts (is_blank c) (all_blank line) h in blank-unmarked c line (is_mark c) refl both.0 (unmarked line both.1)

-- a blank line leaves it open whether a statement goes on
still : (after : Option Place) (line : List Char) → all_blank line ≡ true → (part after line).mark ≡ after
still None line h = unmarked line h
still (Some at) line h = ap (λ b. (cond {A = Part} b (record { text = []; mark = Some at }) (mark_off (continuing line))).mark) h

part-open : (after : Option Place) (line : List Char) → open_after after line ≡ (part after line).mark
part-open None line = refl
part-open (Some at) line = refl

and-true : (b : Bool) → (b && true) ≡ b
and-true true = refl
and-true false = refl

and-false : (b : Bool) → (b && false) ≡ false
and-false true = refl
and-false false = refl

pub record Directing (mode : Mode) (after : Option Place) (rows : List Row) (waiting done : List Written) (first : Option Fault) (end : DirectiveState) : Type 0 where
  pub added : List Written
  pub faults : List Fault
  pub are : DirectiveLines mode after rows added faults
  pub lines_are : end.lines ≡ done ++ (map (standing (is_some after && has_text rows)) waiting ++ added)
  pub fault_is : end.fault ≡ noted first faults

abbrev amid : List Written → List Written → Option Fault → DirectiveState
amid waiting done first = record { reading = fresh; waiting = waiting; lines = done; fault = first }

passes : (mode : Mode) (after : Option Place) (line : List Char) (rows : List Row) (waiting done : List Written) (first : Option Fault) (b : Bool) → all_blank line ≡ b →
    ((waiting done : List Written) → Directing mode (part after line).mark rows waiting done first (directed mode (part after line).mark None (amid waiting done first) rows)) →
    Directing mode after (statement line ∷ rows) waiting done first
    (directed mode (part after line).mark None (cond b (amid waiting done first) (released (is_some after) (amid waiting done first))) rows)
passes mode after line rows waiting done first true e more =
    let m = more waiting done in
    record {
      added = m.added;
      faults = m.faults;
      are = passed_over (subst (λ o. DirectiveLines mode o rows m.added m.faults) (sym (part-open after line)) m.are);
      lines_are = m.lines_are
          ∙ ap (λ o. done ++ (map (standing (is_some o && has_text rows)) waiting ++ m.added)) (still after line e)
          ∙ ap (λ x. done ++ (map (standing (is_some after && (not x || has_text rows))) waiting ++ m.added)) (sym e);
      fault_is = m.fault_is;
    }
passes mode after line rows waiting done first false e more =
    let m = more [] (done ++ map (standing (is_some after)) waiting) in
    record {
      added = m.added;
      faults = m.faults;
      are = passed_over (subst (λ o. DirectiveLines mode o rows m.added m.faults) (sym (part-open after line)) m.are);
      lines_are = m.lines_are
          ∙ append_assoc done (map (standing (is_some after)) waiting) m.added
          ∙ ap (λ x. done ++ (map (standing x) waiting ++ m.added)) (sym (and-true (is_some after)))
          ∙ ap (λ x. done ++ (map (standing (is_some after && (not x || has_text rows))) waiting ++ m.added)) (sym e);
      fault_is = m.fault_is;
    }

begins : EachIsRead → (mode : Mode) (after : Option Place) (s : Sentinel) (at : Place) (line : List Char) (rows : List Row) (waiting done : List Written) (first : Option Fault) →
    ((waiting : List Written) (first : Option Fault) → Directing mode after (group_at s line rows).rest waiting done first (directed mode after None (amid waiting done first) (group_at s line rows).rest)) →
    Directing mode after (directive s at line ∷ rows) waiting done first (directed mode after None (amid waiting done first) (directive s at line ∷ rows))
begins reads mode after s at line rows waiting done first more =
    let g = group_at s line rows in
    let r = finished (fed_all fresh g.text) in
    let m = more (waiting ++ directive_line mode s at r.words g.mark false ∷ []) (earlier first (token_fault r.bad)) in
    let over : directed mode after None (amid waiting done first) (directive s at line ∷ rows)
    ≡ directed mode after None (amid (waiting ++ directive_line mode s at r.words g.mark false ∷ []) done (earlier first (token_fault r.bad))) g.rest =
    groups mode after s at (amid waiting done first) (mark_off line).text (mark_off line).mark rows in
    let within : Bool = is_some after && has_text g.rest in
    record {
      added = directive_line mode s at r.words g.mark within ∷ m.added;
      faults = bad_token r.bad ++ m.faults;
      are = directive_first (reads g.text) m.are;
      lines_are = ap (λ d. d.lines) over ∙ m.lines_are
          ∙ ap (λ x. done ++ (x ++ m.added)) (map-append (standing within) waiting (directive_line mode s at r.words g.mark false ∷ []))
          ∙ ap (λ x. done ++ x) (append_assoc (map (standing within) waiting) (directive_line mode s at r.words g.mark within ∷ []) m.added)
          ∙ ap (λ x. done ++ (map (standing (is_some after && x)) waiting ++ directive_line mode s at r.words g.mark within ∷ m.added)) (same-text s (mark_off line).text (mark_off line).mark rows);
      fault_is = ap (λ d. d.fault) over ∙ m.fault_is ∙ ap (λ o. noted o m.faults) (noted-bad first r.bad) ∙ sym (noted-append first (bad_token r.bad) m.faults);
    }

directs-in : EachIsRead → (mode : Mode) (n : ℕ) (after : Option Place) (rows : List Row) (waiting done : List Written) (first : Option Fault) → length rows ≤ n →
    Directing mode after rows waiting done first (directed mode after None (amid waiting done first) rows)
directs-in reads mode n after [] waiting done first h = record {
  added = [];
  faults = [];
  are = no_directive;
  lines_are = ap (λ x. done ++ map (standing x) waiting) (sym (and-false (is_some after))) ∙ ap (λ x. done ++ x) (sym (append-nil (map (standing (is_some after && false)) waiting)));
  fault_is = refl;
}
directs-in reads mode zero after (row ∷ rows) waiting done first h = absurd (omega (arith, h))
directs-in reads mode (suc n) after (statement line ∷ rows) waiting done first h =
    passes mode after line rows waiting done first (all_blank line) refl (λ w d. directs-in reads mode n (part after line).mark rows w d first (omega (arith, h)))
directs-in reads mode (suc n) after (directive s at line ∷ rows) waiting done first h =
    let k = shorter s (mark_off line).text (mark_off line).mark rows in
    begins reads mode after s at line rows waiting done first (λ w o. directs-in reads mode n after (group_at s line rows).rest w done o (omega (arith, h, k)))

pub directs : EachIsRead → (mode : Mode) (rows : List Row) → Directing mode None rows [] [] None (directed mode None None (amid [] [] None) rows)
directs reads mode rows = directs-in reads mode (length rows) None rows [] [] None (omega arith)
