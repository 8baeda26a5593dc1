-- Going over a text gives its lines and its first fault.
use Rattle.std.proofs.Common.{◌≡◌, ℕ, ◌+◌, List, [], ◌∷◌, ◌++◌, None, refl, sym, ap, ◌∙◌, subst, append_assoc}
use Rattle.fort_tree.specs.declared.choice.Mode.{Mode}
use Rattle.fort_lex.specs.Rows.{Row, statement, directive, row, rows, physical, byte_faults, bad_bytes, too_long, code}
use Rattle.fort_lex.specs.Joined.{statement_texts}
use Rattle.fort_lex.specs.Lines.{in_order}
use Rattle.fort_lex.specs.Machine.{noted, earlier, PassState, row_taken, bytes_noted, line_taken, lines_taken, new_pass, text_ended, gone_over}
use Rattle.fort_lex.specs.Going.{FirstOf, Going}
use Rattle.fort_lex.proofs.Noting.{noted-append}
use Rattle.fort_lex.proofs.Stating.{EachIsRead, stated, states}
use Rattle.fort_lex.proofs.Directing.{directed, directs}
use Rattle.fort_lex.proofs.Firsts.{firsts, noted-first}

stated-row : (f : ℕ) (mode : Mode) (n : ℕ) (p : PassState) (r : Row) (lines : List (List ℕ)) →
    ((p : PassState) → (text_ended mode (lines_taken f mode n p lines)).statements ≡ stated mode p.after p.statements (statement_texts (rows f n lines))) →
    (text_ended mode (lines_taken f mode n (row_taken mode p r) lines)).statements ≡ stated mode p.after p.statements (statement_texts (r ∷ rows f n lines))
stated-row f mode n p (statement line) lines more = more (row_taken mode p (statement line))
stated-row f mode n p (directive s at line) lines more = more (row_taken mode p (directive s at line))

stated-lines : (f : ℕ) (mode : Mode) (n : ℕ) (p : PassState) (lines : List (List ℕ)) →
    (text_ended mode (lines_taken f mode n p lines)).statements ≡ stated mode p.after p.statements (statement_texts (rows f n lines))
stated-lines f mode n p [] = refl
stated-lines f mode n p (line ∷ lines) = stated-row f mode (n + 1) (bytes_noted f n line p) (row f n line) lines (λ q. stated-lines f mode (n + 1) q lines)

directed-row : (f : ℕ) (mode : Mode) (n : ℕ) (p : PassState) (r : Row) (lines : List (List ℕ)) →
    ((p : PassState) → (text_ended mode (lines_taken f mode n p lines)).directives ≡ directed mode p.after p.unended p.directives (rows f n lines)) →
    (text_ended mode (lines_taken f mode n (row_taken mode p r) lines)).directives ≡ directed mode p.after p.unended p.directives (r ∷ rows f n lines)
directed-row f mode n p (statement line) lines more = more (row_taken mode p (statement line))
directed-row f mode n p (directive s at line) lines more = more (row_taken mode p (directive s at line))

directed-lines : (f : ℕ) (mode : Mode) (n : ℕ) (p : PassState) (lines : List (List ℕ)) →
    (text_ended mode (lines_taken f mode n p lines)).directives ≡ directed mode p.after p.unended p.directives (rows f n lines)
directed-lines f mode n p [] = refl
directed-lines f mode n p (line ∷ lines) = directed-row f mode (n + 1) (bytes_noted f n line p) (row f n line) lines (λ q. directed-lines f mode (n + 1) q lines)

same-fault : (mode : Mode) (p : PassState) (r : Row) → (row_taken mode p r).fault ≡ p.fault
same-fault mode p (statement line) = refl
same-fault mode p (directive s at line) = refl

noted-lines : (f : ℕ) (mode : Mode) (n : ℕ) (p : PassState) (lines : List (List ℕ)) → (text_ended mode (lines_taken f mode n p lines)).fault ≡ noted p.fault (byte_faults f n lines)
noted-lines f mode n p [] = refl
noted-lines f mode n p (line ∷ lines) =
    let bad = bad_bytes f n 1 (code line) in
    let long = too_long f n (code line) in
    let others = byte_faults f (n + 1) lines in
    noted-lines f mode (n + 1) (line_taken f mode n p line) lines
    ∙ ap (λ o. noted o others) (same-fault mode (bytes_noted f n line p) (row f n line))
    ∙ sym (noted-append (noted p.fault bad) long others)
    ∙ sym (noted-append p.fault bad (long ++ others))
    ∙ ap (noted p.fault) (sym (append_assoc bad long others))

pub goes : EachIsRead → (file : ℕ) (mode : Mode) (text : List ℕ) → Going file mode text
goes reads file mode text =
    let lines = physical text in
    let p = gone_over file mode text in
    let s = states reads mode (statement_texts (rows file 1 lines)) in
    let d = directs reads mode (rows file 1 lines) in
    let of_statements = stated-lines file mode 1 new_pass lines in
    let of_directives = directed-lines file mode 1 new_pass lines in
    let bytes = noted-lines file mode 1 new_pass lines in
    let fs : p.statements.fault ≡ noted None s.faults = ap (λ x. x.fault) of_statements ∙ s.fault_is in
    let fd : p.directives.fault ≡ noted None d.faults = ap (λ x. x.fault) of_directives ∙ d.fault_is in
    let first_bytes : FirstOf p.fault (byte_faults file 1 lines) = subst (λ o. FirstOf o (byte_faults file 1 lines)) (sym bytes) (noted-first (byte_faults file 1 lines)) in
    let first_statements : FirstOf p.statements.fault s.faults = subst (λ o. FirstOf o s.faults) (sym fs) (noted-first s.faults) in
    let first_directives : FirstOf p.directives.fault d.faults = subst (λ o. FirstOf o d.faults) (sym fd) (noted-first d.faults) in
    record {
      faults = byte_faults file 1 lines ++ s.faults ++ d.faults;
      are = record {
        statements = s.added;
        directives = d.added;
        of_statements = s.faults;
        of_directives = d.faults;
        are_statements = s.are;
        are_directives = d.are;
        are_lines = ap (λ x. in_order x p.directives.lines) (ap (λ x. x.lines) of_statements ∙ s.lines_are)
            ∙ ap (in_order s.added) (ap (λ x. x.lines) of_directives ∙ d.lines_are);
        are_faults = refl;
      };
      is_first = firsts (earlier p.fault p.statements.fault) p.directives.fault (byte_faults file 1 lines ++ s.faults) d.faults
          (firsts p.fault p.statements.fault (byte_faults file 1 lines) s.faults first_bytes first_statements) first_directives;
    }
