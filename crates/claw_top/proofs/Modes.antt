-- The lines of sources are those of source texts.
use Rattle.std.proofs.Common.{◌≡◌, ℕ, ◌+◌, Bool, true, false, cond, List, [], ◌∷◌, ◌++◌, map, refl, sym, ap, ◌∙◌, subst}
use Rattle.fort_tree.specs.declared.choice.Mode.{Mode}
use Rattle.fort_tree.specs.declared.choice.Mode.TheVariants.{Source}
use Rattle.fort_tree.specs.declared.place.Place.{Place}
use Rattle.fort_tree.specs.declared.statement.Line.{Line}
use Rattle.fort_lex.specs.Lines.{Written, written, PieceLines, last_piece, piece, StatementLines, no_statement, statement_first, DirectiveLines, no_directive, passed_over, directive_first, HasLines, statement_line, is_before, lines_before, lines_behind, in_order}
use Rattle.fort_tokens.specs.Reads.{Word}
use Rattle.fort_units.specs.Program.{mode_of}
use Rattle.claw_top.specs.Sources.{HaveLines, HaveLinesFrom}

-- each of the lines has the mode
abbrev All : Mode → List Written → Type 0
All mode [] = Unit {0}
All mode (line ∷ lines) = (line.mode ≡ mode) × All mode lines

both : (mode : Mode) (xs ys : List Written) → All mode xs → All mode ys → All mode (xs ++ ys)
both mode [] ys a b = b
both mode (x ∷ xs) ys a b = (a.0, both mode xs ys a.1 b)

one : (mode : Mode) (words : List Word) (mark : _) → All mode (statement_line mode words mark)
one mode [] mark = tt
one mode (word ∷ words) mark = (refl, tt)

of_pieces : (mode : Mode) (mark : _) (pieces : _) (lines : List Written) (faults : _) → PieceLines mode mark pieces lines faults → All mode lines
of_pieces mode mark pieces lines faults (last_piece {words = words} reads) = one mode words mark
of_pieces mode mark pieces lines faults (piece {words = words} {lines = others} reads more) = both mode (statement_line mode words _) others (one mode words _) (of_pieces mode mark _ others _ more)

of_statements : (mode : Mode) (texts : _) (lines : List Written) (faults : _) → StatementLines mode texts lines faults → All mode lines
of_statements mode texts lines faults no_statement = tt
of_statements mode texts lines faults (statement_first {xs = xs} {ys = ys} first more) = both mode xs ys (of_pieces mode _ _ xs _ first) (of_statements mode _ ys _ more)

of_directives : (mode : Mode) (after : _) (rows : _) (lines : List Written) (faults : _) → DirectiveLines mode after rows lines faults → All mode lines
of_directives mode after rows lines faults no_directive = tt
of_directives mode after rows lines faults (passed_over more) = of_directives mode _ _ lines _ more
of_directives mode after rows lines faults (directive_first {ys = ys} reads more) = (refl, of_directives mode _ _ ys _ more)

-- ---- in their order

of_before : (mode : Mode) (at : Place) (lines : List Written) → All mode lines → All mode (lines_before at lines)
of_before mode at [] all = tt
of_before mode at (line ∷ lines) all = go (is_before line.at at) (of_before mode at lines all.1)
  where
    go : (b : Bool) → All mode (lines_before at lines) → All mode (cond b (line ∷ lines_before at lines) [])
    go true rest = (all.0, rest)
    go false rest = tt

of_behind : (mode : Mode) (at : Place) (lines : List Written) → All mode lines → All mode (lines_behind at lines)
of_behind mode at [] all = tt
of_behind mode at (line ∷ lines) all = go (is_before line.at at) (of_behind mode at lines all.1)
  where
    go : (b : Bool) → All mode (lines_behind at lines) → All mode (cond b (lines_behind at lines) (line ∷ lines))
    go true rest = rest
    go false rest = all

of_both : (mode : Mode) (statements directives : List Written) → All mode statements → All mode directives → All mode (in_order statements directives)
of_both mode [] directives a b = b
of_both mode (line ∷ statements) directives a b =
    both mode (lines_before line.at directives) (line ∷ in_order statements (lines_behind line.at directives)) (of_before mode line.at directives b)
    (a.0, of_both mode statements (lines_behind line.at directives) a.1 (of_behind mode line.at directives b))

of_text : (file : ℕ) (mode : Mode) (text : List ℕ) (lines : List Written) (faults : _) → HasLines file mode text lines faults → All mode lines
of_text file mode text lines faults h =
    subst (All mode) (sym h.are_lines) (of_both mode h.statements h.directives (of_statements mode _ h.statements _ h.are_statements) (of_directives mode _ _ h.directives _ h.are_directives))

-- ---- the first line of all

first_mode : (lines : List Line) → All Source (map written lines) → mode_of lines ≡ Source
first_mode [] all = refl
first_mode (line ∷ lines) all = all.0

appended : (xs ys : List Line) → All Source (map written xs) → mode_of ys ≡ Source → mode_of (xs ++ ys) ≡ Source
appended [] ys all behind = behind
appended (x ∷ xs) ys all behind = all.0

of_sources : (file : ℕ) (sources : List (List ℕ)) (lines : List Line) → HaveLinesFrom file sources lines → mode_of lines ≡ Source
of_sources file [] lines none = ap mode_of none
of_sources file (source ∷ sources) lines (first, others, is, here, behind) =
    ap mode_of is ∙ appended first others (of_text file Source source (map written first) [] here) (of_sources (file + 1) sources others behind)

pub sources_are : (sources : List (List ℕ)) (lines : List Line) → HaveLines sources lines → mode_of lines ≡ Source
sources_are sources lines h = of_sources 0 sources lines h
