-- A text has one list of lines and one list of faults.
use Rattle.std.proofs.Common.{◌≡◌, ℕ, Bool, ◌&&◌, List, [], ◌∷◌, ◌++◌, Option, None, refl, sym, ap, ◌∙◌, subst}
use Rattle.std.specs.Prelude.{is_some}
use Rattle.fort_tree.specs.declared.place.Place.{Place}
use Rattle.fort_tree.specs.declared.choice.Mode.{Mode}
use Rattle.fort_tree.specs.declared.fault.Fault.{Fault}
use Rattle.fort_tokens.specs.declared.character.Char.{Char}
use Rattle.fort_tokens.specs.Reads.{Word, Reads}
use Rattle.fort_lex.specs.declared.sentinel.Sentinel.{Sentinel}
use Rattle.fort_lex.specs.Rows.{Row, physical, byte_faults}
use Rattle.fort_lex.specs.Joined.{statement_at, group_at, has_text, open_after}
use Rattle.fort_lex.specs.Lines.{Written, statement_line, directive_line, bad_token, pieces, PieceLines, last_piece, piece, StatementLines, no_statement, statement_first, DirectiveLines, no_directive, passed_over, directive_first, HasLines, in_order}

-- what the reader's crate promises
abbrev pub ReadsInOneWay : Type 0
ReadsInOneWay = (line : List Char) (these those : List Word) (here there : Option Place) → Reads line these here → Reads line those there → (these ≡ those) × (here ≡ there)

one-reading : ReadsInOneWay → {p q : List Char} {these those : List Word} {here there : Option Place} → Reads p these here → Reads q those there → p ≡ q → (these ≡ those) × (here ≡ there)
one-reading unique {q = q} {these = w} {those = v} {here = b} {there = d} r s e = unique q w v b d (subst (λ x. Reads x w b) e r) s

same-append : {A : Type 0} {a b c d : List A} → a ≡ b → c ≡ d → a ++ c ≡ b ++ d
same-append e f = cc

same-cons : {A : Type 0} {a b : A} {c d : List A} → a ≡ b → c ≡ d → a ∷ c ≡ b ∷ d
same-cons e f = cc

none-one : {A : Type 0} {a : A} {c : List A} → [] ≡ a ∷ c → ⊥
none-one e = cc

one-none : {A : Type 0} {a : A} {c : List A} → a ∷ c ≡ [] → ⊥
one-none e = cc

some-piece : {mode : Mode} {mark : Option Place} {ps : List (List Char)} {xs : List Written} {fs : List Fault} → PieceLines mode mark ps xs fs → ps ≡ [] → ⊥
some-piece (last_piece r) e = cc
some-piece (piece r rest) e = cc

pieces-one : ReadsInOneWay → {mode : Mode} {mark : Option Place} {ps qs : List (List Char)} {xs ys : List Written} {fs gs : List Fault} →
    PieceLines mode mark ps xs fs → PieceLines mode mark qs ys gs → ps ≡ qs → (xs ≡ ys) × (fs ≡ gs)
pieces-one unique {mode = mode} {mark = mark} (last_piece r) (last_piece s) e =
    let one = one-reading unique r s cc in (ap (λ w. statement_line mode w mark) one.0, ap bad_token one.1)
pieces-one unique (last_piece r) (piece s rest) e = absurd (some-piece rest cc)
pieces-one unique (piece r rest) (last_piece s) e = absurd (some-piece rest cc)
pieces-one unique {mode = mode} (piece r rest) (piece s others) e =
    let one = one-reading unique r s cc in
    let more = pieces-one unique rest others cc in
    (same-append (ap (λ w. statement_line mode w None) one.0) more.0, same-append (ap bad_token one.1) more.1)

pieces-marked : ReadsInOneWay → {mode : Mode} {mark mork : Option Place} {ps qs : List (List Char)} {xs ys : List Written} {fs gs : List Fault} →
    PieceLines mode mark ps xs fs → PieceLines mode mork qs ys gs → mark ≡ mork → ps ≡ qs → (xs ≡ ys) × (fs ≡ gs)
pieces-marked unique {mode = mode} {ps = ps} {xs = xs} {fs = fs} p q m e = pieces-one unique (subst (λ u. PieceLines mode u ps xs fs) m p) q e

statements-one : ReadsInOneWay → {mode : Mode} {ls ms : List (List Char)} {xs ys : List Written} {fs gs : List Fault} →
    StatementLines mode ls xs fs → StatementLines mode ms ys gs → ls ≡ ms → (xs ≡ ys) × (fs ≡ gs)
statements-one unique no_statement no_statement e = (refl, refl)
statements-one unique no_statement (statement_first p rest) e = absurd (none-one e)
statements-one unique (statement_first p rest) no_statement e = absurd (one-none e)
statements-one unique {mode = mode} (statement_first {line = l} {lines = ls} p rest) (statement_first {line = m} {lines = ms} q others) e =
    let heads : l ≡ m = cc in
    let tails : ls ≡ ms = cc in
    let at : statement_at l ls ≡ statement_at m ms = ap (λ x. statement_at x ls) heads ∙ ap (statement_at m) tails in
    let here = pieces-marked unique p q (ap (λ s. s.mark) at) (ap (λ s. pieces [] s.text) at) in
    let more = statements-one unique rest others (ap (λ s. s.rest) at) in
    (same-append here.0 more.0, same-append here.1 more.1)

-- by the same sentinel at the same place with the same text before the same rows
directives-at : {mode : Mode} {s t : Sentinel} {at place : Place} {words other : List Word} {mark mork : Option Place} {within inside : Bool} →
    s ≡ t → at ≡ place → words ≡ other → mark ≡ mork → within ≡ inside → directive_line mode s at words mark within ≡ directive_line mode t place other mork inside
directives-at a b c d e = cc

directives-one : ReadsInOneWay → {mode : Mode} {a b : Option Place} {ls ms : List Row} {xs ys : List Written} {fs gs : List Fault} →
    DirectiveLines mode a ls xs fs → DirectiveLines mode b ms ys gs → a ≡ b → ls ≡ ms → (xs ≡ ys) × (fs ≡ gs)
directives-one unique no_directive no_directive k e = (refl, refl)
directives-one unique no_directive (passed_over rest) k e = absurd (none-one e)
directives-one unique no_directive (directive_first r rest) k e = absurd (none-one e)
directives-one unique (passed_over rest) no_directive k e = absurd (one-none e)
directives-one unique (passed_over {after = a} {line = l} rest) (passed_over {after = b} {line = m} others) k e =
    let heads : l ≡ m = cc in
    directives-one unique rest others (ap (λ x. open_after x l) k ∙ ap (open_after b) heads) cc
directives-one unique (passed_over rest) (directive_first r others) k e = absurd cc
directives-one unique (directive_first r rest) no_directive k e = absurd (one-none e)
directives-one unique (directive_first r rest) (passed_over others) k e = absurd cc
directives-one unique (directive_first {after = a} {s = s} {at = p} {line = l} {others = ls} r rest) (directive_first {after = b} {s = t} {at = q} {line = m} {others = ms} v others) k e =
    let sentinels : s ≡ t = cc in
    let places : p ≡ q = cc in
    let heads : l ≡ m = cc in
    let tails : ls ≡ ms = cc in
    let at : group_at s l ls ≡ group_at t m ms = ap (λ x. group_at x l ls) sentinels ∙ ap (λ x. group_at t x ls) heads ∙ ap (group_at t m) tails in
    let here = one-reading unique r v (ap (λ g. g.text) at) in
    let more = directives-one unique rest others k (ap (λ g. g.rest) at) in
    let inside : (is_some a && has_text (group_at s l ls).rest) ≡ (is_some b && has_text (group_at t m ms).rest) =
    ap (λ x. is_some x && has_text (group_at s l ls).rest) k ∙ ap (λ g. is_some b && has_text g.rest) at in
    (same-cons (directives-at sentinels places here.0 (ap (λ g. g.mark) at) inside) more.0, same-append (ap bad_token here.1) more.1)

-- a text's lines and faults
pub lines-one : ReadsInOneWay → (file : ℕ) (mode : Mode) (text : List ℕ) (these those : List Written) (here there : List Fault) → HasLines file mode text these here →
    HasLines file mode text those there → (these ≡ those) × (here ≡ there)
lines-one unique file mode text these those here there h k =
    let s = statements-one unique h.are_statements k.are_statements refl in
    let d = directives-one unique h.are_directives k.are_directives refl refl in
    let bytes = byte_faults file 1 (physical text) in (
      h.are_lines ∙ ap (λ x. in_order x h.directives) s.0 ∙ ap (in_order k.statements) d.0 ∙ sym k.are_lines,
      h.are_faults ∙ same-append (same-append {a = bytes} refl s.1) d.1 ∙ sym k.are_faults,
    )
