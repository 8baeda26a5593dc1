-- Lines of tokens, their forms, and the lines that rows are.
use Rattle.std.specs.Prelude.{ℕ, ◌≡◌, Bool, true, false, List, [], ◌∷◌, ◌++◌, ⊤}
use Rattle.fort_tree.specs.declared.statement.Statement.{Statement, out-Statement}
use Rattle.fort_tree.specs.declared.statement.Token.{Token}
use Rattle.fort_tree.specs.declared.stmt.Directive.{Directive}
use Rattle.fort_expr.specs.Words.{front_place}
use Rattle.fort_stmt.specs.Form.{IsStatement}
use Rattle.claw_lines.specs.Forms.{IsLine}
use Rattle.sound_programs.specs.Forms.{Form, Says, Directs}
use Rattle.fort_spell.specs.Rows.{Row}
use Rattle.layout_reading.specs.Tokens.{texts, piece_texts}
use Rattle.layout_reading.specs.Shown.{sentinel_words, is_mark}

-- the tokens of a logical line, and whether it is a mark's
pub record TokenLine : Type 0 where
  pub directive : Bool
  pub tokens : List Token

-- The line has the form: a statement's at the place of its first token, or a mark.
pub data HasForm : TokenLine → Form → Type 0 where
  says : {tokens : List Token} {s : Statement} → IsStatement tokens s → HasForm (record { directive = false; tokens = tokens }) (Says (front_place tokens) (out-Statement s))
  directs : {tokens : List Token} {d : Directive} → IsLine (front_place tokens) tokens (d ∷ []) → HasForm (record { directive = true; tokens = tokens }) (Directs d)

-- the lines have these forms, one by one
pub data HaveForms : List TokenLine → List Form → Type 0 where
  no_form : HaveForms [] []
  form : {l : TokenLine} {ls : List TokenLine} {g : Form} {gs : List Form} → HasForm l g → HaveForms ls gs → HaveForms (l ∷ ls) (g ∷ gs)

-- The line has the tokens of the row, with its sentinel before them, and stands in this file.
pub record IsLineOf (file : ℕ) (row : Row) (line : TokenLine) : Type 0 where
  pub directive : line.directive ≡ is_mark row.margin.sentinel
  pub texts_are : texts line.tokens ≡ sentinel_words row.margin.sentinel ++ piece_texts row.pieces
  pub in_file : (front_place line.tokens).file ≡ file

-- the lines have the tokens of the rows, one by one
abbrev pub AreLinesOf : ℕ → List Row → List TokenLine → Type 0
AreLinesOf file [] [] = ⊤
AreLinesOf file [] (l ∷ ls) = ⊥
AreLinesOf file (row ∷ rows) [] = ⊥
AreLinesOf file (row ∷ rows) (l ∷ ls) = IsLineOf file row l × AreLinesOf file rows ls
