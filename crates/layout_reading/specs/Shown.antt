-- What is read of rows, places set aside.
use Rattle.std.specs.List.{list_all}
use Rattle.std.specs.Prelude.{nat_eq, ℕ, ◌≡◌, Bool, true, false, List, [], ◌∷◌, ◌++◌, map, is_some, codes}
use Rattle.fort_tree.specs.declared.choice.Mode.{Mode}
use Rattle.fort_tokens.specs.Reads.{Word}
use Rattle.fort_lex.specs.Lines.{Written, AreLines}
use Rattle.fort_spell.specs.declared.line.Sentinel.{Sentinel}
use Rattle.fort_spell.specs.declared.line.Sentinel.TheVariants as sentinel
use Rattle.fort_spell.specs.Pieces.{text_of}
use Rattle.fort_spell.specs.Rows.{Row, text}

-- what a logical line shows besides its places
pub record Shown : Type 0 where
  pub mode : Mode
  pub directive : Bool
  pub unfinished : Bool
  pub within : Bool
  pub texts : List (List ℕ)

abbrev pub shown : Written → Shown
shown w = record {
  mode = w.mode;
  directive = w.directive;
  unfinished = is_some w.unfinished;
  within = w.within;
  texts = map (λ word. word.text) w.words;
}

-- the token that a mark line begins with
abbrev pub sentinel_words : Sentinel → List (List ℕ)
sentinel_words sentinel.Absent = []
sentinel_words sentinel.OpenMp = codes "!$omp" ∷ []
sentinel_words sentinel.OpenAcc = codes "!$acc" ∷ []

abbrev pub is_mark : Sentinel → Bool
is_mark sentinel.Absent = false
is_mark sentinel.OpenMp = true
is_mark sentinel.OpenAcc = true

-- the line that a row is: finished, within no other, its tokens those of its pieces
abbrev pub line_of : Mode → Row → Shown
line_of mode row = record {
  mode = mode;
  directive = is_mark row.margin.sentinel;
  unfinished = false;
  within = false;
  texts = sentinel_words row.margin.sentinel ++ map (λ p. text_of p.token) row.pieces;
}

-- the first token stands in this text
abbrev pub begins_in : ℕ → List Word → Bool
begins_in file [] = false
begins_in file (word ∷ words) = nat_eq word.at.file file

-- The text of the rows has no fault, and a logical line for each row, which begins in this text.
pub record AreRead (file : ℕ) (mode : Mode) (rows : List Row) : Type 0 where
  pub lines : List Written
  pub are_lines : AreLines file mode (text rows) lines
  pub are_rows : map shown lines ≡ map (line_of mode) rows
  pub in_file : list_all (λ (w : Written). begins_in file w.words) lines ≡ true
