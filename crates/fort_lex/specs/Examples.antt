-- What is seen of small texts.
use Rattle.std.specs.Prelude.{ℕ, Bool, false, List, map, Option, None, option_map}
use Rattle.fort_tree.specs.declared.choice.Mode.TheVariants.{Source}
use Rattle.fort_tree.specs.declared.fault.Code.{Code}
use Rattle.fort_lex.specs.Lines.{Written}
use Rattle.fort_lex.specs.Machine.{gone_over, lines_of, first_fault}

-- what is seen of a line: its place, where it is unfinished, whether it stands within a statement, and its tokens' texts
pub record Seen : Type 0 where
  pub line : ℕ
  pub column : ℕ
  pub unfinished : Option (ℕ × ℕ)
  pub within : Bool
  pub texts : List (List ℕ)

abbrev pub seen : Written → Seen
seen w = record {
  line = w.at.line;
  column = w.at.column;
  unfinished = option_map (λ p. (p.line, p.column)) w.unfinished;
  within = w.within;
  texts = map (λ word. word.text) w.words;
}

abbrev pub lines : List ℕ → List Seen
lines text = map seen (lines_of (gone_over 0 Source text))

abbrev pub plain : ℕ → ℕ → List (List ℕ) → Seen
plain line column texts = record { line = line; column = column; unfinished = None; within = false; texts = texts }

abbrev pub first : List ℕ → Option (Code × (ℕ × ℕ))
first text = option_map (λ f. (f.code, (f.place.line, f.place.column))) (first_fault (gone_over 0 Source text))
