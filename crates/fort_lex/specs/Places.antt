-- Lines that stand in one text.
use Rattle.std.specs.Prelude.{ℕ, ◌≡◌, IfSome}
use Rattle.std.specs.List.{All}
use Rattle.fort_tree.specs.declared.place.Place.{Place}
use Rattle.fort_tree.specs.declared.statement.Line.{Line}
use Rattle.fort_tree.specs.declared.statement.Token.{Token}

abbrev pub InFile : ℕ → Place → Type 0
InFile file at = at.file ≡ file

-- all places of the line are in text number `file`
pub record StandsIn (file : ℕ) (line : Line) : Type 0 where
  pub at : InFile file line.at
  pub tokens : All (λ (token : Token). InFile file token.at) line.tokens
  pub unfinished : IfSome line.unfinished (InFile file)
