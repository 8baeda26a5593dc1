-- What a reader is seen as.
use Rattle.std.specs.Prelude.{ℕ, List, Option}
use Rattle.fort_tree.specs.declared.place.Place.{Place}
use Rattle.fort_tokens.specs.declared.shape.Shape.{Shape}
use Rattle.fort_tokens.specs.Reads.{Word}

-- the tokens so far, and the shape, the text, the first and the last place of the characters that are no token yet
pub record Reading : Type 0 where
  pub words : List Word
  pub shape : Shape
  pub text : List ℕ
  pub at : Place
  pub last : Place
  pub bad : Option Place
