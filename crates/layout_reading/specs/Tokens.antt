-- Tokens and their texts.
use Rattle.std.specs.Prelude.{ℕ, ◌≡◌, true, List, map}
use Rattle.std.specs.List.{list_all}
use Rattle.fort_tree.specs.declared.statement.Token.{Token}
use Rattle.fort_tree.specs.Token.{is_token}
use Rattle.fort_spell.specs.Pieces.{Piece, text_of}

abbrev pub texts : List Token → List (List ℕ)
texts = map (λ (t : Token). t.text)

abbrev pub piece_texts : List Piece → List (List ℕ)
piece_texts = map (λ (p : Piece). text_of p.token)

-- The text of each is a token's.
abbrev pub AreTokens : List Token → Type 0
AreTokens ts = list_all (λ (t : Token). is_token t.text) ts ≡ true
