-- The class of a token, by its text.
use Rattle.std.specs.Prelude.{ℕ, Bool, false, cond, List, [], ◌∷◌, Option, None, Some}
use Rattle.std.specs.Char.{is_ascii_digit}
use Rattle.std.specs.Str.{bytes_eq}
use Rattle.fort_tree.specs.Name.{is_name}
use Rattle.fort_tree.specs.declared.statement.Token.{Token}
use Rattle.fort_grammar.specs.declared.class.Class.{Class}
use Rattle.fort_grammar.specs.declared.class.Class.TheVariants as class
use Rattle.fort_grammar.specs.Class.{Entry, words}

-- the class of the first entry with the text
abbrev pub listed_class : List Entry → List ℕ → Option Class
listed_class [] text = None
listed_class (w ∷ ws) text = cond (bytes_eq w.text text) (Some w.class) (listed_class ws text)

abbrev pub begins_with_digit : List ℕ → Bool
begins_with_digit [] = false
begins_with_digit (b ∷ bs) = is_ascii_digit b

-- the class of a text that isn't listed: of all names, of all numbers, or of what stands in no row
abbrev pub open_class : List ℕ → Class
open_class text = cond (is_name text) class.Name (cond (begins_with_digit text) class.Number class.Other)

abbrev pub class_or : Option Class → Class → Class
class_or None c = c
class_or (Some b) c = b

unfoldable pub text_class : List ℕ → Class
text_class text = class_or (listed_class words text) (open_class text)

-- the class of the token
abbrev pub token_class : Token → Class
token_class t = text_class t.text
