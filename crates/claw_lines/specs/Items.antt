-- What single tokens of a form are.
use Rattle.std.specs.Prelude.{ℕ, Bool, cond, ◌&&◌, nat_le, List, Option, None, Some, option_map, is_none, codes}
use Rattle.std.specs.Option.{option_and_then}
use Rattle.std.specs.Str.{bytes_eq}
use Rattle.fort_arith.specs.declared.kind.Kind.{Kind}
use Rattle.fort_tree.specs.declared.expr.Expr.{Expr}
use Rattle.fort_tree.specs.declared.expr.Expr.TheVariants.{Number as TheNumber}
use Rattle.fort_tree.specs.declared.place.Place.{Place}
use Rattle.fort_tree.specs.declared.statement.Token.{Token}
use Rattle.fort_tree.specs.declared.stmt.DirectiveWord.{DirectiveWord}
use Rattle.fort_tree.specs.Name.{is_name}
use Rattle.claw_lines.specs.Words.{is_taken, number_of}

abbrev pub is_text : Token → List ℕ → Bool
is_text token text = bytes_eq token.text text

abbrev pub name_text : List ℕ → Option (List ℕ)
name_text text = cond (is_name text) (Some text) None

-- the token as a name
abbrev pub name_item : Token → Option (List ℕ)
name_item token = name_text token.text

abbrev pub unless_taken : DirectiveWord → List ℕ → Option (List ℕ)
unless_taken form text = cond (is_taken form text) None (Some text)

-- the token as a name that the form may have
abbrev pub free_item : DirectiveWord → Token → Option (List ℕ)
free_item form token = option_and_then (unless_taken form) (name_item token)

-- the token as a name of the form, or as a colon
abbrev pub position_item : DirectiveWord → Token → Option (Option (List ℕ))
position_item form token = cond (is_text token (codes ":")) (Some None) (option_map (λ name. Some name) (free_item form token))

abbrev pub number_item : Place → ℕ × Option Kind → Expr
number_item at number = TheNumber number.0 number.1 at

-- the token as a number
abbrev pub literal_item : Token → Option Expr
literal_item token = option_map (number_item token.at) (number_of token.text)

abbrev pub small : ℕ × Option Kind → Option ℕ
small number = cond (is_none number.1 && nat_le number.0 4294967295) (Some number.0) None

-- the token as a number of at most 4294967295 without a kind
abbrev pub count_item : Token → Option ℕ
count_item token = option_and_then small (number_of token.text)
