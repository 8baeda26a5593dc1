-- Fortran that this project does not take, in an expression.
use Rattle.std.specs.Prelude.{◌≡◌, ◌⊎◌, ℕ, Bool, true, false, cond, ◌&&◌, ◌||◌, List, take, codes, Option, None, Some}
use Rattle.std.specs.Str.{bytes_eq}
use Rattle.fort_tree.specs.declared.choice.Mode.{Mode}
use Rattle.fort_tree.specs.declared.choice.Mode.TheVariants.{Source, Target}
use Rattle.fort_tree.specs.declared.statement.Token.{Token}
use Rattle.fort_grammar.specs.declared.class.Class.{Class}
use Rattle.fort_grammar.specs.declared.class.Class.TheVariants as class
use Rattle.fort_grammar.specs.Class.{is_reserved}
use Rattle.fort_grammar.specs.Choose.{same}
use Rattle.fort_grammar.specs.Token.{token_class}

-- the text begins as the names that translations make
abbrev pub begins_claw : List ℕ → Bool
begins_claw text = bytes_eq (take 5 text) (codes "claw_")

-- a name that only translations make, in a source
abbrev pub is_made_name : Mode → List ℕ → Bool
is_made_name Source text = begins_claw text
is_made_name Target text = false

-- The token, with the class of the one behind it, is outside the profile, with this item. Can says which classes of tokens could stand in its place.
pub data Outside (mode : Mode) (Can : Class → Type 0) (t : Token) (behind : Option Class) : ℕ → Type 0 where
  -- a name that only translations make
  made_name : is_made_name mode t.text ≡ true → Outside mode Can t behind 10
  -- a reserved word where a name could stand; an intrinsic function is none
  reserved_word : is_reserved (token_class t) ≡ true → Can class.Name → Outside mode Can t behind 10
  -- a second colon: at the end of a subscript in which no colon can stand any more
  second_colon : token_class t ≡ class.Colon → (Can class.Colon → ⊥) → Can class.Comma → Outside mode Can t behind 12
  -- a double colon where a first or a second one could stand
  double_colon : token_class t ≡ class.DoubleColon → Can class.Colon ⊎ Can class.Comma → Outside mode Can t behind 12
  -- an argument's name: a name before `=`, where an argument begins, so that a colon could stand too
  keyword : token_class t ≡ class.Name → behind ≡ Some class.Equals → Can class.Name → Can class.Colon → Outside mode Can t behind 12
  -- an array's values: `(` before `/`
  array_values : token_class t ≡ class.Open → behind ≡ Some class.Slash → Can class.Open → Outside mode Can t behind 12

-- The least item of a token, by a test of what could stand in its place.

abbrev pub when : Bool → ℕ → Option ℕ
when b item = cond b (Some item) None

abbrev pub not : Bool → Bool
not b = cond b false true

abbrev pub follows : Class → Option Class → Bool
follows c None = false
follows c (Some b) = same b c

abbrev pub item_by : (Class → Bool) → Option Class → Class → Option ℕ
item_by can behind c =
    cond (same c class.Colon) (when (can class.Comma && not (can class.Colon)) 12) (
    cond (same c class.DoubleColon) (when (can class.Colon || can class.Comma) 12) (
    cond (same c class.Name) (when (follows class.Equals behind && (can class.Name && can class.Colon)) 12) (
    cond (same c class.Open) (when (follows class.Slash behind && can class.Open) 12) (
    when (is_reserved c && can class.Name) 10))))

abbrev pub item_of : Mode → (Class → Bool) → Token → Option Class → Option ℕ
item_of mode can t behind = cond (is_made_name mode t.text) (Some 10) (item_by can behind (token_class t))
