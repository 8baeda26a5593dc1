-- What the texts of tokens mean in an expression.
use Rattle.std.specs.Prelude.{ℕ, ◌*◌, ◌+◌, ◌-◌, min, cond, List, [], ◌∷◌, take, drop, fold, codes, Option, None, Some}
use Rattle.std.specs.Char.{is_ascii_digit}
use Rattle.std.specs.List.{prefix_len}
use Rattle.std.specs.Str.{bytes_eq}
use Rattle.fort_arith.specs.declared.kind.Kind.{Kind}
use Rattle.fort_arith.specs.declared.kind.Kind.TheVariants.{I1, I2, I4, I8}
use Rattle.fort_arith.specs.declared.op.Op.{Op}
use Rattle.fort_arith.specs.declared.op.Op.TheVariants as op
use Rattle.fort_tree.specs.declared.place.Place.{Place}
use Rattle.fort_tree.specs.declared.statement.Token.{Token}
use Rattle.fort_tree.specs.Unplaced.{nowhere}
use Rattle.fort_expr.specs.declared.words.OperatorWord.{OperatorWord}

-- a text, and the operator before or behind which it stands
pub record Spelling : Type 0 where
  pub text : List ℕ
  pub operator : Op

abbrev pub spelling : OperatorWord → Spelling
spelling w = record { text = w.text.now; operator = w.operator }

abbrev pub spellings : List Spelling
spellings =
    record { text = codes "**"; operator = op.Pow } ∷
    record { text = codes "*"; operator = op.Mul } ∷
    record { text = codes "/"; operator = op.Div } ∷
    record { text = codes "+"; operator = op.Add } ∷
    record { text = codes "-"; operator = op.Sub } ∷
    record { text = codes "=="; operator = op.Eq } ∷
    record { text = codes ".eq."; operator = op.Eq } ∷
    record { text = codes "/="; operator = op.Ne } ∷
    record { text = codes ".ne."; operator = op.Ne } ∷
    record { text = codes "<"; operator = op.Lt } ∷
    record { text = codes ".lt."; operator = op.Lt } ∷
    record { text = codes "<="; operator = op.Le } ∷
    record { text = codes ".le."; operator = op.Le } ∷
    record { text = codes ">"; operator = op.Gt } ∷
    record { text = codes ".gt."; operator = op.Gt } ∷
    record { text = codes ">="; operator = op.Ge } ∷
    record { text = codes ".ge."; operator = op.Ge } ∷
    record { text = codes ".and."; operator = op.And } ∷
    record { text = codes ".or."; operator = op.Or } ∷
    record { text = codes ".eqv."; operator = op.Eqv } ∷
    record { text = codes ".neqv."; operator = op.Neqv } ∷
    []

abbrev pub operator_in : List Spelling → List ℕ → Op
operator_in [] text = op.Add
operator_in (w ∷ ws) text = cond (bytes_eq w.text text) w.operator (operator_in ws text)

-- the operator that the text spells
unfoldable pub operator_of : List ℕ → Op
operator_of text = operator_in spellings text

-- the number that digits write
abbrev pub value_of : List ℕ → ℕ
value_of = fold (λ value digit. 10 * value + (digit - 48)) 0

abbrev pub digit_count : List ℕ → ℕ
digit_count = prefix_len is_ascii_digit

-- the number that the digits of a number's text write. (No token writes one above 2 ^ 63 - 1.)
abbrev pub number_of : List ℕ → ℕ
number_of text = min (value_of (take (digit_count text) text)) 9223372036854775808

-- the kind that a suffix gives
abbrev pub suffix_kind : List ℕ → Option Kind
suffix_kind suffix =
    cond (bytes_eq suffix (codes "_1")) (Some I1) (cond (bytes_eq suffix (codes "_2")) (Some I2) (
    cond (bytes_eq suffix (codes "_4")) (Some I4) (cond (bytes_eq suffix (codes "_8")) (Some I8) None)))

-- the kind that the suffix of a number's text gives, if there is one
abbrev pub kind_of : List ℕ → Option Kind
kind_of text = suffix_kind (drop (digit_count text) text)

-- where tokens begin
abbrev pub front_place : List Token → Place
front_place [] = nowhere
front_place (t ∷ w) = t.at
