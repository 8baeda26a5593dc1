-- What actions build of the values of an expression.
use Rattle.std.specs.Prelude.{ℕ, Bool, true, false, cond, List, [], ◌∷◌, ◌++◌, codes, Option, None, Some}
use Rattle.std.specs.Str.{bytes_eq}
use Rattle.fort_arith.specs.declared.op.Op.{Op}
use Rattle.fort_arith.specs.declared.op.Op.TheVariants.{Add}
use Rattle.fort_tree.specs.declared.place.Place.{Place}
use Rattle.fort_tree.specs.declared.statement.Token.{Token}
use Rattle.fort_tree.specs.declared.expr.Expr.{Expr}
use Rattle.fort_tree.specs.declared.expr.Expr.TheVariants as expr
use Rattle.fort_tree.specs.declared.expr.Sub.{Sub}
use Rattle.fort_tree.specs.declared.expr.Sub.TheVariants as sub
use Rattle.fort_tree.specs.declared.expr.Unary.TheVariants as unary
use Rattle.fort_tree.specs.Name.{is_name, lowercase}
use Rattle.fort_tree.specs.Unplaced.{nowhere}
use Rattle.fort_grammar.specs.declared.table.Action.{Action}
use Rattle.fort_grammar.specs.declared.table.Action.TheVariants as act
use Rattle.fort_expr.specs.declared.value.Value.{Value}
use Rattle.fort_expr.specs.declared.value.Value.TheVariants.{Written, Operand, Bound, Subscript, Subscripts}
use Rattle.fort_expr.specs.declared.value.Word.{Word}
use Rattle.fort_expr.specs.Words.{operator_of, number_of, kind_of}

-- what is below the top
abbrev pub rest : List Value → List Value
rest [] = []
rest (x ∷ xs) = xs

-- The value on top, where it is of the sort; else one that stands for it.

abbrev pub word : List Value → Option Word
word (Written w ∷ xs) = Some w
word _ = None

abbrev pub missing : Expr
missing = expr.Truth false nowhere

abbrev pub operand : List Value → Expr
operand (Operand e at ∷ xs) = e
operand _ = missing

abbrev pub operand_place : List Value → Place
operand_place (Operand e at ∷ xs) = at
operand_place _ = nowhere

abbrev pub bound : List Value → Option Expr
bound (Bound b ∷ xs) = b
bound _ = None

abbrev pub subscript : List Value → Sub
subscript (Subscript s ∷ xs) = s
subscript _ = sub.Range None None nowhere

abbrev pub subscripts : List Value → List Sub
subscripts (Subscripts s ∷ xs) = s
subscripts _ = []

-- What words are.

abbrev pub word_place : Option Word → Place
word_place None = nowhere
word_place (Some w) = w.at

abbrev pub number : Option Word → Expr
number None = missing
number (Some w) = expr.Number (number_of w.text) (kind_of w.text) w.at

abbrev pub truth : Option Word → Expr
truth None = missing
truth (Some w) = expr.Truth (bytes_eq w.text (codes ".true.")) w.at

-- the name that the word is, or x
abbrev pub name : Option Word → List ℕ
name None = codes "x"
name (Some w) = cond (is_name w.text) (lowercase w.text) (codes "x")

abbrev pub reference : Option Word → Option (List Sub) → Expr
reference w subs = expr.Ref (name w) subs (word_place w)

abbrev pub operator : Option Word → Op
operator None = Add
operator (Some w) = operator_of w.text

abbrev pub word_of : Token → Word
word_of t = record { text = t.text; at = t.at }

abbrev pub shift : Token → List Value → List Value
shift t v = Written (word_of t) ∷ v

-- What an action makes of the values, the last one first. Actions of statements don't occur in an expression.
unfoldable pub apply : Action → List Value → List Value
apply act.Number v = Operand (number (word v)) (word_place (word v)) ∷ rest v
apply act.Truth v = Operand (truth (word v)) (word_place (word v)) ∷ rest v
apply act.Bare v = Operand (reference (word v) None) (word_place (word v)) ∷ rest v
apply act.Subscripted v = Operand (reference (word (rest (rest (rest v)))) (Some (subscripts (rest v)))) (word_place (word (rest (rest (rest v))))) ∷ rest (rest (rest (rest v)))
apply act.Paren v = Operand (expr.Paren (operand (rest v)) (word_place (word (rest (rest v))))) (word_place (word (rest (rest v)))) ∷ rest (rest (rest v))
apply act.Not v = Operand (expr.One unary.Not (operand v) (word_place (word (rest v)))) (word_place (word (rest v))) ∷ rest (rest v)
apply act.Plus v = Operand (expr.One unary.Plus (operand v) (word_place (word (rest v)))) (word_place (word (rest v))) ∷ rest (rest v)
apply act.Minus v = Operand (expr.One unary.Minus (operand v) (word_place (word (rest v)))) (word_place (word (rest v))) ∷ rest (rest v)
apply act.Two v = Operand (expr.Two (operator (word (rest v))) (operand (rest (rest v))) (operand v)) (operand_place (rest (rest v))) ∷ rest (rest (rest v))
apply act.NoSubs v = Subscripts [] ∷ v
apply act.FirstSub v = Subscripts (subscript v ∷ []) ∷ rest v
apply act.NextSub v = Subscripts (subscripts (rest (rest v)) ++ subscript v ∷ []) ∷ rest (rest (rest v))
apply act.OneSub v = Subscript (sub.One (operand v)) ∷ rest v
apply act.Section v = Subscript (sub.Range (Some (operand (rest (rest v)))) (bound v) (operand_place (rest (rest v)))) ∷ rest (rest (rest v))
apply act.FromStart v = Subscript (sub.Range None (bound v) (word_place (word (rest v)))) ∷ rest (rest v)
apply act.Present v = Bound (Some (operand v)) ∷ rest v
apply _ v = Bound None ∷ v

-- the actions of an expression's rows
abbrev pub builds_expression : Action → Bool
builds_expression act.Number = true
builds_expression act.Truth = true
builds_expression act.Bare = true
builds_expression act.Subscripted = true
builds_expression act.Paren = true
builds_expression act.Not = true
builds_expression act.Plus = true
builds_expression act.Minus = true
builds_expression act.Two = true
builds_expression act.NoSubs = true
builds_expression act.FirstSub = true
builds_expression act.NextSub = true
builds_expression act.OneSub = true
builds_expression act.Section = true
builds_expression act.FromStart = true
builds_expression act.Present = true
builds_expression act.Absent = true
builds_expression _ = false
