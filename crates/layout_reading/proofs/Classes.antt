-- The classes of the tokens that are written.
use Rattle.std.proofs.Common.{◌≡◌, ℕ, List, [], ◌∷◌, Bool, true, false, cond, ◌&&◌, Option, None, Some, refl, sym, ap, ◌∙◌, subst, inl, inr, codes, get_or}
use Rattle.std.specs.Prelude.{nat_eq}
use Rattle.std.specs.Str.{bytes_eq}
use Rattle.std.proofs.lemmas.Bool.{cond-true, cond-false, and_parts, cases_Bool, eqb-true}
use Rattle.std.proofs.lemmas.Slice.Eq.{bytes_eq-Decides}
use Rattle.fort_arith.specs.declared.op.Op.{Op}
use Rattle.fort_arith.specs.declared.op.Op.TheVariants as op
use Rattle.fort_spell.specs.declared.mark.Mark.{Mark}
use Rattle.fort_spell.specs.declared.mark.Mark.TheVariants as mark
use Rattle.fort_spell.specs.Text.{mark_text}
use Rattle.fort_spell.specs.Expressions.{op_mark, truth_mark}
use Rattle.fort_grammar.specs.declared.class.Class.{Class}
use Rattle.fort_grammar.specs.declared.class.Class.TheVariants as class
use Rattle.fort_grammar.specs.Class.{Entry, words, code, classes}
use Rattle.fort_grammar.specs.Token.{text_class, token_class, listed_class, open_class, class_or}
use Rattle.fort_tree.specs.declared.statement.Token.{Token}
use Rattle.fort_expr.specs.Words.{operator_of}

-- A mark's class

pub class_of_mark : Mark → Class
class_of_mark mark.Open = class.Open
class_of_mark mark.Close = class.Close
class_of_mark mark.Comma = class.Comma
class_of_mark mark.Colon = class.Colon
class_of_mark mark.Colons = class.DoubleColon
class_of_mark mark.Assign = class.Equals
class_of_mark mark.Plus = class.Plus
class_of_mark mark.Minus = class.Minus
class_of_mark mark.Star = class.Star
class_of_mark mark.Power = class.Power
class_of_mark mark.Slash = class.Slash
class_of_mark mark.Equal = class.Relation
class_of_mark mark.NotEqual = class.Relation
class_of_mark mark.Less = class.Relation
class_of_mark mark.LessEqual = class.Relation
class_of_mark mark.Greater = class.Relation
class_of_mark mark.GreaterEqual = class.Relation
class_of_mark mark.And = class.And
class_of_mark mark.Or = class.Or
class_of_mark mark.Eqv = class.Equivalence
class_of_mark mark.Neqv = class.Equivalence
class_of_mark mark.Not = class.Not
class_of_mark mark.True = class.Truth
class_of_mark mark.False = class.Truth

marks_class : (m : Mark) → text_class (mark_text m) ≡ class_of_mark m
unfolding text_class class_of_mark
marks_class mark.Open = refl
marks_class _ = refl

operators_back : (o : Op) → operator_of (mark_text (op_mark o)) ≡ o
unfolding operator_of
operators_back op.Pow = refl
operators_back _ = refl

-- Words of the table

abbrev pub operates : Class → Bool
operates class.Plus = true
operates class.Minus = true
operates class.Star = true
operates class.Slash = true
operates class.Power = true
operates class.Relation = true
operates class.And = true
operates class.Or = true
operates class.Equivalence = true
operates _ = false

abbrev pub then : Bool → Bool → Bool
then false b = true
then true b = b

-- an operator is written with a text of the same class
abbrev kept : Class → List ℕ → Bool
kept c text = then (operates c) (nat_eq (code (class_of_mark (op_mark (operator_of text)))) (code c))

module _ (P : Class → List ℕ → Bool) where
  abbrev pub all_hold : List Entry → Bool
  all_hold [] = true
  all_hold (w ∷ ws) = P w.class w.text && all_hold ws

  some-class : (b c : Class) → Some b ≡ Some c → b ≡ c
  some-class b c h = cc

  none-some : (c : Class) → None ≡ Some c → ⊥
  none-some c h = cc

  listed : (ws : List Entry) (text : List ℕ) (c : Class) → all_hold ws ≡ true → listed_class ws text ≡ Some c → P c text ≡ true
  listed [] text c h e = absurd (none-some c e)
  listed (w ∷ ws) text c h e = let p = and_parts (P w.class w.text) (all_hold ws) h in
      elim (cases_Bool (bytes_eq w.text text)) [
        | inl s ↦ let k : w.class ≡ c = some-class w.class c (sym (cond-true (bytes_eq w.text text) (Some w.class) (listed_class ws text) s) ∙ e) in
            subst (λ q. P q text ≡ true) k (subst (λ q. P w.class q ≡ true) ((bytes_eq-Decides w.text text).0 s) p.0)
        | inr s ↦ listed ws text c p.1 (sym (cond-false (bytes_eq w.text text) (Some w.class) (listed_class ws text) s) ∙ e)
      ]

  either : (text : List ℕ) (o : Option Class) → all_hold words ≡ true → P (open_class text) text ≡ true → listed_class words text ≡ o → P (class_or o (open_class text)) text ≡ true
  either text None h g e = g
  either text (Some c) h g e = listed words text c h e

  -- What holds of each word of the table, and of a text that isn't in it, holds of each text with its class.
  pub of_class : (text : List ℕ) → all_hold words ≡ true → P (open_class text) text ≡ true → P (text_class text) text ≡ true
  unfolding text_class
  of_class text h g = either text (listed_class words text) h g refl

operators_kept : all_hold kept words ≡ true
unfolding operator_of class_of_mark
operators_kept = refl

open_operates : (b d : Bool) → operates (cond b class.Name (cond d class.Number class.Other)) ≡ false
open_operates true d = refl
open_operates false true = refl
open_operates false false = refl

open_kept : (text : List ℕ) → kept (open_class text) text ≡ true
open_kept text = rw (open_operates _ _) refl

codes_back : (b : Class) → get_or classes (code b) class.Other ≡ b
codes_back class.Open = refl
codes_back _ = refl

same_code : (b c : Class) → nat_eq (code b) (code c) ≡ true → b ≡ c
same_code b c h = sym (codes_back b) ∙ ap (λ n. get_or classes n class.Other) (eqb-true (code b) (code c) h) ∙ codes_back c

-- a token with the text of a mark has its class
pub mark_class : (q : Token) (m : Mark) → q.text ≡ mark_text m → token_class q ≡ class_of_mark m
mark_class q m h = ap text_class h ∙ marks_class m

-- An operator is written with a token of the same class, which stands for it.
pub operator_class : (o q : Token) (c : Class) → token_class o ≡ c → operates c ≡ true → q.text ≡ mark_text (op_mark (operator_of o.text)) → token_class q ≡ c
operator_class o q c h k e =
    let a : kept c o.text ≡ true = subst (λ c. kept c o.text ≡ true) h (of_class kept o.text operators_kept (open_kept o.text)) in
    let b : nat_eq (code (class_of_mark (op_mark (operator_of o.text)))) (code c) ≡ true = subst (λ b. then b (nat_eq (code (class_of_mark (op_mark (operator_of o.text)))) (code c)) ≡ true) k a in
    mark_class q (op_mark (operator_of o.text)) e ∙ same_code (class_of_mark (op_mark (operator_of o.text))) c b

pub operator_back : (o : Op) (q : Token) → q.text ≡ mark_text (op_mark o) → operator_of q.text ≡ o
operator_back o q e = ap operator_of e ∙ operators_back o

pub truths_back : (b : Bool) → bytes_eq (mark_text (truth_mark b)) (codes ".true.") ≡ b
truths_back true = refl
truths_back false = refl

-- the classes of the marks
pub open_class_is : (q : Token) → q.text ≡ mark_text mark.Open → token_class q ≡ class.Open
unfolding class_of_mark
open_class_is q e = mark_class q mark.Open e

pub close_class_is : (q : Token) → q.text ≡ mark_text mark.Close → token_class q ≡ class.Close
unfolding class_of_mark
close_class_is q e = mark_class q mark.Close e

pub comma_class_is : (q : Token) → q.text ≡ mark_text mark.Comma → token_class q ≡ class.Comma
unfolding class_of_mark
comma_class_is q e = mark_class q mark.Comma e

pub colon_class_is : (q : Token) → q.text ≡ mark_text mark.Colon → token_class q ≡ class.Colon
unfolding class_of_mark
colon_class_is q e = mark_class q mark.Colon e

pub not_class_is : (q : Token) → q.text ≡ mark_text mark.Not → token_class q ≡ class.Not
unfolding class_of_mark
not_class_is q e = mark_class q mark.Not e

pub plus_class_is : (q : Token) → q.text ≡ mark_text mark.Plus → token_class q ≡ class.Plus
unfolding class_of_mark
plus_class_is q e = mark_class q mark.Plus e

pub minus_class_is : (q : Token) → q.text ≡ mark_text mark.Minus → token_class q ≡ class.Minus
unfolding class_of_mark
minus_class_is q e = mark_class q mark.Minus e

truths_class : (b : Bool) → class_of_mark (truth_mark b) ≡ class.Truth
unfolding class_of_mark
truths_class true = refl
truths_class false = refl

pub truth_class_is : (q : Token) (b : Bool) → q.text ≡ mark_text (truth_mark b) → token_class q ≡ class.Truth
truth_class_is q b e = mark_class q (truth_mark b) e ∙ truths_class b

pub colons_class_is : (q : Token) → q.text ≡ mark_text mark.Colons → token_class q ≡ class.DoubleColon
unfolding class_of_mark
colons_class_is q e = mark_class q mark.Colons e

pub equals_class_is : (q : Token) → q.text ≡ mark_text mark.Assign → token_class q ≡ class.Equals
unfolding class_of_mark
equals_class_is q e = mark_class q mark.Assign e
