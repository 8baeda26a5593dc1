-- A token that can be referred to is a name.
use Rattle.std.proofs.Common.{◌≡◌, ℕ, List, [], ◌∷◌, Bool, true, false, cond, ◌&&◌, Option, None, Some, refl, sym, ◌∙◌, subst, inl, inr, codes}
use Rattle.std.specs.Str.{bytes_eq}
use Rattle.std.proofs.lemmas.Bool.{cond-true, cond-false, and_parts, cases_Bool}
use Rattle.std.proofs.lemmas.Slice.Eq.{bytes_eq-Decides}
use Rattle.fort_tree.specs.Name.{is_name, lowercase}
use Rattle.fort_tree.specs.declared.statement.Token.{Token}
use Rattle.fort_grammar.specs.declared.class.Class.{Class}
use Rattle.fort_grammar.specs.declared.class.Class.TheVariants as class
use Rattle.fort_grammar.specs.Class.{Entry, words}
use Rattle.fort_grammar.specs.Token.{text_class, token_class, listed_class, open_class, class_or, begins_with_digit}
use Rattle.fort_grammar.proofs.Theory.{then}
use Rattle.fort_expr.specs.Expression.{IsReferred, a_name, an_intrinsic}
use Rattle.fort_expr.specs.Values.{name, word_of}

abbrev names : Class → Bool
names class.Name = true
names class.Intrinsic = true
names _ = false

abbrev fine : Class → List ℕ → Bool
fine c text = then (names c) (is_name text)

abbrev all_fine : List Entry → Bool
all_fine [] = true
all_fine (w ∷ ws) = fine w.class w.text && all_fine ws

words_fine : all_fine words ≡ true
words_fine = refl

some-class : (b c : Class) → Some b ≡ Some c → b ≡ c
some-class b c h = cc

none-some : (c : Class) → None ≡ Some c → ⊥
none-some c h = cc

listed-fine : (ws : List Entry) (text : List ℕ) (c : Class) → all_fine ws ≡ true → listed_class ws text ≡ Some c → fine c text ≡ true
listed-fine [] text c h e = absurd (none-some c e)
listed-fine (w ∷ ws) text c h e = let p = and_parts (fine w.class w.text) (all_fine ws) h in
    elim (cases_Bool (bytes_eq w.text text)) [
      | inl s ↦ let k : w.class ≡ c = some-class w.class c (sym (cond-true (bytes_eq w.text text) (Some w.class) (listed_class ws text) s) ∙ e) in
          subst (λ q. fine q text ≡ true) k (subst (λ q. fine w.class q ≡ true) ((bytes_eq-Decides w.text text).0 s) p.0)
      | inr s ↦ listed-fine ws text c p.1 (sym (cond-false (bytes_eq w.text text) (Some w.class) (listed_class ws text) s) ∙ e)
    ]

open-fine : (b d : Bool) → then (names (cond b class.Name (cond d class.Number class.Other))) b ≡ true
open-fine true d = refl
open-fine false true = refl
open-fine false false = refl

either-fine : (text : List ℕ) (o : Option Class) → listed_class words text ≡ o → fine (class_or o (open_class text)) text ≡ true
either-fine text None h = open-fine (is_name text) (begins_with_digit text)
either-fine text (Some c) h = listed-fine words text c words_fine h

text-fine : (text : List ℕ) → fine (text_class text) text ≡ true
unfolding text_class
text-fine text = either-fine text (listed_class words text) refl

pub referred-name : (text : List ℕ) → IsReferred (text_class text) → is_name text ≡ true
referred-name text (a_name e) = subst (λ c. fine c text ≡ true) e (text-fine text)
referred-name text (an_intrinsic e) = subst (λ c. fine c text ≡ true) e (text-fine text)

-- the name of such a token is its text
pub named : (t : Token) → IsReferred (token_class t) → name (Some (word_of t)) ≡ lowercase t.text
named t h = cond-true (is_name t.text) (lowercase t.text) (codes "x") (referred-name t.text h)
