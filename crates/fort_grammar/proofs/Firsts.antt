-- What FIRST of a stack says, read off symbol by symbol.
use Rattle.std.proofs.Common.{◌≡◌, Bool, true, false, ◌||◌, List, [], ◌∷◌, reverse, refl, sym, ◌∙◌, ap}
use Rattle.std.specs.List.{push}
use Rattle.std.proofs.lemmas.List.{reverse-append}
use Rattle.fort_grammar.specs.declared.class.Class.{Class}
use Rattle.fort_grammar.specs.declared.table.Action.{Action}
use Rattle.fort_grammar.specs.declared.table.Symbol.{Symbol}
use Rattle.fort_grammar.specs.declared.table.Symbol.TheVariants.{Take, Build}
use Rattle.fort_grammar.specs.Choose.{same, member}
use Rattle.fort_grammar.specs.First.{firsts}

or-false : (b : Bool) → b ≡ b || false
or-false true = refl
or-false false = refl

last-first : (x : Symbol) (xs ys : List Symbol) → xs ≡ push ys x → reverse xs ≡ x ∷ reverse ys
last-first x xs ys e = ap reverse e ∙ reverse-append ys (x ∷ [])

-- the last symbol is a token's class
pub at-take : (c w : Class) (x : Symbol) (xs ys : List Symbol) → xs ≡ push ys x → x ≡ Take w → same w c ≡ member c (firsts (reverse xs))
at-take c w x xs ys e f = or-false (same w c) ∙ sym (ap (λ l. member c (firsts l)) (last-first x xs ys e ∙ ap (λ z. z ∷ reverse ys) f))

-- the last symbol is an action
pub at-build : (c : Class) (a : Action) (x : Symbol) (xs ys : List Symbol) → xs ≡ push ys x → x ≡ Build a → member c (firsts (reverse xs)) ≡ member c (firsts (reverse ys))
at-build c a x xs ys e f = ap (λ l. member c (firsts l)) (last-first x xs ys e ∙ ap (λ z. z ∷ reverse ys) f)
