-- What the steps of the engine do, said by the derivations of what is left.
use Rattle.std.specs.Prelude.{◌≡◌, ◌⊎◌, Bool, true, false, List, [], ◌∷◌, Option, None, Some}
use Rattle.fort_tree.specs.declared.statement.Token.{Token}
use Rattle.fort_grammar.specs.declared.class.Class.{Class}
use Rattle.fort_grammar.specs.declared.engine.Step.{Step}
use Rattle.fort_grammar.specs.declared.engine.Step.TheVariants as step
use Rattle.fort_grammar.specs.declared.engine.Top.{Top}
use Rattle.fort_grammar.specs.declared.engine.Top.TheVariants as top
use Rattle.fort_grammar.specs.declared.table.Action.{Action}
use Rattle.fort_grammar.specs.declared.table.Symbol.{Symbol}
use Rattle.fort_grammar.specs.declared.table.Symbol.TheVariants.{Take}
use Rattle.fort_grammar.specs.Choose.{member}
use Rattle.fort_grammar.specs.Derives.{Derives}
use Rattle.fort_grammar.specs.First.{Good, firsts}
use Rattle.fort_grammar.specs.Reads.{Reads}
use Rattle.fort_grammar.specs.Token.{token_class}

-- the class of the next token, if there is one
abbrev pub look_of : List Token → Option Class
look_of [] = None
look_of (t ∷ w) = Some (token_class t)

module _ (V : Type 0) (shift : Token → V → V) (apply : Action → V → V) where
  -- From the values v the tokens derive the symbols and leave the values u.
  abbrev pub Spelled : List Symbol → List Token → V → V → Type 0
  Spelled ss w v u = Derives V shift apply ss w v u

  -- What the first state derives from tokens that begin so the second derives; what the second derives or reads the first does.
  pub record Agree (k : Option Class) (a : List Symbol) (va : V) (b : List Symbol) (vb : V) : Type 0 where
    pub ahead : (w : List Token) (u : V) → look_of w ≡ k → Spelled a w va u → Spelled b w vb u
    pub back : (w : List Token) (u : V) → Spelled b w vb u → Spelled a w va u
    pub reads : (z : List Token) (s : List Symbol) (w : List Token) (u : V) → Reads V shift apply z s u b w vb → Reads V shift apply z s u a w va

  -- The next token begins what is left, or the two states derive the same from no token.
  abbrev pub Idle : Option Class → List Symbol → V → List Symbol → V → Type 0
  Idle None a va b vb = Unit {0}
  Idle (Some c) a va b vb = (member c (firsts b) ≡ true) ⊎ Agree None a va b vb

  abbrev pub Never : List Symbol → List Token → V → Type 0
  Never a w va = (u : V) → Spelled a w va u → ⊥

  -- What stands on top once the rows that the next token calls for are taken.
  abbrev pub Opened : Top → Option Class → List Symbol → V → List Symbol → V → Type 0
  Opened (top.Token c) k a va b vb = Good b × Agree k a va (Take c ∷ b) vb × Idle k a va (Take c ∷ b) vb
  Opened top.End k a va b vb = Agree k a va [] vb × Idle k a va [] vb
  Opened top.Stuck k a va b vb = ((w : List Token) → look_of w ≡ k → Never a w va) × Never a [] va

  -- One token further: what is left derives what the first state derives behind the token, and is just what is wanted behind it.
  pub record Moved (t : Token) (a : List Symbol) (va : V) (b : List Symbol) (vb : V) : Type 0 where
    pub good : Good b
    pub ahead : (w : List Token) (u : V) → Spelled a (t ∷ w) va u → Spelled b w vb u
    pub back : (w : List Token) (u : V) → Spelled b w vb u → Spelled a (t ∷ w) va u
    pub reads : (z : List Token) → Reads V shift apply z b vb a (t ∷ z) va

  -- No tokens that begin so are derived.
  abbrev pub Dead : Token → List Symbol → V → Type 0
  Dead t a va = (w : List Token) → Never a (t ∷ w) va

  -- No token derives the symbols, leaves these values, and no others.
  pub record Finished (a : List Symbol) (va vb : V) : Type 0 where
    pub ends : Spelled a [] va vb
    pub alone : (u : V) → Spelled a [] va u → u ≡ vb

  abbrev pub Finishes : Bool → List Symbol → V → V → Type 0
  Finishes true a va vb = Finished a va vb
  Finishes false a va vb = Never a [] va

  abbrev pub Advances : Step → Token → List Symbol → V → List Symbol → V → Type 0
  Advances step.Moved t a va b vb = Moved t a va b vb
  Advances step.Whole t a va b vb = Dead t a va × Finished a va vb
  Advances step.Stuck t a va b vb = Dead t a va × Never a [] va
