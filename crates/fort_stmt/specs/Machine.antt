-- The engine's words at the draft of a statement.
use Rattle.std.specs.Prelude.{Bool, List, [], ◌∷◌, ◌++◌}
use Rattle.fort_tree.specs.declared.statement.Token.{Token}
use Rattle.fort_grammar.specs.declared.engine.Step.{Step}
use Rattle.fort_grammar.specs.declared.table.Part.TheVariants as part
use Rattle.fort_grammar.specs.declared.table.Symbol.{Symbol}
use Rattle.fort_grammar.specs.declared.table.Symbol.TheVariants.{Call}
use Rattle.fort_grammar.specs.Engine as engine
use Rattle.fort_stmt.specs.declared.value.Draft.{Draft}
use Rattle.fort_stmt.specs.Values.{act_on, take_in, blank}

abbrev pub Spelled : List Symbol → List Token → Draft → Draft → Type 0
Spelled = engine.Spelled Draft take_in act_on

abbrev pub Finished : List Symbol → Draft → Draft → Type 0
Finished = engine.Finished Draft take_in act_on

abbrev pub Never : List Symbol → List Token → Draft → Type 0
Never = engine.Never Draft take_in act_on

abbrev pub Dead : Token → List Symbol → Draft → Type 0
Dead = engine.Dead Draft take_in act_on

abbrev pub Finishes : Bool → List Symbol → Draft → Draft → Type 0
Finishes = engine.Finishes Draft take_in act_on

abbrev pub Advances : Step → Token → List Symbol → Draft → List Symbol → Draft → Type 0
Advances = engine.Advances Draft take_in act_on

abbrev pub start : List Symbol
start = Call part.Statement ∷ []

-- What the state derives, and what a statement is behind the tokens so far, are the same.
abbrev pub Ahead : List Token → List Symbol → Draft → Type 0
Ahead front s p = (w : List Token) (u : Draft) → Spelled start (front ++ w) blank u → Spelled s w p u

abbrev pub Back : List Token → List Symbol → Draft → Type 0
Back front s p = (w : List Token) (u : Draft) → Spelled s w p u → Spelled start (front ++ w) blank u
