-- The forms of a small text, for a test: a SUBROUTINE with a loop behind a directive, and an IF with two branches.
use Rattle.std.specs.Prelude.{ℕ, List, [], ◌∷◌, None, true, false}
use Rattle.fort_tree.specs.declared.expr.Expr.{Expr}
use Rattle.fort_tree.specs.declared.expr.Expr.TheVariants.{Truth}
use Rattle.fort_tree.specs.declared.place.Place.{Place}
use Rattle.fort_tree.specs.declared.statement.Statement.TheVariants as statement
use Rattle.fort_tree.specs.declared.stmt.Directive.{Directive}
use Rattle.fort_tree.specs.declared.stmt.DirectiveWord.TheVariants.{Fusion}
use Rattle.fort_tree.specs.declared.stmt.Head.{Head}
use Rattle.fort_tree.specs.declared.stmt.Named.{Named}
use Rattle.form_nesting.specs.declared.form.Form.{Form}
use Rattle.form_nesting.specs.declared.form.Form.TheVariants.{Says, Directs}

abbrev pub here : Place
here = record { file = 0; line = 1; column = 1 }

abbrev pub named : List ℕ → Named
named name = record { name = name; at = here }

abbrev pub truth : Expr
truth = Truth true here

abbrev pub fusion : Directive
fusion = record { at = here; word = Fusion; names = []; over = None; number = None; group = None; init = false; lower = None; upper = None }

abbrev pub head : List ℕ → Head
head name = record { var = name; at = here; from = truth; to = truth; step = None }

abbrev pub small_forms : List ℕ → List Form
small_forms name =
    Says here (statement.Subroutine (named name) [])
    ∷ Directs fusion
    ∷ Says here (statement.Do (head name))
    ∷ Says here (statement.Call (named name) [])
    ∷ Says here statement.EndDo
    ∷ Says here (statement.IfThen truth)
    ∷ Says here statement.Return
    ∷ Says here statement.Else
    ∷ Says here statement.EndIf
    ∷ Says here (statement.End None None)
    ∷ []
