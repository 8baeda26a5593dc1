-- What rows build of a statement's outline: what the statement is for nesting, before its names.
use Rattle.std.specs.Prelude.{ℕ, cond, List, [], ◌∷◌, Option, None, Some, option_map}
use Rattle.fort_tree.specs.declared.statement.EndWord.TheVariants as word
use Rattle.fort_tree.specs.declared.statement.Statement.{Statement, out-Statement}
use Rattle.fort_tree.specs.declared.statement.Statement.TheOpen.{Statement-F}
use Rattle.fort_tree.specs.declared.statement.Token.{Token}
use Rattle.fort_tree.specs.Name.{lowercase}
use Rattle.fort_grammar.specs.declared.class.Class.TheVariants as class
use Rattle.fort_grammar.specs.declared.table.Action.{Action}
use Rattle.fort_grammar.specs.declared.table.Action.TheVariants as act
use Rattle.fort_grammar.specs.Choose.{same}
use Rattle.fort_grammar.specs.Token.{token_class}
use Rattle.fort_stmt.specs.declared.outline.Outline.{Outline}
use Rattle.fort_stmt.specs.declared.outline.Outline.TheVariants as outline
use Rattle.fort_stmt.specs.declared.sort.ActionSort.{ActionSort}
use Rattle.fort_stmt.specs.declared.sort.ActionSort.TheVariants as sorts
use Rattle.fort_stmt.specs.declared.sort.Sort.{Sort}
use Rattle.fort_stmt.specs.declared.sort.Sort.TheVariants as sort
use Rattle.fort_stmt.specs.Sort.{action_of}

abbrev pub outline_of_level : Statement-F Statement → Outline
outline_of_level (Statement-F.Module name) = outline.Module
outline_of_level Statement-F.Contains = outline.Contains
outline_of_level (Statement-F.End word name) = outline.End word
outline_of_level (Statement-F.Subroutine name dummies) = outline.Subroutine
outline_of_level (Statement-F.Function prefix name dummies outcome) = outline.Function
outline_of_level (Statement-F.Using line) = outline.Use
outline_of_level Statement-F.ImplicitNone = outline.ImplicitNone
outline_of_level (Statement-F.Declare line) = outline.Declare
outline_of_level (Statement-F.Assign left right) = outline.Act sorts.Assign
outline_of_level (Statement-F.Call name args) = outline.Act sorts.Call
outline_of_level (Statement-F.IfAction test at action) = outline.IfAct (action_of action)
outline_of_level (Statement-F.IfThen test) = outline.IfThen
outline_of_level (Statement-F.ElseIf test) = outline.ElseIf
outline_of_level Statement-F.Else = outline.Else
outline_of_level Statement-F.EndIf = outline.EndIf
outline_of_level (Statement-F.Do head) = outline.Do
outline_of_level Statement-F.EndDo = outline.EndDo
outline_of_level Statement-F.Exit = outline.Act sorts.Exit
outline_of_level Statement-F.Cycle = outline.Act sorts.Cycle
outline_of_level Statement-F.Return = outline.Act sorts.Return
outline_of_level (Statement-F.Select on) = outline.Select
outline_of_level Statement-F.EndSelect = outline.EndSelect
outline_of_level (Statement-F.Case ranges) = outline.Case
outline_of_level Statement-F.CaseDefault = outline.CaseDefault

abbrev pub outline_of : Statement → Outline
outline_of s = outline_of_level (out-Statement s)

-- the action, where the outline is that of one
abbrev pub acting : Outline → ActionSort
acting (outline.Act a) = a
acting _ = sorts.Return

-- what an action of the grammar makes of the outline so far
unfoldable pub sketch_on : Action → Outline → Outline
sketch_on act.Module o = outline.Module
sketch_on act.Contains o = outline.Contains
sketch_on act.End o = outline.End None
sketch_on act.EndModule o = outline.End (Some word.Module)
sketch_on act.EndSubroutine o = outline.End (Some word.Subroutine)
sketch_on act.EndFunction o = outline.End (Some word.Function)
sketch_on act.Subroutine o = outline.Subroutine
sketch_on act.Function o = outline.Function
sketch_on act.Only o = outline.Use
sketch_on act.All o = outline.Use
sketch_on act.ImplicitNone o = outline.ImplicitNone
sketch_on act.Declare o = outline.Declare
sketch_on act.DeclareParameter o = outline.Declare
sketch_on act.DeclareIntent o = outline.Declare
sketch_on act.DeclareShape o = outline.Declare
sketch_on act.DeclareIntentShape o = outline.Declare
sketch_on act.DeclareShapeIntent o = outline.Declare
sketch_on act.CaseRanges o = outline.Case
sketch_on act.CaseDefault o = outline.CaseDefault
sketch_on act.Assign o = outline.Act sorts.Assign
sketch_on act.Call o = outline.Act sorts.Call
sketch_on act.Exit o = outline.Act sorts.Exit
sketch_on act.Cycle o = outline.Act sorts.Cycle
sketch_on act.Return o = outline.Act sorts.Return
sketch_on act.IfThen o = outline.IfThen
sketch_on act.IfAction o = outline.IfAct (acting o)
sketch_on act.ElseIf o = outline.ElseIf
sketch_on act.Else o = outline.Else
sketch_on act.EndIf o = outline.EndIf
sketch_on act.Do o = outline.Do
sketch_on act.EndDo o = outline.EndDo
sketch_on act.Select o = outline.Select
sketch_on act.EndSelect o = outline.EndSelect
sketch_on _ o = o

-- a token changes nothing
abbrev pub pass : Token → Outline → Outline
pass t o = o

-- The sort that an outline and a name give: a header has a name, an END may have one.

-- the first name among the tokens
abbrev pub first_name : List Token → Option (List ℕ)
first_name [] = None
first_name (t ∷ w) = cond (same (token_class t) class.Name) (Some (lowercase t.text)) (first_name w)

abbrev pub sort_with : Outline → Option (List ℕ) → Option Sort
sort_with outline.Module n = option_map (λ m. sort.Module m) n
sort_with outline.Contains n = Some sort.Contains
sort_with (outline.End w) n = Some (sort.End w n)
sort_with outline.Subroutine n = option_map (λ m. sort.Subroutine m) n
sort_with outline.Function n = option_map (λ m. sort.Function m) n
sort_with outline.Use n = Some sort.Use
sort_with outline.ImplicitNone n = Some sort.ImplicitNone
sort_with outline.Declare n = Some sort.Declare
sort_with (outline.Act a) n = Some (sort.Act a)
sort_with (outline.IfAct a) n = Some (sort.IfAct a)
sort_with outline.IfThen n = Some sort.IfThen
sort_with outline.ElseIf n = Some sort.ElseIf
sort_with outline.Else n = Some sort.Else
sort_with outline.EndIf n = Some sort.EndIf
sort_with outline.Do n = Some sort.Do
sort_with outline.EndDo n = Some sort.EndDo
sort_with outline.Select n = Some sort.Select
sort_with outline.EndSelect n = Some sort.EndSelect
sort_with outline.Case n = Some sort.Case
sort_with outline.CaseDefault n = Some sort.CaseDefault
