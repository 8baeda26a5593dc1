-- What a statement is for nesting, without its expressions.
use Rattle.fort_tree.specs.declared.statement.Statement.{Statement, out-Statement}
use Rattle.fort_tree.specs.declared.statement.Statement.TheOpen.{Statement-F}
use Rattle.fort_stmt.specs.declared.sort.ActionSort.{ActionSort}
use Rattle.fort_stmt.specs.declared.sort.ActionSort.TheVariants as act
use Rattle.fort_stmt.specs.declared.sort.Sort.{Sort}
use Rattle.fort_stmt.specs.declared.sort.Sort.TheVariants as sort

-- An action is one of five: behind an IF on one line stands no other statement.
abbrev pub action_of_level : Statement-F Statement → ActionSort
action_of_level (Statement-F.Assign left right) = act.Assign
action_of_level (Statement-F.Call name args) = act.Call
action_of_level Statement-F.Exit = act.Exit
action_of_level Statement-F.Cycle = act.Cycle
action_of_level other = act.Return

abbrev pub action_of : Statement → ActionSort
action_of s = action_of_level (out-Statement s)

abbrev pub sort_of_level : Statement-F Statement → Sort
sort_of_level (Statement-F.Module name) = sort.Module name.name
sort_of_level Statement-F.Contains = sort.Contains
sort_of_level (Statement-F.End word name) = sort.End word name
sort_of_level (Statement-F.Subroutine name dummies) = sort.Subroutine name.name
sort_of_level (Statement-F.Function prefix name dummies outcome) = sort.Function name.name
sort_of_level (Statement-F.Using line) = sort.Use
sort_of_level Statement-F.ImplicitNone = sort.ImplicitNone
sort_of_level (Statement-F.Declare line) = sort.Declare
sort_of_level (Statement-F.Assign left right) = sort.Act act.Assign
sort_of_level (Statement-F.Call name args) = sort.Act act.Call
sort_of_level (Statement-F.IfAction test at action) = sort.IfAct (action_of action)
sort_of_level (Statement-F.IfThen test) = sort.IfThen
sort_of_level (Statement-F.ElseIf test) = sort.ElseIf
sort_of_level Statement-F.Else = sort.Else
sort_of_level Statement-F.EndIf = sort.EndIf
sort_of_level (Statement-F.Do head) = sort.Do
sort_of_level Statement-F.EndDo = sort.EndDo
sort_of_level Statement-F.Exit = sort.Act act.Exit
sort_of_level Statement-F.Cycle = sort.Act act.Cycle
sort_of_level Statement-F.Return = sort.Act act.Return
sort_of_level (Statement-F.Select on) = sort.Select
sort_of_level Statement-F.EndSelect = sort.EndSelect
sort_of_level (Statement-F.Case ranges) = sort.Case
sort_of_level Statement-F.CaseDefault = sort.CaseDefault

abbrev pub sort_of : Statement → Sort
sort_of s = sort_of_level (out-Statement s)
