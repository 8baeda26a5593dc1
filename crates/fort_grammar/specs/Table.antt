-- The grammar as data. Made by tools/grammar/make.py.
use Rattle.std.specs.Prelude.{Bool, true, false, List, [], ◌∷◌}
use Rattle.fort_grammar.specs.declared.class.Class.{Class}
use Rattle.fort_grammar.specs.declared.class.Class.TheVariants as class
use Rattle.fort_grammar.specs.declared.table.Action.TheVariants as act
use Rattle.fort_grammar.specs.declared.table.Part.{Part}
use Rattle.fort_grammar.specs.declared.table.Part.TheVariants as part
use Rattle.fort_grammar.specs.declared.table.Symbol.{Symbol}
use Rattle.fort_grammar.specs.declared.table.Symbol.TheVariants.{Take, Call, Build}
use Rattle.fort_grammar.specs.declared.table.Row.{Row}

-- a row, with the classes that can begin it, and whether it can be empty
pub record Choice : Type 0 where
  pub first : List Class
  pub empty : Bool
  pub symbols : List Symbol

abbrev pub choice : Row → Choice
choice r = record { first = r.first.now; empty = r.empty; symbols = r.symbols.now }

-- the rows of a part
abbrev pub table : Part → List Choice
table part.Statement =
    record { first = class.Module ∷ []; empty = false; symbols = Take class.Module ∷ Take class.Name ∷ Build act.Module ∷ [] } ∷
    record { first = class.End ∷ []; empty = false; symbols = Take class.End ∷ Call part.EndRest ∷ [] } ∷
    record { first = class.Enddo ∷ []; empty = false; symbols = Take class.Enddo ∷ Build act.EndDo ∷ [] } ∷
    record { first = class.Endif ∷ []; empty = false; symbols = Take class.Endif ∷ Build act.EndIf ∷ [] } ∷
    record { first = class.Endselect ∷ []; empty = false; symbols = Take class.Endselect ∷ Build act.EndSelect ∷ [] } ∷
    record { first = class.Endmodule ∷ []; empty = false; symbols = Take class.Endmodule ∷ Call part.NameOption ∷ Build act.EndModule ∷ [] } ∷
    record { first = class.Endsubroutine ∷ []; empty = false; symbols = Take class.Endsubroutine ∷ Call part.NameOption ∷ Build act.EndSubroutine ∷ [] } ∷
    record { first = class.Endfunction ∷ []; empty = false; symbols = Take class.Endfunction ∷ Call part.NameOption ∷ Build act.EndFunction ∷ [] } ∷
    record { first = class.Contains ∷ []; empty = false; symbols = Take class.Contains ∷ Build act.Contains ∷ [] } ∷
    record { first = class.Subroutine ∷ []; empty = false; symbols = Take class.Subroutine ∷ Take class.Name ∷ Call part.DummiesOption ∷ Build act.Subroutine ∷ [] } ∷
    record { first = class.Integer ∷ class.Logical ∷ []; empty = false; symbols = Call part.TypeSpec ∷ Call part.AfterType ∷ [] } ∷
    record { first = class.Function ∷ []; empty = false; symbols = Take class.Function ∷ Call part.FunctionRest ∷ [] } ∷
    record { first = class.Use ∷ []; empty = false; symbols = Take class.Use ∷ Take class.Name ∷ Call part.UseRest ∷ [] } ∷
    record { first = class.Implicit ∷ []; empty = false; symbols = Take class.Implicit ∷ Take class.None ∷ Build act.ImplicitNone ∷ [] } ∷
    record { first = class.Name ∷ class.Intrinsic ∷ []; empty = false; symbols = Call part.Assignment ∷ [] } ∷
    record { first = class.Call ∷ []; empty = false; symbols = Take class.Call ∷ Take class.Name ∷ Call part.ArgumentsOption ∷ Build act.Call ∷ [] } ∷
    record { first = class.If ∷ []; empty = false; symbols = Take class.If ∷ Take class.Open ∷ Call part.Expr ∷ Build act.Whole ∷ Take class.Close ∷ Call part.IfRest ∷ [] } ∷
    record { first = class.Else ∷ []; empty = false; symbols = Take class.Else ∷ Call part.ElseRest ∷ [] } ∷
    record { first = class.Elseif ∷ []; empty = false; symbols = Take class.Elseif ∷ Take class.Open ∷ Call part.Expr ∷ Build act.Whole ∷ Take class.Close ∷ Take class.Then ∷ Build act.ElseIf ∷ [] } ∷
    record { first = class.Do ∷ []; empty = false; symbols = Take class.Do ∷ Take class.Name ∷ Take class.Equals ∷ Call part.Expr ∷ Build act.Whole ∷ Take class.Comma ∷ Call part.Expr ∷ Build act.Whole ∷ Call part.StepOption ∷ Build act.Do ∷ [] } ∷
    record { first = class.Exit ∷ []; empty = false; symbols = Take class.Exit ∷ Build act.Exit ∷ [] } ∷
    record { first = class.Cycle ∷ []; empty = false; symbols = Take class.Cycle ∷ Build act.Cycle ∷ [] } ∷
    record { first = class.Return ∷ []; empty = false; symbols = Take class.Return ∷ Build act.Return ∷ [] } ∷
    record { first = class.Select ∷ []; empty = false; symbols = Take class.Select ∷ Take class.Case ∷ Take class.Open ∷ Call part.Expr ∷ Build act.Whole ∷ Take class.Close ∷ Build act.Select ∷ [] } ∷
    record { first = class.Selectcase ∷ []; empty = false; symbols = Take class.Selectcase ∷ Take class.Open ∷ Call part.Expr ∷ Build act.Whole ∷ Take class.Close ∷ Build act.Select ∷ [] } ∷
    record { first = class.Case ∷ []; empty = false; symbols = Take class.Case ∷ Call part.CaseRest ∷ [] } ∷
    []
table part.EndRest =
    record { first = class.Module ∷ []; empty = false; symbols = Take class.Module ∷ Call part.NameOption ∷ Build act.EndModule ∷ [] } ∷
    record { first = class.Subroutine ∷ []; empty = false; symbols = Take class.Subroutine ∷ Call part.NameOption ∷ Build act.EndSubroutine ∷ [] } ∷
    record { first = class.Function ∷ []; empty = false; symbols = Take class.Function ∷ Call part.NameOption ∷ Build act.EndFunction ∷ [] } ∷
    record { first = class.Do ∷ []; empty = false; symbols = Take class.Do ∷ Build act.EndDo ∷ [] } ∷
    record { first = class.If ∷ []; empty = false; symbols = Take class.If ∷ Build act.EndIf ∷ [] } ∷
    record { first = class.Select ∷ []; empty = false; symbols = Take class.Select ∷ Build act.EndSelect ∷ [] } ∷
    record { first = []; empty = true; symbols = Build act.End ∷ [] } ∷
    []
table part.NameOption =
    record { first = class.Name ∷ []; empty = false; symbols = Take class.Name ∷ Build act.SomeName ∷ [] } ∷
    record { first = []; empty = true; symbols = Build act.NoName ∷ [] } ∷
    []
table part.DummiesOption =
    record { first = class.Open ∷ []; empty = false; symbols = Take class.Open ∷ Call part.NamesOption ∷ Take class.Close ∷ Build act.Dummies ∷ [] } ∷
    record { first = []; empty = true; symbols = Build act.NoDummies ∷ [] } ∷
    []
table part.NamesOption =
    record { first = class.Name ∷ []; empty = false; symbols = Call part.Names ∷ [] } ∷
    record { first = []; empty = true; symbols = Build act.NoNames ∷ [] } ∷
    []
table part.Names =
    record { first = class.Name ∷ []; empty = false; symbols = Take class.Name ∷ Build act.FirstName ∷ Call part.NamesTail ∷ [] } ∷
    []
table part.NamesTail =
    record { first = class.Comma ∷ []; empty = false; symbols = Take class.Comma ∷ Take class.Name ∷ Build act.NextName ∷ Call part.NamesTail ∷ [] } ∷
    record { first = []; empty = true; symbols = [] } ∷
    []
table part.FunctionRest =
    record { first = class.Name ∷ []; empty = false; symbols = Take class.Name ∷ Take class.Open ∷ Call part.NamesOption ∷ Take class.Close ∷ Call part.ResultOption ∷ Build act.Function ∷ [] } ∷
    []
table part.ResultOption =
    record { first = class.Result ∷ []; empty = false; symbols = Take class.Result ∷ Take class.Open ∷ Take class.Name ∷ Take class.Close ∷ Build act.SomeResult ∷ [] } ∷
    record { first = []; empty = true; symbols = Build act.NoResult ∷ [] } ∷
    []
table part.UseRest =
    record { first = class.Comma ∷ []; empty = false; symbols = Take class.Comma ∷ Take class.Only ∷ Take class.Colon ∷ Call part.NamesOption ∷ Build act.Only ∷ [] } ∷
    record { first = []; empty = true; symbols = Build act.All ∷ [] } ∷
    []
table part.Assignment =
    record { first = class.Name ∷ class.Intrinsic ∷ []; empty = false; symbols = Call part.Target ∷ Take class.Equals ∷ Call part.Expr ∷ Build act.Whole ∷ Build act.Assign ∷ [] } ∷
    []
table part.Target =
    record { first = class.Name ∷ []; empty = false; symbols = Take class.Name ∷ Call part.RefTail ∷ Build act.Whole ∷ [] } ∷
    record { first = class.Intrinsic ∷ []; empty = false; symbols = Take class.Intrinsic ∷ Call part.RefTail ∷ Build act.Whole ∷ [] } ∷
    []
table part.ArgumentsOption =
    record { first = class.Open ∷ []; empty = false; symbols = Take class.Open ∷ Call part.Subs ∷ Take class.Close ∷ Build act.Arguments ∷ [] } ∷
    record { first = []; empty = true; symbols = Build act.NoArguments ∷ [] } ∷
    []
table part.IfRest =
    record { first = class.Then ∷ []; empty = false; symbols = Take class.Then ∷ Build act.IfThen ∷ [] } ∷
    record { first = class.Call ∷ class.Exit ∷ class.Cycle ∷ class.Return ∷ class.Name ∷ class.Intrinsic ∷ []; empty = false; symbols = Call part.Action ∷ Build act.IfAction ∷ [] } ∷
    []
table part.Action =
    record { first = class.Name ∷ class.Intrinsic ∷ []; empty = false; symbols = Call part.Assignment ∷ [] } ∷
    record { first = class.Call ∷ []; empty = false; symbols = Take class.Call ∷ Take class.Name ∷ Call part.ArgumentsOption ∷ Build act.Call ∷ [] } ∷
    record { first = class.Exit ∷ []; empty = false; symbols = Take class.Exit ∷ Build act.Exit ∷ [] } ∷
    record { first = class.Cycle ∷ []; empty = false; symbols = Take class.Cycle ∷ Build act.Cycle ∷ [] } ∷
    record { first = class.Return ∷ []; empty = false; symbols = Take class.Return ∷ Build act.Return ∷ [] } ∷
    []
table part.ElseRest =
    record { first = class.If ∷ []; empty = false; symbols = Take class.If ∷ Take class.Open ∷ Call part.Expr ∷ Build act.Whole ∷ Take class.Close ∷ Take class.Then ∷ Build act.ElseIf ∷ [] } ∷
    record { first = []; empty = true; symbols = Build act.Else ∷ [] } ∷
    []
table part.StepOption =
    record { first = class.Comma ∷ []; empty = false; symbols = Take class.Comma ∷ Call part.Expr ∷ Build act.Whole ∷ Build act.SomeStep ∷ [] } ∷
    record { first = []; empty = true; symbols = Build act.NoStep ∷ [] } ∷
    []
table part.CaseRest =
    record { first = class.Open ∷ []; empty = false; symbols = Take class.Open ∷ Call part.Ranges ∷ Take class.Close ∷ Build act.CaseRanges ∷ [] } ∷
    record { first = class.Default ∷ []; empty = false; symbols = Take class.Default ∷ Build act.CaseDefault ∷ [] } ∷
    []
table part.Ranges =
    record { first = class.Colon ∷ class.Minus ∷ class.Name ∷ class.Number ∷ class.KindNumber ∷ []; empty = false; symbols = Call part.Range ∷ Build act.FirstRange ∷ Call part.RangesTail ∷ [] } ∷
    []
table part.RangesTail =
    record { first = class.Comma ∷ []; empty = false; symbols = Take class.Comma ∷ Call part.Range ∷ Build act.NextRange ∷ Call part.RangesTail ∷ [] } ∷
    record { first = []; empty = true; symbols = [] } ∷
    []
table part.Range =
    record { first = class.Colon ∷ []; empty = false; symbols = Take class.Colon ∷ Call part.Value ∷ Build act.ToValue ∷ [] } ∷
    record { first = class.Minus ∷ class.Name ∷ class.Number ∷ class.KindNumber ∷ []; empty = false; symbols = Call part.Value ∷ Call part.RangeRest ∷ [] } ∷
    []
table part.RangeRest =
    record { first = class.Colon ∷ []; empty = false; symbols = Take class.Colon ∷ Call part.ValueOption ∷ Build act.Span ∷ [] } ∷
    record { first = []; empty = true; symbols = Build act.OneValue ∷ [] } ∷
    []
table part.ValueOption =
    record { first = class.Minus ∷ class.Name ∷ class.Number ∷ class.KindNumber ∷ []; empty = false; symbols = Call part.Value ∷ Build act.SomeValue ∷ [] } ∷
    record { first = []; empty = true; symbols = Build act.NoValue ∷ [] } ∷
    []
table part.Value =
    record { first = class.Minus ∷ []; empty = false; symbols = Take class.Minus ∷ Call part.Digits ∷ Build act.Negative ∷ [] } ∷
    record { first = class.Number ∷ class.KindNumber ∷ []; empty = false; symbols = Call part.Digits ∷ Build act.Positive ∷ [] } ∷
    record { first = class.Name ∷ []; empty = false; symbols = Take class.Name ∷ Build act.NamedValue ∷ [] } ∷
    []
table part.Digits =
    record { first = class.Number ∷ []; empty = false; symbols = Take class.Number ∷ Build act.Digits ∷ [] } ∷
    record { first = class.KindNumber ∷ []; empty = false; symbols = Take class.KindNumber ∷ Build act.Digits ∷ [] } ∷
    []
table part.TypeSpec =
    record { first = class.Integer ∷ []; empty = false; symbols = Take class.Integer ∷ Call part.KindOption ∷ Build act.Integer ∷ [] } ∷
    record { first = class.Logical ∷ []; empty = false; symbols = Take class.Logical ∷ Build act.Logical ∷ [] } ∷
    []
table part.KindOption =
    record { first = class.Open ∷ []; empty = false; symbols = Take class.Open ∷ Call part.KindBody ∷ Take class.Close ∷ Build act.SomeKind ∷ [] } ∷
    record { first = []; empty = true; symbols = Build act.NoKind ∷ [] } ∷
    []
table part.KindBody =
    record { first = class.Kind ∷ []; empty = false; symbols = Take class.Kind ∷ Take class.Equals ∷ Take class.KindNumber ∷ Build act.KeywordKind ∷ [] } ∷
    record { first = class.KindNumber ∷ []; empty = false; symbols = Take class.KindNumber ∷ Build act.Kind ∷ [] } ∷
    []
table part.AfterType =
    record { first = class.Function ∷ []; empty = false; symbols = Take class.Function ∷ Call part.FunctionRest ∷ Build act.Prefixed ∷ [] } ∷
    record { first = class.Comma ∷ []; empty = false; symbols = Take class.Comma ∷ Call part.Attribute ∷ [] } ∷
    record { first = class.DoubleColon ∷ []; empty = false; symbols = Take class.DoubleColon ∷ Call part.Entities ∷ Build act.Declare ∷ [] } ∷
    record { first = class.Name ∷ []; empty = false; symbols = Call part.Entities ∷ Build act.Declare ∷ [] } ∷
    []
table part.Attribute =
    record { first = class.Parameter ∷ []; empty = false; symbols = Take class.Parameter ∷ Take class.DoubleColon ∷ Call part.Constants ∷ Build act.DeclareParameter ∷ [] } ∷
    record { first = class.Intent ∷ []; empty = false; symbols = Take class.Intent ∷ Take class.Open ∷ Call part.IntentBody ∷ Take class.Close ∷ Call part.AfterIntent ∷ [] } ∷
    record { first = class.Dimension ∷ []; empty = false; symbols = Take class.Dimension ∷ Take class.Open ∷ Call part.Shape ∷ Take class.Close ∷ Call part.AfterDimension ∷ [] } ∷
    []
table part.AfterIntent =
    record { first = class.Comma ∷ []; empty = false; symbols = Take class.Comma ∷ Take class.Dimension ∷ Take class.Open ∷ Call part.Shape ∷ Take class.Close ∷ Take class.DoubleColon ∷ Call part.Entities ∷ Build act.DeclareIntentShape ∷ [] } ∷
    record { first = class.DoubleColon ∷ []; empty = false; symbols = Take class.DoubleColon ∷ Call part.Entities ∷ Build act.DeclareIntent ∷ [] } ∷
    []
table part.AfterDimension =
    record { first = class.Comma ∷ []; empty = false; symbols = Take class.Comma ∷ Take class.Intent ∷ Take class.Open ∷ Call part.IntentBody ∷ Take class.Close ∷ Take class.DoubleColon ∷ Call part.Entities ∷ Build act.DeclareShapeIntent ∷ [] } ∷
    record { first = class.DoubleColon ∷ []; empty = false; symbols = Take class.DoubleColon ∷ Call part.Entities ∷ Build act.DeclareShape ∷ [] } ∷
    []
table part.IntentBody =
    record { first = class.In ∷ []; empty = false; symbols = Take class.In ∷ Call part.OutOption ∷ [] } ∷
    record { first = class.Out ∷ []; empty = false; symbols = Take class.Out ∷ Build act.Out ∷ [] } ∷
    record { first = class.Inout ∷ []; empty = false; symbols = Take class.Inout ∷ Build act.Inout ∷ [] } ∷
    []
table part.OutOption =
    record { first = class.Out ∷ []; empty = false; symbols = Take class.Out ∷ Build act.InOut ∷ [] } ∷
    record { first = []; empty = true; symbols = Build act.In ∷ [] } ∷
    []
table part.Entities =
    record { first = class.Name ∷ []; empty = false; symbols = Call part.Entity ∷ Build act.FirstEntity ∷ Call part.EntitiesTail ∷ [] } ∷
    []
table part.EntitiesTail =
    record { first = class.Comma ∷ []; empty = false; symbols = Take class.Comma ∷ Call part.Entity ∷ Build act.NextEntity ∷ Call part.EntitiesTail ∷ [] } ∷
    record { first = []; empty = true; symbols = [] } ∷
    []
table part.Entity =
    record { first = class.Name ∷ []; empty = false; symbols = Take class.Name ∷ Call part.ShapeOption ∷ Build act.Entity ∷ [] } ∷
    []
table part.ShapeOption =
    record { first = class.Open ∷ []; empty = false; symbols = Take class.Open ∷ Call part.Shape ∷ Take class.Close ∷ Build act.SomeShape ∷ [] } ∷
    record { first = []; empty = true; symbols = Build act.NoShape ∷ [] } ∷
    []
table part.Constants =
    record { first = class.Name ∷ []; empty = false; symbols = Call part.Constant ∷ Build act.FirstEntity ∷ Call part.ConstantsTail ∷ [] } ∷
    []
table part.ConstantsTail =
    record { first = class.Comma ∷ []; empty = false; symbols = Take class.Comma ∷ Call part.Constant ∷ Build act.NextEntity ∷ Call part.ConstantsTail ∷ [] } ∷
    record { first = []; empty = true; symbols = [] } ∷
    []
table part.Constant =
    record { first = class.Name ∷ []; empty = false; symbols = Take class.Name ∷ Take class.Equals ∷ Call part.Initial ∷ Build act.Constant ∷ [] } ∷
    []
table part.Initial =
    record { first = class.Minus ∷ []; empty = false; symbols = Take class.Minus ∷ Call part.Digits ∷ Build act.Negative ∷ [] } ∷
    record { first = class.Number ∷ class.KindNumber ∷ []; empty = false; symbols = Call part.Digits ∷ Build act.Positive ∷ [] } ∷
    record { first = class.Truth ∷ []; empty = false; symbols = Take class.Truth ∷ Build act.TruthValue ∷ [] } ∷
    []
table part.Shape =
    record { first = class.Colon ∷ class.Minus ∷ class.Number ∷ class.KindNumber ∷ class.Name ∷ []; empty = false; symbols = Call part.Dimension ∷ Build act.FirstDimension ∷ Call part.ShapeTail ∷ [] } ∷
    []
table part.ShapeTail =
    record { first = class.Comma ∷ []; empty = false; symbols = Take class.Comma ∷ Call part.Dimension ∷ Build act.NextDimension ∷ Call part.ShapeTail ∷ [] } ∷
    record { first = []; empty = true; symbols = [] } ∷
    []
table part.Dimension =
    record { first = class.Colon ∷ []; empty = false; symbols = Take class.Colon ∷ Build act.Assumed ∷ [] } ∷
    record { first = class.Minus ∷ class.Number ∷ class.KindNumber ∷ class.Name ∷ []; empty = false; symbols = Call part.Bound ∷ Call part.DimensionRest ∷ [] } ∷
    []
table part.DimensionRest =
    record { first = class.Colon ∷ []; empty = false; symbols = Take class.Colon ∷ Call part.BoundOption ∷ Build act.Bounds ∷ [] } ∷
    record { first = []; empty = true; symbols = Build act.UpperOnly ∷ [] } ∷
    []
table part.BoundOption =
    record { first = class.Minus ∷ class.Number ∷ class.KindNumber ∷ class.Name ∷ []; empty = false; symbols = Call part.Bound ∷ Build act.SomeBound ∷ [] } ∷
    record { first = []; empty = true; symbols = Build act.NoBound ∷ [] } ∷
    []
table part.Bound =
    record { first = class.Minus ∷ []; empty = false; symbols = Take class.Minus ∷ Call part.Digits ∷ Build act.Negative ∷ [] } ∷
    record { first = class.Number ∷ class.KindNumber ∷ []; empty = false; symbols = Call part.Digits ∷ Build act.Positive ∷ [] } ∷
    record { first = class.Name ∷ []; empty = false; symbols = Take class.Name ∷ Call part.BoundOffset ∷ [] } ∷
    []
table part.BoundOffset =
    record { first = class.Plus ∷ []; empty = false; symbols = Take class.Plus ∷ Call part.Digits ∷ Build act.BoundPlus ∷ [] } ∷
    record { first = class.Minus ∷ []; empty = false; symbols = Take class.Minus ∷ Call part.Digits ∷ Build act.BoundMinus ∷ [] } ∷
    record { first = []; empty = true; symbols = Build act.BoundName ∷ [] } ∷
    []
table part.Expr =
    record { first = class.Not ∷ class.Plus ∷ class.Minus ∷ class.Number ∷ class.KindNumber ∷ class.Truth ∷ class.Name ∷ class.Intrinsic ∷ class.Open ∷ []; empty = false; symbols = Call part.Disj ∷ Call part.EqvTail ∷ [] } ∷
    []
table part.EqvTail =
    record { first = class.Equivalence ∷ []; empty = false; symbols = Take class.Equivalence ∷ Call part.Disj ∷ Build act.Two ∷ Call part.EqvTail ∷ [] } ∷
    record { first = []; empty = true; symbols = [] } ∷
    []
table part.Disj =
    record { first = class.Not ∷ class.Plus ∷ class.Minus ∷ class.Number ∷ class.KindNumber ∷ class.Truth ∷ class.Name ∷ class.Intrinsic ∷ class.Open ∷ []; empty = false; symbols = Call part.Conj ∷ Call part.OrTail ∷ [] } ∷
    []
table part.OrTail =
    record { first = class.Or ∷ []; empty = false; symbols = Take class.Or ∷ Call part.Conj ∷ Build act.Two ∷ Call part.OrTail ∷ [] } ∷
    record { first = []; empty = true; symbols = [] } ∷
    []
table part.Conj =
    record { first = class.Not ∷ class.Plus ∷ class.Minus ∷ class.Number ∷ class.KindNumber ∷ class.Truth ∷ class.Name ∷ class.Intrinsic ∷ class.Open ∷ []; empty = false; symbols = Call part.Neg ∷ Call part.AndTail ∷ [] } ∷
    []
table part.AndTail =
    record { first = class.And ∷ []; empty = false; symbols = Take class.And ∷ Call part.Neg ∷ Build act.Two ∷ Call part.AndTail ∷ [] } ∷
    record { first = []; empty = true; symbols = [] } ∷
    []
table part.Neg =
    record { first = class.Not ∷ []; empty = false; symbols = Take class.Not ∷ Call part.Rel ∷ Build act.Not ∷ [] } ∷
    record { first = class.Plus ∷ class.Minus ∷ class.Number ∷ class.KindNumber ∷ class.Truth ∷ class.Name ∷ class.Intrinsic ∷ class.Open ∷ []; empty = false; symbols = Call part.Rel ∷ [] } ∷
    []
table part.Rel =
    record { first = class.Plus ∷ class.Minus ∷ class.Number ∷ class.KindNumber ∷ class.Truth ∷ class.Name ∷ class.Intrinsic ∷ class.Open ∷ []; empty = false; symbols = Call part.Sum ∷ Call part.RelTail ∷ [] } ∷
    []
table part.RelTail =
    record { first = class.Relation ∷ []; empty = false; symbols = Take class.Relation ∷ Call part.Sum ∷ Build act.Two ∷ [] } ∷
    record { first = []; empty = true; symbols = [] } ∷
    []
table part.Sum =
    record { first = class.Plus ∷ []; empty = false; symbols = Take class.Plus ∷ Call part.Term ∷ Build act.Plus ∷ Call part.AddTail ∷ [] } ∷
    record { first = class.Minus ∷ []; empty = false; symbols = Take class.Minus ∷ Call part.Term ∷ Build act.Minus ∷ Call part.AddTail ∷ [] } ∷
    record { first = class.Number ∷ class.KindNumber ∷ class.Truth ∷ class.Name ∷ class.Intrinsic ∷ class.Open ∷ []; empty = false; symbols = Call part.Term ∷ Call part.AddTail ∷ [] } ∷
    []
table part.AddTail =
    record { first = class.Plus ∷ []; empty = false; symbols = Take class.Plus ∷ Call part.Term ∷ Build act.Two ∷ Call part.AddTail ∷ [] } ∷
    record { first = class.Minus ∷ []; empty = false; symbols = Take class.Minus ∷ Call part.Term ∷ Build act.Two ∷ Call part.AddTail ∷ [] } ∷
    record { first = []; empty = true; symbols = [] } ∷
    []
table part.Term =
    record { first = class.Number ∷ class.KindNumber ∷ class.Truth ∷ class.Name ∷ class.Intrinsic ∷ class.Open ∷ []; empty = false; symbols = Call part.Factor ∷ Call part.MulTail ∷ [] } ∷
    []
table part.MulTail =
    record { first = class.Star ∷ []; empty = false; symbols = Take class.Star ∷ Call part.Factor ∷ Build act.Two ∷ Call part.MulTail ∷ [] } ∷
    record { first = class.Slash ∷ []; empty = false; symbols = Take class.Slash ∷ Call part.Factor ∷ Build act.Two ∷ Call part.MulTail ∷ [] } ∷
    record { first = []; empty = true; symbols = [] } ∷
    []
table part.Factor =
    record { first = class.Number ∷ class.KindNumber ∷ class.Truth ∷ class.Name ∷ class.Intrinsic ∷ class.Open ∷ []; empty = false; symbols = Call part.Primary ∷ Call part.PowTail ∷ [] } ∷
    []
table part.PowTail =
    record { first = class.Power ∷ []; empty = false; symbols = Take class.Power ∷ Call part.Factor ∷ Build act.Two ∷ [] } ∷
    record { first = []; empty = true; symbols = [] } ∷
    []
table part.Primary =
    record { first = class.Number ∷ []; empty = false; symbols = Take class.Number ∷ Build act.Number ∷ [] } ∷
    record { first = class.KindNumber ∷ []; empty = false; symbols = Take class.KindNumber ∷ Build act.Number ∷ [] } ∷
    record { first = class.Truth ∷ []; empty = false; symbols = Take class.Truth ∷ Build act.Truth ∷ [] } ∷
    record { first = class.Name ∷ []; empty = false; symbols = Take class.Name ∷ Call part.RefTail ∷ [] } ∷
    record { first = class.Intrinsic ∷ []; empty = false; symbols = Take class.Intrinsic ∷ Call part.RefTail ∷ [] } ∷
    record { first = class.Open ∷ []; empty = false; symbols = Take class.Open ∷ Call part.Expr ∷ Take class.Close ∷ Build act.Paren ∷ [] } ∷
    []
table part.RefTail =
    record { first = class.Open ∷ []; empty = false; symbols = Take class.Open ∷ Call part.Subs ∷ Take class.Close ∷ Build act.Subscripted ∷ [] } ∷
    record { first = []; empty = true; symbols = Build act.Bare ∷ [] } ∷
    []
table part.Subs =
    record { first = class.Colon ∷ class.Not ∷ class.Plus ∷ class.Minus ∷ class.Number ∷ class.KindNumber ∷ class.Truth ∷ class.Name ∷ class.Intrinsic ∷ class.Open ∷ []; empty = false; symbols = Call part.Sub ∷ Build act.FirstSub ∷ Call part.SubTail ∷ [] } ∷
    record { first = []; empty = true; symbols = Build act.NoSubs ∷ [] } ∷
    []
table part.SubTail =
    record { first = class.Comma ∷ []; empty = false; symbols = Take class.Comma ∷ Call part.Sub ∷ Build act.NextSub ∷ Call part.SubTail ∷ [] } ∷
    record { first = []; empty = true; symbols = [] } ∷
    []
table part.Sub =
    record { first = class.Not ∷ class.Plus ∷ class.Minus ∷ class.Number ∷ class.KindNumber ∷ class.Truth ∷ class.Name ∷ class.Intrinsic ∷ class.Open ∷ []; empty = false; symbols = Call part.Expr ∷ Call part.SubRest ∷ [] } ∷
    record { first = class.Colon ∷ []; empty = false; symbols = Take class.Colon ∷ Call part.Upper ∷ Build act.FromStart ∷ [] } ∷
    []
table part.SubRest =
    record { first = class.Colon ∷ []; empty = false; symbols = Take class.Colon ∷ Call part.Upper ∷ Build act.Section ∷ [] } ∷
    record { first = []; empty = true; symbols = Build act.OneSub ∷ [] } ∷
    []
table part.Upper =
    record { first = class.Not ∷ class.Plus ∷ class.Minus ∷ class.Number ∷ class.KindNumber ∷ class.Truth ∷ class.Name ∷ class.Intrinsic ∷ class.Open ∷ []; empty = false; symbols = Call part.Expr ∷ Build act.Present ∷ [] } ∷
    record { first = []; empty = true; symbols = Build act.Absent ∷ [] } ∷
    []
