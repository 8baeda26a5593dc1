-- Classes of tokens. Made by tools/grammar/make.py.
use Rattle.std.specs.Prelude.{ℕ, Bool, true, false, List, [], ◌∷◌, codes}
use Rattle.fort_grammar.specs.declared.class.Class.{Class}
use Rattle.fort_grammar.specs.declared.class.Class.TheVariants as class
use Rattle.fort_grammar.specs.declared.class.Word.{Word}

abbrev pub code : Class → ℕ
code class.Open = 0
code class.Close = 1
code class.Comma = 2
code class.Colon = 3
code class.DoubleColon = 4
code class.Equals = 5
code class.Plus = 6
code class.Minus = 7
code class.Star = 8
code class.Slash = 9
code class.Power = 10
code class.Relation = 11
code class.Not = 12
code class.And = 13
code class.Or = 14
code class.Equivalence = 15
code class.Truth = 16
code class.KindNumber = 17
code class.Intrinsic = 18
code class.Module = 19
code class.End = 20
code class.Contains = 21
code class.Subroutine = 22
code class.Function = 23
code class.Result = 24
code class.Use = 25
code class.Only = 26
code class.Implicit = 27
code class.None = 28
code class.Integer = 29
code class.Kind = 30
code class.Logical = 31
code class.Parameter = 32
code class.Intent = 33
code class.In = 34
code class.Out = 35
code class.Inout = 36
code class.Dimension = 37
code class.Call = 38
code class.If = 39
code class.Then = 40
code class.Else = 41
code class.Do = 42
code class.Exit = 43
code class.Cycle = 44
code class.Return = 45
code class.Select = 46
code class.Case = 47
code class.Default = 48
code class.Enddo = 49
code class.Endif = 50
code class.Elseif = 51
code class.Endsubroutine = 52
code class.Endfunction = 53
code class.Endmodule = 54
code class.Selectcase = 55
code class.Endselect = 56
code class.Number = 57
code class.Name = 58
code class.Reserved = 59
code class.Other = 60

abbrev pub classes : List Class
classes = class.Open ∷ class.Close ∷ class.Comma ∷ class.Colon ∷ class.DoubleColon ∷ class.Equals ∷ class.Plus ∷ class.Minus ∷ class.Star ∷ class.Slash ∷ class.Power ∷ class.Relation ∷ class.Not ∷ class.And ∷ class.Or ∷ class.Equivalence ∷ class.Truth ∷ class.KindNumber ∷ class.Intrinsic ∷ class.Module ∷ class.End ∷ class.Contains ∷ class.Subroutine ∷ class.Function ∷ class.Result ∷ class.Use ∷ class.Only ∷ class.Implicit ∷ class.None ∷ class.Integer ∷ class.Kind ∷ class.Logical ∷ class.Parameter ∷ class.Intent ∷ class.In ∷ class.Out ∷ class.Inout ∷ class.Dimension ∷ class.Call ∷ class.If ∷ class.Then ∷ class.Else ∷ class.Do ∷ class.Exit ∷ class.Cycle ∷ class.Return ∷ class.Select ∷ class.Case ∷ class.Default ∷ class.Enddo ∷ class.Endif ∷ class.Elseif ∷ class.Endsubroutine ∷ class.Endfunction ∷ class.Endmodule ∷ class.Selectcase ∷ class.Endselect ∷ class.Number ∷ class.Name ∷ class.Reserved ∷ class.Other ∷ []

-- a text, and the class of the token that has it
pub record Entry : Type 0 where
  pub text : List ℕ
  pub class : Class

abbrev pub word : Word → Entry
word w = record { text = w.text.now; class = w.class }

-- the texts whose class isn't that of all names or of all numbers
abbrev pub words : List Entry
words =
    record { text = codes "("; class = class.Open } ∷
    record { text = codes ")"; class = class.Close } ∷
    record { text = codes ","; class = class.Comma } ∷
    record { text = codes ":"; class = class.Colon } ∷
    record { text = codes "::"; class = class.DoubleColon } ∷
    record { text = codes "="; class = class.Equals } ∷
    record { text = codes "+"; class = class.Plus } ∷
    record { text = codes "-"; class = class.Minus } ∷
    record { text = codes "*"; class = class.Star } ∷
    record { text = codes "/"; class = class.Slash } ∷
    record { text = codes "**"; class = class.Power } ∷
    record { text = codes "=="; class = class.Relation } ∷
    record { text = codes "/="; class = class.Relation } ∷
    record { text = codes "<"; class = class.Relation } ∷
    record { text = codes "<="; class = class.Relation } ∷
    record { text = codes ">"; class = class.Relation } ∷
    record { text = codes ">="; class = class.Relation } ∷
    record { text = codes ".eq."; class = class.Relation } ∷
    record { text = codes ".ne."; class = class.Relation } ∷
    record { text = codes ".lt."; class = class.Relation } ∷
    record { text = codes ".le."; class = class.Relation } ∷
    record { text = codes ".gt."; class = class.Relation } ∷
    record { text = codes ".ge."; class = class.Relation } ∷
    record { text = codes ".not."; class = class.Not } ∷
    record { text = codes ".and."; class = class.And } ∷
    record { text = codes ".or."; class = class.Or } ∷
    record { text = codes ".eqv."; class = class.Equivalence } ∷
    record { text = codes ".neqv."; class = class.Equivalence } ∷
    record { text = codes ".true."; class = class.Truth } ∷
    record { text = codes ".false."; class = class.Truth } ∷
    record { text = codes "1"; class = class.KindNumber } ∷
    record { text = codes "2"; class = class.KindNumber } ∷
    record { text = codes "4"; class = class.KindNumber } ∷
    record { text = codes "8"; class = class.KindNumber } ∷
    record { text = codes "abs"; class = class.Intrinsic } ∷
    record { text = codes "int"; class = class.Intrinsic } ∷
    record { text = codes "max"; class = class.Intrinsic } ∷
    record { text = codes "min"; class = class.Intrinsic } ∷
    record { text = codes "mod"; class = class.Intrinsic } ∷
    record { text = codes "modulo"; class = class.Intrinsic } ∷
    record { text = codes "sign"; class = class.Intrinsic } ∷
    record { text = codes "size"; class = class.Intrinsic } ∷
    record { text = codes "sum"; class = class.Intrinsic } ∷
    record { text = codes "module"; class = class.Module } ∷
    record { text = codes "end"; class = class.End } ∷
    record { text = codes "contains"; class = class.Contains } ∷
    record { text = codes "subroutine"; class = class.Subroutine } ∷
    record { text = codes "function"; class = class.Function } ∷
    record { text = codes "result"; class = class.Result } ∷
    record { text = codes "use"; class = class.Use } ∷
    record { text = codes "only"; class = class.Only } ∷
    record { text = codes "implicit"; class = class.Implicit } ∷
    record { text = codes "none"; class = class.None } ∷
    record { text = codes "integer"; class = class.Integer } ∷
    record { text = codes "kind"; class = class.Kind } ∷
    record { text = codes "logical"; class = class.Logical } ∷
    record { text = codes "parameter"; class = class.Parameter } ∷
    record { text = codes "intent"; class = class.Intent } ∷
    record { text = codes "in"; class = class.In } ∷
    record { text = codes "out"; class = class.Out } ∷
    record { text = codes "inout"; class = class.Inout } ∷
    record { text = codes "dimension"; class = class.Dimension } ∷
    record { text = codes "call"; class = class.Call } ∷
    record { text = codes "if"; class = class.If } ∷
    record { text = codes "then"; class = class.Then } ∷
    record { text = codes "else"; class = class.Else } ∷
    record { text = codes "do"; class = class.Do } ∷
    record { text = codes "exit"; class = class.Exit } ∷
    record { text = codes "cycle"; class = class.Cycle } ∷
    record { text = codes "return"; class = class.Return } ∷
    record { text = codes "select"; class = class.Select } ∷
    record { text = codes "case"; class = class.Case } ∷
    record { text = codes "default"; class = class.Default } ∷
    record { text = codes "enddo"; class = class.Enddo } ∷
    record { text = codes "endif"; class = class.Endif } ∷
    record { text = codes "elseif"; class = class.Elseif } ∷
    record { text = codes "endsubroutine"; class = class.Endsubroutine } ∷
    record { text = codes "endfunction"; class = class.Endfunction } ∷
    record { text = codes "endmodule"; class = class.Endmodule } ∷
    record { text = codes "selectcase"; class = class.Selectcase } ∷
    record { text = codes "endselect"; class = class.Endselect } ∷
    record { text = codes "real"; class = class.Reserved } ∷
    record { text = codes "complex"; class = class.Reserved } ∷
    record { text = codes "double"; class = class.Reserved } ∷
    record { text = codes "character"; class = class.Reserved } ∷
    record { text = codes "type"; class = class.Reserved } ∷
    record { text = codes "class"; class = class.Reserved } ∷
    record { text = codes "enum"; class = class.Reserved } ∷
    record { text = codes "program"; class = class.Reserved } ∷
    record { text = codes "block"; class = class.Reserved } ∷
    record { text = codes "submodule"; class = class.Reserved } ∷
    record { text = codes "interface"; class = class.Reserved } ∷
    record { text = codes "procedure"; class = class.Reserved } ∷
    record { text = codes "recursive"; class = class.Reserved } ∷
    record { text = codes "pure"; class = class.Reserved } ∷
    record { text = codes "elemental"; class = class.Reserved } ∷
    record { text = codes "entry"; class = class.Reserved } ∷
    record { text = codes "import"; class = class.Reserved } ∷
    record { text = codes "goto"; class = class.Reserved } ∷
    record { text = codes "go"; class = class.Reserved } ∷
    record { text = codes "continue"; class = class.Reserved } ∷
    record { text = codes "stop"; class = class.Reserved } ∷
    record { text = codes "error"; class = class.Reserved } ∷
    record { text = codes "pause"; class = class.Reserved } ∷
    record { text = codes "where"; class = class.Reserved } ∷
    record { text = codes "forall"; class = class.Reserved } ∷
    record { text = codes "associate"; class = class.Reserved } ∷
    record { text = codes "while"; class = class.Reserved } ∷
    record { text = codes "concurrent"; class = class.Reserved } ∷
    record { text = codes "open"; class = class.Reserved } ∷
    record { text = codes "close"; class = class.Reserved } ∷
    record { text = codes "read"; class = class.Reserved } ∷
    record { text = codes "write"; class = class.Reserved } ∷
    record { text = codes "print"; class = class.Reserved } ∷
    record { text = codes "rewind"; class = class.Reserved } ∷
    record { text = codes "inquire"; class = class.Reserved } ∷
    record { text = codes "backspace"; class = class.Reserved } ∷
    record { text = codes "endfile"; class = class.Reserved } ∷
    record { text = codes "format"; class = class.Reserved } ∷
    record { text = codes "flush"; class = class.Reserved } ∷
    record { text = codes "namelist"; class = class.Reserved } ∷
    record { text = codes "include"; class = class.Reserved } ∷
    record { text = codes "save"; class = class.Reserved } ∷
    record { text = codes "common"; class = class.Reserved } ∷
    record { text = codes "data"; class = class.Reserved } ∷
    record { text = codes "equivalence"; class = class.Reserved } ∷
    record { text = codes "external"; class = class.Reserved } ∷
    record { text = codes "intrinsic"; class = class.Reserved } ∷
    record { text = codes "private"; class = class.Reserved } ∷
    record { text = codes "public"; class = class.Reserved } ∷
    record { text = codes "protected"; class = class.Reserved } ∷
    record { text = codes "allocate"; class = class.Reserved } ∷
    record { text = codes "deallocate"; class = class.Reserved } ∷
    record { text = codes "nullify"; class = class.Reserved } ∷
    record { text = codes "allocatable"; class = class.Reserved } ∷
    record { text = codes "pointer"; class = class.Reserved } ∷
    record { text = codes "target"; class = class.Reserved } ∷
    record { text = codes "optional"; class = class.Reserved } ∷
    record { text = codes "value"; class = class.Reserved } ∷
    record { text = codes "volatile"; class = class.Reserved } ∷
    record { text = codes "contiguous"; class = class.Reserved } ∷
    record { text = codes "bind"; class = class.Reserved } ∷
    []

-- the class of a reserved word, the names of intrinsic functions set aside
abbrev pub is_reserved : Class → Bool
is_reserved class.Module = true
is_reserved class.End = true
is_reserved class.Contains = true
is_reserved class.Subroutine = true
is_reserved class.Function = true
is_reserved class.Result = true
is_reserved class.Use = true
is_reserved class.Only = true
is_reserved class.Implicit = true
is_reserved class.None = true
is_reserved class.Integer = true
is_reserved class.Kind = true
is_reserved class.Logical = true
is_reserved class.Parameter = true
is_reserved class.Intent = true
is_reserved class.In = true
is_reserved class.Out = true
is_reserved class.Inout = true
is_reserved class.Dimension = true
is_reserved class.Call = true
is_reserved class.If = true
is_reserved class.Then = true
is_reserved class.Else = true
is_reserved class.Do = true
is_reserved class.Exit = true
is_reserved class.Cycle = true
is_reserved class.Return = true
is_reserved class.Select = true
is_reserved class.Case = true
is_reserved class.Default = true
is_reserved class.Enddo = true
is_reserved class.Endif = true
is_reserved class.Elseif = true
is_reserved class.Endsubroutine = true
is_reserved class.Endfunction = true
is_reserved class.Endmodule = true
is_reserved class.Selectcase = true
is_reserved class.Endselect = true
is_reserved class.Reserved = true
is_reserved _ = false

-- a text of each class
abbrev pub sample : Class → List ℕ
sample class.Open = codes "("
sample class.Close = codes ")"
sample class.Comma = codes ","
sample class.Colon = codes ":"
sample class.DoubleColon = codes "::"
sample class.Equals = codes "="
sample class.Plus = codes "+"
sample class.Minus = codes "-"
sample class.Star = codes "*"
sample class.Slash = codes "/"
sample class.Power = codes "**"
sample class.Relation = codes "=="
sample class.Not = codes ".not."
sample class.And = codes ".and."
sample class.Or = codes ".or."
sample class.Equivalence = codes ".eqv."
sample class.Truth = codes ".true."
sample class.KindNumber = codes "1"
sample class.Intrinsic = codes "abs"
sample class.Module = codes "module"
sample class.End = codes "end"
sample class.Contains = codes "contains"
sample class.Subroutine = codes "subroutine"
sample class.Function = codes "function"
sample class.Result = codes "result"
sample class.Use = codes "use"
sample class.Only = codes "only"
sample class.Implicit = codes "implicit"
sample class.None = codes "none"
sample class.Integer = codes "integer"
sample class.Kind = codes "kind"
sample class.Logical = codes "logical"
sample class.Parameter = codes "parameter"
sample class.Intent = codes "intent"
sample class.In = codes "in"
sample class.Out = codes "out"
sample class.Inout = codes "inout"
sample class.Dimension = codes "dimension"
sample class.Call = codes "call"
sample class.If = codes "if"
sample class.Then = codes "then"
sample class.Else = codes "else"
sample class.Do = codes "do"
sample class.Exit = codes "exit"
sample class.Cycle = codes "cycle"
sample class.Return = codes "return"
sample class.Select = codes "select"
sample class.Case = codes "case"
sample class.Default = codes "default"
sample class.Enddo = codes "enddo"
sample class.Endif = codes "endif"
sample class.Elseif = codes "elseif"
sample class.Endsubroutine = codes "endsubroutine"
sample class.Endfunction = codes "endfunction"
sample class.Endmodule = codes "endmodule"
sample class.Selectcase = codes "selectcase"
sample class.Endselect = codes "endselect"
sample class.Number = codes "0"
sample class.Name = codes "x"
sample class.Reserved = codes "real"
sample class.Other = codes "!$claw"
