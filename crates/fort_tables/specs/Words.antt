-- The words of the tables, in ascending order.
use Rattle.std.specs.Prelude.{ℕ, List, [], ◌∷◌, codes}

-- the fixed words of the statement forms, and each two of them that may be written as one
abbrev pub keyword_list : List (List ℕ)
keyword_list =
    codes "call" ∷ codes "case" ∷ codes "contains" ∷ codes "cycle" ∷ codes "default" ∷ codes "dimension" ∷ codes "do" ∷ codes "else" ∷
    codes "elseif" ∷ codes "end" ∷ codes "enddo" ∷ codes "endfunction" ∷ codes "endif" ∷ codes "endmodule" ∷ codes "endselect" ∷
    codes "endsubroutine" ∷ codes "exit" ∷ codes "function" ∷ codes "if" ∷ codes "implicit" ∷ codes "in" ∷ codes "inout" ∷ codes "integer" ∷
    codes "intent" ∷ codes "kind" ∷ codes "logical" ∷ codes "module" ∷ codes "none" ∷ codes "only" ∷ codes "out" ∷ codes "parameter" ∷
    codes "result" ∷ codes "return" ∷ codes "select" ∷ codes "selectcase" ∷ codes "subroutine" ∷ codes "then" ∷ codes "use" ∷ []

-- words of statements and attributes that the profile leaves out
abbrev pub refused_list : List (List ℕ)
refused_list =
    codes "allocatable" ∷ codes "allocate" ∷ codes "associate" ∷ codes "backspace" ∷ codes "bind" ∷ codes "block" ∷ codes "character" ∷
    codes "class" ∷ codes "close" ∷ codes "common" ∷ codes "complex" ∷ codes "concurrent" ∷ codes "contiguous" ∷ codes "continue" ∷ codes "data" ∷
    codes "deallocate" ∷ codes "double" ∷ codes "elemental" ∷ codes "endfile" ∷ codes "entry" ∷ codes "enum" ∷ codes "equivalence" ∷ codes "error" ∷
    codes "external" ∷ codes "flush" ∷ codes "forall" ∷ codes "format" ∷ codes "go" ∷ codes "goto" ∷ codes "import" ∷ codes "include" ∷
    codes "inquire" ∷ codes "interface" ∷ codes "intrinsic" ∷ codes "namelist" ∷ codes "nullify" ∷ codes "open" ∷ codes "optional" ∷ codes "pause" ∷
    codes "pointer" ∷ codes "print" ∷ codes "private" ∷ codes "procedure" ∷ codes "program" ∷ codes "protected" ∷ codes "public" ∷ codes "pure" ∷
    codes "read" ∷ codes "real" ∷ codes "recursive" ∷ codes "rewind" ∷ codes "save" ∷ codes "stop" ∷ codes "submodule" ∷ codes "target" ∷
    codes "type" ∷ codes "value" ∷ codes "volatile" ∷ codes "where" ∷ codes "while" ∷ codes "write" ∷ []

-- the operators, the delimiters and the words between points
abbrev pub operator_list : List (List ℕ)
operator_list =
    codes "(" ∷ codes ")" ∷ codes "*" ∷ codes "**" ∷ codes "+" ∷ codes "," ∷ codes "-" ∷ codes ".and." ∷ codes ".eq." ∷ codes ".eqv." ∷
    codes ".false." ∷ codes ".ge." ∷ codes ".gt." ∷ codes ".le." ∷ codes ".lt." ∷ codes ".ne." ∷ codes ".neqv." ∷ codes ".not." ∷ codes ".or." ∷
    codes ".true." ∷ codes "/" ∷ codes "/=" ∷ codes ":" ∷ codes "::" ∷ codes "<" ∷ codes "<=" ∷ codes "=" ∷ codes "==" ∷ codes ">" ∷ codes ">=" ∷ []

-- the intrinsic functions
abbrev pub intrinsic_list : List (List ℕ)
intrinsic_list =
    codes "abs" ∷ codes "int" ∷ codes "max" ∷ codes "min" ∷ codes "mod" ∷ codes "modulo" ∷ codes "sign" ∷ codes "size" ∷ codes "sum" ∷ []
