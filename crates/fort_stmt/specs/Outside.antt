-- Fortran that this project does not take, in a statement.
use mathlib.Core.Bool.{not}
use Rattle.std.specs.Prelude.{◌≡◌, ◌⊎◌, ℕ, Bool, true, false, cond, ◌&&◌, ◌||◌, min, map, List, [], ◌∷◌, ◌++◌, codes, Option, None, Some}
use Rattle.std.specs.List.{list_any}
use Rattle.std.specs.Str.{bytes_eq}
use Rattle.fort_tree.specs.declared.choice.Mode.{Mode}
use Rattle.fort_tree.specs.declared.statement.Token.{Token}
use Rattle.fort_tree.specs.Name.{is_name}
use Rattle.fort_grammar.specs.declared.class.Class.{Class}
use Rattle.fort_grammar.specs.declared.class.Class.TheVariants as class
use Rattle.fort_grammar.specs.Class.{is_reserved}
use Rattle.fort_grammar.specs.Choose.{same}
use Rattle.fort_grammar.specs.Token.{token_class}
use Rattle.fort_expr.specs.Expression.{IsNumber}
use Rattle.fort_expr.specs.Outside.{is_made_name}
use Rattle.fort_stmt.specs.declared.outside.Word.{Word}

-- Words that begin statements outside the profile, by their items.

abbrev pub types : List (List ℕ)
types = codes "real" ∷ codes "complex" ∷ codes "double" ∷ codes "character" ∷ codes "type" ∷ codes "class" ∷ codes "enum" ∷ []

abbrev pub units : List (List ℕ)
units =
    codes "program" ∷ codes "block" ∷ codes "submodule" ∷ codes "interface" ∷ codes "procedure" ∷ codes "recursive" ∷ codes "pure" ∷ codes "elemental" ∷ codes "entry" ∷ codes "import" ∷ []

abbrev pub jumps : List (List ℕ)
jumps = codes "goto" ∷ codes "go" ∷ codes "continue" ∷ codes "stop" ∷ codes "error" ∷ codes "pause" ∷ []

-- WHILE and CONCURRENT are here too: a statement that begins with one is part of a DO.
abbrev pub blocks : List (List ℕ)
blocks = codes "where" ∷ codes "forall" ∷ codes "associate" ∷ codes "while" ∷ codes "concurrent" ∷ []

abbrev pub transfers : List (List ℕ)
transfers =
    codes "open" ∷ codes "close" ∷ codes "read" ∷ codes "write" ∷ codes "print" ∷ codes "rewind" ∷ codes "inquire" ∷ codes "backspace" ∷ codes "endfile" ∷ codes "format" ∷ codes "flush" ∷ codes "namelist" ∷ []

-- DIMENSION, PARAMETER and INTENT are here where they begin a statement; in a declaration they are attributes.
abbrev pub specifications : List (List ℕ)
specifications =
    codes "include" ∷ codes "save" ∷ codes "common" ∷ codes "data" ∷ codes "equivalence" ∷ codes "external" ∷ codes "intrinsic" ∷ codes "private" ∷ codes "public" ∷ codes "protected" ∷
    codes "dimension" ∷ codes "parameter" ∷ codes "intent" ∷ []

abbrev pub allocations : List (List ℕ)
allocations = codes "allocate" ∷ codes "deallocate" ∷ codes "nullify" ∷ []

abbrev pub attributes : List (List ℕ)
attributes = codes "allocatable" ∷ codes "pointer" ∷ codes "target" ∷ codes "optional" ∷ codes "value" ∷ codes "volatile" ∷ codes "contiguous" ∷ codes "bind" ∷ []

-- a word with its item
pub record Entry : Type 0 where
  pub text : List ℕ
  pub item : ℕ

abbrev pub entry : Word → Entry
entry w = record { text = w.text.now; item = w.item }

abbrev pub with_item : ℕ → List (List ℕ) → List Entry
with_item item ws = map (λ w. let e : Entry = record { text = w; item = item } in e) ws

abbrev pub openers : List Entry
openers =
    with_item 1 types ++ (with_item 2 units ++ (with_item 3 jumps ++ (with_item 4 blocks ++ (with_item 5 transfers ++ (with_item 6 specifications ++ with_item 7 allocations)))))

abbrev pub item_in : List Entry → List ℕ → Option ℕ
item_in [] text = None
item_in (e ∷ es) text = cond (bytes_eq e.text text) (Some e.item) (item_in es text)

-- the item of a word that begins a statement
abbrev pub first_item : List ℕ → Option ℕ
first_item text = item_in openers text

-- the item of an attribute
abbrev pub attribute_item : List ℕ → Option ℕ
attribute_item text = item_in (with_item 8 attributes) text

-- The tokens before and behind.

abbrev pub first_class : List Token → Option Class
first_class [] = None
first_class (t ∷ w) = Some (token_class t)

abbrev pub has_parameter : List Token → Bool
has_parameter w = list_any (λ t. same (token_class t) class.Parameter) w

-- WHILE, CONCURRENT or nothing
abbrev pub no_variable : List Token → Bool
no_variable [] = true
no_variable (t ∷ w) = bytes_eq t.text (codes "while") || bytes_eq t.text (codes "concurrent")

abbrev pub begins_greater : List Token → Bool
begins_greater [] = false
begins_greater (t ∷ w) = bytes_eq t.text (codes ">")

-- a reserved word or the name of an intrinsic function, in the classes of tokens
abbrev pub is_word : Class → Bool
is_word c = is_reserved c || same c class.Intrinsic

-- Places in a statement, by the tokens before and by the classes of tokens that could stand there.

-- A statement begins, or an action does behind an IF and its test: only there could both THEN and EXIT stand.
abbrev pub Begins : List Token → (Class → Type 0) → Type 0
Begins front Can = (front ≡ []) ⊎ (Can class.Then × Can class.Exit)

-- an attribute of a declaration is due
abbrev pub AttributeDue : (Class → Type 0) → Type 0
AttributeDue Can = Can class.Parameter ⊎ (Can class.Intent ⊎ Can class.Dimension)

-- The tokens begin a declaration without PARAMETER.
abbrev pub DeclaresVariables : List Token → Type 0
DeclaresVariables front = ((first_class front ≡ Some class.Integer) ⊎ (first_class front ≡ Some class.Logical)) × (has_parameter front ≡ false)

-- An entity of a declaration ends: a comma could stand, no parenthesis is open, and `::` stands no more.
abbrev pub EntityEnds : (Class → Type 0) → Type 0
EntityEnds Can = Can class.Comma × ((Can class.Close → ⊥) × (Can class.DoubleColon → ⊥))

-- an expression begins or goes on
abbrev pub InExpression : (Class → Type 0) → Type 0
InExpression Can = Can class.Not ⊎ Can class.Equivalence

-- A subscript or an argument begins.
abbrev pub ArgumentBegins : (Class → Type 0) → Type 0
ArgumentBegins Can = Can class.Name × (Can class.Colon × Can class.Not)

-- A subscript or an argument in which an expression stands could end.
abbrev pub ArgumentEnds : (Class → Type 0) → Type 0
ArgumentEnds Can = InExpression Can × (Can class.Comma × Can class.Close)

-- The token t, behind the tokens front and before the tokens behind, is outside the profile, with this item. Can says which classes of tokens could stand in its place.
pub data Outside (mode : Mode) (front : List Token) (Can : Class → Type 0) (t : Token) (behind : List Token) : ℕ → Type 0 where
  -- a statement, or the action behind an IF, begins with a word that begins other statements of Fortran
  opening : {k : ℕ} → first_item t.text ≡ Some k → Begins front Can → Outside mode front Can t behind k
  -- a label: a statement begins with a number
  label : front ≡ [] → IsNumber (token_class t) → Outside mode front Can t behind 3
  -- a construct's name: a statement begins with a name, or a word, before a colon
  construct_name : front ≡ [] → is_name t.text ≡ true → first_class behind ≡ Some class.Colon → Outside mode front Can t behind 3
  -- a statement begins with a DO that has no variable
  do_alone : front ≡ [] → token_class t ≡ class.Do → no_variable behind ≡ true → Outside mode front Can t behind 4
  -- an attribute that declarations here don't have, where an attribute is due
  attribute : {k : ℕ} → attribute_item t.text ≡ Some k → AttributeDue Can → Outside mode front Can t behind k
  -- a variable's first value, at its `=`
  value : token_class t ≡ class.Equals → DeclaresVariables front → EntityEnds Can → Outside mode front Can t behind 8
  -- a name that USE changes: `=>`
  renamed : token_class t ≡ class.Equals → first_class front ≡ Some class.Use → begins_greater behind ≡ true → Outside mode front Can t behind 9
  -- a name that only translations make
  made_name : is_made_name mode t.text ≡ true → Outside mode front Can t behind 10
  -- a reserved word, or the name of an intrinsic function, where a name could stand and that word not
  reserved_word : is_word (token_class t) ≡ true → Can class.Name → (Can (token_class t) → ⊥) → Outside mode front Can t behind 10
  -- a section's second colon: at the end of a subscript or an argument in which no colon can stand any more
  second_colon : token_class t ≡ class.Colon → ArgumentEnds Can → (Can class.Colon → ⊥) → Outside mode front Can t behind 12
  -- a section's two colons together, where the first or the second could stand
  double_colon : token_class t ≡ class.DoubleColon → (InExpression Can × Can class.Colon) ⊎ ArgumentEnds Can → Outside mode front Can t behind 12
  -- an argument's keyword: a name before `=` where an argument begins
  keyword : token_class t ≡ class.Name → first_class behind ≡ Some class.Equals → ArgumentBegins Can → Outside mode front Can t behind 12
  -- an array's values: `(` before `/`, anywhere
  array_values : token_class t ≡ class.Open → first_class behind ≡ Some class.Slash → Outside mode front Can t behind 12

-- The same by tests.

abbrev pub when : Bool → ℕ → Option ℕ
when b item = cond b (Some item) None

abbrev pub lesser : Option ℕ → Option ℕ → Option ℕ
lesser None b = b
lesser (Some a) None = Some a
lesser (Some a) (Some b) = Some (min a b)

abbrev pub is_empty : List Token → Bool
is_empty [] = true
is_empty (t ∷ w) = false

abbrev pub follows : Class → List Token → Bool
follows c [] = false
follows c (t ∷ w) = same (token_class t) c

abbrev pub is_number : Class → Bool
is_number c = same c class.Number || same c class.KindNumber

abbrev pub begins : List Token → (Class → Bool) → Bool
begins front can = is_empty front || (can class.Then && can class.Exit)

abbrev pub opening_item : List Token → (Class → Bool) → Token → Option ℕ
opening_item front can t = cond (begins front can) (first_item t.text) None

abbrev pub is_label : List Token → Token → List Token → Bool
is_label front t behind = is_empty front && (is_number (token_class t) || (is_name t.text && follows class.Colon behind))

abbrev pub is_do_alone : List Token → Token → List Token → Bool
is_do_alone front t behind = is_empty front && (same (token_class t) class.Do && no_variable behind)

abbrev pub attribute_due : (Class → Bool) → Bool
attribute_due can = can class.Parameter || (can class.Intent || can class.Dimension)

abbrev pub attribute_by : (Class → Bool) → Token → Option ℕ
attribute_by can t = cond (attribute_due can) (attribute_item t.text) None

abbrev pub declares_variables : List Token → Bool
declares_variables front = (follows class.Integer front || follows class.Logical front) && not (has_parameter front)

abbrev pub is_value : List Token → (Class → Bool) → Token → Bool
is_value front can t = same (token_class t) class.Equals && (declares_variables front && (can class.Comma && (not (can class.Close) && not (can class.DoubleColon))))

abbrev pub is_renamed : List Token → Token → List Token → Bool
is_renamed front t behind = same (token_class t) class.Equals && (follows class.Use front && begins_greater behind)

abbrev pub is_reserved_word : (Class → Bool) → Class → Bool
is_reserved_word can c = is_word c && (can class.Name && not (can c))

abbrev pub in_expression : (Class → Bool) → Bool
in_expression can = can class.Not || can class.Equivalence

abbrev pub argument_ends : (Class → Bool) → Bool
argument_ends can = in_expression can && (can class.Comma && can class.Close)

abbrev pub is_second_colon : (Class → Bool) → Class → Bool
is_second_colon can c = same c class.Colon && (argument_ends can && not (can class.Colon))

abbrev pub is_double_colon : (Class → Bool) → Class → Bool
is_double_colon can c = same c class.DoubleColon && ((in_expression can && can class.Colon) || argument_ends can)

abbrev pub is_keyword : (Class → Bool) → Class → List Token → Bool
is_keyword can c behind = same c class.Name && (follows class.Equals behind && (can class.Name && (can class.Colon && can class.Not)))

abbrev pub begins_values : Class → List Token → Bool
begins_values c behind = same c class.Open && follows class.Slash behind

abbrev pub is_section : (Class → Bool) → Class → List Token → Bool
is_section can c behind = is_second_colon can c || (is_double_colon can c || (is_keyword can c behind || begins_values c behind))

-- the least item of the token, by tests of what could stand in its place
abbrev pub item_of : Mode → List Token → (Class → Bool) → Token → List Token → Option ℕ
item_of mode front can t behind =
    lesser (opening_item front can t) (
    lesser (when (is_label front t behind) 3) (
    lesser (when (is_do_alone front t behind) 4) (
    lesser (attribute_by can t) (
    lesser (when (is_value front can t) 8) (
    lesser (when (is_renamed front t behind) 9) (
    lesser (when (is_made_name mode t.text || is_reserved_word can (token_class t)) 10) (
    when (is_section can (token_class t) behind) 12)))))))
