-- The rows of units, modules and files.
use Rattle.std.specs.Prelude.{ℕ, Bool, true, false, ◌==◌, List, [], ◌∷◌, Option, None, Some, codes, map, slice_get}
use Rattle.std.specs.List.{filter}
use Rattle.std.specs.Str.{bytes_eq}
use Rattle.fort_arith.specs.declared.kind.Kind.{Kind}
use Rattle.fort_arith.specs.declared.kind.Kind.TheVariants as kind
use Rattle.fort_tree.specs.declared.expr.Expr.{Expr}
use Rattle.fort_tree.specs.declared.stmt.Named.{Named}
use Rattle.fort_tree.specs.declared.stmt.Directive.{Directive}
use Rattle.fort_tree.specs.declared.stmt.DirectiveWord.{DirectiveWord}
use Rattle.fort_tree.specs.declared.stmt.DirectiveWord.TheVariants as directive
use Rattle.fort_tree.specs.declared.unit.Intent.{Intent}
use Rattle.fort_tree.specs.declared.unit.Intent.TheVariants as intent
use Rattle.fort_tree.specs.declared.unit.Bound.{Bound}
use Rattle.fort_tree.specs.declared.unit.Decl.{Decl}
use Rattle.fort_tree.specs.declared.unit.Use.{Use}
use Rattle.fort_tree.specs.declared.unit.Unit.{Unit as ProgramUnit}
use Rattle.fort_tree.specs.declared.unit.Module.{Module}
use Rattle.fort_tree.specs.declared.unit.Item.{Item}
use Rattle.fort_tree.specs.declared.unit.Item.TheVariants as item
use Rattle.fort_tree.specs.declared.unit.File.{File}
use Rattle.fort_spell.specs.declared.mark.Mark.TheVariants as mark
use Rattle.fort_spell.specs.declared.line.Sentinel.TheVariants as sentinel
use Rattle.fort_spell.specs.Pieces.{Piece, Spelling, word, sign, number, bracketed, items, span, name_pieces, pair, end_pieces}
use Rattle.fort_spell.specs.Expressions.{expr_pieces, bound_pieces}
use Rattle.fort_spell.specs.Rows.{Row, Block, one_row, mark_row, all_rows, deeper, next_indent, text}
use Rattle.fort_spell.specs.Statements.{stmts_rows}

abbrev pub named_pieces : Named → Spelling
named_pieces n s k = word s n.name k

-- USE

abbrev pub only_list : List Named → List Piece → List Piece
only_list names k = sign false mark.Comma (word true (codes "only") (sign false mark.Colon (items true (map named_pieces names) true k)))

abbrev pub only_pieces : Option (List Named) → List Piece → List Piece
only_pieces None k = k
only_pieces (Some names) k = only_list names k

abbrev pub use_pieces : Use → Spelling
use_pieces u s k = word s (codes "use") (word true u.name (only_pieces u.only k))

-- DECLARATIONS

abbrev pub bytes_pieces : ℕ → Spelling
bytes_pieces n s k = word s (codes "integer") (sign false mark.Open (number false n None (sign false mark.Close k)))

abbrev pub kind_pieces : Kind → Spelling
kind_pieces kind.I1 s k = bytes_pieces 1 s k
kind_pieces kind.I2 s k = bytes_pieces 2 s k
kind_pieces kind.I4 s k = word s (codes "integer") k
kind_pieces kind.I8 s k = bytes_pieces 8 s k
kind_pieces kind.Logical s k = word s (codes "logical") k

abbrev pub intent_word : Intent → List ℕ
intent_word intent.In = codes "in"
intent_word intent.Out = codes "out"
intent_word intent.InOut = codes "inout"

abbrev pub intent_pieces : Option Intent → List Piece → List Piece
intent_pieces None k = k
intent_pieces (Some i) k = sign false mark.Comma (word true (codes "intent") (sign false mark.Open (word false (intent_word i) (sign false mark.Close k))))

abbrev pub parameter_pieces : Option Expr → List Piece → List Piece
parameter_pieces None k = k
parameter_pieces (Some e) k = sign false mark.Comma (word true (codes "parameter") k)

-- A dimension: `u`, `l:u`, `l:` or `:`.
abbrev pub dimension : Option Spelling → Option Spelling → Spelling
dimension None None s k = sign s mark.Colon k
dimension None (Some u) s k = u s k
dimension (Some l) u s k = span (Some l) u s k

abbrev pub dimension_pieces : Bound → Spelling
dimension_pieces b = dimension (bound_pieces b.lower) (bound_pieces b.upper)

abbrev pub shape_pieces : List Bound → List Piece → List Piece
shape_pieces [] k = k
shape_pieces (b ∷ bs) k = bracketed false (map dimension_pieces (b ∷ bs)) false k

abbrev pub value_pieces : Option Expr → List Piece → List Piece
value_pieces None k = k
value_pieces (Some e) k = sign true mark.Assign (expr_pieces e true k)

abbrev pub decl_pieces : Decl → Spelling
decl_pieces d s k =
    kind_pieces d.kind s (parameter_pieces d.value (intent_pieces d.intent (sign true mark.Colons (word true d.name (shape_pieces d.shape (value_pieces d.value k))))))

-- UNITS

abbrev pub result_of : List ℕ → List Piece → List Piece
result_of result k = word true (codes "result") (sign false mark.Open (word false result (sign false mark.Close k)))

-- a result of another name than the function's
abbrev pub result_clause : Bool → List ℕ → List Piece → List Piece
result_clause true result k = k
result_clause false result k = result_of result k

abbrev pub function_clause : List ℕ → Option Named → List Piece → List Piece
function_clause name None k = k
function_clause name (Some r) k = result_clause (bytes_eq r.name name) r.name k

abbrev pub unit_word : Option Named → List ℕ
unit_word None = codes "subroutine"
unit_word (Some r) = codes "function"

abbrev pub header_pieces : ProgramUnit → Spelling
header_pieces u s k = word s (unit_word u.result) (word true u.name (bracketed true (map named_pieces u.dummies) false (function_clause u.name u.result k)))

abbrev pub implicit_rows : Block
implicit_rows = one_row (pair (codes "implicit") (codes "none"))

-- A unit in a module has its host's `implicit none`.
abbrev pub own_implicit_rows : Option ℕ → Block
own_implicit_rows None n rs = implicit_rows n rs
own_implicit_rows (Some host) n rs = rs

-- the mark line of a unit: other directives have none
abbrev pub routine_rows : DirectiveWord → Block
routine_rows directive.Routine n rs = mark_row sentinel.OpenAcc n (pair (codes "routine") (codes "seq") false []) rs
routine_rows _ n rs = rs

abbrev pub uses_rows : List Use → Block
uses_rows us = all_rows (map (λ u. one_row (use_pieces u)) us)

abbrev pub decls_rows : List Decl → Block
decls_rows ds = all_rows (map (λ d. one_row (decl_pieces d)) ds)

abbrev pub routines_rows : List Directive → Block
routines_rows ds = all_rows (map (λ d. routine_rows d.word) ds)

-- what stands in a unit, its mark line at the indentation m
abbrev pub parts_marked : ℕ → ProgramUnit → Block
parts_marked m u n rs = uses_rows u.uses n (own_implicit_rows u.host n (decls_rows u.decls n (routines_rows u.marks m (stmts_rows u.body n rs))))

-- What stands in a unit. The mark line is at the indentation of the next line: of the first statement, and where no
-- statement is written, of what stands behind.
abbrev pub unit_parts : ProgramUnit → Block
unit_parts u n rs = parts_marked (next_indent (stmts_rows u.body n rs)) u n rs

abbrev pub unit_rows : ProgramUnit → Block
unit_rows u n rs = one_row (header_pieces u) n (unit_parts u (deeper n) (one_row (end_pieces (unit_word u.result) u.name) n rs))

-- MODULES AND FILES

abbrev pub is_host : ℕ → Option ℕ → Bool
is_host number None = false
is_host number (Some host) = host == number

-- the units of a module, in order
abbrev pub units_of : ℕ → List ProgramUnit → List ProgramUnit
units_of number us = filter (λ u. is_host number u.host) us

-- the rows of a unit, or none
abbrev pub chosen_unit : Bool → ProgramUnit → Block
chosen_unit true u n rs = unit_rows u n rs
chosen_unit false u n rs = rs

abbrev pub has_some : List ProgramUnit → Bool
has_some [] = false
has_some (u ∷ us) = true

abbrev pub contained_rows : List ProgramUnit → Block
contained_rows [] n rs = rs
contained_rows (u ∷ us) n rs = one_row (name_pieces (codes "contains")) n (all_rows (map unit_rows (u ∷ us)) (deeper n) rs)

-- what stands in a module before its units
abbrev pub module_parts : Module → Block
module_parts m n rs = uses_rows m.uses n (implicit_rows n (decls_rows m.decls n rs))

abbrev pub module_rows : List ProgramUnit → Module → Block
module_rows units m n rs = one_row (pair (codes "module") m.name) n (module_parts m (deeper n) (contained_rows units n (one_row (end_pieces (codes "module") m.name) n rs)))

abbrev pub listed_module : List ProgramUnit → Option Module → Block
listed_module units None n rs = rs
listed_module units (Some m) n rs = module_rows units m n rs

abbrev pub listed_unit : Option ProgramUnit → Block
listed_unit None n rs = rs
listed_unit (Some u) n rs = unit_rows u n rs

abbrev pub item_rows : File → Item → Block
item_rows file (item.Module i) = listed_module (units_of i file.units) (slice_get file.modules i)
item_rows file (item.Unit i) = listed_unit (slice_get file.units i)

-- The rows of a file: its modules and external units in order.
abbrev pub file_rows : File → List Row
file_rows file = all_rows (map (item_rows file) file.order) 0 []

-- THE LAYOUT OF A FILE: the rows, each spaced and broken.
abbrev pub layout_of : File → List ℕ
layout_of file = text (file_rows file)
