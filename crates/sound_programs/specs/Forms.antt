-- The forms of a text, one for each statement and one for each directive, in the order of the text. Forms know nothing of what
-- stands around them. A statement is given by its first level, `Statement-F`: only the action of an IF on one line is a
-- statement inside another.
use Rattle.std.specs.Prelude.{List, [], ◌∷◌, Bool, true, false, ◌&&◌, ◌||◌, is_some, is_none}
use Rattle.fort_tree.specs.declared.choice.Mode.{Mode}
use Rattle.fort_tree.specs.declared.choice.Mode.TheVariants.{Source, Target}
use Rattle.fort_tree.specs.declared.expr.Expr.{Expr, out-Expr}
use Rattle.fort_tree.specs.declared.expr.Expr.TheOpen.{Expr-F}
use Rattle.fort_tree.specs.declared.place.Place.{Place}
use Rattle.fort_tree.specs.declared.statement.Statement.{Statement, out-Statement}
use Rattle.fort_tree.specs.declared.statement.Statement.TheOpen.{Statement-F}
use Rattle.fort_tree.specs.declared.stmt.Directive.{Directive}
use Rattle.fort_tree.specs.declared.stmt.DirectiveWord.{DirectiveWord}
use Rattle.fort_tree.specs.declared.stmt.DirectiveWord.TheVariants.{Define, Parallelize, Forward, Fusion, Interchange, Hoist, EndHoist, Transform, EndTransform, Cache, OpenMpLoop, OpenAccLoop, Routine}
use Rattle.fort_tree.specs.declared.stmt.Range.{Range}
use Rattle.fort_tree.specs.declared.stmt.Range.TheVariants as range
use Rattle.fort_tree.specs.declared.unit.Bound.{Bound}
use Rattle.fort_tree.specs.declared.unit.Decl.{Decl}

pub data Form : Type 0 where
  Says : Place → Statement-F Statement → Form  -- a statement, with the place of its first token
  Directs : Directive → Form  -- a directive or a mark; a line with two directives has two

-- the form of a statement at a place
abbrev pub says : Place → Statement → Form
says at s = Says at (out-Statement s)

-- What forms have of themselves: a left side is a name, with subscripts or without; a value stands with PARAMETER alone, which
-- has no shape and no INTENT; and a range has a value.

abbrev pub is_reference_level : {A B : Type 0} → Expr-F A B → Bool
is_reference_level (Expr-F.Number n kind at) = false
is_reference_level (Expr-F.Truth b at) = false
is_reference_level (Expr-F.Ref name subs at) = true
is_reference_level (Expr-F.«Expr::One» sign e at) = false
is_reference_level (Expr-F.Two op a b) = false
is_reference_level (Expr-F.Paren e at) = false

abbrev pub is_reference : Expr → Bool
is_reference e = is_reference_level (out-Expr e)

abbrev pub is_scalar_shape : List Bound → Bool
is_scalar_shape [] = true
is_scalar_shape (b ∷ bs) = false

abbrev pub is_entity : Decl → Bool
is_entity d = is_none d.value || (is_scalar_shape d.shape && is_none d.intent)

abbrev pub is_range : Range → Bool
is_range (range.One e) = true
is_range (range.Span lower upper) = is_some lower || is_some upper

-- What may stand where: a source has directives and no marks, a target text marks and no directives.

abbrev pub is_forward : Mode → DirectiveWord → Bool
is_forward Source Forward = true
is_forward mode other = false

-- before a DO
abbrev pub is_before_loop : Mode → DirectiveWord → Bool
is_before_loop Source Forward = true
is_before_loop Source Fusion = true
is_before_loop Source Interchange = true
is_before_loop Source Cache = true
is_before_loop Target OpenMpLoop = true
is_before_loop Target OpenAccLoop = true
is_before_loop mode other = false

-- the mark of a loop whose iterations may run in any order
abbrev pub is_loop_mark : DirectiveWord → Bool
is_loop_mark OpenMpLoop = true
is_loop_mark OpenAccLoop = true
is_loop_mark other = false

-- a block's first line
abbrev pub begins_block : Mode → DirectiveWord → Bool
begins_block Source Hoist = true
begins_block Source Transform = true
begins_block mode other = false

-- the last line of the block that begins so
abbrev pub ends_block : DirectiveWord → DirectiveWord → Bool
ends_block Hoist EndHoist = true
ends_block Transform EndTransform = true
ends_block start end = false

abbrev pub is_define : DirectiveWord → Bool
is_define Define = true
is_define other = false

abbrev pub is_parallelize : DirectiveWord → Bool
is_parallelize Parallelize = true
is_parallelize other = false

abbrev pub is_routine : DirectiveWord → Bool
is_routine Routine = true
is_routine other = false
