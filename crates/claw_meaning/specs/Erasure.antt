-- What a written program is without what was inserted for the columns, and what the directed source is without its
-- directives. The compiler inserts; erasing deletes.
use Rattle.std.specs.Prelude.{◌≡◌, ℕ, zero, suc, ◌-◌, List, [], ◌∷◌, ◌++◌, map, length, Option, Some, None, Bool, true, false, ◌&&◌, ◌||◌, not, if◌then◌else◌, is_some, nat_le, slice_get}
use Rattle.std.specs.List.{filter}
use Rattle.std.specs.Str.{bytes_eq}
use Rattle.fort_arith.specs.declared.op.Op.TheVariants.{Le}
use Rattle.fort_tree.specs.declared.stmt.DirectiveWord.{DirectiveWord}
use Rattle.fort_tree.specs.declared.stmt.DirectiveWord.TheVariants.{Forward}
use Rattle.fort_tree.specs.Intrinsic.{intrinsic_named}
use Rattle.claw_meaning.specs.Syntax.{Text, Expr, Numeral, Boolean, Name, Reference, Signed, Binary, Paren, Subscripts, No_more, At, Section, Between, Limit, Unbounded, Bounded, Dimension, Decl, Head, Directive, Stmt, Assign, Call, If, Select, Do, Block, Piece, Exit, Cycle, Return, Stmts, Done, Then, Arms, No_arm, Arm, Cases, No_case, Case, Otherwise, Nothing_else, Else, Unit, Module, Item, Program}
use Rattle.claw_meaning.specs.Scope.{Entity, Unknown, Variable, Constant, Procedure, visible}
use Rattle.claw_meaning.specs.Scene.{Dummy}
use Rattle.claw_meaning.specs.Statements.{is_mark}
use Rattle.claw_meaning.specs.Units.{is_column_unit, dummies_of}
use Rattle.claw_meaning.specs.Columns.{without, added_dummy}
use Rattle.claw_meaning.specs.Dependence.{is_size, called_in, is_column_called, dummies_called}
use Rattle.claw_meaning.specs.Interface.{Widening, widening_of, no_widening, is_constant_decl, is_shared_decl, is_other_decl, is_fresh}

-- A column unit that is called: its dummies, and whether calls have one actual more, for an added dummy.
pub record ColumnCallee : Type 0 where
  pub dummies : List Dummy
  pub has_added : Bool

-- How a unit is read: the ranks that the source declares; the place, from 0, of the subscript that a wide variable's
-- references lose; the variable of the column loops; and the column units among those that are called.
pub record Reading : Type 0 where
  pub rank : Text → ℕ
  pub lost : Text → Option ℕ
  pub id : Option Text
  pub columns : Text → Option ColumnCallee

abbrev pub colons : ℕ → Subscripts
colons zero = No_more
colons (suc k) = Section Unbounded Unbounded (colons k)

-- an array without subscripts is written with colons
abbrev pub with_colons : Text → ℕ → Expr
with_colons x zero = Name x
with_colons x (suc k) = Reference x (colons (suc k))

abbrev pub without_subscript : ℕ → Subscripts → Subscripts
without_subscript k No_more = No_more
without_subscript zero (At e rest) = rest
without_subscript zero (Section lower upper rest) = rest
without_subscript zero (Between m n rest) = rest
without_subscript (suc k) (At e rest) = At e (without_subscript k rest)
without_subscript (suc k) (Section lower upper rest) = Section lower upper (without_subscript k rest)
without_subscript (suc k) (Between m n rest) = Between m n (without_subscript k rest)

-- a reference that has no subscript left is a name
abbrev pub named_or : Text → Subscripts → Expr
named_or x No_more = Name x
named_or x (At e rest) = Reference x (At e rest)
named_or x (Section lower upper rest) = Reference x (Section lower upper rest)
named_or x (Between m n rest) = Reference x (Between m n rest)

abbrev pub losing : Text → Option ℕ → Subscripts → Expr
losing x None subs = Reference x subs
losing x (Some k) subs = named_or x (without_subscript k subs)

-- the number of a dimension, from 1, without the one at place k
abbrev pub lowered : Option ℕ → ℕ → ℕ
lowered None n = n
lowered (Some k) n = if nat_le (suc (suc k)) n then n - 1 else n

-- SIZE asks for a dimension by number, without one for the first
abbrev pub size_asked : (Text → Option ℕ) → Subscripts → Subscripts
size_asked lost (At (Name x) No_more) = At (Name x) (At (Numeral (lowered (lost x) 1) None) No_more)
size_asked lost (At (Name x) (At (Numeral n suffix) No_more)) = At (Name x) (At (Numeral (lowered (lost x) n) suffix) No_more)
size_asked lost other = other

abbrev pub reference_read : Reading → Bool → Text → Subscripts → Subscripts → Expr
reference_read r true x subs inside = Reference x (size_asked r.lost subs)
reference_read r false x subs inside = losing x (r.lost x) inside

module _ (r : Reading) where
  abbrev mutual
    pub read : Expr → Expr
    read (Numeral n suffix) = Numeral n suffix
    read (Boolean b) = Boolean b
    read (Name x) = with_colons x (r.rank x)
    read (Reference x subs) = reference_read r (is_size (intrinsic_named x)) x subs (read_all subs)
    read (Signed sign e) = Signed sign (read e)
    read (Binary op a b) = Binary op (read a) (read b)
    read (Paren e) = Paren (read e)

    pub read_all : Subscripts → Subscripts
    read_all No_more = No_more
    read_all (At e rest) = At (read e) (read_all rest)
    read_all (Section lower upper rest) = Section (read_limit lower) (read_limit upper) (read_all rest)
    read_all (Between m n rest) = Between m n (read_all rest)

    pub read_limit : Limit → Limit
    read_limit Unbounded = Unbounded
    read_limit (Bounded e) = Bounded (read e)

  abbrev pub read_option : Option Expr → Option Expr
  read_option None = None
  read_option (Some e) = Some (read e)

  abbrev pub read_head : Head → Head
  read_head h = record { variable = h.variable; from = read h.from; to = read h.to; step = read_option h.step }

  -- the bare name of an actual of a column dummy stays
  abbrev pub read_bare : Bool → Expr → Expr
  read_bare true (Name x) = Name x
  read_bare true other = read other
  read_bare false e = read e

  -- of what stands behind the actuals of the dummies just the first goes, where one was added
  abbrev pub read_behind : Bool → Subscripts → Subscripts
  read_behind false args = read_all args
  read_behind true (At e rest) = read_all rest
  read_behind true other = read_all other

  -- the actuals for these dummies, and what stands behind them
  abbrev pub read_actuals : Bool → List Dummy → Subscripts → Subscripts
  read_actuals added [] args = read_behind added args
  read_actuals added (d ∷ ds) No_more = No_more
  read_actuals added (d ∷ ds) (At e rest) = At (read_bare d.is_column e) (read_actuals added ds rest)
  read_actuals added (d ∷ ds) (Section lower upper rest) = Section (read_limit lower) (read_limit upper) (read_actuals added ds rest)
  read_actuals added (d ∷ ds) (Between m n rest) = Between m n (read_actuals added ds rest)

  abbrev pub read_call : Option ColumnCallee → Subscripts → Subscripts
  read_call None args = read_all args
  read_call (Some callee) args = read_actuals callee.has_added callee.dummies args

abbrev pub appended : Stmts → Stmts → Stmts
appended Done others = others
appended (Then s rest) others = Then s (appended rest others)

abbrev pub alone : Stmt → Stmts
alone s = Then s Done

-- Driver loops: a DO under `parallelize forward`, and the one guarded call that it becomes

abbrev pub is_word_forward : DirectiveWord → Bool
is_word_forward Forward = true
is_word_forward other = false

abbrev pub is_forward : Option Directive → Bool
is_forward None = false
is_forward (Some d) = is_word_forward d.word

-- the loop's variable as a subscript is the range of the loop
abbrev pub ranged : Text → Expr → Expr → Subscripts → Subscripts
ranged v from to No_more = No_more
ranged v from to (At (Name x) rest) = if bytes_eq x v then Section (Bounded from) (Bounded to) (ranged v from to rest) else At (Name x) (ranged v from to rest)
ranged v from to (At e rest) = At e (ranged v from to rest)
ranged v from to (Section lower upper rest) = Section lower upper (ranged v from to rest)
ranged v from to (Between m n rest) = Between m n (ranged v from to rest)

abbrev pub ranged_actual : Text → Expr → Expr → Expr → Expr
ranged_actual v from to (Reference x subs) = Reference x (ranged v from to subs)
ranged_actual v from to other = other

abbrev pub ranged_actuals : Text → Expr → Expr → Subscripts → Subscripts
ranged_actuals v from to No_more = No_more
ranged_actuals v from to (At e rest) = At (ranged_actual v from to e) (ranged_actuals v from to rest)
ranged_actuals v from to (Section lower upper rest) = Section lower upper (ranged_actuals v from to rest)
ranged_actuals v from to (Between m n rest) = Between m n (ranged_actuals v from to rest)

abbrev pub guarded : Head → Text → Subscripts → Stmt
guarded h x args = If (Arm (Binary Le h.from h.to) (alone (Call x (ranged_actuals h.variable h.from h.to args) false)) No_arm) Nothing_else

abbrev pub driven : Reading → Head → Stmts → Stmts
driven r h (Then (Call x args forward) Done) = alone (guarded h x (read_call r (r.columns x) args))
driven r h other = other

abbrev pub is_column_loop : Option Text → Head → Bool
is_column_loop None h = false
is_column_loop (Some id) h = bytes_eq id h.variable

-- a loop as it is read: the body alone of a column loop, a guarded call of a driver loop; all loops lose their marks
abbrev pub read_loop : Reading → Head → Option Directive → Stmts → Stmts → Stmts
read_loop r h mark body inside =
    if is_column_loop r.id h then inside
    else (if is_forward mark then driven r h body else alone (Do (read_head r h) inside None))

module _ (r : Reading) where
  abbrev mutual
    pub read_stmt : Stmt → Stmts
    read_stmt (Assign left right) = alone (Assign (read r left) (read r right))
    read_stmt (Call x args forward) = alone (Call x (read_call r (r.columns x) args) false)
    read_stmt (If arms other) = alone (If (read_arms arms) (read_otherwise other))
    read_stmt (Select e cases other) = alone (Select (read r e) (read_cases cases) (read_otherwise other))
    read_stmt (Do h body mark) = read_loop r h mark body (read_stmts body)
    read_stmt (Block d body) = alone (Block d (read_stmts body))
    read_stmt (Piece body) = read_stmts body
    read_stmt Exit = alone Exit
    read_stmt Cycle = alone Cycle
    read_stmt Return = alone Return

    pub read_stmts : Stmts → Stmts
    read_stmts Done = Done
    read_stmts (Then s rest) = appended (read_stmt s) (read_stmts rest)

    pub read_arms : Arms → Arms
    read_arms No_arm = No_arm
    read_arms (Arm test body rest) = Arm (read r test) (read_stmts body) (read_arms rest)

    pub read_cases : Cases → Cases
    read_cases No_case = No_case
    read_cases (Case ranges body rest) = Case ranges (read_stmts body) (read_cases rest)

    pub read_otherwise : Otherwise → Otherwise
    read_otherwise Nothing_else = Nothing_else
    read_otherwise (Else body) = Else (read_stmts body)

-- Units

abbrev pub rank_of_entity : Entity → ℕ
rank_of_entity (Variable home d) = length d.shape
rank_of_entity other = 0

abbrev pub rank_in : Program → Unit → Text → ℕ
rank_in p u x = rank_of_entity (visible p u x)

-- of a unit that is called what a reading wants, where it is a column unit
abbrev pub column_callee : (Unit → Bool) → Option Unit → Option ColumnCallee
column_callee has_added None = None
column_callee has_added (Some v) = if is_column_unit v then Some (record { dummies = dummies_of v; has_added = has_added v }) else None

-- a call in the source has no actual for an added dummy
abbrev pub source_callee : Option Unit → Option ColumnCallee
source_callee = column_callee (λ v. false)

-- a call in the written program has one where the callee has an added dummy
abbrev pub written_callee : Program → Option Unit → Option ColumnCallee
written_callee p = column_callee (λ v. is_some (added_dummy p v))

-- the declarations in their three groups
abbrev pub grouped : Unit → List Decl → List Decl
grouped u decls =
    filter is_constant_decl decls
    ++ (filter (is_shared_decl u) decls
    ++ (filter (λ d. is_other_decl u d && not (is_fresh d.name)) decls
    ++ filter (λ d. is_other_decl u d && is_fresh d.name) decls))

abbrev pub bare_reading : Program → Unit → Reading
bare_reading p u = record { rank = rank_in p u; lost = λ x. None; id = None; columns = λ x. source_callee (called_in p u x) }

-- a unit of the directed source without places, `define`, `parallelize` and `forward`
abbrev pub bare_unit : Program → Unit → Unit
bare_unit p u = record {
  name = u.name;
  dummies = u.dummies;
  result = u.result;
  uses = u.uses;
  decls = grouped u u.decls;
  marks = [];
  body = read_stmts (bare_reading p u) u.body;
  host = u.host;
}

abbrev pub lost_place : Widening → Text → Option ℕ
lost_place w x = if w.wide x then Some (w.place x) else None

abbrev pub id_if : Bool → Text → Option Text
id_if true id = Some id
id_if false id = None

abbrev pub erased_reading : Program → Unit → Widening → Reading
erased_reading p u w = record { rank = rank_in p u; lost = lost_place w; id = id_if (is_column_unit u) w.id; columns = λ x. written_callee p (called_in p u x) }

abbrev pub narrow : Widening → Decl → Decl
narrow w d = if w.wide d.name then record d { shape = without (w.place d.name) d.shape } else d

abbrev pub is_text : Option Text → Text → Bool
is_text None x = false
is_text (Some y) x = bytes_eq y x

-- neither the added dummy nor the dimension
abbrev pub was_there : Unit → Widening → Text → Bool
was_there u w x = not (is_text w.added x) && not (is_text (id_if (is_column_unit u) w.id) x)

abbrev pub behind_guard : Bool → Stmts → Stmts
behind_guard true (Then s rest) = rest
behind_guard true Done = Done
behind_guard false body = body

-- a unit of the target without guard, column loops, marks, column subscripts and dimensions, and added names; u is the
-- directed source's unit
abbrev pub erased_unit : Program → Unit → Widening → Unit → Unit
erased_unit p u w t = record {
  name = t.name;
  dummies = filter (λ x. not (is_text w.added x)) t.dummies;
  result = t.result;
  uses = t.uses;
  decls = map (narrow w) (filter (λ d. was_there u w d.name) t.decls);
  marks = [];
  body = read_stmts (erased_reading p u w) (behind_guard (is_column_unit u) t.body);
  host = t.host;
}

-- Erasing the target gives the bare directed source.
pub record Erased (source target : Program) (wide : ℕ → Text → Bool) : Type 0 where
  pub modules : target.modules ≡ source.modules
  pub order : target.order ≡ source.order
  pub units : (i : ℕ) (u t : Unit) → slice_get source.units i ≡ Some u → slice_get target.units i ≡ Some t → erased_unit source u (widening_of source u (wide i)) t ≡ bare_unit source u
  pub count : length target.units ≡ length source.units
