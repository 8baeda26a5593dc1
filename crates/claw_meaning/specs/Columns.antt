-- One column of a wide input, and the columns of a run joined. The model runs one column at a time, and never sees a
-- widened program.
use Rattle.std.specs.Prelude.{◌≡◌, ℕ, zero, suc, ℤ, pos, min, List, [], ◌∷◌, map, length, Option, Some, None, Bool, true, false, ◌&&◌, not, if◌then◌else◌, is_none}
use Rattle.std.specs.Ordering.{int_eq}
use Rattle.std.specs.List.{filter}
use Rattle.std.specs.Str.{bytes_eq}
use Rattle.courses.specs.Element.{Value, Element}
use Rattle.courses.specs.Ranges.{wholes}
use Rattle.courses.specs.Frames.{places, look}
use Rattle.courses.specs.Plans.{Plan, Up}
use Rattle.claw_meaning.specs.Syntax.{Text, Expr, Name, Dimension, Decl, Directive, Unit, Program}
use Rattle.claw_meaning.specs.Scope.{Entity, Unknown, Variable, Constant, Procedure, decl_named, visible}
use Rattle.claw_meaning.specs.Scene.{Bounds}
use Rattle.claw_meaning.specs.Units.{directive_of, is_word_define, is_word_parallelize, is_column_unit, is_column_dummy, bound_value, or_number, constant_whole}
use Rattle.claw_meaning.specs.Frames.{Key, Cells, Held, Frame, entries, cells_of, whole_held, ColumnDimension}
use Rattle.claw_meaning.specs.Runs.{Outcome, exec}

-- The dimension of a column unit

abbrev pub no_value : Text → Option ℤ
no_value x = None

abbrev pub whole_or_one : Option Expr → ℤ
whole_or_one None = pos 1
whole_or_one (Some e) = or_number (pos 1) (bound_value no_value e)

abbrev pub lower_of_define : Option Directive → ℤ
lower_of_define None = pos 1
lower_of_define (Some d) = whole_or_one d.lower

-- the lower bound of the columns, a literal
abbrev pub lower_column : Unit → ℤ
lower_column u = lower_of_define (directive_of is_word_define u.marks)

abbrev pub upper_of_define : Option Directive → Option Expr
upper_of_define None = None
upper_of_define (Some d) = d.upper

abbrev pub upper_written : Unit → Option Expr
upper_written u = upper_of_define (directive_of is_word_define u.marks)

abbrev pub unknown_name : Entity → Text → Option Text
unknown_name Unknown x = Some x
unknown_name (Variable home d) x = None
unknown_name (Constant d) x = None
unknown_name (Procedure v) x = None

abbrev pub added_for : Program → Unit → Option Expr → Option Text
added_for p u (Some (Name x)) = unknown_name (visible p u x) x
added_for p u other = None

-- the added last dummy: the upper bound's name, where it isn't visible in the unit
abbrev pub added_dummy : Program → Unit → Option Text
added_dummy p u = added_for p u (upper_written u)

abbrev pub first_known : Option ℤ → Option ℤ → Option ℤ
first_known None other = other
first_known (Some n) other = Some n

-- what the upper bound's name stands for: a PARAMETER, a shared dummy or the added one
abbrev pub upper_known : Program → Unit → Frame → Text → Option ℤ
upper_known p u frame x = first_known (constant_whole (visible p u x)) (whole_held (cells_of frame x))

abbrev pub upper_value_in : Program → Unit → Frame → Option Expr → ℤ
upper_value_in p u frame None = pos 0
upper_value_in p u frame (Some e) = or_number (pos 0) (bound_value (upper_known p u frame) e)

-- the upper bound of the columns of this input
abbrev pub upper_column : Program → Unit → Frame → ℤ
upper_column p u frame = upper_value_in p u frame (upper_written u)

-- the colons before the dimension in `over`; none without it
abbrev pub colons : List (Option Text) → ℕ
colons [] = 0
colons (None ∷ rest) = suc (colons rest)
colons (Some id ∷ rest) = 0

abbrev pub colons_of : Option (List (Option Text)) → ℕ
colons_of None = 0
colons_of (Some list) = colons list

abbrev pub colons_in : Option Directive → ℕ
colons_in None = 0
colons_in (Some d) = colons_of d.over

abbrev pub rank_of : Option Decl → ℕ
rank_of None = 0
rank_of (Some d) = length d.shape

-- the place, from 0, at which a wide variable of the unit gains its dimension
abbrev pub place_of : Unit → Text → ℕ
place_of u x = min (colons_in (directive_of is_word_parallelize u.marks)) (rank_of (decl_named u.decls x))

-- the place at which a column dummy gains it
abbrev pub column_place : Unit → Text → Option ℕ
column_place u x = if is_column_dummy u x then Some (place_of u x) else None

abbrev pub column_dimension : Program → Unit → Frame → ColumnDimension
column_dimension p u frame = record { place = column_place u; bounds = (lower_column u, upper_column p u frame) }

-- One column

abbrev pub without : {A : Type 0} → ℕ → List A → List A
without k [] = []
without zero (x ∷ xs) = xs
without (suc k) (x ∷ xs) = x ∷ without k xs

abbrev pub is_at : ℕ → ℤ → List ℤ → Bool
is_at k c [] = false
is_at zero c (i ∷ is) = int_eq i c
is_at (suc k) c (i ∷ is) = is_at k c is

-- the values at the places that have c there
abbrev pub picked : ℕ → ℤ → List (List ℤ) → List Value → List Value
picked k c [] vs = []
picked k c (is ∷ iss) [] = []
picked k c (is ∷ iss) (v ∷ vs) = if is_at k c is then v ∷ picked k c iss vs else picked k c iss vs

abbrev pub column_of_cells : ℕ → ℤ → Cells → Cells
column_of_cells k c cells = record { kind = cells.kind; bounds = without k cells.bounds; values = picked k c (places cells.bounds) cells.values }

abbrev pub column_of_held : Option ℕ → ℤ → Held → Held
column_of_held None c h = h
column_of_held (Some k) c h = record { key = h.key; cells = column_of_cells k c h.cells }

-- the place of a key's column dimension; module variables have none
abbrev pub place_of_key : Unit → Key → Option ℕ
place_of_key u key = if is_none key.of_module then column_place u key.name else None

abbrev pub is_added : Option Text → Key → Bool
is_added None key = false
is_added (Some x) key = is_none key.of_module && bytes_eq key.name x

-- column c of each column dummy; the added dummy is left out, and all else is kept
abbrev pub slice : Program → Unit → Frame → ℤ → Frame
slice p u wide c = map (λ h. column_of_held (place_of_key u h.key) c h) (filter (λ h. not (is_added (added_dummy p u) h.key)) wide)

-- the columns of a wide input, none where the upper bound is less than the lower
abbrev pub columns : Program → Unit → Frame → List ℤ
columns p u wide = wholes (lower_column u) (upper_column p u wide)

-- the run of one column
abbrev pub column_run : Program → Unit → Frame → ℤ → Outcome
column_run p u wide c = exec p u (slice p u wide c) Up

-- All columns

abbrev pub subscript_at : ℕ → List ℤ → ℤ
subscript_at k [] = pos 0
subscript_at zero (i ∷ is) = i
subscript_at (suc k) (i ∷ is) = subscript_at k is

-- what a dummy of the unit holds at these subscripts
abbrev pub held_at : Unit → Frame → Text → List ℤ → Value
held_at u frame x is = look (entries u.name frame) (record { home = u.name; name = x; index = is })

abbrev pub joined_cells : Unit → Text → ℕ → (ℤ → Frame) → Cells → Cells
joined_cells u x k ends cells =
    record { kind = cells.kind; bounds = cells.bounds; values = map (λ is. held_at u (ends (subscript_at k is)) x (without k is)) (places cells.bounds) }

abbrev pub joined_held : Unit → Option ℕ → (ℤ → Frame) → Held → Held
joined_held u None ends h = h
joined_held u (Some k) ends h = record { key = h.key; cells = joined_cells u h.key.name k ends h.cells }

-- the columns' dummies put together, where these are the columns' last frames; the other variables stay as given
abbrev pub joined : Unit → Frame → (ℤ → Frame) → Frame
joined u wide ends = map (λ h. joined_held u (place_of_key u h.key) ends h) wide
