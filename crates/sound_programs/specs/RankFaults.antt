-- Faults of ranks. Each clause lists the places at which it holds.
use Rattle.std.specs.Prelude.{ℕ, List, [], ◌∷◌, ◌++◌, map, length, Option, Some, None, Bool, true, false, ◌&&◌, ◌||◌, not, is_some, is_none, nat_eq, nat_le, nat_lt, flat_map, if◌then◌else◌}
use Rattle.std.specs.List.{filter, list_any}
use Rattle.std.specs.Option.{option_to_list}
use Rattle.std.specs.Str.{bytes_eq}
use Rattle.fort_arith.specs.declared.op.Intrinsic.{Intrinsic}
use Rattle.fort_arith.specs.declared.op.Intrinsic.TheVariants.{Abs, Int, Max, Min, Mod, Modulo, Sign, Size, Sum}
use Rattle.fort_tree.specs.declared.choice.Mode.{Mode}
use Rattle.fort_tree.specs.declared.choice.Mode.TheVariants.{Source, Target}
use Rattle.fort_tree.specs.declared.place.Place.{Place}
use Rattle.fort_tree.specs.Intrinsic.{intrinsic_named}
use Rattle.claw_meaning.specs.Syntax as plain
use Rattle.claw_meaning.specs.Syntax.{Text}
use Rattle.claw_meaning.specs.Scope.{Entity}
use Rattle.sound_programs.specs.Places.{where_place}
use Rattle.sound_programs.specs.Placed.{Expr, Numeral, Name, Reference, Subscripts, No_more, One, Section, Dimension, Decl, Unit, Program, first, bare_program}
use Rattle.sound_programs.specs.Scopes.{Scope, Of_unit, Of_module, scopes, decls_of, is_dummy, entity_in, is_array, is_variable}
use Rattle.sound_programs.specs.Walks.{Step, Assigns, Calls, Tests, Chooses, Repeats, steps_of, parts_of, single_subscripts, section_bounds, section_places, count_of, in_head, sites, Actual, actuals}
use Rattle.sound_programs.specs.Ranking.{operands, rank, rank_of_entity, differing}

-- Declarations

-- the limit on rank: 3 in a source, 5 in a target text
abbrev pub greatest_rank : Mode → ℕ
greatest_rank Source = 3
greatest_rank Target = 5

abbrev pub places_of_decls : (Decl → Bool) → List Decl → List Place
places_of_decls test decls = map (λ d. d.at) (filter test decls)

abbrev pub rank_above_limit : Mode → List Decl → List Place
rank_above_limit mode = places_of_decls (λ d. nat_lt (greatest_rank mode) (length d.shape))

-- A dimension without an upper bound takes its extent from an actual argument.
abbrev pub has_assumed : Decl → Bool
has_assumed d = list_any (λ b. is_none b.upper) d.shape

abbrev pub has_explicit : Decl → Bool
has_explicit d = list_any (λ b. is_some b.upper) d.shape

-- an assumed shape on a name that is no dummy
abbrev pub is_assumed_of_no_dummy : Scope → Decl → Bool
is_assumed_of_no_dummy s d = has_assumed d && not (is_dummy s d.name)

-- an assumed shape beside a dimension that has an upper bound
abbrev pub is_assumed_beside_explicit : Decl → Bool
is_assumed_beside_explicit d = has_assumed d && has_explicit d

abbrev pub assumed_wrongly : Scope → List Place
assumed_wrongly s = places_of_decls (λ d. is_assumed_of_no_dummy s d || is_assumed_beside_explicit d) (decls_of s)

abbrev pub has_dimensions : List Dimension → Bool
has_dimensions [] = false
has_dimensions (d ∷ ds) = true

-- A function's result that isn't scalar, at its entity. References to it count as scalar.
abbrev pub result_not_scalar : Unit → List Place
result_not_scalar u = flat_map (λ r. places_of_decls (λ d. bytes_eq d.name r.name && has_dimensions d.shape) u.decls) (option_to_list u.result)

module _ (entity : Text → Entity) where
  -- an array where a scalar is needed, at the first token of the whole expression
  abbrev pub needs_scalar : Expr → List Place
  needs_scalar e = where_place (nat_lt 0 (rank entity e)) (first e)

  -- References

  -- a wrong number of subscripts, at the name
  abbrev pub wrong_subscripts : Expr → List Place
  wrong_subscripts (Reference x subs at) = where_place (is_none (intrinsic_named x) && (is_array (entity x) && not (nat_eq (count_of subs) (rank_of_entity (entity x))))) at
  wrong_subscripts other = []

  abbrev pub is_dimension : Expr → ℕ → Bool
  is_dimension (Numeral d suffix at) n = nat_le 1 d && nat_le d n
  is_dimension other n = false

  -- `SIZE(a)` of an array of rank 1, or `SIZE(a,d)` with a literal d that is one of its dimensions, a being the bare name of an
  -- array. With no argument or three and more it is a matter of their number alone.
  abbrev pub is_array_name : Expr → Bool
  is_array_name (Name x at) = is_array (entity x)
  is_array_name other = false

  abbrev pub is_size : Subscripts → Bool
  is_size No_more = true
  is_size (One a No_more) = is_array_name a && nat_eq (rank entity a) 1
  is_size (One a (One d No_more)) = is_array_name a && is_dimension d (rank entity a)
  is_size (One a (One d (One e rest))) = true
  is_size (One a (One d (Section lower upper at rest))) = true
  is_size (One a (Section lower upper at No_more)) = false
  is_size (One a (Section lower upper at (One e rest))) = true
  is_size (One a (Section lower upper at (Section l u p rest))) = true
  is_size (Section lower upper at rest) = not (nat_le (count_of rest) 1)

  -- SUM of a scalar
  abbrev pub is_sum : Subscripts → Bool
  is_sum No_more = true
  is_sum (One e rest) = nat_lt 0 (rank entity e)
  is_sum (Section lower upper at rest) = true

  abbrev pub is_intrinsic_use : Intrinsic → Subscripts → Bool
  is_intrinsic_use Size args = is_size args
  is_intrinsic_use Sum args = is_sum args
  is_intrinsic_use Abs args = true
  is_intrinsic_use Int args = true
  is_intrinsic_use Max args = true
  is_intrinsic_use Min args = true
  is_intrinsic_use Mod args = true
  is_intrinsic_use Modulo args = true
  is_intrinsic_use Sign args = true

  abbrev pub is_used_well : Option Intrinsic → Subscripts → Bool
  is_used_well None args = true
  is_used_well (Some which) args = is_intrinsic_use which args

  -- SUM of a scalar, or SIZE of what it can't tell, at the name of the intrinsic
  abbrev pub intrinsic_misused : Expr → List Place
  intrinsic_misused (Reference x subs at) = where_place (not (is_used_well (intrinsic_named x) subs)) at
  intrinsic_misused other = []

  -- the names before whose parentheses sections stand: arrays; before those of a function or an intrinsic a range is an
  -- argument by itself, which is a fault at its first token
  abbrev pub takes_sections : Text → Bool
  takes_sections x = is_none (intrinsic_named x) && is_array (entity x)

  abbrev pub range_as_argument : Expr → List Place
  range_as_argument (Reference x subs at) = if takes_sections x then [] else section_places subs
  range_as_argument other = []

  -- subscripts of an array are scalar, and so are the bounds of all ranges
  abbrev pub array_as_subscript : Expr → List Place
  array_as_subscript (Reference x subs at) =
      (if takes_sections x then flat_map needs_scalar (single_subscripts subs) else []) ++ flat_map needs_scalar (section_bounds subs)
  array_as_subscript other = []

  -- Lists of operands

  -- each expression by itself
  abbrev pub differing_in_each : List Expr → List Place
  differing_in_each es = flat_map (λ e. differing (operands entity e)) es

  -- arguments of an elemental intrinsic belong to the operands around it
  abbrev pub own_lists : Option Intrinsic → List Expr → List Expr
  own_lists None args = args
  own_lists (Some Size) args = args
  own_lists (Some Sum) args = args
  own_lists (Some Abs) args = []
  own_lists (Some Int) args = []
  own_lists (Some Max) args = []
  own_lists (Some Min) args = []
  own_lists (Some Mod) args = []
  own_lists (Some Modulo) args = []
  own_lists (Some Sign) args = []

  -- each subscript, section bound, argument of SUM and actual of a function is a list of operands of its own
  abbrev pub ranks_differ_inside : Expr → List Place
  ranks_differ_inside (Reference x subs at) = differing_in_each (own_lists (intrinsic_named x) (single_subscripts subs) ++ section_bounds subs)
  ranks_differ_inside other = []

  abbrev pub rank_faults_of_part : Expr → List Place
  rank_faults_of_part e =
      wrong_subscripts e ++ (intrinsic_misused e ++ (range_as_argument e ++ (array_as_subscript e ++ ranks_differ_inside e)))

  -- Actual arguments

  -- the name of an array, or a section of one
  abbrev pub is_array_reference : Expr → Bool
  is_array_reference (Name x at) = is_variable (entity x)
  is_array_reference (Reference x subs at) = takes_sections x
  is_array_reference other = false

  -- an actual whose rank isn't its dummy's
  abbrev pub has_another_rank : Expr → plain.Decl → Bool
  has_another_rank e d = not (nat_eq (rank entity e) (length d.shape))

  -- an array actual that is no array name or section
  abbrev pub is_array_made : Expr → Bool
  is_array_made e = nat_lt 0 (rank entity e) && not (is_array_reference e)

  abbrev pub is_rank_fault : Expr → Option plain.Decl → Bool
  is_rank_fault e None = false
  is_rank_fault e (Some d) = has_another_rank e d || is_array_made e

  abbrev pub rank_fault_of_actual : Actual → List Place
  rank_fault_of_actual a = flat_map (λ e. where_place (is_rank_fault e a.dummy) (first e)) (option_to_list a.expr)

  -- Steps

  -- a scalar left side takes a scalar
  abbrev pub needs_of_left : Expr → Expr → List Place
  needs_of_left left right = if nat_eq (rank entity left) 0 then needs_scalar right else []

  -- An assignment is one list of operands, the left side first, each other whole expression one by itself. Tests, the
  -- expression of a SELECT, the three of a DO and the bounds of ranges are scalar.
  abbrev pub ranks_of_step : Step → List Place
  ranks_of_step (Assigns left right) = differing (operands entity left ++ operands entity right) ++ needs_of_left left right
  ranks_of_step (Calls name args) = differing_in_each (single_subscripts args ++ section_bounds args) ++ (section_places args ++ flat_map needs_scalar (section_bounds args))
  ranks_of_step (Tests e) = differing_in_each (e ∷ []) ++ needs_scalar e
  ranks_of_step (Chooses e ranges) = differing_in_each (e ∷ []) ++ needs_scalar e
  ranks_of_step (Repeats head mark) = differing_in_each (in_head head) ++ flat_map needs_scalar (in_head head)

  abbrev pub rank_faults_in_step : Step → List Place
  rank_faults_in_step step =
      ranks_of_step step
      ++ (flat_map rank_faults_of_part (parts_of step) ++ flat_map rank_fault_of_actual (flat_map (actuals entity) (sites entity step)))

abbrev pub rank_faults_of_decls : Mode → Scope → List Place
rank_faults_of_decls mode s = rank_above_limit mode (decls_of s) ++ assumed_wrongly s

abbrev pub rank_faults_in_scope : Mode → plain.Program → Scope → List Place
rank_faults_in_scope mode q (Of_unit u) =
    rank_faults_of_decls mode (Of_unit u)
    ++ (result_not_scalar u ++ flat_map (λ s. rank_faults_in_step (entity_in q (Of_unit u)) s.step) (steps_of u))
rank_faults_in_scope mode q (Of_module n m) = rank_faults_of_decls mode (Of_module n m)

-- E33: a wrong number of subscripts; an array where a scalar is needed; array operands of different rank; an actual whose rank
-- isn't the dummy's; SUM of a scalar; rank above the limit; an assumed shape on a name that is no dummy, or beside a dimension
-- that has an upper bound; SIZE of what it can't tell; an array actual that is no array name or section; a function's result
-- that isn't scalar.
abbrev pub rank_faults : Mode → Program → List Place
rank_faults mode p = flat_map (rank_faults_in_scope mode (bare_program p)) (scopes p)
