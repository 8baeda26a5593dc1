-- Faults of kinds. Each clause lists the places at which it holds.
use Rattle.std.specs.Prelude.{ℤ, pos, ◌-ℤ◌, int_le, List, [], ◌∷◌, ◌++◌, Option, Some, None, Bool, true, false, ◌&&◌, ◌||◌, not, is_none, flat_map, if◌then◌else◌}
use Rattle.std.specs.List.{filter}
use Rattle.std.specs.Option.{option_to_list}
use Rattle.std.specs.Str.{bytes_eq}
use Rattle.fort_arith.specs.declared.kind.Kind.{Kind}
use Rattle.fort_arith.specs.declared.kind.Kind.TheVariants.{I1, I2, I4, I8, Logical}
use Rattle.fort_arith.specs.declared.op.Op.{Op}
use Rattle.fort_arith.specs.declared.op.Op.TheVariants.{Add, Sub}
use Rattle.fort_arith.specs.declared.op.Intrinsic.{Intrinsic}
use Rattle.fort_arith.specs.declared.op.Intrinsic.TheVariants.{Abs, Int, Max, Min, Mod, Modulo, Sign, Size, Sum}
use Rattle.fort_arith.specs.Operators.{is_arithmetic, is_relation}
use Rattle.fort_arith.specs.Range.{is_whole, in_kind}
use Rattle.fort_tree.specs.declared.place.Place.{Place}
use Rattle.fort_tree.specs.declared.expr.Unary.{Unary}
use Rattle.fort_tree.specs.declared.expr.Unary.TheVariants.{Plus, Minus, Not}
use Rattle.fort_tree.specs.Intrinsic.{intrinsic_named}
use Rattle.fort_tree.specs.Same.{same_kind}
use Rattle.claw_meaning.specs.Syntax as plain
use Rattle.claw_meaning.specs.Syntax.{Text}
use Rattle.claw_meaning.specs.Scope.{Entity, Unknown, Variable, Constant, Procedure}
use Rattle.claw_meaning.specs.Units.{is_intent_in, is_array_decl, is_word_define, constant_whole}
use Rattle.claw_meaning.specs.Kinds.{or_default}
use Rattle.sound_programs.specs.Places.{where_place}
use Rattle.sound_programs.specs.Placed.{Expr, Numeral, Boolean, Name, Reference, Signed, Binary, Paren, Subscripts, No_more, One, Section, Decl, Directive, Range, Single, Span, Program, first, after_first, bare_program}
use Rattle.sound_programs.specs.Scopes.{Scope, Of_unit, Of_module, scopes, name_of_scope, is_dummy, entity_in, is_array}
use Rattle.sound_programs.specs.Walks.{Step, Assigns, Calls, Tests, Chooses, Repeats, steps_of, parts, parts_of, single_subscripts, section_bounds, in_head, bounds_in, sites, Actual, actuals}
use Rattle.sound_programs.specs.Kinding.{kind, is_integer, is_logical, kind_named_by}

-- the number of an INTEGER PARAMETER
abbrev pub integer_constant : Entity → Option ℤ
integer_constant (Constant d) = if is_whole d.kind then constant_whole (Constant d) else None
integer_constant other = None

-- Literals

-- a literal whose number, taken without a sign before it, isn't in its kind
abbrev pub literal_fault : Expr → List Place
literal_fault (Numeral n suffix at) = where_place (not (in_kind (or_default suffix) (pos n))) at
literal_fault other = []

abbrev pub literals_in : List Expr → List Place
literals_in es = flat_map literal_fault (flat_map parts es)

-- the bounds of `define`
abbrev pub defined_bounds : List Directive → List Expr
defined_bounds marks = flat_map (λ d. option_to_list d.lower ++ option_to_list d.upper) (filter (λ d. is_word_define d.word) marks)

-- in bounds and values of declarations
abbrev pub literals_in_decls : List Decl → List Place
literals_in_decls decls = literals_in (bounds_in decls ++ flat_map (λ d. option_to_list d.value) decls)

-- Numbers that are written: with a minus sign or none

abbrev pub written_number : Expr → Option ℤ
written_number (Numeral n suffix at) = Some (pos n)
written_number (Signed Minus (Numeral n suffix at) place) = Some (pos 0 -ℤ pos n)
written_number other = None

abbrev pub is_number_in : Kind → Option ℤ → Bool
is_number_in k None = false
is_number_in k (Some n) = in_kind k n

abbrev pub is_truth : Expr → Bool
is_truth (Boolean b at) = true
is_truth other = false

-- a value of the kind: a number in it, or for LOGICAL a truth value
abbrev pub is_value_of : Kind → Expr → Bool
is_value_of k e = if is_whole k then is_number_in k (written_number e) else is_truth e

-- the value of a PARAMETER that isn't in its kind, at its first token
abbrev pub value_fault : Decl → List Place
value_fault d = flat_map (λ e. where_place (not (is_value_of d.kind e)) (first e)) (option_to_list d.value)

-- Bounds of declarations: a literal without suffix, with a minus sign or none; or a name that is an INTEGER PARAMETER or a
-- scalar INTENT(IN) dummy, of a kind at most 4; or such a name plus or minus a literal without suffix. A PARAMETER may be
-- declared further down.

abbrev pub is_at_most_4 : Kind → Bool
is_at_most_4 I1 = true
is_at_most_4 I2 = true
is_at_most_4 I4 = true
is_at_most_4 I8 = false
is_at_most_4 Logical = false

-- a scalar INTENT(IN) dummy of this scope
abbrev pub is_bounding_dummy : Scope → Text → Text → plain.Decl → Bool
is_bounding_dummy s home x d = bytes_eq home (name_of_scope s) && (is_dummy s x && (is_intent_in d.intent && not (is_array_decl d)))

abbrev pub may_bound : Scope → Text → Entity → Bool
may_bound s x Unknown = false
may_bound s x (Variable home d) = is_bounding_dummy s home x d && is_at_most_4 d.kind
may_bound s x (Constant d) = is_at_most_4 d.kind
may_bound s x (Procedure v) = false

-- a literal with a suffix, at the number
abbrev pub suffixed : Expr → List Place
suffixed (Numeral n None at) = []
suffixed (Numeral n (Some k) at) = at ∷ []
suffixed other = first other ∷ []

module _ (s : Scope) (entity : Text → Entity) where
  abbrev pub name_fault : Expr → List Place
  name_fault (Name x at) = where_place (not (may_bound s x (entity x))) at
  name_fault other = first other ∷ []

  -- what isn't allowed in a bound: its name, its literal's suffix, or an expression that is no bound
  abbrev pub bound_fault : Expr → List Place
  bound_fault (Numeral n suffix at) = suffixed (Numeral n suffix at)
  bound_fault (Signed Minus e at) = suffixed e
  bound_fault (Name x at) = name_fault (Name x at)
  bound_fault (Binary Add a b) = name_fault a ++ suffixed b
  bound_fault (Binary Sub a b) = name_fault a ++ suffixed b
  bound_fault other = first other ∷ []

abbrev pub kind_faults_of_decls : Scope → (Text → Entity) → List Decl → List Place
kind_faults_of_decls s entity decls =
    literals_in_decls decls ++ (flat_map value_fault decls ++ flat_map (bound_fault s entity) (bounds_in decls))

-- INTEGER and LOGICAL

module _ (entity : Text → Entity) where
  -- LOGICAL where INTEGER is needed, at the first token of the expression
  abbrev pub needs_integer : Expr → List Place
  needs_integer e = where_place (is_logical (kind entity e)) (first e)

  abbrev pub needs_logical : Expr → List Place
  needs_logical e = where_place (is_integer (kind entity e)) (first e)

  -- arithmetic and relations need INTEGER, `.and.`, `.or.`, `.eqv.` and `.neqv.` LOGICAL
  abbrev pub needs_of_operator : Op → Expr → List Place
  needs_of_operator op e = if is_arithmetic op || is_relation op then needs_integer e else needs_logical e

  abbrev pub needs_of_sign : Unary → Expr → List Place
  needs_of_sign Plus e = needs_integer e
  needs_of_sign Minus e = needs_integer e
  needs_of_sign Not e = needs_logical e

  -- Arguments of intrinsics

  -- the second argument of INT isn't the literal 1, 2, 4 or 8 without suffix; a range there is another fault
  abbrev pub second_of_int : Subscripts → List Place
  second_of_int No_more = []
  second_of_int (One e rest) = where_place (is_none (kind_named_by e)) (first e)
  second_of_int (Section lower upper at rest) = []

  -- the first whose INTEGER kind isn't this one
  abbrev pub first_of_other_kind : Option Kind → List Expr → List Place
  first_of_other_kind k [] = []
  first_of_other_kind k (e ∷ rest) =
      if is_integer (kind entity e) && not (same_kind k (kind entity e)) then first e ∷ [] else first_of_other_kind k rest

  -- The first argument whose kind isn't that of an earlier one. A LOGICAL one is a fault by itself.
  abbrev pub differing_kinds : List Expr → List Place
  differing_kinds [] = []
  differing_kinds (e ∷ rest) = if is_integer (kind entity e) then first_of_other_kind (kind entity e) rest else differing_kinds rest

  abbrev pub kinds_differ_or_logical : Subscripts → List Place
  kinds_differ_or_logical args = flat_map needs_integer (single_subscripts args) ++ differing_kinds (single_subscripts args)

  abbrev pub first_argument : Subscripts → List Expr
  first_argument No_more = []
  first_argument (One e rest) = e ∷ []
  first_argument (Section lower upper at rest) = []

  -- SIZE takes arrays of all kinds, and its second argument is a matter of rank
  abbrev pub kind_faults_of_intrinsic : Intrinsic → Subscripts → List Place
  kind_faults_of_intrinsic Size args = []
  kind_faults_of_intrinsic Int args = flat_map needs_integer (first_argument args) ++ second_of_int (after_first args)
  kind_faults_of_intrinsic Sum args = kinds_differ_or_logical args
  kind_faults_of_intrinsic Abs args = kinds_differ_or_logical args
  kind_faults_of_intrinsic Max args = kinds_differ_or_logical args
  kind_faults_of_intrinsic Min args = kinds_differ_or_logical args
  kind_faults_of_intrinsic Mod args = kinds_differ_or_logical args
  kind_faults_of_intrinsic Modulo args = kinds_differ_or_logical args
  kind_faults_of_intrinsic Sign args = kinds_differ_or_logical args

  -- subscripts are INTEGER
  abbrev pub kind_faults_of_array : Bool → Subscripts → List Place
  kind_faults_of_array true subs = flat_map needs_integer (single_subscripts subs)
  kind_faults_of_array false subs = []

  abbrev pub kind_faults_of_reference : Option Intrinsic → Bool → Subscripts → List Place
  kind_faults_of_reference (Some which) array args = kind_faults_of_intrinsic which args
  kind_faults_of_reference None array subs = kind_faults_of_array array subs

  -- the bounds of a section are INTEGER, those of a range that is an argument too
  abbrev pub kind_faults_of_part : Expr → List Place
  kind_faults_of_part (Numeral n suffix at) = literal_fault (Numeral n suffix at)
  kind_faults_of_part (Boolean b at) = []
  kind_faults_of_part (Name x at) = []
  kind_faults_of_part (Reference x subs at) =
      kind_faults_of_reference (intrinsic_named x) (is_array (entity x)) subs ++ flat_map needs_integer (section_bounds subs)
  kind_faults_of_part (Signed sign e at) = needs_of_sign sign e
  kind_faults_of_part (Binary op a b) = needs_of_operator op a ++ needs_of_operator op b
  kind_faults_of_part (Paren e at) = []

  -- an actual whose kind isn't its dummy's
  abbrev pub actual_differs : Option Kind → Option plain.Decl → Bool
  actual_differs None d = false
  actual_differs (Some k) None = false
  actual_differs (Some k) (Some d) = not (same_kind (Some k) (Some d.kind))

  abbrev pub kind_of_actual : Option Expr → Option Kind
  kind_of_actual None = None
  kind_of_actual (Some e) = kind entity e

  abbrev pub kind_fault_of_actual : Actual → List Place
  kind_fault_of_actual a = where_place (actual_differs (kind_of_actual a.expr) a.dummy) a.at

  -- Cases

  -- The value of a case: a number that is written, or that of an INTEGER PARAMETER
  abbrev pub case_value : Expr → Option ℤ
  case_value (Name x at) = integer_constant (entity x)
  case_value (Numeral n suffix at) = written_number (Numeral n suffix at)
  case_value (Signed sign e at) = written_number (Signed sign e at)
  case_value other = None

  -- A value of a case that isn't in the kind of the SELECT's expression. The kinds of the two may differ.
  abbrev pub is_outside_of : Option Kind → ℤ → Bool
  is_outside_of None n = false
  is_outside_of (Some k) n = is_whole k && not (in_kind k n)

  -- So is one that is no INTEGER PARAMETER and no number.
  abbrev pub is_case_fault : Option Kind → Option ℤ → Bool
  is_case_fault k None = true
  is_case_fault k (Some n) = is_outside_of k n

  abbrev pub case_fault : Option Kind → Expr → List Place
  case_fault k e = where_place (is_case_fault k (case_value e)) (first e)

  -- A range is a set of numbers: from the first on, up to the last, each where it is written. One whose value isn't known is
  -- judged no further.
  abbrev pub Numbers : Type 0
  Numbers = Option ℤ × Option ℤ

  abbrev pub edge : Option Expr → Option (Option ℤ)
  edge None = Some None
  edge (Some e) = known (case_value e)
    where
      known : Option ℤ → Option (Option ℤ)
      known None = None
      known (Some n) = Some (Some n)

  abbrev pub numbers_between : Option (Option ℤ) → Option (Option ℤ) → List Numbers
  numbers_between None other = []
  numbers_between (Some a) None = []
  numbers_between (Some a) (Some b) = (a, b) ∷ []

  abbrev pub numbers_in : Range → List Numbers
  numbers_in (Single e) = numbers_between (edge (Some e)) (edge (Some e))
  numbers_in (Span lower upper) = numbers_between (edge lower) (edge upper)

  abbrev pub is_below : Option ℤ → Option ℤ → Bool
  is_below None upper = true
  is_below (Some a) None = true
  is_below (Some a) (Some b) = int_le a b

  -- they have a number in common: each first is at most each last
  abbrev pub overlap : Numbers → Numbers → Bool
  overlap a b = (is_below a.0 a.1 && is_below b.0 b.1) && (is_below a.0 b.1 && is_below b.0 a.1)

  -- the first value of a range that is written
  abbrev pub first_value : Range → List Place
  first_value (Single e) = first e ∷ []
  first_value (Span (Some lower) upper) = first lower ∷ []
  first_value (Span None (Some upper)) = first upper ∷ []
  first_value (Span None None) = []

  abbrev pub overlaps : Range → Range → List Place
  overlaps a b = flat_map (λ x. flat_map (λ y. if overlap x y then first_value b else []) (numbers_in b)) (numbers_in a)

  -- two ranges of one SELECT, of one CASE too, that overlap: at the later
  abbrev pub overlapping : List Range → List Place
  overlapping [] = []
  overlapping (a ∷ rest) = flat_map (overlaps a) rest ++ overlapping rest

  abbrev pub values_of : Range → List Expr
  values_of (Single e) = e ∷ []
  values_of (Span lower upper) = option_to_list lower ++ option_to_list upper

  -- Steps

  -- a value is assigned to a variable of its own sort
  abbrev pub needs_of_left : Option Kind → Expr → List Place
  needs_of_left k right = (if is_integer k then needs_integer right else []) ++ (if is_logical k then needs_logical right else [])

  abbrev pub needs_of_step : Step → List Place
  needs_of_step (Assigns left right) = needs_of_left (kind entity left) right
  needs_of_step (Calls name args) = flat_map needs_integer (section_bounds args)
  needs_of_step (Tests e) = needs_logical e
  needs_of_step (Chooses e ranges) = needs_integer e ++ (flat_map (case_fault (kind entity e)) (flat_map values_of ranges) ++ overlapping ranges)
  needs_of_step (Repeats head mark) = flat_map needs_integer (in_head head)

  abbrev pub kind_faults_in_step : Step → List Place
  kind_faults_in_step step =
      needs_of_step step
      ++ (flat_map kind_faults_of_part (parts_of step) ++ flat_map kind_fault_of_actual (flat_map (actuals entity) (sites entity step)))

abbrev pub kind_faults_in_scope : plain.Program → Scope → List Place
kind_faults_in_scope q (Of_unit u) =
    let entity = entity_in q (Of_unit u) in
    kind_faults_of_decls (Of_unit u) entity u.decls
    ++ (literals_in (defined_bounds u.marks) ++ flat_map (λ s. kind_faults_in_step entity s.step) (steps_of u))
kind_faults_in_scope q (Of_module n m) = kind_faults_of_decls (Of_module n m) (entity_in q (Of_module n m)) m.decls

-- E32: a literal, also in `define`, whose number isn't in its kind; a value or case not in its kind; INTEGER where LOGICAL is
-- needed or the reverse; an actual's kind isn't the dummy's; a wrong second argument of INT; arguments of one intrinsic that
-- differ in kind; a bound's name or literal that isn't allowed; a case's name that is no INTEGER PARAMETER; two cases that
-- overlap.
abbrev pub kind_faults : Program → List Place
kind_faults p = flat_map (kind_faults_in_scope (bare_program p)) (scopes p)
