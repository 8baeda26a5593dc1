-- Units: what their names mean in an activation, and what they do when they are called.
use Rattle.std.specs.Prelude.{ℕ, zero, suc, ℤ, pos, ◌+ℤ◌, ◌-ℤ◌, int_lt, List, [], ◌∷◌, ◌++◌, map, length, Option, Some, None, Bool, true, false, ◌&&◌, ◌||◌, not, if◌then◌else◌, is_some, is_none, slice_get, ⊤}
use Rattle.std.specs.List.{list_any, find, position}
use Rattle.std.specs.Str.{bytes_eq}
use Rattle.fort_arith.specs.declared.kind.Kind.{Kind}
use Rattle.fort_arith.specs.declared.kind.Kind.TheVariants.{I4}
use Rattle.fort_arith.specs.declared.op.Op.{Op}
use Rattle.fort_arith.specs.declared.op.Op.TheVariants.{Pow, Mul, Div, Add, Sub, Eq, Ne, Lt, Le, Gt, Ge, And, Or, Eqv, Neqv}
use Rattle.fort_tree.specs.declared.expr.Unary.{Unary}
use Rattle.fort_tree.specs.declared.expr.Unary.TheVariants.{Plus, Minus, Not}
use Rattle.fort_tree.specs.declared.unit.Intent.{Intent}
use Rattle.fort_tree.specs.declared.unit.Intent.TheVariants.{In, Out, InOut}
use Rattle.fort_tree.specs.declared.stmt.DirectiveWord.{DirectiveWord}
use Rattle.fort_tree.specs.declared.stmt.DirectiveWord.TheVariants.{Define, Parallelize, Forward, Fusion, Interchange, Hoist, EndHoist, Transform, EndTransform, Cache, Column, OpenMpLoop, OpenAccLoop, Routine}
use Rattle.courses.specs.Element.{Value, Undefined, Whole, Truth, Element, nobody}
use Rattle.courses.specs.Frames.{places}
use Rattle.courses.specs.Copying.{with_values, stored}
use Rattle.courses.specs.Interaction.{Note, Makes}
use Rattle.courses.specs.Course.{Sort, Nothing, Way, Many, Item, Signal, Answer, Course, Give, Fail, Tell, and_then}
use Rattle.claw_meaning.specs.Syntax.{Text, Expr, Numeral, Boolean, Name, Reference, Signed, Binary, Paren, Dimension, Decl, Directive, Unit, Module, Program}
use Rattle.claw_meaning.specs.Scope.{Entity, Unknown, Variable, Constant, Procedure, visible, module_gives, decl_named, unit_named}
use Rattle.claw_meaning.specs.Kinds.{kind_of_entity, result_name}
use Rattle.claw_meaning.specs.Scene.{Bounds, Meant, Unmeant, Held, Known, Called, Dummy, Passed, Callee, Scene}
use Rattle.claw_meaning.specs.Evaluation.{is_in, same_shape, whole_shape}
use Rattle.claw_meaning.specs.Statements.{meanings, whole_of, elements_of}

-- Column units: a subroutine with `define dimension` and `parallelize`

abbrev pub is_word_define : DirectiveWord → Bool
is_word_define Define = true
is_word_define other = false

abbrev pub is_word_parallelize : DirectiveWord → Bool
is_word_parallelize Parallelize = true
is_word_parallelize other = false

abbrev pub directive_of : (DirectiveWord → Bool) → List Directive → Option Directive
directive_of is ds = find (λ d. is d.word) ds

abbrev pub is_column_unit : Unit → Bool
is_column_unit u = is_some (directive_of is_word_define u.marks) && is_some (directive_of is_word_parallelize u.marks)

abbrev pub is_listed : List Text → Text → Bool
is_listed xs x = list_any (λ y. bytes_eq y x) xs

abbrev pub is_intent_in : Option Intent → Bool
is_intent_in None = false
is_intent_in (Some i) = is_in i

abbrev pub has_dimensions : List Dimension → Bool
has_dimensions [] = false
has_dimensions (d ∷ ds) = true

abbrev pub is_array_decl : Decl → Bool
is_array_decl d = has_dimensions d.shape

abbrev pub is_scalar_in : Option Decl → Bool
is_scalar_in None = false
is_scalar_in (Some d) = is_intent_in d.intent && not (is_array_decl d)

-- With `data` the column dummies are those that it lists, without it all but the scalar IN ones.
abbrev pub is_column_of : List Text → Unit → Text → Bool
is_column_of [] u x = not (is_scalar_in (decl_named u.decls x))
is_column_of (y ∷ ys) u x = is_listed (y ∷ ys) x

abbrev pub data_of : Option Directive → List Text
data_of None = []
data_of (Some d) = d.names

abbrev pub is_column_dummy : Unit → Text → Bool
is_column_dummy u x = is_column_unit u && (is_listed u.dummies x && is_column_of (data_of (directive_of is_word_parallelize u.marks)) u x)

-- Dummies

abbrev pub intent_or_in : Option Intent → Intent
intent_or_in None = In
intent_or_in (Some i) = i

abbrev pub dummy_of : Unit → Text → Option Decl → Dummy
dummy_of u x None = record { name = x; kind = I4; intent = In; is_array = false; is_column = is_column_dummy u x }
dummy_of u x (Some d) = record { name = x; kind = d.kind; intent = intent_or_in d.intent; is_array = is_array_decl d; is_column = is_column_dummy u x }

abbrev pub dummies_of : Unit → List Dummy
dummies_of u = map (λ x. dummy_of u x (decl_named u.decls x)) u.dummies

-- Bounds

abbrev pub raised : Option ℤ → ℤ → Option ℤ
raised None by = None
raised (Some n) by = Some (n +ℤ by)

-- The value of a bound: a literal with a sign or none, an INTEGER PARAMETER or a scalar IN dummy, or such a name plus or
-- minus a literal. It is computed exactly.
abbrev pub bound_value : (Text → Option ℤ) → Expr → Option ℤ
bound_value known (Numeral n suffix) = Some (pos n)
bound_value known (Signed Minus (Numeral n suffix)) = Some (pos 0 -ℤ pos n)
bound_value known (Name x) = known x
bound_value known (Binary Add (Name x) (Numeral n suffix)) = raised (known x) (pos n)
bound_value known (Binary Sub (Name x) (Numeral n suffix)) = raised (known x) (pos 0 -ℤ pos n)
bound_value known other = None

abbrev pub or_number : ℤ → Option ℤ → ℤ
or_number n None = n
or_number n (Some m) = m

-- a lower bound that isn't given is 1
abbrev pub lower_value : (Text → Option ℤ) → Option Expr → ℤ
lower_value known None = pos 1
lower_value known (Some e) = or_number (pos 1) (bound_value known e)

-- an upper bound that isn't given follows from the actual argument's extent
abbrev pub upper_value : (Text → Option ℤ) → ℤ → ℕ → Option Expr → ℤ
upper_value known lower extent None = (lower +ℤ pos extent) -ℤ pos 1
upper_value known lower extent (Some e) = or_number lower (bound_value known e)

abbrev pub first_extent : List ℕ → ℕ
first_extent [] = 0
first_extent (n ∷ ns) = n

abbrev pub other_extents : List ℕ → List ℕ
other_extents [] = []
other_extents (n ∷ ns) = ns

-- the bounds as they are declared, those of an assumed shape by the extents of the actual argument
abbrev pub declared_bounds : (Text → Option ℤ) → List Dimension → List ℕ → Bounds
declared_bounds known [] ns = []
declared_bounds known (d ∷ ds) ns =
    let lower = lower_value known d.lower in
    (lower, upper_value known lower (first_extent ns) d.upper) ∷ declared_bounds known ds (other_extents ns)

-- where an upper bound is smaller, the lower one less 1 stands in its place
abbrev pub raised_upper : ℤ × ℤ → ℤ × ℤ
raised_upper b = (b.0, if int_lt b.1 (b.0 -ℤ pos 1) then b.0 -ℤ pos 1 else b.1)

abbrev pub bounds_from : Bounds → Bounds
bounds_from bs = map raised_upper bs

-- Names

abbrev pub constant_value : Option Expr → Value
constant_value None = Undefined
constant_value (Some (Numeral n suffix)) = Whole (pos n)
constant_value (Some (Signed Minus (Numeral n suffix))) = Whole (pos 0 -ℤ pos n)
constant_value (Some (Boolean b)) = Truth b
constant_value (Some other) = Undefined

abbrev pub constant_whole : Entity → Option ℤ
constant_whole (Constant d) = whole_of (constant_value d.value)
constant_whole other = None

-- a name in a bound of a module's declaration: a PARAMETER that is visible in the module
abbrev pub known_in_module : Program → Text → Text → Option ℤ
known_in_module p m x = constant_whole (module_gives p m x)

abbrev pub known_here : (Text → Option ℤ) → Entity → Text → Option ℤ
known_here values (Constant d) x = constant_whole (Constant d)
known_here values other x = values x

-- a name in a bound of a unit's declaration: a PARAMETER that is visible in the unit, or a scalar IN dummy with this value
abbrev pub known_in_unit : Program → Unit → (Text → Option ℤ) → Text → Option ℤ
known_in_unit p u values x = known_here values (visible p u x) x

-- what an activation of a unit is given: the values of its scalar IN dummies, and the extents of its array dummies
pub record Given : Type 0 where
  pub value : Text → Option ℤ
  pub extents : Text → List ℕ

abbrev pub bounds_of_own : Program → Unit → Given → Decl → Bounds
bounds_of_own p u given d = declared_bounds (known_in_unit p u given.value) d.shape (given.extents d.name)

abbrev pub bounds_of_module : Program → Text → Decl → Bounds
bounds_of_module p m d = declared_bounds (known_in_module p m) d.shape []

abbrev pub meant_by : Program → Unit → Given → Entity → Meant
meant_by p u given Unknown = Unmeant
meant_by p u given (Variable home d) =
    Held (record { home = home; name = d.name; kind = d.kind; bounds = bounds_from (if bytes_eq home u.name then bounds_of_own p u given d else bounds_of_module p home d) })
meant_by p u given (Constant d) = Known d.kind (constant_value d.value)
meant_by p u given (Procedure v) = Called v.name (kind_of_entity (Procedure v))

abbrev pub scene_of : Program → (Text → Callee) → Unit → Given → Scene
scene_of p callee u given = record { meant = λ x. meant_by p u given (visible p u x); callee = callee }

-- Calls

abbrev pub first_whole_of : List Value → Option ℤ
first_whole_of [] = None
first_whole_of (v ∷ vs) = whole_of v

-- what the actual arguments give an activation
abbrev pub values_given : List Dummy → List Passed → Text → Option ℤ
values_given [] ps x = None
values_given (d ∷ ds) [] x = None
values_given (d ∷ ds) (p ∷ ps) x = if bytes_eq d.name x then (if is_in d.intent && not d.is_array then first_whole_of p.values else None) else values_given ds ps x

abbrev pub extents_given : List Dummy → List Passed → Text → List ℕ
extents_given [] ps x = []
extents_given (d ∷ ds) [] x = []
extents_given (d ∷ ds) (p ∷ ps) x = if bytes_eq d.name x then p.extents else extents_given ds ps x

abbrev pub given_by_actuals : List Dummy → List Passed → Given
given_by_actuals ds ps = record { value = values_given ds ps; extents = extents_given ds ps }

-- the elements of a unit's own variable
abbrev pub own_elements : Scene → Text → List Element
own_elements c x = elements_of (c.meant x)

-- an explicit-shape dummy has the extents of its actual
abbrev pub fits : Scene → List Dummy → List Passed → Bool
fits c [] ps = true
fits c (d ∷ ds) [] = true
fits c (d ∷ ds) (p ∷ ps) = same_shape (whole_shape (c.meant d.name)) p.extents && fits c ds ps

-- the dummies hold what is copied in; nothing is copied in for an OUT dummy
abbrev pub copied_in : {s : Sort} → Scene → List Dummy → List Passed → Course s → Course s
copied_in c [] ps r = r
copied_in c (d ∷ ds) [] r = r
copied_in c (d ∷ ds) (p ∷ ps) r = stored (own_elements c d.name) p.values (copied_in c ds ps r)

abbrev pub given_out : Scene → List Dummy → List Element
given_out c [] = []
given_out c (d ∷ ds) = (if is_in d.intent then [] else own_elements c d.name) ++ given_out c ds

abbrev pub results_of : Scene → Unit → Option Text → List Element
results_of c u None = given_out c (dummies_of u)
results_of c u (Some result) = own_elements c result

-- a function gives its result, another unit what its OUT and INOUT dummies hold
abbrev pub results : Scene → Unit → List Element
results c u = results_of c u u.result

abbrev pub with_all : List Element → Course (Many Item)
with_all es = with_values es (λ vs. Give {k = Many Item} vs)

-- the arrays of a unit, with their bounds as they are declared, are made before its first statement
abbrev pub making : {s : Sort} → Program → Unit → Given → List Decl → Course s → Course s
making p u given [] r = r
making p u given (d ∷ ds) r = Tell (Makes (bounds_of_own p u given d)) (making p u given ds r)

abbrev pub body_course : Program → (Text → Callee) → Unit → Given → Course Way
body_course p callee u given = making p u given u.decls (meanings (scene_of p callee u given) u.body)

abbrev pub entered : Program → (Text → Callee) → Unit → List Passed → Course (Many Item)
entered p callee u ps =
    let given = given_by_actuals (dummies_of u) ps in
    let c = scene_of p callee u given in
    if fits c (dummies_of u) ps then copied_in c (dummies_of u) ps (and_then (body_course p callee u given) (λ g. with_all (results c u))) else Fail

abbrev pub callee_of : Program → (Text → Callee) → Unit → Callee
callee_of p callee u = record { dummies = dummies_of u; owns = λ e. bytes_eq e.home u.name; course = entered p callee u }

abbrev pub no_callee : Callee
no_callee = record { dummies = []; owns = nobody; course = λ ps. Fail {k = Many Item} }

abbrev pub callee_or_none : Program → (Text → Callee) → Option Unit → Callee
callee_or_none p callee None = no_callee
callee_or_none p callee (Some u) = callee_of p callee u

-- the units of a program as they are called, to this depth of calls
abbrev pub callees_to : Program → ℕ → Text → Callee
callees_to p zero x = no_callee
callees_to p (suc depth) x = callee_or_none p (callees_to p depth) (unit_named p x)

-- calls that form no cycle are no deeper than the units are many
abbrev pub callees : Program → Text → Callee
callees p = callees_to p (length p.units)
