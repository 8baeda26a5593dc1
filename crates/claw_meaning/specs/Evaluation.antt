-- What an expression gives. An array expression is evaluated element by element: at the distances of the element from the
-- first one, in each dimension. The bounds of the sections of a statement are evaluated before all else in it.
use Rattle.std.specs.Prelude.{ℕ, zero, suc, ℤ, pos, negsuc, ◌+ℤ◌, ◌-ℤ◌, List, [], ◌∷◌, ◌++◌, map, Option, Some, None, Bool, true, false, ◌&&◌, ◌||◌, not, if◌then◌else◌, is_none, slice_get}
use Rattle.std.specs.List.{list_all}
use Rattle.std.specs.Cmp.Lexicographic.{pointwise}
use Rattle.std.specs.Prelude.{nat_eq}
use Rattle.fort_arith.specs.declared.kind.Kind.{Kind}
use Rattle.fort_arith.specs.declared.kind.Kind.TheVariants.{I4}
use Rattle.fort_arith.specs.declared.op.Op.{Op}
use Rattle.fort_arith.specs.declared.op.Op.TheVariants.{Pow, Mul, Div, Add, Sub, Eq, Ne, Lt, Le, Gt, Ge, And, Or, Eqv, Neqv}
use Rattle.fort_arith.specs.declared.op.Intrinsic.{Intrinsic}
use Rattle.fort_arith.specs.declared.op.Intrinsic.TheVariants.{Abs, Int, Max, Min, Mod, Modulo, Sign, Size, Sum}
use Rattle.fort_arith.specs.Range.{fitted}
use Rattle.fort_arith.specs.Operators.{is_arithmetic, is_relation, applied, compared}
use Rattle.fort_arith.specs.Intrinsics.{intrinsic_applied}
use Rattle.fort_tree.specs.declared.expr.Unary.{Unary}
use Rattle.fort_tree.specs.declared.expr.Unary.TheVariants.{Plus, Minus, Not}
use Rattle.fort_tree.specs.declared.unit.Intent.{Intent}
use Rattle.fort_tree.specs.declared.unit.Intent.TheVariants.{In, Out, InOut}
use Rattle.fort_tree.specs.Intrinsic.{intrinsic_named}
use Rattle.courses.specs.Element.{Value, Undefined, Whole, Truth, Element}
use Rattle.courses.specs.Ranges.{extent}
use Rattle.courses.specs.Frames.{places}
use Rattle.courses.specs.Copying.{with_values}
use Rattle.courses.specs.Course.{Sort, Number, Item, Way, Many, Answer, Course, Give, Fail, Get, Scope, and_then}
use Rattle.claw_meaning.specs.Syntax.{Text, Expr, Numeral, Boolean, Name, Reference, Signed, Binary, Paren, Subscripts, No_more, At, Section, Between, Limit, Unbounded, Bounded}
use Rattle.claw_meaning.specs.Kinds.{kind_of, kind_of_reference, kind_of_first}
use Rattle.claw_meaning.specs.Scene.{Bounds, Variable, Meant, Unmeant, Held, Known, Called, Dummy, Passed, Callee, Scene, kind_meant, bounds_meant, extents, within, element, moved, from_zero}

abbrev pub kind_in : Scene → Expr → Kind
kind_in c e = kind_of (λ x. kind_meant (c.meant x)) e

-- Values

-- a value that is read must be defined
abbrev pub defined : Value → Course Item
defined Undefined = Fail
defined (Whole n) = Give (Whole n)
defined (Truth b) = Give (Truth b)

-- goes on with a whole number
abbrev pub with_whole : {s : Sort} → Value → (ℤ → Course s) → Course s
with_whole Undefined g = Fail
with_whole (Whole n) g = g n
with_whole (Truth b) g = Fail

-- goes on with a truth value
abbrev pub with_truth : {s : Sort} → Value → (Bool → Course s) → Course s
with_truth Undefined g = Fail
with_truth (Whole n) g = Fail
with_truth (Truth b) g = g b

-- goes on with an exact value that exists and is in its kind
abbrev pub with_exact : {s : Sort} → Option ℤ → (ℤ → Course s) → Course s
with_exact None g = Fail
with_exact (Some n) g = g n

abbrev pub given_whole : ℤ → Course Item
given_whole n = Give (Whole n)

abbrev pub given_truth : Bool → Course Item
given_truth b = Give (Truth b)

-- a value as the kind of what it is assigned to
abbrev pub converted : {s : Sort} → Kind → Value → (Value → Course s) → Course s
converted kind Undefined g = Fail
converted kind (Whole n) g = with_exact (fitted kind n) (λ m. g (Whole m))
converted kind (Truth b) g = g (Truth b)

abbrev pub with_sign : Unary → Kind → Value → Course Item
with_sign Plus kind v = with_whole v given_whole
with_sign Minus kind v = with_whole v (λ n. with_exact (fitted kind (pos 0 -ℤ n)) given_whole)
with_sign Not kind v = with_truth v (λ b. given_truth (not b))

abbrev pub both_ways : Bool → Bool → Bool
both_ways true b = b
both_ways false b = not b

abbrev pub logical : Op → Bool → Bool → Bool
logical And a b = a && b
logical Or a b = a || b
logical Eqv a b = both_ways a b
logical Neqv a b = not (both_ways a b)
logical Pow a b = false
logical Mul a b = false
logical Div a b = false
logical Add a b = false
logical Sub a b = false
logical Eq a b = false
logical Ne a b = false
logical Lt a b = false
logical Le a b = false
logical Gt a b = false
logical Ge a b = false

-- an operation on two values, in the kind of its result; both operands have been evaluated
abbrev pub operated : Op → Kind → Value → Value → Course Item
operated op kind a b =
    if is_arithmetic op then with_whole a (λ m. with_whole b (λ n. with_exact (applied op kind m n) given_whole))
    else (if is_relation op then with_whole a (λ m. with_whole b (λ n. given_truth (compared op m n)))
    else with_truth a (λ m. with_truth b (λ n. given_truth (logical op m n))))

-- References

-- the element at these subscripts, which must lie within the bounds
abbrev pub checked : {s : Sort} → Variable → List ℤ → (Element → Course s) → Course s
checked v is g = if within v.bounds is then g (element v is) else Fail

abbrev pub read : Variable → List ℤ → Course Item
read v is = checked v is (λ e. Get e defined)

-- a name without parentheses: a scalar, an array's element at these distances from its first, or a PARAMETER
abbrev pub named : Meant → List ℤ → Course Item
named Unmeant offsets = Fail
named (Held v) offsets = read v (moved v.bounds offsets)
named (Known kind value) offsets = defined value
named (Called unit kind) offsets = Fail

-- goes on with the element that a name is at these distances
abbrev pub named_place : {s : Sort} → Meant → List ℤ → (Element → Course s) → Course s
named_place Unmeant offsets g = Fail
named_place (Held v) offsets g = checked v (moved v.bounds offsets) g
named_place (Known kind value) offsets g = Fail
named_place (Called unit kind) offsets g = Fail

-- goes on with the element that a reference names, its subscripts being evaluated by this
abbrev pub indexed_place : {s : Sort} → Meant → Course (Many Number) → (Element → Course s) → Course s
indexed_place Unmeant subscripts g = Fail
indexed_place (Held v) subscripts g = and_then subscripts (λ is. checked v is g)
indexed_place (Known kind value) subscripts g = Fail
indexed_place (Called unit kind) subscripts g = Fail

-- Shapes: the extents of arrays. They need no evaluation once the bounds of sections are evaluated.

abbrev pub is_scalar : List ℕ → Bool
is_scalar [] = true
is_scalar (n ∷ ns) = false

abbrev pub same_shape : List ℕ → List ℕ → Bool
same_shape a b = pointwise nat_eq a b

-- the shapes of the array operands that these are
abbrev pub array_shapes : List ℕ → List (List ℕ)
array_shapes ns = if is_scalar ns then [] else ns ∷ []

-- the extents of the sections among subscripts
abbrev pub spans : Subscripts → List ℕ
spans No_more = []
spans (At e rest) = spans rest
spans (Section lower upper rest) = spans rest
spans (Between m n rest) = extent m n ∷ spans rest

-- the shape of a variable's reference
abbrev pub whole_shape : Meant → List ℕ
whole_shape m = extents (bounds_meant m)

abbrev pub is_held : Meant → Bool
is_held (Held v) = true
is_held other = false

-- ABS, INT, MAX, MIN, MOD, MODULO and SIGN apply to each element of their arguments
abbrev pub is_elemental : Option Intrinsic → Bool
is_elemental None = false
is_elemental (Some Size) = false
is_elemental (Some Sum) = false
is_elemental (Some Abs) = true
is_elemental (Some Int) = true
is_elemental (Some Max) = true
is_elemental (Some Min) = true
is_elemental (Some Mod) = true
is_elemental (Some Modulo) = true
is_elemental (Some Sign) = true

abbrev pub shapes_of_reference : Option Intrinsic → Meant → Subscripts → List (List ℕ) → List (List ℕ)
shapes_of_reference which m subs of_arguments = if is_elemental which then of_arguments else (if is_held m then array_shapes (spans subs) else [])

-- the shapes of an expression's array operands, in the order of the text; arrays inside a SUM, a SIZE, a subscript or the
-- arguments of a user function are none of them
module _ (c : Scene) where
  abbrev mutual
    pub shapes : Expr → List (List ℕ)
    shapes (Numeral n suffix) = []
    shapes (Boolean b) = []
    shapes (Name x) = array_shapes (whole_shape (c.meant x))
    shapes (Reference x subs) = shapes_of_reference (intrinsic_named x) (c.meant x) subs (shapes_of_all subs)
    shapes (Signed sign e) = shapes e
    shapes (Binary op a b) = shapes a ++ shapes b
    shapes (Paren e) = shapes e

    pub shapes_of_all : Subscripts → List (List ℕ)
    shapes_of_all No_more = []
    shapes_of_all (At e rest) = shapes e ++ shapes_of_all rest
    shapes_of_all (Section lower upper rest) = shapes_of_all rest
    shapes_of_all (Between m n rest) = shapes_of_all rest

-- the shape that the operands have, where they all have one; a scalar's where there is none
abbrev pub shape_among : List (List ℕ) → List ℕ
shape_among [] = []
shape_among (ns ∷ rest) = ns

abbrev pub agree : List (List ℕ) → Bool
agree [] = true
agree (ns ∷ rest) = list_all (same_shape ns) rest

-- the distances of a shape's elements from the first, in element order
abbrev pub offsets_of : List ℕ → List (List ℤ)
offsets_of ns = places (from_zero ns)

-- Intrinsic functions

abbrev pub first_argument : Subscripts → Option Expr
first_argument (At e rest) = Some e
first_argument other = None

-- the extent of the dimension that SIZE names, counted from 1; without a number, of the one dimension
abbrev pub dimension_asked : Subscripts → ℕ
dimension_asked (At array (At (Numeral n suffix) rest)) = n
dimension_asked other = 1

abbrev pub extent_asked : Bounds → ℕ → Option ℕ
extent_asked bs zero = None
extent_asked bs (suc d) = slice_get (extents bs) d

abbrev pub array_named : Subscripts → Text
array_named (At (Name x) rest) = x
array_named other = []

abbrev pub with_extent : Option ℕ → Course Item
with_extent None = Fail
with_extent (Some n) = with_exact (fitted I4 (pos n)) given_whole

abbrev pub size : Scene → Subscripts → Course Item
size c subs = with_extent (extent_asked (bounds_meant (c.meant (array_named subs))) (dimension_asked subs))

-- goes on with whole numbers
abbrev pub with_wholes : {s : Sort} → List Value → (List ℤ → Course s) → Course s
with_wholes [] g = g []
with_wholes (v ∷ vs) g = with_whole v (λ n. with_wholes vs (λ ns. g (n ∷ ns)))

abbrev pub elemental_value : Intrinsic → Kind → List ℤ → Option ℤ
elemental_value Int kind [] = None
elemental_value Int kind (n ∷ ns) = fitted kind n
elemental_value Abs kind ns = intrinsic_applied Abs kind ns
elemental_value Max kind ns = intrinsic_applied Max kind ns
elemental_value Min kind ns = intrinsic_applied Min kind ns
elemental_value Mod kind ns = intrinsic_applied Mod kind ns
elemental_value Modulo kind ns = intrinsic_applied Modulo kind ns
elemental_value Sign kind ns = intrinsic_applied Sign kind ns
elemental_value Size kind ns = None
elemental_value Sum kind ns = None

-- an elemental function of whole numbers; INT has the exact value, if it is in the kind that INT names
abbrev pub elemental : Intrinsic → Kind → List Value → Course Item
elemental which kind vs = with_wholes vs (λ ns. with_exact (elemental_value which kind ns) given_whole)

abbrev pub first_value : List Value → Course Item
first_value [] = Fail
first_value (v ∷ vs) = Give v

-- the elements are evaluated and added one after another; it traps at the first sum out of kind
abbrev pub summed : Kind → (List ℤ → Course (Many Item)) → List (List ℤ) → ℤ → Course Item
summed kind at [] total = given_whole total
summed kind at (o ∷ os) total =
    and_then (at o) (λ vs. and_then (first_value vs) (λ v. with_whole v (λ n. with_exact (applied Add kind total n) (λ m. summed kind at os m))))

-- the operands of a SUM have one shape among themselves
abbrev pub sum : Kind → List (List ℕ) → (List ℤ → Course (Many Item)) → Course Item
sum kind operands at = if agree operands then summed kind at (offsets_of (shape_among operands)) (pos 0) else Fail

abbrev pub intrinsic : Scene → Intrinsic → Kind → Subscripts → (List ℤ → Course (Many Item)) → List ℤ → Course Item
intrinsic c Size kind subs at offsets = size c subs
intrinsic c Sum kind subs at offsets = sum kind (shapes_of_all c subs) at
intrinsic c Abs kind subs at offsets = and_then (at offsets) (elemental Abs kind)
intrinsic c Int kind subs at offsets = and_then (at offsets) (elemental Int kind)
intrinsic c Max kind subs at offsets = and_then (at offsets) (elemental Max kind)
intrinsic c Min kind subs at offsets = and_then (at offsets) (elemental Min kind)
intrinsic c Mod kind subs at offsets = and_then (at offsets) (elemental Mod kind)
intrinsic c Modulo kind subs at offsets = and_then (at offsets) (elemental Modulo kind)
intrinsic c Sign kind subs at offsets = and_then (at offsets) (elemental Sign kind)

-- Arguments

-- goes on with the elements at all these distances
abbrev pub gathered : {s : Sort} → (List ℤ → (Element → Course s) → Course s) → List (List ℤ) → (List Element → Course s) → Course s
gathered place [] g = g []
gathered place (o ∷ os) g = place o (λ e. gathered place os (λ es. g (e ∷ es)))

-- a reference to a variable, or to elements of one
abbrev pub is_variable : Scene → Expr → Bool
is_variable c (Name x) = is_held (c.meant x)
is_variable c (Reference x subs) = is_none (intrinsic_named x) && is_held (c.meant x)
is_variable c other = false

abbrev pub is_in : Intent → Bool
is_in In = true
is_in Out = false
is_in InOut = false

abbrev pub is_out : Intent → Bool
is_out In = false
is_out Out = true
is_out InOut = false

-- a scalar IN dummy gets an evaluated value, unless it is a column dummy and the actual a variable
abbrev pub by_value : Dummy → Bool → Bool
by_value d variable = is_in d.intent && (not d.is_array && not (d.is_column && variable))

abbrev pub passed_value : Value → Passed
passed_value v = record { elements = []; extents = []; values = v ∷ [] }

-- the elements are copied in, undefined ones too; of an OUT dummy none is
abbrev pub passed_elements : {s : Sort} → Dummy → List ℕ → List Element → (Passed → Course s) → Course s
passed_elements d shape es g =
    if is_out d.intent then g (record { elements = es; extents = shape; values = [] })
    else with_values es (λ vs. g (record { elements = es; extents = shape; values = vs }))

-- goes on with an actual argument as it is passed
abbrev pub passed : {s : Sort} → Dummy → Bool → List ℕ → Course Item → (List ℤ → (Element → Course s) → Course s) → (Passed → Course s) → Course s
passed d variable shape value place g =
    if by_value d variable then and_then value (λ v. g (passed_value v))
    else gathered place (offsets_of shape) (λ es. passed_elements d shape es g)

-- the result of a function must be defined
abbrev pub function_result : List Value → Course Item
function_result [] = Fail
function_result (v ∷ vs) = defined v

abbrev pub function_called : Callee → List Passed → Course Item
function_called f ps = Scope f.owns (f.course ps) function_result

-- an element, a section's element, a function's result or an intrinsic's
abbrev pub referred : Scene → Meant → Option Intrinsic → Kind → Subscripts → (List ℤ → Course (Many Item)) → Course (Many Number) → (List Dummy → (List Passed → Course Item) → Course Item) → List ℤ → Course Item
referred c m (Some which) kind subs at subscripts arguments offsets = intrinsic c which kind subs at offsets
referred c Unmeant None kind subs at subscripts arguments offsets = Fail
referred c (Held v) None kind subs at subscripts arguments offsets = and_then subscripts (λ is. read v is)
referred c (Known k value) None kind subs at subscripts arguments offsets = Fail
referred c (Called unit k) None kind subs at subscripts arguments offsets = arguments (c.callee unit).dummies (function_called (c.callee unit))

module _ (c : Scene) where
  abbrev mutual
    -- the value at these distances; a scalar's at none
    pub value : Expr → List ℤ → Course Item
    value (Numeral n suffix) offsets = given_whole (pos n)
    value (Boolean b) offsets = given_truth b
    value (Name x) offsets = named (c.meant x) offsets
    value (Reference x subs) offsets =
        referred c (c.meant x) (intrinsic_named x) (kind_in c (Reference x subs)) subs (λ os. values subs os) (subscripts subs offsets) (λ ds g. arguments subs ds g) offsets
    value (Signed sign e) offsets = and_then (value e offsets) (with_sign sign (kind_in c e))
    value (Binary op a b) offsets = and_then (value a offsets) (λ v. and_then (value b offsets) (λ w. operated op (kind_in c (Binary op a b)) v w))
    value (Paren e) offsets = value e offsets

    -- arguments of an elemental function, left to right
    pub values : Subscripts → List ℤ → Course (Many Item)
    values No_more offsets = Give []
    values (At e rest) offsets = and_then (value e offsets) (λ v. and_then (values rest offsets) (λ vs. Give (v ∷ vs)))
    values (Section lower upper rest) offsets = Fail
    values (Between m n rest) offsets = Fail

    -- the subscripts of an element, left to right; a section's is at its distance from the lower bound
    pub subscripts : Subscripts → List ℤ → Course (Many Number)
    subscripts No_more offsets = Give []
    subscripts (At e rest) offsets = and_then (value e []) (λ v. with_whole v (λ i. and_then (subscripts rest offsets) (λ is. Give (i ∷ is))))
    subscripts (Section lower upper rest) offsets = Fail
    subscripts (Between m n rest) [] = Fail
    subscripts (Between m n rest) (o ∷ offsets) = and_then (subscripts rest offsets) (λ is. Give ((m +ℤ o) ∷ is))

    -- goes on with the element that a reference names at these distances
    pub place : {s : Sort} → Expr → List ℤ → (Element → Course s) → Course s
    place (Numeral n suffix) offsets g = Fail
    place (Boolean b) offsets g = Fail
    place (Name x) offsets g = named_place (c.meant x) offsets g
    place (Reference x subs) offsets g = indexed_place (c.meant x) (subscripts subs offsets) g
    place (Signed sign e) offsets g = Fail
    place (Binary op a b) offsets g = Fail
    place (Paren e) offsets g = Fail

    -- goes on with the actual arguments for these dummies, evaluated left to right
    pub arguments : {s : Sort} → Subscripts → List Dummy → (List Passed → Course s) → Course s
    arguments No_more ds g = g []
    arguments (At e rest) [] g = Fail
    arguments (At e rest) (d ∷ ds) g =
        passed d (is_variable c e) (shape_among (shapes c e)) (value e []) (λ os h. place e os h) (λ p. arguments rest ds (λ ps. g (p ∷ ps)))
    arguments (Section lower upper rest) ds g = Fail
    arguments (Between m n rest) ds g = Fail

-- The bounds of a statement's sections are evaluated left to right, lower before upper, those of a section that stands in
-- another's bound or subscript before that one's own; a bound that isn't given is the array's.

abbrev pub first_bounds : Bounds → ℤ × ℤ
first_bounds [] = (pos 1, pos 0)
first_bounds (b ∷ bs) = b

abbrev pub other_bounds : Bounds → Bounds
other_bounds [] = []
other_bounds (b ∷ bs) = bs

module _ (c : Scene) where
  abbrev mutual
    -- goes on with the expression, the bounds of its sections evaluated
    pub settled : {s : Sort} → Expr → (Expr → Course s) → Course s
    settled (Numeral n suffix) g = g (Numeral n suffix)
    settled (Boolean b) g = g (Boolean b)
    settled (Name x) g = g (Name x)
    settled (Reference x subs) g = all_settled subs (bounds_meant (c.meant x)) (λ others. g (Reference x others))
    settled (Signed sign e) g = settled e (λ other. g (Signed sign other))
    settled (Binary op a b) g = settled a (λ left. settled b (λ right. g (Binary op left right)))
    settled (Paren e) g = settled e (λ other. g (Paren other))

    pub all_settled : {s : Sort} → Subscripts → Bounds → (Subscripts → Course s) → Course s
    all_settled No_more bs g = g No_more
    all_settled (At e rest) bs g = settled e (λ other. all_settled rest (other_bounds bs) (λ others. g (At other others)))
    all_settled (Section lower upper rest) bs g =
        limit_settled lower (first_bounds bs).0 (λ m. limit_settled upper (first_bounds bs).1 (λ n. all_settled rest (other_bounds bs) (λ others. g (Between m n others))))
    all_settled (Between m n rest) bs g = all_settled rest (other_bounds bs) (λ others. g (Between m n others))

    pub limit_settled : {s : Sort} → Limit → ℤ → (ℤ → Course s) → Course s
    limit_settled Unbounded declared g = g declared
    limit_settled (Bounded e) declared g = settled e (λ other. and_then (value c other []) (λ v. with_whole v g))
