-- What statements do.
use Rattle.std.specs.Prelude.{ℕ, zero, suc, ℤ, pos, negsuc, ◌+ℤ◌, ◌-ℤ◌, ◌*ℤ◌, int_le, int_div, List, [], ◌∷◌, ◌++◌, map, flat_map, Option, Some, None, Bool, true, false, ◌&&◌, ◌||◌, if◌then◌else◌}
use Rattle.std.specs.Ordering.{int_eq}
use Rattle.std.specs.List.{list_all, list_any}
use Rattle.fort_arith.specs.declared.kind.Kind.{Kind}
use Rattle.fort_arith.specs.declared.op.Op.{Op}
use Rattle.fort_tree.specs.declared.expr.Unary.{Unary}
use Rattle.fort_tree.specs.declared.expr.Unary.TheVariants.{Plus, Minus, Not}
use Rattle.fort_tree.specs.declared.stmt.DirectiveWord.{DirectiveWord}
use Rattle.fort_tree.specs.declared.stmt.DirectiveWord.TheVariants.{Define, Parallelize, Forward, Fusion, Interchange, Hoist, EndHoist, Transform, EndTransform, Cache, Column, OpenMpLoop, OpenAccLoop, Routine}
use Rattle.courses.specs.Element.{Value, Undefined, Whole, Truth, Element}
use Rattle.courses.specs.Interaction.{Note, Turn}
use Rattle.courses.specs.Frames.{places}
use Rattle.courses.specs.Copying.{wiped, stored, among}
use Rattle.courses.specs.Course.{Sort, Nothing, Way, Many, Item, Signal, Normal, Exits, Cycles, Returns, Answer, Course, Give, Fail, Put, Tell, Loop, Scope, and_then}
use Rattle.claw_meaning.specs.Syntax.{Text, Expr, Numeral, Boolean, Name, Reference, Signed, Binary, Paren, Subscripts, Head, Range, Single, Span, Directive, Stmt, Assign, Call, If, Select, Do, Block, Piece, Exit, Cycle, Return, Stmts, Done, Then, Arms, No_arm, Arm, Cases, No_case, Case, Otherwise, Nothing_else, Else}
use Rattle.claw_meaning.specs.Scene.{Bounds, Variable, Meant, Unmeant, Held, Known, Called, Dummy, Passed, Callee, Scene, kind_meant, bounds_meant, element}
use Rattle.claw_meaning.specs.Evaluation.{kind_in, with_whole, with_truth, with_exact, converted, is_scalar, shapes, shape_among, agree, offsets_of, value, place, arguments, settled, all_settled, is_in}

-- Assignment

-- an element and the value that it gets
pub record Stored : Type 0 where
  pub at : Element
  pub gets : Value

-- The right side is evaluated, and then the left side's subscripts; the value is converted to the left side's kind.
abbrev pub one_assigned : {s : Sort} → Scene → Expr → Expr → List ℤ → (Stored → Course s) → Course s
one_assigned c left right offsets g =
    and_then (value c right offsets) (λ v. place c left offsets (λ e. converted (kind_in c left) v (λ w. g (record { at = e; gets = w }))))

abbrev pub all_assigned : {s : Sort} → Scene → Expr → Expr → List (List ℤ) → (List Stored → Course s) → Course s
all_assigned c left right [] g = g []
all_assigned c left right (o ∷ os) g = one_assigned c left right o (λ x. all_assigned c left right os (λ xs. g (x ∷ xs)))

abbrev pub put_stored : List Stored → Course Way
put_stored xs = stored (map (λ x. x.at) xs) (map (λ x. x.gets) xs) (Give {k = Way} Normal)

-- All array operands have one shape. All elements are evaluated, in element order, before any is stored. A scalar right
-- side spreads.
abbrev pub array_assigned : Scene → Expr → Expr → List ℕ → Course Way
array_assigned c left right shape = if agree (shape ∷ shapes c right) then all_assigned c left right (offsets_of shape) put_stored else Fail

abbrev pub assigned : Scene → Expr → Expr → List ℕ → Course Way
assigned c left right [] = one_assigned c left right [] (λ x. put_stored (x ∷ []))
assigned c left right (n ∷ ns) = array_assigned c left right (n ∷ ns)

abbrev pub assignment : Scene → Expr → Expr → Course Way
assignment c left right = settled c left (λ l. settled c right (λ r. assigned c l r (shape_among (shapes c l))))

-- Control

-- goes on after a statement of a list
abbrev pub then_run : Signal → Course Way → Course Way
then_run Normal r = r
then_run Exits r = Give {k = Way} Exits
then_run Cycles r = Give {k = Way} Cycles
then_run Returns r = Give {k = Way} Returns

-- goes on after a turn of a DO
abbrev pub after_turn : Signal → Course Way → Course Way
after_turn Normal r = r
after_turn Exits r = Give {k = Way} Normal
after_turn Cycles r = r
after_turn Returns r = Give {k = Way} Returns

abbrev pub chosen : Bool → Course Way → Course Way → Course Way
chosen true this other = this
chosen false this other = other

-- an expression that is a statement for the bounds of its sections, such as the test of an IF
abbrev pub tested : Scene → Expr → (Bool → Course Way) → Course Way
tested c e g = settled c e (λ other. and_then (value c other []) (λ v. with_truth v g))

-- the number of turns of a DO, exactly
abbrev pub not_below_zero : ℤ → ℕ
not_below_zero (pos n) = n
not_below_zero (negsuc n) = 0

abbrev pub trips : ℤ → ℤ → ℤ → ℕ
trips m1 m2 m3 = not_below_zero (int_div ((m2 -ℤ m1) +ℤ m3) m3)

-- The turns of a DO: the variable has this value in the next one, and grows by this step.
abbrev pub turns : Element → ℕ → ℤ → ℤ → Course Way → Course Way
turns e zero at by r = Give {k = Way} Normal
turns e (suc n) at by r = Tell Turn (Put e (Whole at) (and_then r (λ g. after_turn g (turns e n (at +ℤ by) by r))))

-- after its turns the variable of a DO is undefined
abbrev pub counted : Element → ℤ → ℤ → ℤ → Course Way → Course Way
counted e m1 m2 m3 r = and_then (turns e (trips m1 m2 m3) m1 m3 r) (λ g. Put e Undefined (Give {k = Way} g))

-- An iteration of a marked loop: the private list is undefined first, then the variable is set.
abbrev pub iteration : Element → List Element → ℤ → ℤ → Course Way → ℕ → Course Nothing
iteration e privates m1 m3 r i = Tell Turn (wiped privates (Put e (Whole (m1 +ℤ (pos i *ℤ m3))) (and_then r (λ g. Give {k = Nothing} tt))))

-- A marked loop: its iterations run in any order. Its variable and its private list are each iteration's own, and are
-- undefined after it.
abbrev pub marked : Element → List Element → ℤ → ℤ → ℤ → Course Way → Course Way
marked e privates m1 m2 m3 r =
    Loop (trips m1 m2 m3) (among (e ∷ privates)) (iteration e privates m1 m3 r) (wiped (e ∷ privates) (Give {k = Way} Normal))

abbrev pub looped : Option (List Element) → Element → ℤ → ℤ → ℤ → Course Way → Course Way
looped None e m1 m2 m3 r = if int_eq m3 (pos 0) then Fail else counted e m1 m2 m3 r
looped (Some privates) e m1 m2 m3 r = if int_eq m3 (pos 0) then Fail else marked e privates m1 m2 m3 r

-- a loop is marked by a line of OpenMP or OpenACC, or by the compiler itself
abbrev pub is_mark : DirectiveWord → Bool
is_mark Column = true
is_mark OpenMpLoop = true
is_mark OpenAccLoop = true
is_mark Define = false
is_mark Parallelize = false
is_mark Forward = false
is_mark Fusion = false
is_mark Interchange = false
is_mark Hoist = false
is_mark EndHoist = false
is_mark Transform = false
is_mark EndTransform = false
is_mark Cache = false
is_mark Routine = false

-- all elements of a variable
abbrev pub elements_of : Meant → List Element
elements_of (Held v) = map (λ is. element v is) (places v.bounds)
elements_of other = []

abbrev pub privates_of : Scene → Option Directive → Option (List Element)
privates_of c None = None
privates_of c (Some d) = if is_mark d.word then Some (flat_map (λ x. elements_of (c.meant x)) d.names) else None

abbrev pub with_scalar : Meant → (Element → Kind → Course Way) → Course Way
with_scalar (Held v) g = g (element v []) v.kind
with_scalar other g = Fail

abbrev pub step_settled : Scene → Option Expr → (Option Expr → Course Way) → Course Way
step_settled c None g = g None
step_settled c (Some e) g = settled c e (λ other. g (Some other))

abbrev pub step_value : Scene → Option Expr → (Value → Course Way) → Course Way
step_value c None g = g (Whole (pos 1))
step_value c (Some e) g = and_then (value c e []) g

-- goes on with the three numbers of a DO: all are evaluated, and then converted to the variable's kind
abbrev pub bounds_converted : Kind → Value → Value → Value → (ℤ → ℤ → ℤ → Course Way) → Course Way
bounds_converted kind a b d g =
    converted kind a (λ a'. converted kind b (λ b'. converted kind d (λ d'. with_whole a' (λ m1. with_whole b' (λ m2. with_whole d' (λ m3. g m1 m2 m3))))))

abbrev pub head_evaluated : Scene → Kind → Head → (ℤ → ℤ → ℤ → Course Way) → Course Way
head_evaluated c kind h g =
    settled c h.from (λ from. settled c h.to (λ to. step_settled c h.step (λ step.
    and_then (value c from []) (λ a. and_then (value c to []) (λ b. step_value c step (λ d. bounds_converted kind a b d g))))))

abbrev pub loop : Scene → Head → Option Directive → Course Way → Course Way
loop c h mark r = with_scalar (c.meant h.variable) (λ e kind. head_evaluated c kind h (λ m1 m2 m3. looped (privates_of c mark) e m1 m2 m3 r))

-- The value of a case: a literal with a sign or none, or a PARAMETER.
abbrev pub whole_of : Value → Option ℤ
whole_of Undefined = None
whole_of (Whole n) = Some n
whole_of (Truth b) = None

abbrev pub known_whole : Meant → Option ℤ
known_whole (Known kind v) = whole_of v
known_whole other = None

abbrev pub case_value : Scene → Expr → Option ℤ
case_value c (Numeral n suffix) = Some (pos n)
case_value c (Signed Minus (Numeral n suffix)) = Some (pos 0 -ℤ pos n)
case_value c (Name x) = known_whole (c.meant x)
case_value c other = None

abbrev pub at_least : Option ℤ → ℤ → Bool
at_least None n = false
at_least (Some m) n = int_le m n

abbrev pub at_most : Option ℤ → ℤ → Bool
at_most None n = false
at_most (Some m) n = int_le n m

abbrev pub from_lower : Scene → Option Expr → ℤ → Bool
from_lower c None n = true
from_lower c (Some e) n = at_least (case_value c e) n

abbrev pub to_upper : Scene → Option Expr → ℤ → Bool
to_upper c None n = true
to_upper c (Some e) n = at_most (case_value c e) n

abbrev pub holds : Scene → ℤ → Range → Bool
holds c n (Single e) = at_least (case_value c e) n && at_most (case_value c e) n
holds c n (Span lower upper) = from_lower c lower n && to_upper c upper n

-- A call by copy: what the OUT and INOUT dummies hold at the end goes back, left to right, to the elements that the actuals
-- named at the call.
abbrev pub written_back : List Dummy → List Passed → List Element
written_back [] ps = []
written_back (d ∷ ds) [] = []
written_back (d ∷ ds) (p ∷ ps) = (if is_in d.intent then [] else p.elements) ++ written_back ds ps

abbrev pub subroutine_called : Callee → List Passed → Course Way
subroutine_called f ps = Scope f.owns (f.course ps) (λ vs. stored (written_back f.dummies ps) vs (Give {k = Way} Normal))

abbrev pub called : Scene → Meant → Subscripts → Course Way
called c (Called unit kind) args = all_settled c args [] (λ actuals. arguments c actuals (c.callee unit).dummies (subroutine_called (c.callee unit)))
called c other args = Fail

module _ (c : Scene) where
  abbrev mutual
    pub meaning : Stmt → Course Way
    meaning (Assign left right) = Tell Turn (assignment c left right)
    meaning (Call x args forward) = Tell Turn (called c (c.meant x) args)
    meaning (If arms other) = Tell Turn (first_true arms (meaning_otherwise other))
    meaning (Select e cases other) =
        Tell Turn (settled c e (λ selected. and_then (value c selected []) (λ v. with_whole v (λ n. first_holding cases n (meaning_otherwise other)))))
    meaning (Do h body mark) = Tell Turn (loop c h mark (meanings body))
    meaning (Block d body) = meanings body
    meaning (Piece body) = meanings body
    meaning Exit = Tell Turn (Give {k = Way} Exits)
    meaning Cycle = Tell Turn (Give {k = Way} Cycles)
    meaning Return = Tell Turn (Give {k = Way} Returns)

    pub meanings : Stmts → Course Way
    meanings Done = Give {k = Way} Normal
    meanings (Then s rest) = and_then (meaning s) (λ g. then_run g (meanings rest))

    -- the arm of the first test that is true, and else this
    pub first_true : Arms → Course Way → Course Way
    first_true No_arm other = other
    first_true (Arm test body rest) other = tested c test (λ b. chosen b (meanings body) (first_true rest other))

    -- the case that holds the number, and else this
    pub first_holding : Cases → ℤ → Course Way → Course Way
    first_holding No_case n other = other
    first_holding (Case ranges body rest) n other = if list_any (holds c n) ranges then meanings body else first_holding rest n other

    pub meaning_otherwise : Otherwise → Course Way
    meaning_otherwise Nothing_else = Give {k = Way} Normal
    meaning_otherwise (Else body) = meanings body
