-- The parts of evaluation and of statements give alike courses, if what they go on with does.
use Rattle.std.proofs.Common.{ℕ, zero, suc, ℤ, pos, ◌+ℤ◌, ◌-ℤ◌, List, [], ◌∷◌, map, Bool, true, false, Option, Some, None}
use Rattle.std.specs.Prelude.{if◌then◌else◌, not}
use Rattle.std.specs.Ordering.{int_eq}
use Rattle.fort_arith.specs.declared.kind.Kind.{Kind}
use Rattle.fort_arith.specs.declared.kind.Kind.TheVariants.{I4}
use Rattle.fort_arith.specs.declared.op.Op.{Op}
use Rattle.fort_arith.specs.declared.op.Op.TheVariants.{Add}
use Rattle.fort_arith.specs.declared.op.Intrinsic.{Intrinsic}
use Rattle.fort_arith.specs.Range.{fitted}
use Rattle.fort_arith.specs.Operators.{is_arithmetic, is_relation, applied, compared}
use Rattle.fort_tree.specs.declared.expr.Unary.{Unary}
use Rattle.fort_tree.specs.declared.expr.Unary.TheVariants.{Plus, Minus, Not}
use Rattle.courses.specs.Element.{Value, Undefined, Whole, Truth, Element}
use Rattle.courses.specs.Interaction.{Turn}
use Rattle.courses.specs.Copying.{with_values, stored}
use Rattle.courses.specs.Course.{Sort, Number, Item, Way, Many, Signal, Normal, Exits, Cycles, Returns, Course}
use Rattle.claw_meaning.specs.Scene.{Variable, Meant, Unmeant, Held, Known, Called, Dummy, Passed, Callee, within, element, moved}
use Rattle.claw_meaning.specs.Evaluation.{defined, with_whole, with_truth, with_exact, given_whole, given_truth, converted, with_sign, logical, operated, checked, read, named, named_place, indexed_place, agree, shape_among, offsets_of, with_extent, with_wholes, elemental, elemental_value, first_value, summed, sum, gathered, is_out, by_value, passed_value, passed_elements, passed, function_result, function_called}
use Rattle.claw_meaning.specs.Statements.{Stored, put_stored, then_run, after_turn, chosen, trips, turns, looped, with_scalar, bounds_converted, written_back, subroutine_called}
use Rattle.plain_units.proofs.Alike.{Alike, gives, fails, gets, puts, scopes, tells, alike_then}

pub if_alike : {k : Sort} (b : Bool) (r r' q q' : Course k) → Alike k r r' → Alike k q q' → Alike k (if b then r else q) (if b then r' else q')
if_alike true r r' q q' h i = h
if_alike false r r' q q' h i = i

-- Values

pub with_whole_alike : {k : Sort} (v : Value) (g h : ℤ → Course k) → ((n : ℤ) → Alike k (g n) (h n)) → Alike k (with_whole v g) (with_whole v h)
with_whole_alike Undefined g h a = fails
with_whole_alike (Whole n) g h a = a n
with_whole_alike (Truth b) g h a = fails

pub with_truth_alike : {k : Sort} (v : Value) (g h : Bool → Course k) → ((b : Bool) → Alike k (g b) (h b)) → Alike k (with_truth v g) (with_truth v h)
with_truth_alike Undefined g h a = fails
with_truth_alike (Whole n) g h a = fails
with_truth_alike (Truth b) g h a = a b

pub with_exact_alike : {k : Sort} (w : Option ℤ) (g h : ℤ → Course k) → ((n : ℤ) → Alike k (g n) (h n)) → Alike k (with_exact w g) (with_exact w h)
with_exact_alike None g h a = fails
with_exact_alike (Some n) g h a = a n

pub converted_alike : {k : Sort} (kind : Kind) (v : Value) (g h : Value → Course k) → ((w : Value) → Alike k (g w) (h w)) → Alike k (converted kind v g) (converted kind v h)
converted_alike kind Undefined g h a = fails
converted_alike kind (Whole n) g h a = with_exact_alike (fitted kind n) (λ m. g (Whole m)) (λ m. h (Whole m)) (λ m. a (Whole m))
converted_alike kind (Truth b) g h a = a (Truth b)

pub whole_same : (n : ℤ) → Alike Item (given_whole n) (given_whole n)
whole_same n = gives {k = Item} (Whole n)

pub truth_same : (b : Bool) → Alike Item (given_truth b) (given_truth b)
truth_same b = gives {k = Item} (Truth b)

pub defined_same : (v : Value) → Alike Item (defined v) (defined v)
defined_same Undefined = fails
defined_same (Whole n) = gives {k = Item} (Whole n)
defined_same (Truth b) = gives {k = Item} (Truth b)

pub with_sign_same : (sign : Unary) (kind : Kind) (v : Value) → Alike Item (with_sign sign kind v) (with_sign sign kind v)
with_sign_same Plus kind v = with_whole_alike v _ _ whole_same
with_sign_same Minus kind v = with_whole_alike v _ _ (λ n. with_exact_alike (fitted kind (pos 0 -ℤ n)) _ _ whole_same)
with_sign_same Not kind v = with_truth_alike v _ _ (λ b. truth_same (not b))

pub operated_same : (op : Op) (kind : Kind) (a b : Value) → Alike Item (operated op kind a b) (operated op kind a b)
operated_same op kind a b =
    if_alike (is_arithmetic op) _ _ _ _
    (with_whole_alike a _ _ (λ m. with_whole_alike b _ _ (λ n. with_exact_alike (applied op kind m n) _ _ whole_same)))
    (if_alike (is_relation op) _ _ _ _
    (with_whole_alike a _ _ (λ m. with_whole_alike b _ _ (λ n. truth_same (compared op m n))))
    (with_truth_alike a _ _ (λ m. with_truth_alike b _ _ (λ n. truth_same (logical op m n)))))

-- References

pub checked_alike : {k : Sort} (v : Variable) (is : List ℤ) (g h : Element → Course k) → ((e : Element) → Alike k (g e) (h e)) → Alike k (checked v is g) (checked v is h)
checked_alike v is g h a = if_alike (within v.bounds is) _ _ _ _ (a (element v is)) fails

pub read_same : (v : Variable) (is : List ℤ) → Alike Item (read v is) (read v is)
read_same v is = checked_alike v is _ _ (λ e. gets e _ _ defined_same)

pub named_same : (m : Meant) (offsets : List ℤ) → Alike Item (named m offsets) (named m offsets)
named_same Unmeant offsets = fails
named_same (Held v) offsets = read_same v (moved v.bounds offsets)
named_same (Known kind value) offsets = defined_same value
named_same (Called unit kind) offsets = fails

pub named_place_alike : {k : Sort} (m : Meant) (offsets : List ℤ) (g h : Element → Course k) → ((e : Element) → Alike k (g e) (h e)) → Alike k (named_place m offsets g) (named_place m offsets h)
named_place_alike Unmeant offsets g h a = fails
named_place_alike (Held v) offsets g h a = checked_alike v (moved v.bounds offsets) g h a
named_place_alike (Known kind value) offsets g h a = fails
named_place_alike (Called unit kind) offsets g h a = fails

pub indexed_place_alike : {k : Sort} (m : Meant) (q q' : Course (Many Number)) (g h : Element → Course k) → Alike (Many Number) q q' → ((e : Element) → Alike k (g e) (h e)) → Alike k (indexed_place m q g) (indexed_place m q' h)
indexed_place_alike Unmeant q q' g h b a = fails
indexed_place_alike (Held v) q q' g h b a = alike_then q q' _ _ b (λ is. checked_alike v is g h a)
indexed_place_alike (Known kind value) q q' g h b a = fails
indexed_place_alike (Called unit kind) q q' g h b a = fails

-- Intrinsic functions

pub with_extent_same : (n : Option ℕ) → Alike Item (with_extent n) (with_extent n)
with_extent_same None = fails
with_extent_same (Some n) = with_exact_alike (fitted I4 (pos n)) _ _ whole_same

pub with_wholes_alike : {k : Sort} (vs : List Value) (g h : List ℤ → Course k) → ((ns : List ℤ) → Alike k (g ns) (h ns)) → Alike k (with_wholes vs g) (with_wholes vs h)
with_wholes_alike [] g h a = a []
with_wholes_alike (v ∷ vs) g h a = with_whole_alike v _ _ (λ n. with_wholes_alike vs (λ ns. g (n ∷ ns)) (λ ns. h (n ∷ ns)) (λ ns. a (n ∷ ns)))

pub elemental_same : (which : Intrinsic) (kind : Kind) (vs : List Value) → Alike Item (elemental which kind vs) (elemental which kind vs)
elemental_same which kind vs = with_wholes_alike vs _ _ (λ ns. with_exact_alike (elemental_value which kind ns) _ _ whole_same)

first_value_same : (vs : List Value) → Alike Item (first_value vs) (first_value vs)
first_value_same [] = fails
first_value_same (v ∷ vs) = gives {k = Item} v

module _ (kind : Kind) (at at' : List ℤ → Course (Many Item)) (alike_at : (o : List ℤ) → Alike (Many Item) (at o) (at' o)) where
  pub summed_alike : (os : List (List ℤ)) (total : ℤ) → Alike Item (summed kind at os total) (summed kind at' os total)
  summed_alike [] total = whole_same total
  summed_alike (o ∷ os) total =
      alike_then (at o) (at' o) _ _ (alike_at o) (λ vs. alike_then (first_value vs) (first_value vs) _ _ (first_value_same vs) (λ v. with_whole_alike v _ _ (λ n. with_exact_alike (applied Add kind total n) _ _ (λ m. summed_alike os m))))

  pub sum_alike : (operands : List (List ℕ)) → Alike Item (sum kind operands at) (sum kind operands at')
  sum_alike operands = if_alike (agree operands) _ _ _ _ (summed_alike (offsets_of (shape_among operands)) (pos 0)) fails

-- Arguments

module _ {k : Sort} (place place' : List ℤ → (Element → Course k) → Course k)
    (alike_place : (o : List ℤ) (g h : Element → Course k) → ((e : Element) → Alike k (g e) (h e)) → Alike k (place o g) (place' o h)) where
  pub gathered_alike : (os : List (List ℤ)) (g h : List Element → Course k) → ((es : List Element) → Alike k (g es) (h es)) → Alike k (gathered place os g) (gathered place' os h)
  gathered_alike [] g h a = a []
  gathered_alike (o ∷ os) g h a = alike_place o _ _ (λ e. gathered_alike os (λ es. g (e ∷ es)) (λ es. h (e ∷ es)) (λ es. a (e ∷ es)))

pub with_values_alike : {k : Sort} (es : List Element) (g h : List Value → Course k) → ((vs : List Value) → Alike k (g vs) (h vs)) → Alike k (with_values es g) (with_values es h)
with_values_alike [] g h a = a []
with_values_alike (e ∷ es) g h a = gets e _ _ (λ v. with_values_alike es (λ vs. g (v ∷ vs)) (λ vs. h (v ∷ vs)) (λ vs. a (v ∷ vs)))

passed_elements_alike : {k : Sort} (d : Dummy) (shape : List ℕ) (es : List Element) (g h : Passed → Course k) → ((p : Passed) → Alike k (g p) (h p)) → Alike k (passed_elements d shape es g) (passed_elements d shape es h)
passed_elements_alike d shape es g h a = if_alike (is_out d.intent) _ _ _ _ (a _) (with_values_alike es _ _ (λ vs. a _))

pub passed_alike : {k : Sort} (d : Dummy) (variable : Bool) (shape : List ℕ) (value value' : Course Item) (place place' : List ℤ → (Element → Course k) → Course k) (g h : Passed → Course k)
    → Alike Item value value' → ((o : List ℤ) (g h : Element → Course k) → ((e : Element) → Alike k (g e) (h e)) → Alike k (place o g) (place' o h)) → ((p : Passed) → Alike k (g p) (h p))
    → Alike k (passed d variable shape value place g) (passed d variable shape value' place' h)
passed_alike d variable shape value value' place place' g h b c a =
    if_alike (by_value d variable) _ _ _ _
    (alike_then value value' _ _ b (λ v. a (passed_value v)))
    (gathered_alike place place' c (offsets_of shape) _ _ (λ es. passed_elements_alike d shape es g h a))

-- Calls

-- two callees with the same dummies and elements of their own, and alike courses
pub data AlikeCallees : Callee → Callee → Type 0 where
  callees : (dummies : List Dummy) (owns : Element → Bool) (r q : List Passed → Course (Many Item)) → ((ps : List Passed) → Alike (Many Item) (r ps) (q ps))
      → AlikeCallees (record { dummies = dummies; owns = owns; course = r }) (record { dummies = dummies; owns = owns; course = q })

pub stored_alike : {k : Sort} (es : List Element) (vs : List Value) (r q : Course k) → Alike k r q → Alike k (stored es vs r) (stored es vs q)
stored_alike [] vs r q h = h
stored_alike (e ∷ es) [] r q h = h
stored_alike (e ∷ es) (v ∷ vs) r q h = puts e v _ _ (stored_alike es vs r q h)

function_result_same : (vs : List Value) → Alike Item (function_result vs) (function_result vs)
function_result_same [] = fails
function_result_same (v ∷ vs) = defined_same v

pub function_alike : (f f' : Callee) → AlikeCallees f f' → (ps : List Passed) → Alike Item (function_called f ps) (function_called f' ps)
function_alike _ _ (callees dummies owns r q h) ps = scopes owns (r ps) (q ps) _ _ (h ps) function_result_same

pub subroutine_alike : (f f' : Callee) → AlikeCallees f f' → (ps : List Passed) → Alike Way (subroutine_called f ps) (subroutine_called f' ps)
subroutine_alike _ _ (callees dummies owns r q h) ps =
    scopes owns (r ps) (q ps) _ _ (h ps) (λ vs. stored_alike (written_back dummies ps) vs _ _ (gives {k = Way} Normal))

-- Statements

pub put_stored_same : (xs : List Stored) → Alike Way (put_stored xs) (put_stored xs)
put_stored_same xs = stored_alike (map (λ x. x.at) xs) (map (λ x. x.gets) xs) _ _ (gives {k = Way} Normal)

pub then_run_alike : (g : Signal) (r q : Course Way) → Alike Way r q → Alike Way (then_run g r) (then_run g q)
then_run_alike Normal r q h = h
then_run_alike Exits r q h = gives {k = Way} Exits
then_run_alike Cycles r q h = gives {k = Way} Cycles
then_run_alike Returns r q h = gives {k = Way} Returns

pub after_turn_alike : (g : Signal) (r q : Course Way) → Alike Way r q → Alike Way (after_turn g r) (after_turn g q)
after_turn_alike Normal r q h = h
after_turn_alike Exits r q h = gives {k = Way} Normal
after_turn_alike Cycles r q h = h
after_turn_alike Returns r q h = gives {k = Way} Returns

pub chosen_alike : (b : Bool) (r r' q q' : Course Way) → Alike Way r r' → Alike Way q q' → Alike Way (chosen b r q) (chosen b r' q')
chosen_alike true r r' q q' h i = h
chosen_alike false r r' q q' h i = i

pub turns_alike : (e : Element) (n : ℕ) (at by : ℤ) (r q : Course Way) → Alike Way r q → Alike Way (turns e n at by r) (turns e n at by q)
turns_alike e zero at by r q h = gives {k = Way} Normal
turns_alike e (suc n) at by r q h =
    tells Turn _ _ (puts e (Whole at) _ _ (alike_then r q _ _ h (λ g. after_turn_alike g _ _ (turns_alike e n (at +ℤ by) by r q h))))

pub unmarked_alike : (e : Element) (m1 m2 m3 : ℤ) (r q : Course Way) → Alike Way r q → Alike Way (looped None e m1 m2 m3 r) (looped None e m1 m2 m3 q)
unmarked_alike e m1 m2 m3 r q h =
    if_alike (int_eq m3 (pos 0)) _ _ _ _ fails
    (alike_then (turns e (trips m1 m2 m3) m1 m3 r) (turns e (trips m1 m2 m3) m1 m3 q) _ _ (turns_alike e (trips m1 m2 m3) m1 m3 r q h) (λ g. puts e Undefined _ _ (gives {k = Way} g)))

pub with_scalar_alike : (m : Meant) (g h : Element → Kind → Course Way) → ((e : Element) (kind : Kind) → Alike Way (g e kind) (h e kind)) → Alike Way (with_scalar m g) (with_scalar m h)
with_scalar_alike Unmeant g h a = fails
with_scalar_alike (Held v) g h a = a (element v []) v.kind
with_scalar_alike (Known kind value) g h a = fails
with_scalar_alike (Called unit kind) g h a = fails

pub bounds_alike : (kind : Kind) (a b d : Value) (g h : ℤ → ℤ → ℤ → Course Way) → ((m1 m2 m3 : ℤ) → Alike Way (g m1 m2 m3) (h m1 m2 m3)) → Alike Way (bounds_converted kind a b d g) (bounds_converted kind a b d h)
bounds_alike kind a b d g h i =
    converted_alike kind a _ _ (λ a'. converted_alike kind b _ _ (λ b'. converted_alike kind d _ _ (λ d'. with_whole_alike a' _ _ (λ m1. with_whole_alike b' _ _ (λ m2. with_whole_alike d' _ _ (λ m3. i m1 m2 m3))))))
