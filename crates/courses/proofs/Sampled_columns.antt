-- A small marked loop over columns, whose body is one column's course: it serves all columns.
use Rattle.std.proofs.Common.{◌≡◌, ℕ, ℤ, pos, refl, ap, sym, ◌∙◌, List, [], ◌∷◌, Bool, true, false, not, ◌||◌, Some}
use Rattle.std.proofs.lemmas.Bool.{false≢true}
use mathlib.Core.Path.{fun_ext}
use Rattle.courses.specs.Element.{Value, Undefined, Whole, Truth, Element, same_element, Store}
use Rattle.courses.specs.Ranges.{wholes_from}
use Rattle.courses.specs.Interaction.{Read, Orders, store_of}
use Rattle.courses.specs.Renaming.{renamed}
use Rattle.courses.specs.Handlers.{hushed, given}
use Rattle.courses.specs.Always.{writes_of, WritesOnly}
use Rattle.courses.specs.Course.{Normal, Course, Way, Get, line}
use Rattle.courses.specs.Copying.{among}
use Rattle.courses.specs.Weaving.{IsOrderly}
use Rattle.courses.specs.Plans.{Plan}
use Rattle.courses.specs.Columns.{varies, column, is_column, Knows, all_undefined, AnswersOnly, IsColumnBody, Serves}
use Rattle.courses.specs.Samples.{column_number, array_at, second_of_a, put_one_more, column_adds, add_in_column, all_columns_add}
use Rattle.courses.proofs.Stores.{same_element-equal}
use Rattle.courses.proofs.Allowed.{always_leaves}
use Rattle.courses.proofs.Marked_columns.{lockstep_marked, marked_orderly}
use Rattle.courses.proofs.Served.{serves_so}

-- what is own is the loop variable
is_number : (e : Element) → among (column_number ∷ []) e ≡ true → column_number ≡ e
is_number e m = go (same_element column_number e) refl m
  where
    go : (b : Bool) → same_element column_number e ≡ b → same_element column_number e || false ≡ true → column_number ≡ e
    go true q m = same_element-equal column_number e q
    go false q m = absurd (false≢true (rw q at m))

private : (e : Element) → among (column_number ∷ []) e ≡ true → varies second_of_a e ≡ false
unfolding column_number second_of_a
private e m = ap (varies second_of_a) (sym (is_number e m))

both_put : (c : ℤ) (v : Value) → hushed (given (same_element column_number) (Whole c) (line (put_one_more (array_at (pos 5 ∷ c ∷ [])) v))) ≡ hushed (renamed (column second_of_a c) (line (put_one_more (array_at (pos 5 ∷ [])) v)))
unfolding column second_of_a
both_put c (Whole n) = refl
both_put c (Truth b) = refl
both_put c Undefined = refl

both_sides : (c : ℤ) → hushed (given (same_element column_number) (Whole c) (line (Get {k = Way} column_number add_in_column))) ≡ hushed (renamed (column second_of_a c) (line column_adds))
unfolding column second_of_a same_element column_number
both_sides c = ap (Read (array_at (pos 5 ∷ c ∷ []))) (fun_ext (λ v. both_put c v))

put_spares : (is : List ℤ) (v : Value) → WritesOnly (λ e. not (same_element column_number e)) (line (put_one_more (array_at is) v))
unfolding same_element column_number
put_spares is (Whole n) = (refl, tt)
put_spares is (Truth b) = tt
put_spares is Undefined = tt

spares : (v : Value) → WritesOnly (λ e. not (same_element column_number e)) (line (add_in_column v))
spares (Whole c) = (refl, λ v. put_spares (pos 5 ∷ c ∷ []) v)
spares (Truth b) = tt
spares Undefined = tt

put_own : (v : Value) → WritesOnly (λ e. varies second_of_a e || among (column_number ∷ []) e) (line (put_one_more (array_at (pos 5 ∷ [])) v))
unfolding second_of_a
put_own (Whole n) = (refl, tt)
put_own (Truth b) = tt
put_own Undefined = tt

answers : (v : Value) → AnswersOnly Normal (line (put_one_more (array_at (pos 5 ∷ [])) v))
answers (Whole n) = refl
answers (Truth b) = tt
answers Undefined = tt

number_stays : (e : Element) → among (column_number ∷ []) e ≡ true → (o : Orders) (s : Store) (j : ℕ) → store_of (line column_adds) o s j e ≡ s e
number_stays e m o s j =
    always_leaves (writes_of (λ x. not (same_element column_number x)) false) (line column_adds) o s j e (refl, λ v. put_spares (pos 5 ∷ []) v) (go (same_element column_number e) refl m)
  where
    go : (b : Bool) → same_element column_number e ≡ b → same_element column_number e || false ≡ true → not (same_element column_number e) ≡ false
    go true q m = rw q refl
    go false q m = absurd (false≢true (rw q at m))

pub sample_body : IsColumnBody second_of_a column_number [] (Get column_number add_in_column) column_adds
sample_body = record {
  private = private;
  sides = both_sides;
  spares = (refl, spares);
  writes = (refl, put_own);
  restores = λ e m o s j u h. number_stays e m o s j ∙ u;
  answers = answers;
}

put_orderly : (e : Element) (v : Value) → IsOrderly (put_one_more e v)
put_orderly e (Whole n) = tt
put_orderly e (Truth b) = tt
put_orderly e Undefined = tt

add_orderly : (v : Value) → IsOrderly (add_in_column v)
add_orderly (Whole c) = λ v. put_orderly (array_at (pos 5 ∷ c ∷ [])) v
add_orderly (Truth b) = tt
add_orderly Undefined = tt

number_known : (e : Element) (v : Value) → all_undefined (same_element column_number) e ≡ Some v → varies second_of_a e ≡ false
number_known e v h = go (same_element column_number e) refl
  where
    go : (b : Bool) → same_element column_number e ≡ b → varies second_of_a e ≡ false
    go true q = private e (rw q refl)
    go false q = absurd (let t = rw q at h in cc)

number_undefined : (e : Element) → among (column_number ∷ []) e ≡ true → all_undefined (same_element column_number) e ≡ Some Undefined
number_undefined e m = go (same_element column_number e) refl m
  where
    go : (b : Bool) → same_element column_number e ≡ b → same_element column_number e || false ≡ true → all_undefined (same_element column_number) e ≡ Some Undefined
    go true q m = rw q refl
    go false q m = absurd (false≢true (rw q at m))

pub sample_serves : (low : ℤ) (n : ℕ) (c : ℤ) → is_column c (wholes_from low n) ≡ true → (s : Store) → s column_number ≡ Undefined → (plan : Plan) → Serves second_of_a (wholes_from low n) column_adds (all_columns_add low n) s plan
sample_serves low n c m s u plan =
    let body : Course Way = Get column_number add_in_column in
    serves_so second_of_a (wholes_from low n) (all_undefined (same_element column_number)) (all_undefined (same_element column_number)) column_adds (all_columns_add low n)
    (lockstep_marked column_number [] second_of_a low body column_adds sample_body (all_undefined (same_element column_number)) number_known number_undefined n c m)
    (marked_orderly column_number [] second_of_a low body column_adds sample_body n add_orderly)
    s knows plan
  where
    knows : Knows (all_undefined (same_element column_number)) s
    knows e v h = go (same_element column_number e) refl
      where
        same : Some Undefined ≡ Some v → Undefined ≡ v
        same t = cc

        go : (b : Bool) → same_element column_number e ≡ b → s e ≡ v
        go true q = ap s (sym (same_element-equal column_number e q)) ∙ u ∙ same (rw q at h)
        go false q = absurd (let t = rw q at h in cc)
