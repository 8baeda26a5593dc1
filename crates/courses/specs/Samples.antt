-- Small courses that show what orders and schedules can change.
use Rattle.std.specs.Prelude.{ℕ, ℤ, List, pos, ◌+ℤ◌, [], ◌∷◌, if◌then◌else◌, Some, None}
use Rattle.courses.specs.Element.{Value, Undefined, Whole, Truth, Element, same_name, same_element, Store, nobody}
use Rattle.courses.specs.Interaction.{Turn}
use Rattle.courses.specs.Course.{Course, Nothing, Item, Way, Normal, Give, Fail, Get, Put, Tell, Loop, Scope, and_then}
use Rattle.courses.specs.Marked.{marked}
use Rattle.courses.specs.Columns.{Varying}

-- the scalar s of unit u
unfoldable pub sum_element : Element
sum_element = record { home = 117 ∷ []; name = 115 ∷ []; index = [] }

-- the scalar d, a dummy of unit v
unfoldable pub dummy_element : Element
dummy_element = record { home = 118 ∷ []; name = 100 ∷ []; index = [] }

-- e becomes one more than this value
abbrev pub put_next : Element → Value → Course Nothing
put_next e (Whole n) = Put e (Whole (n +ℤ pos 1)) (Give tt)
put_next e (Truth b) = Fail
put_next e Undefined = Fail

-- a marked loop of two iterations that both add one to e
abbrev pub carried : Element → Course Way
carried e = Loop 2 nobody (λ i. Tell Turn (Get e (put_next e))) (Give Normal)

-- the same loop inside a callee, on its dummy, to which s is copied and which is copied back
abbrev pub carried_inside : Course Way
carried_inside =
    Get sum_element (λ v. Scope (same_element dummy_element) (Put dummy_element v (and_then (carried dummy_element) (λ g. Get dummy_element (λ w. Give {k = Item} w)))) (λ w. Put sum_element w (Give Normal)))

-- where s is 0
unfoldable pub from_zero : Store
from_zero e = if same_element sum_element e then Whole (pos 0) else Undefined

-- the loop variable k of unit u, and the elements of its array a
unfoldable pub column_number : Element
column_number = record { home = 117 ∷ []; name = 107 ∷ []; index = [] }

abbrev pub array_at : List ℤ → Element
array_at is = record { home = 117 ∷ []; name = 97 ∷ []; index = is }

-- each variable a has the column as its second subscript
unfoldable pub second_of_a : Varying
second_of_a home name = if same_name name (97 ∷ []) then Some 1 else None

abbrev pub put_one_more : Element → Value → Course Way
put_one_more e (Whole n) = Put e (Whole (n +ℤ pos 1)) (Give Normal)
put_one_more e (Truth b) = Fail
put_one_more e Undefined = Fail

-- a(5) = a(5) + 1
abbrev pub column_adds : Course Way
column_adds = Get (array_at (pos 5 ∷ [])) (put_one_more (array_at (pos 5 ∷ [])))

-- a(5,c) = a(5,c) + 1, c being what k holds
abbrev pub add_in_column : Value → Course Way
add_in_column (Whole c) = Get (array_at (pos 5 ∷ c ∷ [])) (put_one_more (array_at (pos 5 ∷ c ∷ [])))
add_in_column (Truth b) = Fail
add_in_column Undefined = Fail

-- a marked loop over k from low on: a(5,k) = a(5,k) + 1
abbrev pub all_columns_add : ℤ → ℕ → Course Way
all_columns_add low n = marked column_number [] low n (Get column_number add_in_column)
