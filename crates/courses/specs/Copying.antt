-- Courses that read, set and undefine lists of elements, and calls by copy.
use Rattle.std.specs.Prelude.{◌≡◌, ℕ, List, [], ◌∷◌, map, Bool, false, ◌||◌, Option, Some, None, if◌then◌else◌}
use Rattle.courses.specs.Element.{Value, Undefined, Element, same_element, Store, put, blank, merged}
use Rattle.courses.specs.Interaction.{Orders, answer_of, next_of, store_of}
use Rattle.courses.specs.Course.{Sort, Item, Many, Both, Answer, Course, Give, Get, Put, Scope, and_then, line}

abbrev pub among : List Element → Element → Bool
among [] e = false
among (x ∷ xs) e = same_element x e || among xs e

-- these elements are made undefined, in order, and then the rest
abbrev pub wiped : {k : Sort} → List Element → Course k → Course k
wiped [] r = r
wiped (e ∷ es) r = Put e Undefined (wiped es r)

-- goes on with what the elements hold, undefined ones too
abbrev pub with_values : {k : Sort} → List Element → (List Value → Course k) → Course k
with_values [] g = g []
with_values (e ∷ es) g = Get e (λ v. with_values es (λ vs. g (v ∷ vs)))

-- these values are put at these elements, in order, and then the rest
abbrev pub stored : {k : Sort} → List Element → List Value → Course k → Course k
stored [] vs r = r
stored (e ∷ es) [] r = r
stored (e ∷ es) (v ∷ vs) r = Put e v (stored es vs r)

-- the store with these values at these elements
abbrev pub put_all : List Element → List Value → Store → Store
put_all [] vs t = t
put_all (e ∷ es) [] t = t
put_all (e ∷ es) (v ∷ vs) t = put_all es vs (put t e v)

-- the first, where there is one
abbrev pub or_else : {A : Type 0} → Option A → Option A → Option A
or_else (Some a) b = Some a
or_else None b = b

-- what is copied to e last, where the values of the second list's elements are put at the first's
abbrev pub source : List Element → List Element → Element → Option Element
source [] xs e = None
source (d ∷ ds) [] e = None
source (d ∷ ds) (x ∷ xs) e = or_else (source ds xs e) (if same_element d e then Some x else None)

-- a unit as it is called
pub record Callee (k : Sort) : Type 0 where
  pub owns : Element → Bool  -- its own elements
  pub given : List Element  -- of these, those that get evaluated values
  pub takes : List Element  -- those that are copied in
  pub leaves : List Element  -- those that are copied back
  pub body : Course k

-- a call by copy: values, the elements copied in and those copied back to, and what goes on with the body's answer
abbrev pub called : {k l : Sort} → Callee k → List Value → List Element → List Element → (Answer k → Course l) → Course l
called {k} f vs xs es g =
    with_values xs (λ ws. Scope f.owns (stored f.given vs (stored f.takes ws (and_then f.body (λ a. with_values f.leaves (λ us. Give {k = Both k (Many Item)} (a, us)))))) (λ p. stored es p.1 (g p.0)))

-- the store from which the callee's body starts, and the one after it has left u
abbrev pub entered : {k : Sort} → Callee k → List Value → List Element → Store → Store
entered f vs xs s = put_all f.takes (map s xs) (put_all f.given vs (merged f.owns blank s))

abbrev pub returned : {k : Sort} → Callee k → List Element → Store → Store → Store
returned f es s u = put_all es (map u f.leaves) (merged f.owns s u)

-- what a call does is what its body does from there, and then what goes on does
pub record CallDoes {k l : Sort} (f : Callee k) (vs : List Value) (xs es : List Element) (g : Answer k → Course l) (o : Orders) (s : Store) (j : ℕ) : Type 0 where
  pub traps : answer_of (line f.body) o (entered f vs xs s) j ≡ None → answer_of (line (called f vs xs es g)) o s j ≡ None
  pub answer : (a : Answer k) → answer_of (line f.body) o (entered f vs xs s) j ≡ Some a → answer_of (line (called f vs xs es g)) o s j ≡ answer_of (line (g a)) o (returned f es s (store_of (line f.body) o (entered f vs xs s) j)) (next_of (line f.body) o (entered f vs xs s) j)
  pub store : (a : Answer k) → answer_of (line f.body) o (entered f vs xs s) j ≡ Some a → store_of (line (called f vs xs es g)) o s j ≡ store_of (line (g a)) o (returned f es s (store_of (line f.body) o (entered f vs xs s) j)) (next_of (line f.body) o (entered f vs xs s) j)
