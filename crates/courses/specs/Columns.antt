-- One column's interaction beside the interaction of all columns.
use Rattle.std.specs.Prelude.{◌≡◌, ℕ, zero, suc, ℤ, pos, ◌+ℤ◌, List, [], ◌∷◌, Bool, true, false, ◌&&◌, ◌||◌, not, if◌then◌else◌, is_some, Option, Some, None}
use Rattle.std.specs.Ordering.{int_eq}
use Rattle.courses.specs.Element.{Value, Undefined, Whole, Element, Store, same_element, blank, merged}
use Rattle.courses.specs.Interaction.{Interaction, Done, Trap, Read, Write, Order, Announce, Orders, answer_of, log_of, store_of}
use Rattle.courses.specs.Logs.{others}
use Rattle.courses.specs.Renaming.{renamed, view}
use Rattle.courses.specs.Handlers.{Forgets, IsSettled, hushed, given}
use Rattle.courses.specs.Always.{May, Always, WritesOnly}
use Rattle.courses.specs.Course.{Sort, Course, Way, Normal, line, loop_runs, on_some}
use Rattle.courses.specs.Copying.{among, source, Callee, entered, returned}
use Rattle.courses.specs.Weaving.{IsFair, rising, AllApart, WovenAlike, LinesAlike}
use Rattle.courses.specs.Plans.{Plan, orders_of}

-- for a home and a name: the place, from 0, at which the variable's wide form has the column as a subscript; none for a
-- variable that all columns share
abbrev pub Varying : Type 0
Varying = List ℕ → List ℕ → Option ℕ

abbrev pub varies : Varying → Element → Bool
varies vary e = is_some (vary e.home e.name)

-- the subscripts with one more at this place, or behind them all where there are fewer
abbrev pub inserted : ℕ → ℤ → List ℤ → List ℤ
inserted zero c is = c ∷ is
inserted (suc k) c [] = c ∷ []
inserted (suc k) c (i ∷ is) = i ∷ inserted k c is

abbrev pub placed : Option ℕ → ℤ → Element → Element
placed None c e = e
placed (Some k) c e = record { home = e.home; name = e.name; index = inserted k c e.index }

-- where column c's element lies in the wide variables
unfoldable pub column : Varying → ℤ → Element → Element
column vary c e = placed (vary e.home e.name) c e

-- the subscript at this place, or the last one where there are fewer, is c
abbrev pub has_at : ℕ → ℤ → List ℤ → Bool
has_at k c [] = false
has_at zero c (i ∷ is) = int_eq i c
has_at (suc k) c (i ∷ []) = int_eq i c
has_at (suc k) c (i ∷ h ∷ is) = has_at k c (h ∷ is)

abbrev pub lies_at : Option ℕ → ℤ → List ℤ → Bool
lies_at None c is = false
lies_at (Some k) c is = has_at k c is

-- the element of a wide variable lies in column c
unfoldable pub is_own : Varying → ℤ → Element → Bool
is_own vary c e = lies_at (vary e.home e.name) c e.index

abbrev pub is_column : ℤ → List ℤ → Bool
is_column c [] = false
is_column c (d ∷ ds) = int_eq d c || is_column c ds

-- what is known of a store: these elements hold these values
abbrev pub Knowledge : Type 0
Knowledge = Element → Option Value

abbrev pub Knows : Knowledge → Store → Type 0
Knows know s = (e : Element) (v : Value) → know e ≡ Some v → s e ≡ v

-- all but of one element
abbrev pub minus : Knowledge → Element → Knowledge
minus know x e = if same_element x e then None else know e

-- that these elements are undefined
abbrev pub all_undefined : (Element → Bool) → Knowledge
all_undefined p e = if p e then Some Undefined else None

-- all columns and the wide interaction end with one answer, and each column finds its own store in the wide one
pub record Kept {A : Type 0} (vary : Varying) (cols : List ℤ) (post : Knowledge) (r q : Interaction A) (o : Orders) (s : Store) (j : ℕ) (o' : Orders) (j' : ℤ → ℕ) : Type 0 where
  pub answer : A
  pub wide : answer_of q o s j ≡ Some answer
  pub each : (c : ℤ) → is_column c cols ≡ true → answer_of r o' (view (column vary c) s) (j' c) ≡ Some answer
  pub store : (c : ℤ) → is_column c cols ≡ true → view (column vary c) (store_of q o s j) ≡ store_of r o' (view (column vary c) s) (j' c)
  pub knows : Knows post (store_of q o s j)

-- r is the interaction of one column, q of all: from a store of which pre is known, to one of which post is known
pub record Lockstep {A : Type 0} (vary : Varying) (cols : List ℤ) (pre post : Knowledge) (r q : Interaction A) : Type 0 where
  pub ends : (o : Orders) (s : Store) (j : ℕ) (o' : Orders) (j' : ℤ → ℕ) → IsFair o → Knows pre s → ((c : ℤ) → is_column c cols ≡ true → is_some (answer_of r o' (view (column vary c) s) (j' c)) ≡ true) → Kept vary cols post r q o s j o' j'
  pub traps : (o : Orders) (s : Store) (j : ℕ) (o' : Orders) (j' : ℤ → ℕ) → IsFair o → Knows pre s → (c : ℤ) → is_column c cols ≡ true → is_some (answer_of r o' (view (column vary c) s) (j' c)) ≡ false → is_some (answer_of q o s j) ≡ false

-- to read shared elements alone, and to write shared elements of these alone, without orders
abbrev pub shared_of : Varying → (Element → Bool) → May
shared_of vary w = record { read = λ e. not (varies vary e); write = λ e. not (varies vary e) && w e; note = λ u. true; order = false }

abbrev pub IsShared : {A : Type 0} → Varying → (Element → Bool) → Interaction A → Type 0
IsShared vary w r = Always (shared_of vary w) r

-- whatever the replies, it gives no other answer
abbrev pub AnswersOnly : {A : Type 0} → A → Interaction A → Type 0
AnswersOnly a (Done b) = b ≡ a
AnswersOnly a Trap = Unit {0}
AnswersOnly a (Read e f) = (v : _) → AnswersOnly a (f v)
AnswersOnly a (Write e v r) = AnswersOnly a r
AnswersOnly a (Order n f) = (ks : _) → AnswersOnly a (f ks)
AnswersOnly a (Announce u r) = AnswersOnly a r

-- q serves all columns as r serves one, from the store s, under the plan
pub record Serves (vary : Varying) (cols : List ℤ) (r q : Course Way) (s : Store) (plan : Plan) : Type 0 where
  -- where a column traps, so does q
  pub traps : (c : ℤ) → is_column c cols ≡ true → is_some (answer_of (line r) rising (view (column vary c) s) 0) ≡ false → is_some (answer_of (line q) (orders_of plan) s 0) ≡ false
  -- where none does, q ends, and each column finds in it what its own course leaves
  pub ends : ((c : ℤ) → is_column c cols ≡ true → is_some (answer_of (line r) rising (view (column vary c) s) 0) ≡ true) → (is_some (answer_of (line q) (orders_of plan) s 0) ≡ true) × ((c : ℤ) → is_column c cols ≡ true → view (column vary c) (store_of (line q) (orders_of plan) s 0) ≡ store_of (line r) rising (view (column vary c) s) 0)
  -- in each loop run no two iterations touch one element, unless both only read it
  pub apart : AllApart (loop_runs q (orders_of plan) s 0)
  -- and under each schedule q does the same
  pub woven : (ks : List ℕ) → WovenAlike q ks (orders_of plan) s 0
  pub lines : (ks : List ℕ) → LinesAlike q ks (orders_of plan) s 0

-- an iteration does, but for what is its own, what the column's interaction does on its elements
pub record RunsColumn {A : Type 0} (own : Element → Bool) (step : Interaction (Unit {0})) (r : Interaction A) (o : Orders) (s : Store) (j : ℕ) : Type 0 where
  pub ends : is_some (answer_of step o s j) ≡ is_some (answer_of r o s j)
  pub store : (e : Element) → own e ≡ false → store_of step o s j e ≡ store_of r o s j e
  pub log : others own (log_of step o s j) ≡ others own (log_of r o s j)

-- the iterations of a marked loop are the columns from low on: r is the interaction of one column, and rest what follows the loop
pub record AreColumns {A : Type 0} (vary : Varying) (low : ℤ) (own : Element → Bool) (answer : A) (step : ℕ → Interaction (Unit {0})) (r rest : Interaction A) : Type 0 where
  -- what is each iteration's own are shared variables by their names, and an iteration and the rest undefine them
  pub private : (e : Element) → own e ≡ true → varies vary e ≡ false
  pub settled : (k : ℕ) → IsSettled (step k)
  pub forgets : (k : ℕ) → Forgets own (step k)
  pub last_answer : (o : Orders) (s : Store) (j : ℕ) → answer_of rest o s j ≡ Some answer
  pub last_store : (o : Orders) (s : Store) (j : ℕ) → store_of rest o s j ≡ merged own blank s
  -- the column writes varying elements and these alone, leaves these undefined where they were, and answers so alone
  pub writes : WritesOnly (λ e. varies vary e || own e) r
  pub restores : (e : Element) → own e ≡ true → (o : Orders) (s : Store) (j : ℕ) → s e ≡ Undefined → is_some (answer_of r o s j) ≡ true → store_of r o s j e ≡ Undefined
  pub answers : AnswersOnly answer r
  -- iteration k, where what is its own is undefined
  pub runs : (o : Orders) (s : Store) (j k : ℕ) → ((e : Element) → own e ≡ true → s e ≡ Undefined) → RunsColumn own (step k) (renamed (column vary (low +ℤ pos k)) r) o s j

-- copies in the wide variables bring to each column's elements what the column's own copies bring, whatever their order
abbrev pub CopiesMatch : Varying → List ℤ → List Element → List Element → List Element → List Element → Type 0
CopiesMatch vary cols ds xs ds' xs' =
    (c : ℤ) (e : Element) → is_column c cols ≡ true → source ds' xs' (column vary c e) ≡ on_some (source ds xs e) None (λ x. Some (column vary c x))

abbrev pub AllShared : Varying → List Element → Type 0
AllShared vary [] = Unit {0}
AllShared vary (e ∷ es) = (varies vary e ≡ false) × AllShared vary es

-- a call of f' for all columns beside each column's call of f: the bodies are in lock step, from deep to deep'
pub record CallsMatch {k : Sort} (vary : Varying) (cols : List ℤ) (pre deep deep' mid : Knowledge) (f f' : Callee k) (vs : List Value) (xs es xs' es' : List Element) : Type 0 where
  -- a unit's elements are told by their names
  pub owns : (e : Element) → f'.owns e ≡ f.owns e
  pub own_columns : (c : ℤ) (e : Element) → f.owns (column vary c e) ≡ f.owns e
  pub given : f'.given ≡ f.given
  pub given_shared : AllShared vary f.given
  pub takes : CopiesMatch vary cols f.takes xs f'.takes xs'
  pub leaves : CopiesMatch vary cols es f.leaves es' f'.leaves
  pub enters : (s : Store) → Knows pre s → Knows deep (entered f' vs xs' s)
  pub returns : (s u : Store) → Knows pre s → Knows deep' u → Knows mid (returned f' es' s u)
  pub bodies : Lockstep vary cols deep deep' (line f.body) (line f'.body)

-- the body of a marked loop with this loop variable and these private elements is, in the iteration of each column, the
-- column's course on its elements
pub record IsColumnBody (vary : Varying) (id : Element) (es : List Element) (q r : Course Way) : Type 0 where
  pub private : (e : Element) → among (id ∷ es) e ≡ true → varies vary e ≡ false
  pub sides : (c : ℤ) → hushed (given (same_element id) (Whole c) (line q)) ≡ hushed (renamed (column vary c) (line r))
  pub spares : WritesOnly (λ e. not (same_element id e)) (line q)
  pub writes : WritesOnly (λ e. varies vary e || among (id ∷ es) e) (line r)
  pub restores : (e : Element) → among (id ∷ es) e ≡ true → (o : Orders) (s : Store) (j : ℕ) → s e ≡ Undefined → is_some (answer_of (line r) o s j) ≡ true → store_of (line r) o s j e ≡ Undefined
  pub answers : AnswersOnly Normal (line r)

-- where nothing varies: one column is then the whole
abbrev pub nothing_varies : Varying
nothing_varies home name = None
