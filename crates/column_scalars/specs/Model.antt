-- What the assignments of a unit of column scalars do to a store, as plain functions: one column alone, and all columns one
-- after another.
use Rattle.std.specs.Prelude.{◌≡◌, ℕ, ℤ, pos, ◌-ℤ◌, ◌<ℤ◌, ◌≤ℤ◌, List, [], ◌∷◌, Option, Some, None, true}
use Rattle.std.specs.List.{Contains}
use Rattle.std.specs.Option.{option_and_then, option_map}
use Rattle.fort_arith.specs.declared.kind.Kind.TheVariants.{I4}
use Rattle.fort_arith.specs.Range.{fitted, in_kind}
use Rattle.fort_arith.specs.Operators.{applied}
use Rattle.fort_tree.specs.declared.expr.Unary.{Unary}
use Rattle.fort_tree.specs.declared.expr.Unary.TheVariants.{Plus, Minus, Not}
use Rattle.courses.specs.Element.{Value, Undefined, Whole, Truth, Element, Store, put}
use Rattle.courses.specs.Interaction.{Orders, answer_of, store_of}
use Rattle.courses.specs.Course.{Signal, Normal, Returns, line}
use Rattle.courses.specs.Ranges.{wholes}
use Rattle.claw_meaning.specs.Syntax.{Text, Expr, Numeral, Boolean, Name, Reference, Signed, Binary, Paren, Stmts, Program}
use Rattle.claw_meaning.specs.Scene.{Callee, Scene}
use Rattle.claw_meaning.specs.Statements.{meanings, whole_of}
use Rattle.claw_meaning.specs.Units.{Given, scene_of}
use Rattle.column_scalars.specs.Scalars.{Scalars, source_unit, wide_unit}

-- where a name's value lies: in the unit's scalar, or in column c of its array
abbrev pub scalar_of : Text → Text → Element
scalar_of home x = record { home = home; name = x; index = [] }

abbrev pub cell_of : Text → ℤ → Text → Element
cell_of home c x = record { home = home; name = x; index = c ∷ [] }

abbrev pub signed : Unary → ℤ → Option ℤ
signed Plus n = Some n
signed Minus n = fitted I4 (pos 0 -ℤ n)
signed Not n = None

-- the value of a sum of default INTEGERs, where each name has this value; none where it traps
abbrev pub sum_value : (Text → Value) → Expr → Option ℤ
sum_value values (Numeral n suffix) = Some (pos n)
sum_value values (Name x) = whole_of (values x)
sum_value values (Signed sign e) = option_and_then (signed sign) (sum_value values e)
sum_value values (Binary op a b) = option_and_then (λ m. option_and_then (λ n. applied op I4 m n) (sum_value values b)) (sum_value values a)
sum_value values (Boolean b) = None
sum_value values (Reference x subs) = None
sum_value values (Paren e) = None

-- a value that is read must be defined
abbrev pub held : Value → Option Value
held Undefined = None
held (Whole n) = Some (Whole n)
held (Truth b) = Some (Truth b)

-- what an expression gives: a name alone what it holds, a truth value too
abbrev pub item : (Text → Value) → Expr → Option Value
item values (Name x) = held (values x)
item values (Numeral n suffix) = option_map Whole (sum_value values (Numeral n suffix))
item values (Signed sign e) = option_map Whole (sum_value values (Signed sign e))
item values (Binary op a b) = option_map Whole (sum_value values (Binary op a b))
item values (Boolean b) = None
item values (Reference x subs) = None
item values (Paren e) = None

-- a value as a default INTEGER; a truth value stays
abbrev pub integer : Value → Option Value
integer Undefined = None
integer (Whole n) = option_map Whole (fitted I4 n)
integer (Truth b) = Some (Truth b)

-- the store after these assignments, where each name lies there; none where one traps
abbrev pub ran : (Text → Element) → List (Text × Expr) → Store → Option Store
ran at [] s = Some s
ran at (a ∷ rest) s = option_and_then (λ v. ran at rest (put s (at a.0) v)) (option_and_then integer (item (λ x. s (at x)) a.1))

-- the columns one after another, the dimension's variable holding the column's number
abbrev pub ran_each : Text → Text → List (Text × Expr) → List ℤ → Store → Option Store
ran_each home id assigned [] s = Some s
ran_each home id assigned (c ∷ cs) s = option_and_then (ran_each home id assigned cs) (ran (cell_of home c) assigned (put s (scalar_of home id) (Whole c)))

-- and undefined behind them
abbrev pub ran_all : Text → Text → List (Text × Expr) → List ℤ → Store → Option Store
ran_all home id [] cs s = Some s
ran_all home id (a ∷ rest) cs s = option_map (λ t. put t (scalar_of home id) Undefined) (ran_each home id (a ∷ rest) cs s)

-- a course answers so and leaves this store, or traps where there is none
pub record DoesAs (signal : Signal) (statements : Stmts) (c : Scene) (o : Orders) (s : Store) (j : ℕ) (result : Option Store) : Type 0 where
  pub answer : answer_of (line (meanings c statements)) o s j ≡ option_map (λ t. signal) result
  pub store : (t : Store) → result ≡ Some t → store_of (line (meanings c statements)) o s j ≡ t

-- the statements of the source, whatever program the unit stands in and whatever it is given
abbrev pub SourceDoes : Scalars → Type 0
SourceDoes u =
    (p : Program) (callee : Text → Callee) (given : Given) (o : Orders) (s : Store) (j : ℕ) →
    DoesAs Normal (source_unit u).body (scene_of p callee (source_unit u) given) o s j (ran (scalar_of u.name) u.assigned s)

-- the statements of the wide unit in a program, where its added dummy is given and holds `upper`
pub record WideDoes (u : Scalars) (p : Program) (callee : Text → Callee) (given : Given) (upper : ℤ) (o : Orders) (s : Store) (j : ℕ) : Type 0 where
  -- no column
  pub none : upper <ℤ pos u.lower → DoesAs Returns (wide_unit u).body (scene_of p callee (wide_unit u) given) o s j (Some s)
  -- the columns in increasing order
  pub some : pos u.lower ≤ℤ upper → DoesAs Normal (wide_unit u).body (scene_of p callee (wide_unit u) given) o s j (ran_all u.name u.id u.assigned (wholes (pos u.lower) upper) s)

abbrev pub WideDoesSo : Scalars → Type 0
WideDoesSo u =
    (p : Program) (callee : Text → Callee) (given : Given) (upper : ℤ) (o : Orders) (s : Store) (j : ℕ) → given.value u.upper ≡ Some upper → in_kind I4 upper ≡ true → s (scalar_of u.name u.upper) ≡ Whole upper →
    WideDoes u p callee given upper o s j

-- each column's store holds what the wide store holds in that column
abbrev pub AreColumns : Scalars → List ℤ → Store → (ℤ → Store) → Type 0
AreColumns u cs s each = (c : ℤ) → Contains cs c → (x : Text) → Contains u.dummies x → each c (scalar_of u.name x) ≡ s (cell_of u.name c x)

-- all columns one after another do what each does alone
pub record Columnwise (u : Scalars) (cs : List ℤ) (s : Store) (each : ℤ → Store) : Type 0 where
  pub traps : (c : ℤ) → Contains cs c → ran (scalar_of u.name) u.assigned (each c) ≡ None → ran_all u.name u.id u.assigned cs s ≡ None
  pub trapped : ran_all u.name u.id u.assigned cs s ≡ None → (c : ℤ) × Contains cs c × (ran (scalar_of u.name) u.assigned (each c) ≡ None)
  pub ends : (t : Store) → ran_all u.name u.id u.assigned cs s ≡ Some t → (c : ℤ) → Contains cs c → (last : Store) → ran (scalar_of u.name) u.assigned (each c) ≡ Some last → (x : Text) → Contains u.dummies x → t (cell_of u.name c x) ≡ last (scalar_of u.name x)
  -- what is no cell of a column and isn't the dimension's variable stays
  pub stays : (t : Store) → ran_all u.name u.id u.assigned cs s ≡ Some t → (e : Element) → ((c : ℤ) (x : Text) → Contains cs c → Contains u.dummies x → e ≡ cell_of u.name c x → ⊥) → (e ≡ scalar_of u.name u.id → ⊥) → t e ≡ s e

abbrev pub AreColumnwise : Scalars → Type 0
AreColumnwise u = (upper : ℤ) (s : Store) (each : ℤ → Store) → AreColumns u (wholes (pos u.lower) upper) s each → Columnwise u (wholes (pos u.lower) upper) s each
