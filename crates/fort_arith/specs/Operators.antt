-- The operators on whole numbers, ISO/IEC 1539-1:2018 10.1.5.2 and 10.1.5.5. That an operation traps where its exact value isn't in the kind is this project's own choice.
use Rattle.std.specs.Prelude.{Bool, true, false, not, Option, Some, None, ℤ, ◌+ℤ◌, ◌-ℤ◌, ◌*ℤ◌, int_lt, int_le}
use Rattle.std.specs.Option.{option_and_then}
use Rattle.std.specs.Ordering.{int_eq}
use Rattle.fort_arith.specs.declared.kind.Kind.{Kind}
use Rattle.fort_arith.specs.declared.op.Op.{Op}
use Rattle.fort_arith.specs.declared.op.Op.TheVariants.{Pow, Mul, Div, Add, Sub, Eq, Ne, Lt, Le, Gt, Ge, And, Or, Eqv, Neqv}
use Rattle.fort_arith.specs.Range.{fitted}
use Rattle.fort_arith.specs.Power.{quotient, exact_power}

abbrev pub is_arithmetic : Op → Bool
is_arithmetic Pow = true
is_arithmetic Mul = true
is_arithmetic Div = true
is_arithmetic Add = true
is_arithmetic Sub = true
is_arithmetic Eq = false
is_arithmetic Ne = false
is_arithmetic Lt = false
is_arithmetic Le = false
is_arithmetic Gt = false
is_arithmetic Ge = false
is_arithmetic And = false
is_arithmetic Or = false
is_arithmetic Eqv = false
is_arithmetic Neqv = false

abbrev pub is_relation : Op → Bool
is_relation Pow = false
is_relation Mul = false
is_relation Div = false
is_relation Add = false
is_relation Sub = false
is_relation Eq = true
is_relation Ne = true
is_relation Lt = true
is_relation Le = true
is_relation Gt = true
is_relation Ge = true
is_relation And = false
is_relation Or = false
is_relation Eqv = false
is_relation Neqv = false

-- the exact value of an arithmetic operation in the whole numbers, where it exists; other operators have none
unfoldable pub exact : Op → ℤ → ℤ → Option ℤ
exact Pow a b = exact_power a b
exact Mul a b = Some (a *ℤ b)
exact Div a b = quotient a b
exact Add a b = Some (a +ℤ b)
exact Sub a b = Some (a -ℤ b)
exact Eq a b = None
exact Ne a b = None
exact Lt a b = None
exact Le a b = None
exact Gt a b = None
exact Ge a b = None
exact And a b = None
exact Or a b = None
exact Eqv a b = None
exact Neqv a b = None

-- the value of an operation in a kind: the exact one, where it exists and is in the kind; none where the run traps
unfoldable pub applied : Op → Kind → ℤ → ℤ → Option ℤ
applied op kind a b = option_and_then (fitted kind) (exact op a b)

-- the truth of a relation; other operators are no relations, and have false
unfoldable pub compared : Op → ℤ → ℤ → Bool
compared Pow a b = false
compared Mul a b = false
compared Div a b = false
compared Add a b = false
compared Sub a b = false
compared Eq a b = int_eq a b
compared Ne a b = not (int_eq a b)
compared Lt a b = int_lt a b
compared Le a b = int_le a b
compared Gt a b = int_lt b a
compared Ge a b = int_le b a
compared And a b = false
compared Or a b = false
compared Eqv a b = false
compared Neqv a b = false
