-- What the laws of this crate state, in the words of the standard and of whole numbers.
use Rattle.std.specs.Prelude.{◌≡◌, ◌≢◌, ◌<◌, ◌⊎◌, ◌↔◌, IsTrue, Some, None, ℤ, pos, negsuc, neg_ℤ, ◌+ℤ◌, ◌*ℤ◌, ◌≤ℤ◌, ◌<ℤ◌, unsigned_abs, List, [], ◌∷◌}
use Rattle.std.specs.List.{All, Contains}
use Rattle.fort_arith.specs.declared.kind.Kind.TheVariants.{I1, I2, I4, I8}
use Rattle.fort_arith.specs.declared.op.Op.TheVariants.{Pow, Mul, Div, Add, Sub, Eq, Ne, Lt, Le, Gt, Ge}
use Rattle.fort_arith.specs.declared.op.Intrinsic.TheVariants.{Abs, Max, Min, Mod, Modulo, Sign}
use Rattle.fort_arith.specs.Range.{least, greatest}
use Rattle.fort_arith.specs.Operators.{applied, compared}
use Rattle.fort_arith.specs.Intrinsics.{intrinsic_applied}

-- ---- the kinds

-- the least and the greatest number of each kind
pub record Limits : Type 0 where
  pub least_1 : least I1 ≡ neg_ℤ (pos 128)
  pub greatest_1 : greatest I1 ≡ pos 127
  pub least_2 : least I2 ≡ neg_ℤ (pos 32768)
  pub greatest_2 : greatest I2 ≡ pos 32767
  pub least_4 : least I4 ≡ neg_ℤ (pos 2147483648)
  pub greatest_4 : greatest I4 ≡ pos 2147483647
  pub least_8 : least I8 ≡ neg_ℤ (pos 9223372036854775808)
  pub greatest_8 : greatest I8 ≡ pos 9223372036854775807

-- ---- division

-- a is q times p and r more
pub record Splits (a p q r : ℤ) : Type 0 where
  pub whole : a ≡ q *ℤ p +ℤ r

-- r is less than p in size, and isn't on the other side of zero than a
pub record HasSignOfDividend (a p r : ℤ) : Type 0 where
  pub smaller : unsigned_abs r < unsigned_abs p
  pub above : pos 0 ≤ℤ a → pos 0 ≤ℤ r
  pub below : a ≤ℤ pos 0 → r ≤ℤ pos 0

-- r is less than p in size, and isn't on the other side of zero than p
pub record HasSignOfDivisor (p r : ℤ) : Type 0 where
  pub smaller : unsigned_abs r < unsigned_abs p
  pub above : pos 0 ≤ℤ p → pos 0 ≤ℤ r
  pub below : p ≤ℤ pos 0 → r ≤ℤ pos 0

-- a / p truncated toward zero is q, and r is left
abbrev pub Truncates : ℤ → ℤ → ℤ → ℤ → Type 0
Truncates a p q r = Splits a p q r × HasSignOfDividend a p r

-- a / p rounded down is q, and r is left
abbrev pub Floors : ℤ → ℤ → ℤ → ℤ → Type 0
Floors a p q r = Splits a p q r × HasSignOfDivisor p r

-- ---- relations

pub record Relations (a b : ℤ) : Type 0 where
  pub equal : IsTrue (compared Eq a b) ↔ (a ≡ b)
  pub unequal : IsTrue (compared Ne a b) ↔ (a ≢ b)
  pub less : IsTrue (compared Lt a b) ↔ (a <ℤ b)
  pub at_most : IsTrue (compared Le a b) ↔ (a ≤ℤ b)
  pub greater : IsTrue (compared Gt a b) ↔ (b <ℤ a)
  pub at_least : IsTrue (compared Ge a b) ↔ (b ≤ℤ a)

-- ---- intrinsic functions

-- r is |a|
pub record IsAbsolute (a r : ℤ) : Type 0 where
  pub size : (r ≡ a) ⊎ (r ≡ neg_ℤ a)
  pub sign : pos 0 ≤ℤ r

-- r is |a| for b at least 0, and else -|a|
pub record HasSign (a b r : ℤ) : Type 0 where
  pub size : (r ≡ a) ⊎ (r ≡ neg_ℤ a)
  pub positive : pos 0 ≤ℤ b → pos 0 ≤ℤ r
  pub negative : b <ℤ pos 0 → r ≤ℤ pos 0

-- r is one of the arguments, and none is greater
pub record IsGreatest (args : List ℤ) (r : ℤ) : Type 0 where
  pub member : Contains args r
  pub bound : All (λ a. a ≤ℤ r) args

-- r is one of the arguments, and none is less
pub record IsLeast (args : List ℤ) (r : ℤ) : Type 0 where
  pub member : Contains args r
  pub bound : All (λ a. r ≤ℤ a) args

-- ---- edge cases: `negsuc n` is -(n + 1)

pub record OperatorRows : Type 0 where
  pub least_by_minus_one : applied Div I1 (negsuc 127) (negsuc 0) ≡ None
  pub least_as_power : applied Pow I1 (negsuc 1) (pos 7) ≡ Some (negsuc 127)
  pub greatest_passed : applied Pow I8 (pos 2) (pos 63) ≡ None
  pub half_truncated : applied Pow I4 (pos 2) (negsuc 0) ≡ Some (pos 0)
  pub odd_negative_power : applied Pow I4 (negsuc 0) (negsuc 2) ≡ Some (negsuc 0)
  pub zero_to_zero : applied Pow I4 (pos 0) (pos 0) ≡ Some (pos 1)
  pub zero_to_minus_one : applied Pow I4 (pos 0) (negsuc 0) ≡ None
  pub toward_zero : applied Div I4 (negsuc 6) (pos 2) ≡ Some (negsuc 2)
  pub by_zero : applied Div I4 (pos 1) (pos 0) ≡ None
  pub greatest_and_one : applied Add I4 (pos 2147483647) (pos 1) ≡ None
  pub least_less_one : applied Sub I8 (negsuc 9223372036854775807) (pos 1) ≡ None
  pub widest_product : applied Mul I8 (negsuc 4294967295) (pos 2147483648) ≡ Some (negsuc 9223372036854775807)

pub record IntrinsicRows : Type 0 where
  pub mod_has_sign_of_first : intrinsic_applied Mod I4 (negsuc 6 ∷ pos 3 ∷ []) ≡ Some (negsuc 0)
  pub modulo_has_sign_of_second : intrinsic_applied Modulo I4 (negsuc 6 ∷ pos 3 ∷ []) ≡ Some (pos 2)
  pub modulo_of_negative : intrinsic_applied Modulo I4 (pos 7 ∷ negsuc 2 ∷ []) ≡ Some (negsuc 1)
  pub mod_of_zero : intrinsic_applied Mod I4 (pos 7 ∷ pos 0 ∷ []) ≡ None
  pub abs_of_least : intrinsic_applied Abs I1 (negsuc 127 ∷ []) ≡ None
  pub sign_of_least : intrinsic_applied Sign I1 (negsuc 127 ∷ pos 1 ∷ []) ≡ None
  pub sign_keeps_least : intrinsic_applied Sign I1 (negsuc 127 ∷ negsuc 0 ∷ []) ≡ Some (negsuc 127)
  pub sign_of_zero : intrinsic_applied Sign I4 (negsuc 4 ∷ pos 0 ∷ []) ≡ Some (pos 5)
  pub greatest_of_three : intrinsic_applied Max I4 (pos 1 ∷ negsuc 3 ∷ pos 3 ∷ []) ≡ Some (pos 3)
  pub least_of_three : intrinsic_applied Min I4 (pos 1 ∷ negsuc 3 ∷ pos 3 ∷ []) ≡ Some (negsuc 3)
