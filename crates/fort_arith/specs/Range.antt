-- The numbers of each kind, ISO/IEC 1539-1:2018 7.4.3.1. That INTEGER has the signed numbers of 8, 16, 32 and 64 bits is this project's own choice.
use Rattle.std.specs.Prelude.{ℕ, ◌^◌, ◌-◌, Bool, true, false, ◌&&◌, cond, Option, Some, None, ℤ, pos, negsuc, int_le}
use Rattle.fort_arith.specs.declared.kind.Kind.{Kind}
use Rattle.fort_arith.specs.declared.kind.Kind.TheVariants.{I1, I2, I4, I8, Logical}

-- an INTEGER kind
abbrev pub is_whole : Kind → Bool
is_whole I1 = true
is_whole I2 = true
is_whole I4 = true
is_whole I8 = true
is_whole Logical = false

-- the bits of a number of an INTEGER kind, its sign among them
abbrev pub bits : Kind → ℕ
bits I1 = 8
bits I2 = 16
bits I4 = 32
bits I8 = 64
bits Logical = 0

-- the least and the greatest signed number of the kind's bits: -(2 ^ (bits - 1)) and 2 ^ (bits - 1) - 1
unfoldable pub least : Kind → ℤ
least kind = negsuc (2 ^ (bits kind - 1) - 1)

unfoldable pub greatest : Kind → ℤ
greatest kind = pos (2 ^ (bits kind - 1) - 1)

-- v is a number of the kind; LOGICAL has none
unfoldable pub in_kind : Kind → ℤ → Bool
in_kind kind v = is_whole kind && (int_le (least kind) v && int_le v (greatest kind))

-- an exact value as a value of the kind; none where it isn't in the kind, where the run traps
unfoldable pub fitted : Kind → ℤ → Option ℤ
fitted kind v = cond (in_kind kind v) (Some v) None
