-- The intrinsics by name.
use Rattle.std.specs.Prelude.{ℕ, List, codes, Option, None, Some, if◌then◌else◌}
use Rattle.std.specs.Str.{bytes_eq}
use Rattle.fort_arith.specs.declared.op.Intrinsic.{Intrinsic}
use Rattle.fort_arith.specs.declared.op.Intrinsic.TheVariants.{Abs, Int, Max, Min, Mod, Modulo, Sign, Size, Sum}

-- the intrinsic of a name, if there is one
abbrev pub intrinsic_named : List ℕ → Option Intrinsic
intrinsic_named text =
    if bytes_eq text (codes "abs") then Some Abs else (if bytes_eq text (codes "int") then Some Int else (
    if bytes_eq text (codes "max") then Some Max else (if bytes_eq text (codes "min") then Some Min else (
    if bytes_eq text (codes "mod") then Some Mod else (if bytes_eq text (codes "modulo") then Some Modulo else (
    if bytes_eq text (codes "sign") then Some Sign else (if bytes_eq text (codes "size") then Some Size else (
    if bytes_eq text (codes "sum") then Some Sum else None))))))))
