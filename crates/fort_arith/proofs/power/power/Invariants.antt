use Rattle.std.proofs.Common.{◌≡◌, ◌^◌, ◌/◌}
use Rattle.fort_arith.specs.Power.{power as power_of}
use Rattle.fort_arith.proofs.power.power.Given as goal

-- the power whose exponent has the digits that were taken
abbrev pub invariant-loop-place : goal.invariant-loop-place
invariant-loop-place l = l.power ≡ power_of l.base (l.exponent / 2 ^ l.place)
