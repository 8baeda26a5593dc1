-- What runs of small units give.
use Rattle.std.specs.Prelude.{◌≡◌, ℕ, ℤ, pos, negsuc, codes, List, [], ◌∷◌, Option, Some, None}
use Rattle.fort_arith.specs.declared.kind.Kind.TheVariants.{I4}
use Rattle.courses.specs.Element.{Value, Undefined, Whole}
use Rattle.courses.specs.Plans.{Plan, Up, Down}
use Rattle.claw_meaning.specs.Frames.{Frame}
use Rattle.claw_meaning.specs.Runs.{exec, woven_exec, turns_of}
use Rattle.claw_meaning.specs.SmallUnits.{one_unit, two_units, held, scalar_held, whole, bad, leaving, inc, calling, shifting, twice, choosing, dividing, picking}

-- two iterations that share a scalar: 2 in any order, and 1 where each reads before the other writes
pub record LostUpdate : Type 0 where
  pub in_order : (exec (one_unit bad) bad (scalar_held (codes "s") (whole 0) ∷ []) Up).end ≡ Some (scalar_held (codes "s") (whole 2) ∷ [])
  pub backwards : (exec (one_unit bad) bad (scalar_held (codes "s") (whole 0) ∷ []) Down).end ≡ Some (scalar_held (codes "s") (whole 2) ∷ [])
  pub woven : (woven_exec (one_unit bad) bad (scalar_held (codes "s") (whole 0) ∷ []) (0 ∷ 1 ∷ 0 ∷ 1 ∷ [])).end ≡ Some (scalar_held (codes "s") (whole 1) ∷ [])

pub record SmallRuns : Type 0 where
  -- 1 + 2 + 3, and the EXIT at 4; the DO, four iterations, four IFs, three sums and the EXIT are turns
  pub left_at_four : (exec (one_unit leaving) leaving (scalar_held (codes "n") (whole 9) ∷ scalar_held (codes "s") (whole 0) ∷ []) Up).end ≡ Some (scalar_held (codes "n") (whole 9) ∷ scalar_held (codes "s") (whole 6) ∷ [])
  pub counted_turns : turns_of (exec (one_unit leaving) leaving (scalar_held (codes "n") (whole 9) ∷ scalar_held (codes "s") (whole 0) ∷ []) Up) ≡ 13
  pub copied : (exec (two_units calling inc) calling (scalar_held (codes "x") (whole 3) ∷ scalar_held (codes "s") (whole 4) ∷ []) Up).end ≡ Some (scalar_held (codes "x") (whole 3) ∷ scalar_held (codes "s") (whole 8) ∷ [])
  -- 1 2 3 becomes 1 1 2; the sum 4 and the size 3
  pub shifted : (exec (one_unit shifting) shifting (scalar_held (codes "n") (whole 3) ∷ held (codes "q") I4 ((pos 1, pos 3) ∷ []) (whole 1 ∷ whole 2 ∷ whole 3 ∷ []) ∷ scalar_held (codes "s") Undefined ∷ []) Up).end ≡ Some (scalar_held (codes "n") (whole 3) ∷ held (codes "q") I4 ((pos 1, pos 3) ∷ []) (whole 1 ∷ whole 1 ∷ whole 2 ∷ []) ∷ scalar_held (codes "s") (whole 7) ∷ [])
  pub chosen : (exec (two_units choosing twice) choosing (scalar_held (codes "x") (whole 2) ∷ scalar_held (codes "s") Undefined ∷ []) Up).end ≡ Some (scalar_held (codes "x") (whole 2) ∷ scalar_held (codes "s") (whole 10) ∷ [])
  pub not_chosen : (exec (two_units choosing twice) choosing (scalar_held (codes "x") (whole 1) ∷ scalar_held (codes "s") Undefined ∷ []) Up).end ≡ Some (scalar_held (codes "x") (whole 1) ∷ scalar_held (codes "s") (whole 20) ∷ [])
  pub divided : (exec (one_unit dividing) dividing (scalar_held (codes "n") (whole 1) ∷ scalar_held (codes "s") (whole 4) ∷ []) Up).end ≡ Some (scalar_held (codes "n") (whole 1) ∷ scalar_held (codes "s") (whole 5) ∷ [])
  pub divided_by_zero : (exec (one_unit dividing) dividing (scalar_held (codes "n") (whole 0) ∷ scalar_held (codes "s") (whole 4) ∷ []) Up).end ≡ None
  pub picked : (exec (one_unit picking) picking (scalar_held (codes "n") (whole 2) ∷ scalar_held (codes "x") (whole 2) ∷ held (codes "q") I4 ((pos 1, pos 2) ∷ []) (whole 7 ∷ whole 8 ∷ []) ∷ scalar_held (codes "s") Undefined ∷ []) Up).end ≡ Some (scalar_held (codes "n") (whole 2) ∷ scalar_held (codes "x") (whole 2) ∷ held (codes "q") I4 ((pos 1, pos 2) ∷ []) (whole 7 ∷ whole 8 ∷ []) ∷ scalar_held (codes "s") (whole 8) ∷ [])
  pub out_of_bounds : (exec (one_unit picking) picking (scalar_held (codes "n") (whole 2) ∷ scalar_held (codes "x") (whole 3) ∷ held (codes "q") I4 ((pos 1, pos 2) ∷ []) (whole 7 ∷ whole 8 ∷ []) ∷ scalar_held (codes "s") Undefined ∷ []) Up).end ≡ None
