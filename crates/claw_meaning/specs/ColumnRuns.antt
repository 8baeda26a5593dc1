-- What runs of small column units give, column by column and in their programs for all columns; and what these erase to.
use Rattle.std.specs.Prelude.{◌≡◌, ℕ, ℤ, pos, codes, List, [], ◌∷◌, Option, Some, None}
use Rattle.fort_arith.specs.declared.kind.Kind.TheVariants.{I4}
use Rattle.courses.specs.Element.{Value, Undefined}
use Rattle.courses.specs.Plans.{Plan, Up, Down}
use Rattle.claw_meaning.specs.Frames.{Frame}
use Rattle.claw_meaning.specs.Runs.{exec}
use Rattle.claw_meaning.specs.Columns.{columns, column_run}
use Rattle.claw_meaning.specs.Interface.{widening_of}
use Rattle.claw_meaning.specs.Erasure.{erased_unit, bare_unit}
use Rattle.claw_meaning.specs.SmallUnits.{one_unit, held, scalar_held, whole}
use Rattle.claw_meaning.specs.ColumnUnits.{zero_source, zero_target, zero_frame, pick_source, pick_target, pick_frame, drive_source, drive_target, drive_frame, one_source, one_target, source, target, names_one}

-- without columns nothing is divided; with one, both sides trap where n is zero; with two, each gets its sum
pub record ZeroRuns : Type 0 where
  pub no_column : columns (one_unit zero_source) zero_source (zero_frame 0 0 []) ≡ []
  pub none_runs : (exec (one_unit zero_target) zero_target (zero_frame 0 0 []) Up).end ≡ Some (zero_frame 0 0 [])
  pub column_traps : (column_run (one_unit zero_source) zero_source (zero_frame 0 1 (whole 4 ∷ [])) (pos 1)).end ≡ None
  pub whole_traps : (exec (one_unit zero_target) zero_target (zero_frame 0 1 (whole 4 ∷ [])) Up).end ≡ None
  pub second_column : (column_run (one_unit zero_source) zero_source (zero_frame 1 2 (whole 4 ∷ whole 9 ∷ [])) (pos 2)).end ≡ Some (scalar_held (codes "n") (whole 1) ∷ scalar_held (codes "q") (whole 10) ∷ [])
  pub whole_adds : (exec (one_unit zero_target) zero_target (zero_frame 1 2 (whole 4 ∷ whole 9 ∷ [])) Up).end ≡ Some (zero_frame 1 2 (whole 5 ∷ whole 10 ∷ []))

-- with the subscripts 1 2 1 the columns pick 10 21 30; with a 3 among them both sides trap
pub record PickRuns : Type 0 where
  pub second_column : (column_run (one_unit pick_source) pick_source (pick_frame (whole 1 ∷ whole 2 ∷ whole 1 ∷ []) (Undefined ∷ Undefined ∷ Undefined ∷ [])) (pos 2)).end ≡ Some (scalar_held (codes "nz") (whole 2) ∷ scalar_held (codes "ix") (whole 2) ∷ held (codes "a") I4 ((pos 1, pos 2) ∷ []) (whole 20 ∷ whole 21 ∷ []) ∷ scalar_held (codes "r") (whole 21) ∷ [])
  pub whole_picks : (exec (one_unit pick_target) pick_target (pick_frame (whole 1 ∷ whole 2 ∷ whole 1 ∷ []) (Undefined ∷ Undefined ∷ Undefined ∷ [])) Up).end ≡ Some (pick_frame (whole 1 ∷ whole 2 ∷ whole 1 ∷ []) (whole 10 ∷ whole 21 ∷ whole 30 ∷ []))
  pub column_traps : (column_run (one_unit pick_source) pick_source (pick_frame (whole 1 ∷ whole 2 ∷ whole 3 ∷ []) (Undefined ∷ Undefined ∷ Undefined ∷ [])) (pos 3)).end ≡ None
  pub whole_traps : (exec (one_unit pick_target) pick_target (pick_frame (whole 1 ∷ whole 2 ∷ whole 3 ∷ []) (Undefined ∷ Undefined ∷ Undefined ∷ [])) Up).end ≡ None

-- five of ten elements are set, by five calls and by one
pub record DriveRuns : Type 0 where
  pub by_columns : (exec source drive_source (drive_frame (whole 1 ∷ whole 2 ∷ whole 3 ∷ whole 4 ∷ whole 5 ∷ whole 6 ∷ whole 7 ∷ whole 8 ∷ whole 9 ∷ whole 10 ∷ [])) Up).end ≡ Some (drive_frame (whole 7 ∷ whole 7 ∷ whole 7 ∷ whole 7 ∷ whole 7 ∷ whole 6 ∷ whole 7 ∷ whole 8 ∷ whole 9 ∷ whole 10 ∷ []))
  pub at_once : (exec target drive_target (drive_frame (whole 1 ∷ whole 2 ∷ whole 3 ∷ whole 4 ∷ whole 5 ∷ whole 6 ∷ whole 7 ∷ whole 8 ∷ whole 9 ∷ whole 10 ∷ [])) Up).end ≡ Some (drive_frame (whole 7 ∷ whole 7 ∷ whole 7 ∷ whole 7 ∷ whole 7 ∷ whole 6 ∷ whole 7 ∷ whole 8 ∷ whole 9 ∷ whole 10 ∷ []))

-- guard, loop, dimension and the added dummy and actual go, and nothing else does
pub record ColumnsErased : Type 0 where
  pub zero : erased_unit (one_unit zero_source) zero_source (widening_of (one_unit zero_source) zero_source (names_one (codes "q" ∷ []))) zero_target ≡ bare_unit (one_unit zero_source) zero_source
  pub pick : erased_unit (one_unit pick_source) pick_source (widening_of (one_unit pick_source) pick_source (names_one (codes "ix" ∷ codes "a" ∷ codes "r" ∷ []))) pick_target ≡ bare_unit (one_unit pick_source) pick_source
  pub one : erased_unit source one_source (widening_of source one_source (names_one (codes "r" ∷ []))) one_target ≡ bare_unit source one_source
  pub drive : erased_unit source drive_source (widening_of source drive_source (names_one [])) drive_target ≡ bare_unit source drive_source
