use mathlib.Core.Path.{refl}
use Rattle.std.proofs.Common.{arith, ℕ, List, [], ◌∷◌}
use Rattle.std.specs.Prelude.{pos}
use Rattle.std.proofs.lemmas.Int.{ints}
use Rattle.claw_meaning.specs.Runs.{HasSmallBounds}
use Rattle.fort_arith.specs.Operators.{applied, exact, compared}
use Rattle.fort_arith.specs.Range.{fitted, in_kind, least, greatest}
use Rattle.courses.specs.Element.{put, same_element}
use Rattle.claw_meaning.specs.AddRuns.{AddRow, AddPremises}
use Rattle.claw_meaning.proofs.rows.scalars_in_columns.Goals as goal

-- src/lib.rt
pub returns-clause-runs : goal.returns-clause-runs
unfolding applied exact compared fitted in_kind least greatest put same_element
returns-clause-runs c = record {
  first_column = refl;
  second_column = refl;
  unmarked = refl;
  rising = refl;
  falling = refl;
  column_traps = refl;
  whole_traps = refl;
}

-- the bounds 1 and 2
small_bounds : HasSmallBounds ((pos 1, pos 2) ∷ [])
small_bounds = ((omega (arith, ints), omega (arith, ints)), (omega (arith, ints), omega (arith, ints)), omega arith, tt)

pub returns-clause-premises : goal.returns-clause-premises
unfolding applied exact compared fitted in_kind least greatest put same_element
returns-clause-premises c =
    record {
      well_typed = (
        (refl, record { kind = refl; bounds = (refl, tt); whole = refl; values = (refl, (refl, tt)) }, tt),
        (
          (refl, record { kind = refl; bounds = (refl, tt); whole = refl; values = (refl, (refl, tt)) }, tt),
          ((refl, record { kind = refl; bounds = tt; whole = refl; values = (refl, tt) }, tt), tt),
        ),
      );
      two_columns = refl;
      small = (tt, (small_bounds, (small_bounds, (tt, tt))));
      small_column = (tt, (tt, tt));
    }
