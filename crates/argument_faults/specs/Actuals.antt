-- The actual arguments behind references.
use Rattle.std.specs.Prelude.{List, [], ◌∷◌, map, Option, Some, None}
use Rattle.std.specs.Option.{option_copied, option_map}
use Rattle.claw_meaning.specs.Plain.{plain_decl}
use Rattle.claw_meaning.specs.Syntax as plain
use Rattle.sound_programs.specs.Placed.{Subscripts, No_more, One, Section, first}
use Rattle.sound_programs.specs.Placing.{Before, placed_expr}
use Rattle.sound_programs.specs.Walks as walks
use Rattle.argument_faults.specs.declared.actuals.Actual.{Actual}

abbrev pub placed_actual : Actual → walks.Actual
placed_actual a = record {
  expr = option_map placed_expr (option_copied a.expr);
  at = a.at;
  dummy = option_map plain_decl (option_copied a.dummy);
}

abbrev pub placed_actuals : List Actual → List walks.Actual
placed_actuals list = map placed_actual list

-- the actual that the first of these arguments is
abbrev pub first_actual : Option plain.Decl → Subscripts → List walks.Actual
first_actual dummy No_more = []
first_actual dummy (One e rest) = walks.actual (Some e) (first e) dummy ∷ []
first_actual dummy (Section lower upper at rest) = walks.actual None at dummy ∷ []

-- the actual that an argument is, whatever stands behind it
abbrev pub actual_alone : Option plain.Decl → Before → List walks.Actual
actual_alone dummy arg = first_actual dummy (arg No_more)
