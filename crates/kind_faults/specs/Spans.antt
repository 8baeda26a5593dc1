-- Ranges of a SELECT in the order of their first numbers.
use Rattle.std.specs.Prelude.{ℤ, List, [], ◌∷◌, Option, None, Some, Bool, true, ◌&&◌, not, if◌then◌else◌}
use Rattle.sound_programs.specs.KindFaults.{is_below}
use Rattle.kind_faults.specs.declared.cases.Choice.{Choice}
use Rattle.kind_faults.specs.Cases.{nobody}

-- one that is known and holds a number, before the others
abbrev pub span_before : Option (Option ℤ × Option ℤ) → List (Option ℤ × Option ℤ) → List (Option ℤ × Option ℤ)
span_before None rest = rest
span_before (Some a) rest = if is_below nobody a.0 a.1 then a ∷ rest else rest

-- those that are known and hold a number
abbrev pub spans_of : List Choice → List (Option ℤ × Option ℤ)
spans_of [] = []
spans_of (c ∷ rest) = span_before c.numbers (spans_of rest)

-- the first number is above all that came before, of which this is the last, or none came
abbrev pub is_beyond : Option (Option ℤ) → Option ℤ → Bool
is_beyond None first = true
is_beyond (Some last) first = not (is_below nobody first last)

-- each is above those before it
abbrev pub ascends : Option (Option ℤ) → List (Option ℤ × Option ℤ) → Bool
ascends last [] = true
ascends last (a ∷ rest) = is_beyond last a.0 && ascends (Some a.1) rest
