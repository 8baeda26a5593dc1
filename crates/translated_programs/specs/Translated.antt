-- The program that is made of a program of which nothing is unbuilt.
use Rattle.std.specs.Prelude.{◌≡◌, ℕ, map, Option, None, Some, Bool, true, false, slice_get, if◌then◌else◌}
use Rattle.fort_tree.specs.declared.unit.Unit as tree
use Rattle.claw_meaning.specs.Syntax.{Text, Unit, Program}
use Rattle.claw_meaning.specs.Plain.{plain_unit}
use Rattle.claw_meaning.specs.Units.{is_column_unit, is_listed}
use Rattle.column_scalars.specs.Scalars.{Scalars, IsScalars, source_unit, wide_unit}
use Rattle.column_scalars.specs.Widened.{HasDimension, widened}
use Rattle.plain_units.specs.Regrouped.{regrouped}
use Rattle.plain_units.specs.Undirected.{IsUndirected}

-- a column unit for all columns, and any other unit as it is written
abbrev pub translated_unit : Unit → Unit
translated_unit u = if is_column_unit u then widened u else regrouped u

abbrev pub translated : Program → Program
translated p = record { modules = p.modules; units = map translated_unit p.units; order = p.order }

-- the wide variables of a column unit are its dummies, and no other unit has any
abbrev pub wide_of : Option Unit → Text → Bool
wide_of None x = false
wide_of (Some u) x = if is_column_unit u then is_listed u.dummies x else false

-- the wide variables of the unit of that number
abbrev pub wide_in : Program → ℕ → Text → Bool
wide_in p i = wide_of (slice_get p.units i)

-- a column unit has a first directive, which names the dimension
abbrev pub HasItsDimension : tree.Unit → Type 0
HasItsDimension u = is_column_unit (plain_unit u) ≡ true → HasDimension u

-- A unit without directives is written as it is, with its declarations in their groups, and a unit of column scalars for all
-- columns.
pub data IsTranslatable : Unit → Type 0 where
  as_it_is : {u : Unit} → IsUndirected u → translated_unit u ≡ regrouped u → IsTranslatable u
  for_all_columns : {u : Unit} (s : Scalars) → IsScalars s → u ≡ source_unit s → translated_unit u ≡ wide_unit s → IsTranslatable u

-- each unit of the program is so
abbrev pub AreTranslatable : Program → Type 0
AreTranslatable p = (i : ℕ) (u : Unit) → slice_get p.units i ≡ Some u → IsTranslatable u
