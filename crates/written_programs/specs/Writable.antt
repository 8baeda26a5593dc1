-- Units that can be written, and programs that are written unit by unit.
use Rattle.std.specs.Prelude.{◌≡◌, List, [], map}
use Rattle.std.specs.List.{AllZip}
use Rattle.fort_tree.specs.declared.choice.Mode.TheVariants.{Target}
use Rattle.fort_tree.specs.declared.unit.Unit as tree_unit
use Rattle.claw_meaning.specs.Plain.{plain_unit}
use Rattle.claw_meaning.specs.Syntax.{Unit, Program}
use Rattle.sound_programs.specs.Forms.{Form}
use Rattle.sound_programs.specs.Nesting.{IsUnit}
use Rattle.column_scalars.specs.Scalars.{Scalars, IsScalars, source_unit, wide_unit}
use Rattle.layout_reading.specs.FormLines.{TokenLine, HaveForms}
use Rattle.plain_units.specs.Regrouped.{regrouped}
use Rattle.plain_units.specs.Undirected.{IsUndirected}

-- Lines of tokens have forms that are the unit in a target text, places set aside, however they were written.
pub record CanBeWritten (u : Unit) : Type 0 where
  pub lines : List TokenLine
  pub forms : List Form
  pub written : tree_unit.Unit
  pub have : HaveForms lines forms
  pub nest : IsUnit Target u.host forms written []
  pub same : plain_unit written ≡ u

-- the second can be written in the place of the first
abbrev pub CanReplace : Unit → Unit → Type 0
CanReplace u t = (t.host ≡ u.host) × CanBeWritten t

-- A unit without directives is written with its declarations in their groups, and a unit of column scalars for all columns.
pub data IsWrittenAs : Unit → Unit → Type 0 where
  as_it_is : {u : Unit} → IsUndirected u → IsWrittenAs u (regrouped u)
  for_all_columns : {u t : Unit} (s : Scalars) → IsScalars s → u ≡ source_unit s → t ≡ wide_unit s → IsWrittenAs u t

-- the second program has the units of the first, written so, in the same places
pub record UnitByUnit (R : Unit → Unit → Type 0) (source written : Program) : Type 0 where
  pub modules : written.modules ≡ source.modules
  pub order : written.order ≡ source.order
  pub units : AllZip R source.units written.units

-- the program with its units' declarations in their groups
abbrev pub all_regrouped : Program → Program
all_regrouped p = record { modules = p.modules; units = map regrouped p.units; order = p.order }
