-- A program and what is made of it: the same modules, and unit by unit a plain unit regrouped, or any unit in place of a
-- column unit.
use Rattle.std.specs.Prelude.{◌≡◌, ℕ, List, [], ◌∷◌, map, Some, true, false, slice_get}
use Rattle.std.specs.List.{IsDistinct}
use Rattle.std.specs.Str.{bytes_eq}
use Rattle.claw_meaning.specs.Syntax.{Unit, Program}
use Rattle.claw_meaning.specs.Scope.{Procedure}
use Rattle.claw_meaning.specs.Kinds.{kind_of_entity}
use Rattle.claw_meaning.specs.Units.{is_column_unit}
use Rattle.plain_units.specs.Regrouped.{regrouped}
use Rattle.plain_units.specs.Undirected.{IsUndirected}
use Rattle.plain_units.specs.Calling.{CallsPlain}

-- Of what stands in place of a column unit nothing is known but how others name it: its name, its host, and the kind that
-- its name has.
pub data TranslatesUnit : Unit → Unit → Type 0 where
  plain : {u : Unit} → is_column_unit u ≡ false → TranslatesUnit u (regrouped u)
  column : {u t : Unit} → is_column_unit u ≡ true → t.name ≡ u.name → t.host ≡ u.host → kind_of_entity (Procedure t) ≡ kind_of_entity (Procedure u) → TranslatesUnit u t

pub data TranslatesUnits : List Unit → List Unit → Type 0 where
  none : TranslatesUnits [] []
  next : {u t : Unit} {us ts : List Unit} → TranslatesUnit u t → TranslatesUnits us ts → TranslatesUnits (u ∷ us) (t ∷ ts)

pub record Translates (source target : Program) : Type 0 where
  pub modules : target.modules ≡ source.modules
  pub order : target.order ≡ source.order
  pub units : TranslatesUnits source.units target.units

-- without directives, calling no column unit, and declaring each name once
pub record IsPlain (p : Program) (u : Unit) : Type 0 where
  pub undirected : IsUndirected u
  pub calls : CallsPlain p u
  pub once : IsDistinct bytes_eq (map (λ d. d.name) u.decls)

abbrev pub ArePlain : Program → Type 0
ArePlain p = (i : ℕ) (u : Unit) → slice_get p.units i ≡ Some u → is_column_unit u ≡ false → IsPlain p u
