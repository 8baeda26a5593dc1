-- What the laws of units of column scalars and of plain units say.
use Rattle.std.specs.Prelude.{◌≡◌, ℕ, [], ◌∷◌, map, Some, None, Bool, true, false, slice_get}
use Rattle.std.specs.List.{IsDistinct}
use Rattle.std.specs.Str.{bytes_eq}
use Rattle.courses.specs.Plans.{Plan}
use Rattle.fort_tree.specs.declared.choice.Target.TheVariants.{Cpu}
use Rattle.fort_tree.specs.declared.choice.Directives.TheVariants.{Plain}
use Rattle.fort_tree.specs.declared.unit.Unit as tree
use Rattle.claw_meaning.specs.Syntax.{Text, Unit, Program}
use Rattle.claw_meaning.specs.Scope.{unit_within}
use Rattle.claw_meaning.specs.Units.{is_column_unit, is_listed}
use Rattle.claw_meaning.specs.Frames.{Frame}
use Rattle.claw_meaning.specs.Runs.{exec, Apart}
use Rattle.claw_meaning.specs.Kept.{KeepsUnit, KeepsColumnUnit}
use Rattle.claw_meaning.specs.Interface.{AreWide, UnitInterface, widening_of}
use Rattle.claw_meaning.specs.Erasure.{erased_unit, bare_unit, behind_guard}
use Rattle.claw_meaning.specs.Spread.{spreading, SpreadStmts, are_unmarked, has_routine}
use Rattle.column_scalars.specs.Scalars.{Scalars, IsScalars, Distinct, source_unit, wide_unit}
use Rattle.column_scalars.specs.Standing.{StandsIn, DeclareOnce, widening_there}
use Rattle.column_scalars.specs.Widened.{HasDimension, widened}
use Rattle.plain_units.specs.Translated.{TranslatesUnit, Translates, ArePlain}
use Rattle.scalar_units.specs.Scalars.{IsScalarsUnit}
use Rattle.scalar_units.specs.Unbuilt.{of_unit}

-- a unit of which nothing is unbuilt is one of column scalars
abbrev pub BuiltLaw : Type 0
BuiltLaw = (u : tree.Unit) → of_unit u ≡ [] → IsScalarsUnit u × HasDimension u

-- where units of column scalars may stand
abbrev pub StandingLaw : Type 0
StandingLaw = (p : Program) (u : Scalars) → IsScalars u → unit_within p None u.upper ≡ None → Distinct (u.name ∷ map (λ m. m.name) p.modules) → DeclareOnce p.modules → StandsIn p u

pub record UnitLaws : Type 0 where
  pub built : BuiltLaw
  pub standing : StandingLaw
  pub widened_is : (u : Scalars) → widened (source_unit u) ≡ wide_unit u
  pub keeps : (u : Scalars) → IsScalars u → (source target : Program) → StandsIn source u → target.modules ≡ source.modules → (plan : Plan) → KeepsColumnUnit source target (source_unit u) (wide_unit u) plan
  pub apart : (u : Scalars) → IsScalars u → (target : Program) (frame : Frame) (plan : Plan) → Apart (exec target (wide_unit u) frame plan)
  pub varying : (u : Scalars) → IsScalars u → (p : Program) → AreWide p (source_unit u) (λ x. is_listed u.dummies x)
  pub interface : (u : Scalars) → IsScalars u → (p : Program) → StandsIn p u → UnitInterface p (source_unit u) (wide_unit u) (widening_there p u)
  pub erased : (u : Scalars) → IsScalars u → (p : Program) → StandsIn p u → erased_unit p (source_unit u) (widening_there p u) (wide_unit u) ≡ bare_unit p (source_unit u)
  pub spread : (u : Scalars) → IsScalars u → (p : Program) → SpreadStmts (spreading p (source_unit u) (widening_there p u) Cpu Plain (λ x. false)) (behind_guard true (wide_unit u).body)
  pub routine : (u : Scalars) → has_routine (wide_unit u) ≡ false
  pub column_translated : (s : Program) (u t : Unit) (wide : Text → Bool) → is_column_unit u ≡ true → UnitInterface s u t (widening_of s u wide) → IsDistinct bytes_eq (map (λ d. d.name) u.decls) → TranslatesUnit u t
  pub plain_kept : (s t : Program) → Translates s t → ArePlain s → (i : ℕ) (u v : Unit) → slice_get s.units i ≡ Some u → slice_get t.units i ≡ Some v → is_column_unit u ≡ false → (plan : Plan) (frame : Frame) → KeepsUnit s t u v plan frame
  pub plain_apart : (s t : Program) → Translates s t → ArePlain s → (i : ℕ) (u v : Unit) → slice_get s.units i ≡ Some u → slice_get t.units i ≡ Some v → is_column_unit u ≡ false → (plan : Plan) (frame : Frame) → Apart (exec t v frame plan)
  pub plain_interface : (s t : Program) → Translates s t → ArePlain s → (i : ℕ) (u v : Unit) → slice_get s.units i ≡ Some u → slice_get t.units i ≡ Some v → is_column_unit u ≡ false → (wide : Text → Bool) → UnitInterface s u v (widening_of s u wide)
  pub plain_erased : (s t : Program) → Translates s t → ArePlain s → (i : ℕ) (u v : Unit) → slice_get s.units i ≡ Some u → slice_get t.units i ≡ Some v → is_column_unit u ≡ false → (wide : Text → Bool) → erased_unit s u (widening_of s u wide) v ≡ bare_unit s u
  pub plain_unmarked : (s t : Program) → Translates s t → ArePlain s → (i : ℕ) (u v : Unit) → slice_get s.units i ≡ Some u → slice_get t.units i ≡ Some v → is_column_unit u ≡ false → are_unmarked v.body ≡ true
  pub plain_routine : (s t : Program) → Translates s t → ArePlain s → (i : ℕ) (u v : Unit) → slice_get s.units i ≡ Some u → slice_get t.units i ≡ Some v → is_column_unit u ≡ false → has_routine v ≡ false
