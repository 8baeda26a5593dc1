-- A unit of column scalars as one among others of a program: what its surroundings owe it.
use Rattle.std.specs.Prelude.{◌≡◌, List, [], ◌∷◌, map, ⊤}
use Rattle.claw_meaning.specs.Syntax.{Module, Program}
use Rattle.claw_meaning.specs.Scope.{Unknown, visible}
use Rattle.claw_meaning.specs.Units.{is_listed}
use Rattle.claw_meaning.specs.Interface.{Widening, widening_of}
use Rattle.column_scalars.specs.Scalars.{Scalars, Distinct, source_unit}

-- each module declares a name once
abbrev pub DeclareOnce : List Module → Type 0
DeclareOnce [] = ⊤
DeclareOnce (m ∷ ms) = Distinct (map (λ d. d.name) m.decls) × DeclareOnce ms

-- The name of the upper bound is visible as nothing in the unit, the names of the unit and of the modules differ, and each
-- module declares a name once.
pub record StandsIn (p : Program) (u : Scalars) : Type 0 where
  pub upper : visible p (source_unit u) u.upper ≡ Unknown
  pub names : Distinct (u.name ∷ map (λ m. m.name) p.modules)
  pub declared : DeclareOnce p.modules

-- the unit is widened so: its wide variables are its dummies
abbrev pub widening_there : Program → Scalars → Widening
widening_there p u = widening_of p (source_unit u) (λ x. is_listed u.dummies x)
