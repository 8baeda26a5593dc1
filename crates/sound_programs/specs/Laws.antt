-- What the laws of sound programs state.
use Rattle.std.specs.Prelude.{◌≡◌, IsTrue, ◌⊎◌, Some, List, map, flat_map}
use Rattle.std.specs.List.{AllByRecursion, IsDistinct}
use Rattle.std.specs.Str.{bytes_eq}
use Rattle.fort_tree.specs.declared.choice.Mode.{Mode}
use Rattle.fort_tree.specs.declared.unit.File.{File}
use Rattle.claw_meaning.specs.Syntax.{Text}
use Rattle.claw_meaning.specs.Scope.{Entity}
use Rattle.claw_meaning.specs.Kinds.{kind_of, kind_of_entity}
use Rattle.fort_arith.specs.declared.kind.Kind.{Kind}
use Rattle.sound_programs.specs.Kinding.{kind}
use Rattle.sound_programs.specs.CallFaults.{referrals, calls}
use Rattle.sound_programs.specs.Links.{Reaches}
use Rattle.sound_programs.specs.Placed.{Expr, bare, Unit, bare_program}
use Rattle.sound_programs.specs.Placing.{placed}
use Rattle.sound_programs.specs.Scopes.{Of_unit, scopes, declared, entity_in, is_variable_or_constant, is_subroutine}
use Rattle.sound_programs.specs.Walks.{steps_of, parts_read, bare_name, call_name}
use Rattle.sound_programs.specs.Faults.{Found, FirstFault}
use Rattle.sound_programs.specs.Sound.{Sound}

-- each of the list
abbrev pub Each : {A : Type 0} → List A → (A → Type 0) → Type 0
Each xs P = AllByRecursion P xs

-- No reference of a sound program lies on a cycle: the unit to which it refers reaches the unit in which it stands in no
-- number of references.
abbrev pub HasNoCycle : File → Type 0
HasNoCycle file = Each (referrals (placed file)) (λ r. ¬ (Reaches (calls (placed file)) r.to r.from))

-- In each scope of a sound program a name is declared once at most.
abbrev pub DeclaresOnce : File → Type 0
DeclaresOnce file = Each (scopes (placed file)) (λ s. IsDistinct bytes_eq (map (λ n. n.name) (declared (placed file) s)))

-- Each name without parentheses that a statement of a sound program reads is a variable or a constant, and each CALL names a
-- SUBROUTINE.
abbrev pub entity_of : File → Unit → Text → Entity
entity_of file u = entity_in (bare_program (placed file)) (Of_unit u)

abbrev pub NamesAreKnown : File → Type 0
NamesAreKnown file =
    Each (placed file).units (λ u. Each (steps_of u) (λ s. Each (flat_map bare_name (parts_read s.step)) (λ n. IsTrue (is_variable_or_constant (entity_of file u n.name)))))

abbrev pub CallsAreKnown : File → Type 0
CallsAreKnown file =
    Each (placed file).units (λ u. Each (steps_of u) (λ s. Each (call_name s.step) (λ n. IsTrue (is_subroutine (entity_of file u n.name)))))

-- a sound program has no first fault
abbrev pub HasNoFirstFault : Mode → File → Type 0
HasNoFirstFault mode file = (fault : Found) → ¬ (FirstFault mode file fault)

-- a program into which forms nest is sound or has a first fault
abbrev pub SoundOrFaulty : Mode → File → Type 0
SoundOrFaulty mode file = Sound mode file ⊎ ((fault : Found) × FirstFault mode file fault)

-- Where no fault leaves the kind of an expression open, it is the kind that the meaning gives it.
abbrev pub KindsAgree : Type 0
KindsAgree =
    (entity : Text → Entity) (e : Expr) (k : Kind) → kind entity e ≡ Some k → kind_of (λ x. kind_of_entity (entity x)) (bare e) ≡ k
