-- The rules on arguments, writes and loop variables that a sound program keeps.
use Rattle.std.specs.Prelude.{◌≡◌, IsTrue, false, length, flat_map, Some, None, is_some}
use Rattle.std.specs.List.{filter}
use Rattle.std.specs.Option.{option_to_list}
use Rattle.fort_arith.specs.declared.op.Intrinsic.{Intrinsic}
use Rattle.fort_tree.specs.Intrinsic.{intrinsic_named}
use Rattle.fort_tree.specs.declared.unit.File.{File}
use Rattle.claw_meaning.specs.Syntax as plain
use Rattle.claw_meaning.specs.Syntax.{Text}
use Rattle.claw_meaning.specs.Scope.{Entity}
use Rattle.claw_meaning.specs.Units.{is_intent_in, is_listed}
use Rattle.sound_programs.specs.ArgumentFaults.{takes, same_variable, same_pair, module_variables, module_variables_of, is_fixed, is_writable, names_written}
use Rattle.sound_programs.specs.CallFaults.{calls, sites_of}
use Rattle.sound_programs.specs.Laws.{Each, entity_of}
use Rattle.sound_programs.specs.Links.{Reaches}
use Rattle.sound_programs.specs.LoopFaults.{is_local_integer, loop_variables}
use Rattle.sound_programs.specs.Placed.{Expr, Unit, bare_program}
use Rattle.sound_programs.specs.Placing.{placed}
use Rattle.sound_programs.specs.Scopes.{Of_unit, is_dummy, is_prefix, is_written_intent, unit_of, module_variable}
use Rattle.sound_programs.specs.Walks.{Stands, Step, Site, Actual, actuals, sites, steps_of, parts, parts_of, reference, count_of, is_written, left_of, loop_variable, name_in, name_of_actual, names_in, bounds_in}
use Rattle.checked_programs.specs.Fitting.{EachStep, EachTwo}

-- Arguments

-- each reference to a unit has as many arguments as the unit has dummies, and one to an intrinsic as many as that takes
pub record HasAllArguments (entity : Text → Entity) (step : Step) : Type 0 where
  pub units : Each (sites entity step) (λ s. (v : plain.Unit) → unit_of (entity s.name.name) ≡ Some v → count_of s.args ≡ length v.dummies)
  pub intrinsics : Each (flat_map reference (parts_of step)) (λ s. (which : Intrinsic) → intrinsic_named s.name.name ≡ Some which → IsTrue (takes which (count_of s.args)))

abbrev pub ArgumentsMatch : File → Type 0
ArgumentsMatch file = EachStep file (λ entity u s. HasAllArguments entity s.step)

-- Aliases

-- of two actuals that are references to one variable neither is for OUT or INOUT
abbrev pub AreApart : (Text → Entity) → Actual → Actual → Type 0
AreApart entity a b = IsTrue (same_variable entity a b) → (is_written a ≡ false) × (is_written b ≡ false)

-- no unit that the callee is or reaches names the variable of a module
abbrev pub NoneNames : File → Text → Text × Text → Type 0
NoneNames file callee v =
    Each (placed file).units (λ w. Reaches (calls (placed file)) callee w.name → Each (module_variables_of (bare_program (placed file)) w) (λ n. same_pair v n ≡ false))

-- an actual for OUT or INOUT is a reference to no module variable that the callee or a unit that it reaches names
abbrev pub IsHidden : File → Unit → Text → Actual → Type 0
IsHidden file u callee a =
    IsTrue (is_written a) → Each (module_variables (entity_of file u) u.name (flat_map name_in (option_to_list a.expr))) (NoneNames file callee)

pub record ActualsAreAlone (file : File) (u : Unit) (s : Site) : Type 0 where
  pub apart : EachTwo (AreApart (entity_of file u)) (actuals (entity_of file u) s)
  pub hidden : (v : plain.Unit) → unit_of (entity_of file u s.name.name) ≡ Some v → Each (actuals (entity_of file u) s) (IsHidden file u v.name)

abbrev pub WrittenActualsAreAlone : File → Type 0
WrittenActualsAreAlone file = Each (placed file).units (λ u. Each (sites_of (entity_of file u) u) (ActualsAreAlone file u))

-- Writes

-- no INTENT(IN) dummy and no PARAMETER is assigned, and each actual for OUT or INOUT is a variable that is none of these
pub record WritesAreAllowed (entity : Text → Entity) (step : Step) : Type 0 where
  pub assigned : Each (flat_map name_in (left_of step)) (λ n. is_fixed (entity n.name) ≡ false)
  pub passed : Each (flat_map (actuals entity) (sites entity step)) (λ a. IsTrue (is_written a) → (e : Expr) → a.expr ≡ Some e → IsTrue (is_writable entity e))

-- the unit writes no module variable
abbrev pub WritesNoModule : File → Unit → Type 0
WritesNoModule file u =
    Each (flat_map (λ s. names_written (entity_of file u) s.step) (steps_of u)) (λ n. module_variable u.name n.name (entity_of file u n.name) ≡ None)

-- A function's dummies are INTENT(IN), and neither it nor a unit that it reaches writes a module variable. A type before FUNCTION
-- declares its result, and has no INTENT.
pub record IsPure (file : File) (u : Unit) : Type 0 where
  pub dummies : Each u.decls (λ d. IsTrue (is_dummy (Of_unit u) d.name) → is_prefix u d ≡ false → IsTrue (is_intent_in d.intent))
  pub unwritten : Each u.decls (λ d. IsTrue (is_dummy (Of_unit u) d.name) → is_written_intent d.intent ≡ false)
  pub writes : Each (placed file).units (λ w. Reaches (calls (placed file)) u.name w.name → WritesNoModule file w)

pub record IntentsAreKept (file : File) : Type 0 where
  pub writes : EachStep file (λ entity u s. WritesAreAllowed entity s.step)
  pub functions : Each (placed file).units (λ u. IsTrue (is_some u.result) → IsPure file u)

-- Loops

pub record KeepsLoopVariables (entity : Text → Entity) (u : Unit) (s : Stands) : Type 0 where
  -- the variable of a DO is a local INTEGER scalar, and of no DO around it
  pub local : Each (loop_variable s.step) (λ n. IsTrue (is_local_integer u n.name))
  pub new : Each (loop_variable s.step) (λ n. is_listed s.loops n.name ≡ false)
  -- named in the bodies of its loops alone
  pub inside : Each (names_in s.step) (λ n. IsTrue (is_listed (loop_variables u) n.name) → IsTrue (is_listed s.loops n.name))
  -- not written there
  pub assigned : Each (flat_map name_in (left_of s.step)) (λ n. is_listed s.loops n.name ≡ false)
  pub passed : Each (flat_map (λ a. name_of_actual a.expr) (filter is_written (flat_map (actuals entity) (sites entity s.step)))) (λ n. is_listed s.loops n.name ≡ false)

-- and in no bound of a declaration
abbrev pub NamesNoneInBounds : Unit → Type 0
NamesNoneInBounds u = Each (flat_map name_in (flat_map parts (bounds_in u.decls))) (λ n. is_listed (loop_variables u) n.name ≡ false)

pub record LoopVariablesStayInside (file : File) : Type 0 where
  pub steps : EachStep file KeepsLoopVariables
  pub bounds : Each (placed file).units NamesNoneInBounds
