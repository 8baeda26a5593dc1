-- Each unit of a program nests from forms that are said.
use Rattle.std.proofs.Common.{◌≡◌, ℕ, List, [], ◌∷◌, Option, refl, map, Contains}
use Rattle.std.specs.List.{AllByRecursion}
use Rattle.std.proofs.lemmas.List.Elements.{All-from_recursion, All-contains}
use Rattle.fort_tree.specs.declared.choice.Mode.{Mode}
use Rattle.fort_tree.specs.declared.statement.Line.{Line}
use Rattle.fort_tree.specs.declared.unit.File.{File}
use Rattle.fort_tree.specs.declared.unit.Item as tree_item
use Rattle.fort_tree.specs.declared.unit.Module.{Module}
use Rattle.fort_tree.specs.declared.unit.Unit as tree_unit
use Rattle.fort_units.specs.Program.{mode_of, IsProgram}
use Rattle.claw_meaning.specs.Plain.{plain_file, plain_unit}
use Rattle.claw_meaning.specs.Syntax as plain
use Rattle.sound_programs.specs.Forms.{Form}
use Rattle.sound_programs.specs.Nesting as nesting
use Rattle.sound_programs.specs.Nesting.{IsUnit, AreUnits, Contained, IsModule, Nests_from}
use Rattle.layout_reading.proofs.Elements.{each_append}
use Rattle.written_programs.proofs.Behind.{head_left, unit_left, module_left}
use Rattle.written_programs.proofs.LinesSaid.{program_said}
use Rattle.written_programs.proofs.SaidForms.{IsSaidForm, AreSaid}

module _ (mode : Mode) where
  -- said forms are a unit with this plain tree
  pub record IsSaidUnit (u : plain.Unit) : Type 0 where
    pub host : Option ℕ
    pub forms : List Form
    pub rest : List Form
    pub tree : tree_unit.Unit
    pub nest : IsUnit mode host forms tree rest
    pub said : AreSaid forms
    pub same : plain_unit tree ≡ u

  abbrev IsSaidTree : tree_unit.Unit → Type 0
  IsSaidTree x = IsSaidUnit (plain_unit x)

  said_unit : {host : Option ℕ} {fs rest : List Form} {x : tree_unit.Unit} → IsUnit mode host fs x rest → AreSaid fs → IsSaidTree x
  said_unit {host = host} {fs = fs} {rest = rest} {x = x} u k = record { host = host; forms = fs; rest = rest; tree = x; nest = u; said = k; same = refl }

  units_said : {host : Option ℕ} {fs rest : List Form} {us : List tree_unit.Unit} → AreUnits mode host fs us rest → AreSaid fs → AllByRecursion IsSaidTree us
  units_said nesting.no_more_units k = tt
  units_said (nesting.a_unit u us) k = (said_unit u k, units_said us (unit_left mode IsSaidForm u k))

  contained_said : {number : ℕ} {fs rest : List Form} {us : List tree_unit.Unit} → Contained mode number fs us rest → AreSaid fs → AllByRecursion IsSaidTree us
  contained_said nesting.contains_none k = tt
  contained_said (nesting.contains us) k = units_said us k.1

  module_said : {number : ℕ} {fs rest : List Form} {a : Module} {us : List tree_unit.Unit} → IsModule mode number fs a us rest → AreSaid fs → AllByRecursion IsSaidTree us
  module_said (nesting.a_module h c e) k = contained_said c (head_left mode IsSaidForm h k.1)

  program_units : {m u : ℕ} {fs : List Form} {ms : List Module} {us : List tree_unit.Unit} {order : List tree_item.Item} → Nests_from mode m u fs ms us order → AreSaid fs → AllByRecursion IsSaidTree us
  program_units nesting.no_more k = tt
  program_units (nesting.unit_first a others) k = (said_unit a k, program_units others (unit_left mode IsSaidForm a k))
  program_units (nesting.module_first {us = us} {vs = vs} a others) k = each_append IsSaidTree us vs (module_said a k) (program_units others (module_left mode IsSaidForm a k))

  mapped_units : (us : List tree_unit.Unit) → AllByRecursion IsSaidTree us → AllByRecursion IsSaidUnit (map plain_unit us)
  mapped_units [] h = tt
  mapped_units (u ∷ us) h = (h.0, mapped_units us h.1)

-- each unit of the program
pub all_units : {lines : List Line} {file : File} → IsProgram lines file → AllByRecursion (IsSaidUnit (mode_of lines)) (plain_file file).units
all_units {lines = lines} {file = file} p = mapped_units (mode_of lines) file.units (program_units (mode_of lines) p.nests (program_said p))

-- a unit among them
pub a_unit : {lines : List Line} {file : File} (u : plain.Unit) → IsProgram lines file → Contains (plain_file file).units u → IsSaidUnit (mode_of lines) u
a_unit {lines = lines} {file = file} u p c =
    let us = (plain_file file).units in All-contains (IsSaidUnit (mode_of lines)) us u (All-from_recursion (IsSaidUnit (mode_of lines)) us (all_units p)) c
