-- What units, and those that they reach by references, name and write.
use Rattle.std.specs.Prelude.{◌≡◌, ◌<◌, ℕ, Bool, true, List, [], flat_map, length, Option, Some, None, slice_get, slice_index_or}
use Rattle.std.specs.Option.{option_map, option_to_list}
use Rattle.fort_tree.specs.declared.unit.File.{File}
use Rattle.fort_tree.specs.declared.unit.Unit as tree_unit
use Rattle.claw_meaning.specs.Syntax.{Text}
use Rattle.numbered_graph.specs.Graphs.{stands}
use Rattle.sound_programs.specs.ArgumentFaults.{is_named_by, module_variables_of, module_writes, reached_from}
use Rattle.sound_programs.specs.Faults.{Found}
use Rattle.sound_programs.specs.Placed.{bare_program}
use Rattle.sound_programs.specs.Placing.{placed, placed_unit}
use Rattle.fort_names.specs.declared.least.At.{At}
use Rattle.fort_names.specs.FoundAt.{found_of}
use Rattle.fort_names.specs.Leasts.{noted}
use Rattle.argument_faults.specs.declared.reached.Reached.{Reached}
use Rattle.argument_faults.specs.Marking.{is_marked}
use Rattle.argument_faults.specs.ModuleNames.{HasSame}
use Rattle.argument_faults.specs.ModuleWrites.{IsFirstWrite}

-- each unit of the file has a row of the variables that it names
pub record AreNamed (f : File) (rows : List (List (Text × Text))) : Type 0 where
  pub same_length : length rows ≡ length f.units
  pub named : (n : ℕ) (u : tree_unit.Unit) → slice_get f.units n ≡ Some u → HasSame (slice_index_or rows n []) (module_variables_of (bare_program (placed f)) (placed_unit u))

-- just those variables are marked that the unit, or one that it reaches, names
pub record IsNamedFrom (f : File) (variables : List (Text × Text)) (u : tree_unit.Unit) (marks : List Bool) : Type 0 where
  pub same_length : length marks ≡ length variables
  pub marked : (v : Text × Text) → is_marked variables marks v ≡ is_named_by (placed f) (bare_program (placed f)) u.name v

pub record AreNamedFrom (f : File) (variables : List (Text × Text)) (rows : List (List Bool)) : Type 0 where
  pub same_length : length rows ≡ length f.units
  pub named : (n : ℕ) (u : tree_unit.Unit) → slice_get f.units n ≡ Some u → IsNamedFrom f variables u (slice_index_or rows n [])

-- for each unit of the file what it, or a unit that it reaches, names
pub record IsReached (f : File) (r : Reached) : Type 0 where
  pub marked : AreNamedFrom f r.variables r.marks.items

-- it is where the unit, or one that it reaches, first writes a module variable
abbrev pub IsWrittenFrom : File → tree_unit.Unit → Option At → Type 0
IsWrittenFrom f u write = IsFirstWrite (flat_map (module_writes (bare_program (placed f))) (reached_from (placed f) u.name)) write

pub record AreWrittenFrom (f : File) (writes : List (Option At)) : Type 0 where
  pub same_length : length writes ≡ length f.units
  pub written : (n : ℕ) (u : tree_unit.Unit) → slice_get f.units n ≡ Some u → IsWrittenFrom f u (slice_index_or writes n None)

-- the fault that a write is, if there is one
abbrev pub fault_of : Option At → List Found
fault_of write = option_to_list (option_map found_of write)

-- the write of a unit, and those of the units of these numbers
abbrev pub faults_at : List (Option At) → List ℕ → List Found
faults_at writes numbers = flat_map (λ k. fault_of (slice_index_or writes k None)) numbers

-- these numbers have writes
pub record AreThere (writes : List (Option At)) (numbers : List ℕ) : Type 0 where
  pub there : (k : ℕ) → stands k numbers ≡ true → k < length writes

-- the first of the unit's own write and of those of the units of these numbers
pub record IsFirstFrom (f : File) (n : ℕ) (writes : List (Option At)) (numbers : List ℕ) (first : Option At) : Type 0 where
  pub own : Option At
  pub writes_own : (u : tree_unit.Unit) → slice_get f.units n ≡ Some u → IsFirstWrite (module_writes (bare_program (placed f)) (placed_unit u)) own
  pub first_of : option_map found_of first ≡ noted (faults_at writes numbers) (noted (fault_of own) None)

-- the table has the unit of this number
pub record HasUnit (r : Reached) (n : ℕ) : Type 0 where
  pub there : n < length r.marks.items
  pub same_length : length (slice_index_or r.marks.items n []) ≡ length r.variables

-- the variable is marked for the unit of this number
abbrev pub is_marked_for : Reached → ℕ → Text × Text → Bool
is_marked_for r n v = is_marked r.variables (slice_index_or r.marks.items n []) v
