-- The call graph of a file without faults of calls.
use Rattle.std.specs.Prelude.{◌≡◌, ℕ, true, cond, nat_lt, List, [], ◌∷◌, map, length, Some, slice_get}
use Rattle.fort_tree.specs.declared.unit.File.{File}
use Rattle.fort_tree.specs.declared.unit.Unit as tree_unit
use Rattle.claw_meaning.specs.Syntax.{Text}
use Rattle.fort_names.specs.NameLists.{with_name}
use Rattle.numbered_graph.specs.Graphs.{Rows, row, times, is_behind, IsGraph}
use Rattle.sound_programs.specs.CallFaults.{referrals_of}
use Rattle.sound_programs.specs.Placed.{bare_program}
use Rattle.sound_programs.specs.Placing.{placed, placed_unit}
use Rattle.call_graph.specs.Referring.{unit_names, name_at}

-- an order of the units, and for each unit those to which it refers, all by their numbers
pub record CallGraph : Type 0 where
  pub order : List ℕ
  pub callees : Rows

-- the names of a list in the order in which each first stands there
abbrev pub names_after : List Text → List Text → List Text
names_after before [] = before
names_after before (x ∷ xs) = names_after (with_name before x) xs

abbrev pub distinct_names : List Text → List Text
distinct_names = names_after []

-- Of each unit the units to which it refers, each once, in the order in which it first refers to them. In the order each unit
-- stands once, and behind all to which it refers.
pub record IsCallGraph (f : File) (g : CallGraph) : Type 0 where
  pub same_length : length g.callees ≡ length f.units
  pub within : IsGraph g.callees
  pub callees : (i : ℕ) (u : tree_unit.Unit) → slice_get f.units i ≡ Some u
      → map (name_at (unit_names f)) (row g.callees i) ≡ distinct_names (map (λ r. r.to) (referrals_of (bare_program (placed f)) (placed_unit u)))
  pub each_once : (x : ℕ) → times x g.order ≡ cond (nat_lt x (length f.units)) 1 0
  pub behind : is_behind g.callees [] g.order ≡ true
