-- The modules that each module of a file names in its USE lines, by number.
use Rattle.std.specs.Prelude.{ℕ, List, map, filter_map, position}
use Rattle.std.specs.Str.{bytes_eq}
use Rattle.fort_tree.specs.declared.unit.Module.{Module}
use Rattle.fort_tree.specs.declared.unit.Use.{Use}
use Rattle.claw_meaning.specs.Syntax.{Text}
use Rattle.numbered_graph.specs.Graphs.{Rows}

-- by the names of all modules
abbrev pub named_by : List Text → List Use → List ℕ
named_by names lines = filter_map (λ line. position (bytes_eq line.name) names) lines

abbrev pub links_among : List Text → List Module → Rows
links_among names modules = map (λ m. named_by names m.uses) modules
