use Rattle.std.proofs.Common.{◌≡◌, drop}
use Rattle.std.specs.Str.{bytes_eq}
use Rattle.indexmap.specs.IndexMap.{get}
use Rattle.fort_tree.specs.declared.fault.Code.TheVariants.{E31}
use Rattle.sound_programs.specs.Faults.{found}
use Rattle.fort_names.specs.Leasts.{noted}
use Rattle.fort_names.specs.Using.{used_by_lines}
use Rattle.fort_names.proofs.used_names.note_used_by_lines.Given as goal

abbrev pub invariant-loop-line : goal.invariant-loop-line
invariant-loop-line l = noted (found E31 (used_by_lines l.shared (get bytes_eq l.firsts) l.declared (drop l.line-index l.lines))) l.least ≡ noted (found E31 (used_by_lines l.shared (get bytes_eq l.firsts) l.declared l.fn.lines)) l.fn.least
