use Rattle.std.proofs.Common.{◌≡◌, drop}
use Rattle.std.specs.Str.{bytes_eq}
use Rattle.indexmap.specs.IndexMap.{get}
use Rattle.fort_tree.specs.declared.fault.Code.TheVariants.{E31}
use Rattle.sound_programs.specs.Faults.{found}
use Rattle.fort_names.specs.Leasts.{noted}
use Rattle.fort_names.specs.Using.{used_only}
use Rattle.fort_names.proofs.used_names.note_used_only.Given as goal

abbrev pub invariant-loop-named : goal.invariant-loop-named
invariant-loop-named l = noted (found E31 (used_only l.shared (get bytes_eq l.firsts) l.line l.fn.only (drop l.named-index l.only))) l.least ≡ noted (found E31 (used_only l.shared (get bytes_eq l.firsts) l.line l.fn.only l.fn.only)) l.fn.least
