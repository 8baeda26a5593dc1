use Rattle.std.proofs.Common.{◌≡◌, take}
use Rattle.std.specs.Str.{bytes_eq}
use Rattle.fort_tree.specs.declared.fault.Code.TheVariants.{E31}
use Rattle.indexmap.specs.IndexMap.{get}
use Rattle.sound_programs.specs.Faults.{found}
use Rattle.sound_programs.specs.DeclarationFaults.{seconds}
use Rattle.fort_names.specs.Leasts.{noted}
use Rattle.fort_names.specs.Twice.{IsFirstPlace}
use Rattle.fort_names.proofs.doubles.note_seconds.Given as goal

abbrev pub invariant-loop-one : goal.invariant-loop-one
invariant-loop-one l = record {
  firsts : IsFirstPlace (take l.one-index l.named) (get bytes_eq l.firsts);
  noted : l.least ≡ noted (found E31 (seconds (take l.one-index l.named))) l.fn.least;
}
