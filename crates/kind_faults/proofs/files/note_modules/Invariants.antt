use Rattle.std.proofs.Common.{◌≡◌, drop, map}
use Rattle.kind_faults.specs.InScopes.{code_of_sought, faults_in_scope}
use Rattle.fort_names.specs.Leasts.{noted}
use Rattle.sound_programs.specs.Faults.{found}
use Rattle.sound_programs.specs.Placing.{placed, placed_module}
use Rattle.sound_programs.specs.Scopes.{Of_module}
use Rattle.std.specs.List.{enumerate_from}
use Rattle.std.specs.Prelude.{flat_map}
use Rattle.kind_faults.proofs.files.note_modules.Given as goal

abbrev pub invariant-loop-number : goal.invariant-loop-number
invariant-loop-number l = noted (found (code_of_sought l.sought) (flat_map (faults_in_scope (placed l.file) l.sought) (map (λ m. Of_module m.0 m.1) (enumerate_from l.number (map placed_module (drop l.number l.modules)))))) l.least
    ≡ noted (found (code_of_sought l.sought) (flat_map (faults_in_scope (placed l.file) l.sought) (map (λ m. Of_module m.0 m.1) (enumerate_from 0 (map placed_module l.modules))))) l.fn.least
