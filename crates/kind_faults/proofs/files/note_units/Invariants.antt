use Rattle.std.proofs.Common.{◌≡◌, drop, map}
use Rattle.kind_faults.specs.InScopes.{code_of_sought, faults_in_scope}
use Rattle.fort_names.specs.Leasts.{noted}
use Rattle.sound_programs.specs.Faults.{found}
use Rattle.sound_programs.specs.Placing.{placed, placed_unit}
use Rattle.sound_programs.specs.Scopes.{Of_unit}
use Rattle.std.specs.Prelude.{flat_map}
use Rattle.kind_faults.proofs.files.note_units.Given as goal

abbrev pub invariant-loop-number : goal.invariant-loop-number
invariant-loop-number l = noted (found (code_of_sought l.sought) (flat_map (faults_in_scope (placed l.file) l.sought) (map Of_unit (map placed_unit (drop l.number l.units))))) l.least
    ≡ noted (found (code_of_sought l.sought) (flat_map (faults_in_scope (placed l.file) l.sought) (map Of_unit (map placed_unit l.units)))) l.fn.least
