-- What the small programs show.
use Rattle.std.specs.Prelude.{◌≡◌, ℕ, List, [], ◌∷◌, ◌++◌}
use Rattle.fort_tree.specs.declared.choice.Mode.{Mode}
use Rattle.fort_tree.specs.declared.fault.Code.{Code}
use Rattle.fort_tree.specs.declared.place.Place.{Place}
use Rattle.sound_programs.specs.Placed.{Program}
use Rattle.sound_programs.specs.Faults.{Found, faults_of_names, faults_of_calls, faults_of_kinds}

-- all faults of a program, phase by phase
abbrev pub all_faults : Mode → Program → List Found
all_faults mode p = faults_of_names p ++ (faults_of_calls p ++ faults_of_kinds mode p)

-- it has no fault
abbrev pub HasNone : Mode → Program → Type 0
HasNone mode p = all_faults mode p ≡ []

-- these are all its faults
abbrev pub HasAll : Mode → Program → List Found → Type 0
HasAll mode p faults = all_faults mode p ≡ faults

abbrev pub fault : Code → ℕ → ℕ → Found
fault code line column = record { code = code; at = record { file = 0; line = line; column = column } }

-- it has this fault and no other
abbrev pub HasOnly : Mode → Program → Code → Place → Type 0
HasOnly mode p code at = all_faults mode p ≡ record { code = code; at = at } ∷ []
