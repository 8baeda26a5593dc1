-- Texts that are tokens and texts that are none, and reports of faults.
use Rattle.std.specs.Prelude.{ℕ, List, [], ◌∷◌, Some, None, codes, replicate}
use Rattle.fort_tree.specs.declared.place.Place.{Place}
use Rattle.fort_tree.specs.declared.fault.Fault.{Fault}
use Rattle.fort_tree.specs.declared.fault.Code.TheVariants.{E10, E20, E61}

abbrev pub tokens : List (List ℕ)
tokens =
    codes "x" ∷ codes "nz_1" ∷ replicate 63 97 ∷ codes "0" ∷ codes "007" ∷ codes "5_1" ∷ codes "9223372036854775807" ∷ codes "9223372036854775807_8" ∷
    codes ".true." ∷ codes ".neqv." ∷ codes "::" ∷ codes "/=" ∷ codes "**" ∷ codes "!$claw" ∷ codes "!$omp" ∷ codes "!$acc" ∷ []

abbrev pub no_tokens : List (List ℕ)
no_tokens =
    [] ∷ codes "X" ∷ codes "_x" ∷ codes "a b" ∷ replicate 64 97 ∷ codes "5_" ∷ codes "5_3" ∷ codes "5_16" ∷ codes "9223372036854775808" ∷ codes "1.5" ∷
    codes "5x" ∷ codes ".TRUE." ∷ codes ".xor." ∷ codes "===" ∷ codes "%" ∷ codes "!$" ∷ codes "!" ∷ []

abbrev pub place_at : ℕ → ℕ → Place
place_at line column = record { file = 0; line = line; column = column }

-- a fault of which no more is to say, one with its item, one with its two accesses
abbrev pub syntax_fault : Fault
syntax_fault = record { code = E10; place = place_at 4 9; item = 0; first = None; second = None }

abbrev pub profile_fault : Fault
profile_fault = record { code = E20; place = place_at 12 1; item = 10; first = None; second = None }

abbrev pub clash_fault : Fault
clash_fault = record { code = E61; place = place_at 9 3; item = 0; first = Some (place_at 7 5); second = Some (place_at 11 12) }
