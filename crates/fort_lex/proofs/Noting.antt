-- Noting faults one after the other keeps the first.
use Rattle.std.proofs.Common.{◌≡◌, List, [], ◌∷◌, ◌++◌, Option, None, Some, refl}
use Rattle.fort_tree.specs.declared.fault.Fault.{Fault}
use Rattle.fort_tree.specs.declared.place.Place.{Place}
use Rattle.fort_lex.specs.Lines.{bad_token}
use Rattle.fort_lex.specs.Machine.{earlier, noted, token_fault}

pub noted-append : (first : Option Fault) (a b : List Fault) → noted first (a ++ b) ≡ noted (noted first a) b
noted-append first [] b = refl
noted-append first (f ∷ a) b = noted-append (earlier first (Some f)) a b

pub noted-bad : (first : Option Fault) (bad : Option Place) → earlier first (token_fault bad) ≡ noted first (bad_token bad)
noted-bad None None = refl
noted-bad (Some f) None = refl
noted-bad first (Some at) = refl
