-- What is computed of a placed program holds of the file that it is.
use Rattle.std.proofs.Common.{◌≡◌, List, [], sym, subst}
use Rattle.std.proofs.lemmas.Bool.{false≢true}
use Rattle.fort_tree.specs.declared.place.Place.{Place}
use Rattle.sound_programs.specs.Placed.{Program}
use Rattle.sound_programs.specs.Places.{At}
use Rattle.sound_programs.specs.Placing.{placed}
use Rattle.sound_programs.specs.Writing.{file_of}
use Rattle.sound_programs.specs.Sound.{Nowhere}
use Rattle.sound_programs.proofs.RoundTrip.{placed-file_of}

-- a fact of a placed program, of its file
pub on_file : (Fact : Program → Type 0) (p : Program) → Fact p → Fact (placed (file_of p))
on_file Fact p fact = subst Fact (sym (placed-file_of p)) fact

-- an empty list has no place
pub nowhere : (places : List Place) → places ≡ [] → Nowhere (At places)
nowhere places none place among = absurd (false≢true (subst (λ l. At l place) none among))
