-- Declarations, one after the other.
use Rattle.std.proofs.Common.{◌≡◌, Bool, true, false, List, ◌∷◌, ◌++◌, map, if◌then◌else◌, Option, refl, ap, ◌∙◌}
use Rattle.std.specs.List.{filter}
use Rattle.fort_tree.specs.declared.fault.Code.TheVariants.{E33}
use Rattle.sound_programs.specs.Faults.{Found, found}
use Rattle.sound_programs.specs.Placed.{Decl}
use Rattle.sound_programs.specs.Places.{where_place}
use Rattle.sound_programs.specs.RankFaults.{places_of_decls}
use Rattle.fort_names.specs.Leasts.{noted}
use Rattle.kind_faults.proofs.Places.{noted_two}

-- one at which the test holds, or not
pub decl_first : (test : Decl → Bool) (d : Decl) (l : List Decl) → places_of_decls test (d ∷ l) ≡ where_place (test d) d.at ++ places_of_decls test l
decl_first test d l = go (test d)
  where
    go : (b : Bool) → map (λ (x : Decl). x.at) (if b then d ∷ filter test l else filter test l) ≡ where_place b d.at ++ places_of_decls test l
    go true = refl
    go false = refl

-- two tests of the same declarations
pub two_tests : (f g : Decl → Bool) (ds es : List Decl) (old mid new : Option Found) → ds ≡ es → mid ≡ noted (found E33 (places_of_decls f ds)) old → new ≡ noted (found E33 (places_of_decls g ds)) mid →
    new ≡ noted (found E33 (places_of_decls f es ++ places_of_decls g es)) old
two_tests f g ds es old mid new is first second =
    noted_two E33 (places_of_decls f ds) (places_of_decls g ds) old mid new first second ∙ ap (λ l. noted (found E33 (places_of_decls f l ++ places_of_decls g l)) old) is
