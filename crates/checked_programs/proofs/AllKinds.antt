-- Lists of faults that are noted one after the other are noted as one list.
use Rattle.std.proofs.Common.{◌≡◌, ◌∙◌, List, ◌++◌, Option}
use Rattle.sound_programs.specs.Faults.{Found}
use Rattle.fort_names.specs.Leasts.{noted}
use Rattle.fort_names.proofs.FirstOf.{noted_append}

pub all_noted : (a b c d e : List Found) (r : Option Found) → noted (a ++ (b ++ (c ++ (d ++ e)))) r ≡ noted e (noted d (noted c (noted b (noted a r))))
all_noted a b c d e r =
    noted_append a (b ++ (c ++ (d ++ e))) r ∙ noted_append b (c ++ (d ++ e)) (noted a r)
    ∙ noted_append c (d ++ e) (noted b (noted a r)) ∙ noted_append d e (noted c (noted b (noted a r)))
