-- How a fault is reported.
use Rattle.std.specs.Prelude.{ℕ, List, [], ◌∷◌, ◌++◌, Option, None, Some, codes}
use Rattle.std.specs.Fmt.{decimal}
use Rattle.fort_tree.specs.declared.place.Place.{Place}
use Rattle.fort_tree.specs.declared.fault.Fault.{Fault}
use Rattle.fort_tree.specs.declared.fault.Code.{Code}
use Rattle.fort_tree.specs.declared.fault.Code.TheVariants.{E20, E61, E63, E66}
use Rattle.fort_tree.specs.Code.{code_text, code_meaning}

-- LINE:COLUMN
abbrev pub position_text : Place → List ℕ
position_text place = decimal place.line ++ codes ":" ++ decimal place.column

-- an access behind a blank, where there is one
abbrev pub access_text : Option Place → List ℕ
access_text None = []
access_text (Some place) = codes " " ++ position_text place

-- what stands behind the words: the item of E20, the two accesses of E61, E63 and E66
abbrev pub details_text : Code → Fault → List ℕ
details_text E20 fault = codes " " ++ decimal fault.item
details_text E61 fault = access_text fault.first ++ access_text fault.second
details_text E63 fault = access_text fault.first ++ access_text fault.second
details_text E66 fault = access_text fault.first ++ access_text fault.second
details_text _ fault = []

-- the line FILE:LINE:COLUMN: CODE WORDS with its details, and a line feed
abbrev pub report_of : Fault → List ℕ → List ℕ
report_of fault file =
    file ++ codes ":" ++ position_text fault.place ++ codes ": " ++ code_text fault.code ++ codes " " ++ code_meaning fault.code
    ++ details_text fault.code fault ++ 10 ∷ []
