-- What forms do to the file so far, one after the other.
use Rattle.std.specs.Prelude.{List, [], ◌∷◌, Option, Some}
use Rattle.std.specs.Option.{option_and_then}
use Rattle.sound_programs.specs.Forms.{Form, Says, Directs}
use Rattle.form_nesting.specs.declared.nest.Nest.{Nest}
use Rattle.form_nesting.specs.Steps.{say, direct}

abbrev pub step : Form → Nest → Option Nest
step (Says at level) n = say at level n
step (Directs d) n = direct d n

abbrev pub run : List Form → Nest → Option Nest
run [] n = Some n
run (f ∷ fs) n = option_and_then (run fs) (step f n)
