-- Faults of the names, calls and kinds of a program stand in the files of its lines.
use Rattle.std.proofs.Common.{◌≡◌, ℕ, ◌<◌, List, [], inl, inr, sym, subst, Ok, Err, IfOk, IfErr}
use Rattle.std.specs.declared.result.Result.{Result}
use Rattle.fort_tree.specs.declared.choice.Mode.{Mode}
use Rattle.fort_tree.specs.declared.choice.Mode.TheVariants.{Source}
use Rattle.fort_tree.specs.declared.fault.Fault.{Fault}
use Rattle.fort_tree.specs.declared.fault.Stop.{Stop}
use Rattle.fort_tree.specs.declared.fault.Stop.TheVariants.{Fault as Fails, NoMemory}
use Rattle.fort_tree.specs.declared.statement.Line.{Line}
use Rattle.fort_tree.specs.declared.unit.File.{File}
use Rattle.sound_programs.specs.Faults.{of_names, of_calls, of_kinds, faults_of_names, faults_of_calls, faults_of_kinds}
use Rattle.sound_programs.specs.Nesting.{Nests}
use Rattle.sound_programs.specs.Reported.{IsStopBy}
use Rattle.sound_programs.specs.Sound.{IsNested}
use Rattle.sound_programs.specs.Placing.{placed}
use Rattle.sound_programs.proofs.FaultsWithin.{at_first_fault}
use Rattle.fort_units.specs.Places.{InFiles}
use Rattle.fort_units.specs.Program.{IsProgram, Answers}
use Rattle.fort_units.proofs.LinePlaces.{first_fault_in_files}
use Rattle.fort_units.proofs.TreePlaces.{program_in_files}
use Rattle.claw_top.specs.Judged.{HasJudgedStop}
use Rattle.claw_top.specs.Sources.{AreBefore, HaveLines, HaveProgramStop}
use Rattle.claw_top.proofs.Modes.{sources_are}

pub stopped_by_names : (program : File) (stop : Stop) → IsStopBy (faults_of_names (placed program)) stop → HasJudgedStop program stop
stopped_by_names program (Fails fault) (found, least, is) = (found, of_names least, is)
stopped_by_names program NoMemory h = tt

pub stopped_by_calls : (program : File) (stop : Stop) → faults_of_names (placed program) ≡ [] → IsStopBy (faults_of_calls (placed program)) stop → HasJudgedStop program stop
stopped_by_calls program (Fails fault) sound (found, least, is) = (found, of_calls sound least, is)
stopped_by_calls program NoMemory sound h = tt

pub stopped_by_kinds : (program : File) (stop : Stop) → faults_of_names (placed program) ≡ [] → faults_of_calls (placed program) ≡ [] → IsStopBy (faults_of_kinds Source (placed program)) stop →
    HasJudgedStop program stop
stopped_by_kinds program (Fails fault) names calls (found, least, is) = (found, of_kinds names calls least, is)
stopped_by_kinds program NoMemory names calls h = tt

-- lines of sources nest as a source
pub nests_as_source : (sources : List (List ℕ)) (lines : List Line) (program : File) → HaveLines sources lines → IsProgram lines program → IsNested Source program
nests_as_source sources lines program are spelled =
    (spelled.judged.forms, subst (λ (mode : Mode). Nests mode spelled.judged.forms program) (sources_are sources lines are) spelled.nests)

pub stops_judged : (count : ℕ) (lines : List Line) (program : File) (stop : Stop) → AreBefore count lines → IsProgram lines program → HasJudgedStop program stop → HaveProgramStop count lines stop
stops_judged count lines program (Fails fault) before spelled (found, first, is) = (
  inr (record { file = program; spelled = spelled; found = found; first = first; is = is }),
  subst (λ (f : Fault). f.place.file < count) (sym is) (at_first_fault (InFiles count) Source program (program_in_files count lines program before spelled) found first),
)
stops_judged count lines program NoMemory before spelled h = tt

pub stops_of : {A : Type 0} (count : ℕ) (lines : List Line) (program : File) (r : Result A Stop) → AreBefore count lines → IsProgram lines program → IfErr r (HasJudgedStop program) → IfErr r (HaveProgramStop count lines)
stops_of count lines program (Ok a) before spelled h = tt
stops_of count lines program (Err stop) before spelled h = stops_judged count lines program stop before spelled h

-- ---- the answer of the reader

pub spelled_by : (lines : List Line) (r : Result File Stop) → Answers lines r → IfOk r (IsProgram lines)
spelled_by lines (Ok file) h = h
spelled_by lines (Err stop) h = tt

pub stops_read : (count : ℕ) (lines : List Line) (stop : Stop) → AreBefore count lines → Answers lines (Err stop) → HaveProgramStop count lines stop
stops_read count lines (Fails fault) before h = (inl h, first_fault_in_files count lines fault before h)
stops_read count lines NoMemory before h = tt
