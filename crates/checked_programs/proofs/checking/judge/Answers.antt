use Rattle.std.proofs.Common.{◌≡◌, [], subst, Option, MatchOption}
use Rattle.fort_names.specs.declared.least.At.{At}
use Rattle.fort_names.specs.FoundAt.{found_of}
use Rattle.sound_programs.specs.Faults.{faults_of_kinds, IsLeast}
use Rattle.sound_programs.specs.Placing.{placed}
use Rattle.checked_programs.proofs.checking.judge.Goals as goal

-- src/checking.rt
pub returns-in-Some-clause-stop : goal.returns-in-Some-clause-stop
returns-in-Some-clause-stop c =
    let faults = faults_of_kinds c.args.mode (placed c.args.file.now) in
    let least : IsLeast faults (found_of c.in-Some.at) = subst (λ (o : Option At). MatchOption o (faults ≡ []) (λ at. IsLeast faults (found_of at))) c.in-Some.is c.in_ok-first_fault.ensures in
    (found_of c.in-Some.at, least, c.new.ensures)
