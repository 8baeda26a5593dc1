use Rattle.std.specs.Prelude.{IsTrue}
use Rattle.sound_programs.specs.Placing.{placed}
use Rattle.sound_programs.proofs.FaultsWithin.{faults_of_names_within, faults_of_calls_within, faults_of_kinds_within, at_first_fault}
use Rattle.sound_programs.proofs.laws.faults_stand_in_the_tree.Goals as goal

-- src/laws.rt
pub returns-clause-names : goal.returns-clause-names
returns-clause-names c = λ test file. faults_of_names_within (λ at. IsTrue (test at)) (placed file)

pub returns-clause-calls : goal.returns-clause-calls
returns-clause-calls c = λ test file. faults_of_calls_within (λ at. IsTrue (test at)) (placed file)

pub returns-clause-kinds : goal.returns-clause-kinds
returns-clause-kinds c = λ test mode file. faults_of_kinds_within (λ at. IsTrue (test at)) mode (placed file)

pub returns-clause-first : goal.returns-clause-first
returns-clause-first c = λ test mode file. at_first_fault (λ at. IsTrue (test at)) mode file
