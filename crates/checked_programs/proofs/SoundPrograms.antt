-- A program into which forms nest, and which has no fault in any phase, is sound.
use Rattle.std.proofs.Common.{◌≡◌, List, [], subst, inl, inr}
use Rattle.std.proofs.lemmas.Bool.{false≢true}
use Rattle.fort_tree.specs.declared.choice.Mode.{Mode}
use Rattle.fort_tree.specs.declared.unit.File.{File}
use Rattle.sound_programs.specs.Faults.{Found, FirstFault, IsLeast, of_names, of_calls, of_kinds, faults_of_calls, faults_of_kinds, faults_of_names}
use Rattle.sound_programs.specs.Laws.{SoundOrFaulty}
use Rattle.sound_programs.specs.Placing.{placed}
use Rattle.sound_programs.specs.Sound.{Sound}

no_least : (faults : List Found) (fault : Found) → faults ≡ [] → IsLeast faults fault → ⊥
no_least faults fault none least = false≢true ((subst (λ l. IsLeast l fault) none least).among)

pub sound_of : (mode : Mode) (file : File) → SoundOrFaulty mode file → faults_of_names (placed file) ≡ [] → faults_of_calls (placed file) ≡ [] → faults_of_kinds mode (placed file) ≡ [] → Sound mode file
sound_of mode file (inl sound) names calls kinds = sound
sound_of mode file (inr (fault, first)) names calls kinds = absurd (go first)
  where
    go : FirstFault mode file fault → ⊥
    go (of_names least) = no_least _ fault names least
    go (of_calls n least) = no_least _ fault calls least
    go (of_kinds n c least) = no_least _ fault kinds least
