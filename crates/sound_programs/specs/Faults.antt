-- Each fault of names, calls and kinds as a predicate on a file and a place; the phases in which they are sought; the first
-- fault.
use Rattle.std.specs.Prelude.{◌≡◌, List, [], ◌++◌, map, Bool, ◌&&◌, ◌||◌, not, IsTrue, nat_lt, nat_eq}
use Rattle.std.specs.List.{list_any, list_all}
use Rattle.fort_tree.specs.Code.{code_number}
use Rattle.fort_tree.specs.declared.choice.Mode.{Mode}
use Rattle.fort_tree.specs.declared.fault.Code.{Code}
use Rattle.fort_tree.specs.declared.fault.Code.TheVariants.{E30, E31, E32, E33, E34, E35, E36, E37, E38, E39, E3A, E3B, E71}
use Rattle.fort_tree.specs.declared.place.Place.{Place}
use Rattle.fort_tree.specs.declared.unit.File.{File}
use Rattle.sound_programs.specs.Places.{same_place, is_earlier, At}
use Rattle.sound_programs.specs.Placed.{Program}
use Rattle.sound_programs.specs.Placing.{placed}
use Rattle.sound_programs.specs.NameFaults.{undeclared_names, unit_faults}
use Rattle.sound_programs.specs.DeclarationFaults.{declared_twice, module_faults, intent_faults}
use Rattle.sound_programs.specs.LoopFaults.{loop_faults}
use Rattle.sound_programs.specs.CallFaults.{recursions, size_faults}
use Rattle.sound_programs.specs.KindFaults.{kind_faults}
use Rattle.sound_programs.specs.RankFaults.{rank_faults}
use Rattle.sound_programs.specs.ArgumentFaults.{count_faults, alias_faults, write_faults}

-- Names

abbrev pub UndeclaredName : File → Place → Type 0
UndeclaredName file = At (undeclared_names (placed file))

abbrev pub DeclaredTwice : File → Place → Type 0
DeclaredTwice file = At (declared_twice (placed file))

abbrev pub ModuleFault : File → Place → Type 0
ModuleFault file = At (module_faults (placed file))

abbrev pub UnitFault : File → Place → Type 0
UnitFault file = At (unit_faults (placed file))

abbrev pub LoopVariableFault : File → Place → Type 0
LoopVariableFault file = At (loop_faults (placed file))

abbrev pub IntentFault : File → Place → Type 0
IntentFault file = At (intent_faults (placed file))

-- Calls

abbrev pub Recursion : File → Place → Type 0
Recursion file = At (recursions (placed file))

abbrev pub UnitsOrDepth : File → Place → Type 0
UnitsOrDepth file = At (size_faults (placed file))

-- Kinds and ranks

abbrev pub KindFault : File → Place → Type 0
KindFault file = At (kind_faults (placed file))

abbrev pub RankFault : Mode → File → Place → Type 0
RankFault mode file = At (rank_faults mode (placed file))

abbrev pub ArgumentCount : File → Place → Type 0
ArgumentCount file = At (count_faults (placed file))

abbrev pub Alias : File → Place → Type 0
Alias file = At (alias_faults (placed file))

abbrev pub WriteFault : File → Place → Type 0
WriteFault file = At (write_faults (placed file))

-- Phases: each is sought in all files before the next

-- a code at a place
pub record Found : Type 0 where
  pub code : Code
  pub at : Place

abbrev pub found : Code → List Place → List Found
found code places = map (λ at. record { code = code; at = at }) places

abbrev pub faults_of_names : Program → List Found
faults_of_names p =
    found E30 (undeclared_names p)
    ++ (found E31 (declared_twice p)
    ++ (found E34 (module_faults p)
    ++ (found E35 (unit_faults p) ++ (found E39 (loop_faults p) ++ found E3B (intent_faults p)))))

abbrev pub faults_of_calls : Program → List Found
faults_of_calls p = found E36 (recursions p) ++ found E71 (size_faults p)

abbrev pub faults_of_kinds : Mode → Program → List Found
faults_of_kinds mode p =
    found E32 (kind_faults p)
    ++ (found E33 (rank_faults mode p) ++ (found E37 (count_faults p) ++ (found E38 (alias_faults p) ++ found E3A (write_faults p))))

-- The first fault

-- the first comes before the second: by place, and at one place by code
abbrev pub is_before : Found → Found → Bool
is_before a b = is_earlier a.at b.at || (same_place a.at b.at && nat_lt (code_number a.code) (code_number b.code))

abbrev pub is_this : Found → Found → Bool
is_this a b = same_place a.at b.at && nat_eq (code_number a.code) (code_number b.code)

-- one of them, and none comes before it
pub record IsLeast (faults : List Found) (fault : Found) : Type 0 where
  pub among : IsTrue (list_any (is_this fault) faults)
  pub least : IsTrue (list_all (λ other. not (is_before other fault)) faults)

-- the first fault of names, calls and kinds: in the first phase that has one, the least by place and then by code
pub data FirstFault (mode : Mode) (file : File) (fault : Found) : Type 0 where
  of_names : IsLeast (faults_of_names (placed file)) fault → FirstFault mode file fault
  of_calls : faults_of_names (placed file) ≡ [] → IsLeast (faults_of_calls (placed file)) fault → FirstFault mode file fault
  of_kinds : faults_of_names (placed file) ≡ [] → faults_of_calls (placed file) ≡ [] → IsLeast (faults_of_kinds mode (placed file)) fault → FirstFault mode file fault
