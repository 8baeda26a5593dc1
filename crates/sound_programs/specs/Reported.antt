-- Faults of names, calls and kinds as they are reported.
use Rattle.std.specs.Prelude.{◌≡◌, List, None, ⊤}
use Rattle.fort_tree.specs.declared.fault.Fault.{Fault}
use Rattle.fort_tree.specs.declared.fault.Stop.{Stop}
use Rattle.fort_tree.specs.declared.fault.Stop.TheVariants.{Fault as Fails, NoMemory}
use Rattle.sound_programs.specs.Faults.{Found, IsLeast}

-- a code at a place: of these faults no more is to say
abbrev pub fault_of : Found → Fault
fault_of found = record { code = found.code; place = found.at; item = 0; first = None; second = None }

-- the first of these faults, or that memory was refused
abbrev pub IsStopBy : List Found → Stop → Type 0
IsStopBy faults (Fails fault) = (found : Found) × IsLeast faults found × (fault ≡ fault_of found)
IsStopBy faults NoMemory = ⊤
