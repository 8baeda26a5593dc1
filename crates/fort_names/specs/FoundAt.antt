-- A code at a place, as the faults of programs are listed.
use Rattle.fort_names.specs.declared.least.At.{At}
use Rattle.sound_programs.specs.Faults.{Found}

abbrev pub found_of : At → Found
found_of fault = record { code = fault.code; at = fault.place }
