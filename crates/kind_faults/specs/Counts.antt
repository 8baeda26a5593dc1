-- Where the number of arguments of one reference differs.
use Rattle.std.specs.Prelude.{List, not}
use Rattle.fort_tree.specs.declared.place.Place.{Place}
use Rattle.fort_tree.specs.Intrinsic.{intrinsic_named}
use Rattle.claw_meaning.specs.Syntax.{Text}
use Rattle.claw_meaning.specs.Scope.{Entity}
use Rattle.sound_programs.specs.ArgumentFaults.{unit_takes, intrinsic_takes}
use Rattle.sound_programs.specs.Places.{where_place}
use Rattle.sound_programs.specs.Scopes.{unit_of}
use Rattle.sound_programs.specs.Walks.{Site, count_of}

-- of a reference to a unit
abbrev pub unit_count : (Text → Entity) → Site → List Place
unit_count entity s = where_place (not (unit_takes (unit_of (entity s.name.name)) (count_of s.args))) s.name.at

-- of a reference to an intrinsic
abbrev pub intrinsic_count : Site → List Place
intrinsic_count s = where_place (not (intrinsic_takes (intrinsic_named s.name.name) (count_of s.args))) s.name.at
