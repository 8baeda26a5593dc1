-- References to units, with their arguments placed.
use Rattle.std.specs.Prelude.{List, map}
use Rattle.sound_programs.specs.Placing.{placed_subs}
use Rattle.sound_programs.specs.Walks as walks
use Rattle.fort_kinds.specs.declared.sites.Site.{Site}

abbrev pub placed_site : Site → walks.Site
placed_site s = record { name = record { name = s.name.now; at = s.at }; args = placed_subs s.args.now }

abbrev pub placed_sites : List Site → List walks.Site
placed_sites list = map placed_site list
