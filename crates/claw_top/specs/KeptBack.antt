-- What keeps a program from being translated.
use Rattle.std.specs.Prelude.{◌++◌, List}
use Rattle.fort_tree.specs.declared.place.Place.{Place}
use Rattle.fort_tree.specs.declared.unit.File.{File}
use Rattle.column_rules.specs.Rules.{broken}
use Rattle.translated_programs.specs.NotBuilt.{unbuilt}

-- the places of what isn't built yet, and the headers of column units that break a rule of such units
abbrev pub kept_back : File → List Place
kept_back file = unbuilt file ++ broken file
