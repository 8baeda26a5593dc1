-- Lines that can be read.
use Rattle.std.specs.Prelude.{◌<◌, length}
use Rattle.fort_tree.specs.declared.statement.Line.{Line}

-- Each logical line of a text has a token.
abbrev pub HasToken : Line → Type 0
HasToken line = 0 < length line.tokens
