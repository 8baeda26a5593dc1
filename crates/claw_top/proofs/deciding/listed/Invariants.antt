use Rattle.std.proofs.Common.{◌≡◌, take}
use Rattle.claw_words.specs.Command.{texts_of}
use Rattle.claw_top.specs.Outcome.{listed_of}
use Rattle.claw_top.proofs.deciding.listed.Given as goal

abbrev pub invariant-loop-name : goal.invariant-loop-name
invariant-loop-name l = l.files ≡ listed_of (texts_of (take l.name-index l.names))
