use Rattle.std.proofs.Common.{take}
use Rattle.fort_tokens.proofs.Feeding.{HasRead}
use Rattle.fort_tokens.proofs.reader.tokens.Given as goal

abbrev pub invariant-loop-c : goal.invariant-loop-c
invariant-loop-c l = HasRead (take l.c-index l.characters) l.reader
