use Rattle.std.proofs.Common.{◌≡◌, drop}
use Rattle.fort_lex.specs.Machine.{fed_directive}
use Rattle.fort_lex.specs.Shown.{shown_directives}
use Rattle.fort_lex.proofs.directives.Directives.feed_all.Given as goal

abbrev pub invariant-loop-c : goal.invariant-loop-c
invariant-loop-c l = fed_directive (shown_directives l.self) (drop l.c-index l.text) ≡ fed_directive (shown_directives l.fn.self) l.text
