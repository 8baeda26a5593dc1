use Rattle.std.proofs.Common.{◌≡◌, drop}
use Rattle.fort_lex.specs.Machine.{put_all}
use Rattle.fort_lex.specs.Shown.{shown_statements}
use Rattle.fort_lex.proofs.statements.Statements.put_all.Given as goal

abbrev pub invariant-loop-c : goal.invariant-loop-c
invariant-loop-c l = put_all l.mode (shown_statements l.self) (drop l.c-index l.text) ≡ put_all l.mode (shown_statements l.fn.self) l.text
