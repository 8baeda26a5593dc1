use Rattle.std.proofs.Common.{◌≡◌, ◌++◌, [], map}
use Rattle.fort_lex.specs.Lines.{written}
use Rattle.fort_lex.specs.Machine.{standing, DirectiveState}
use Rattle.fort_lex.specs.Shown.{shown_directives}
use Rattle.fort_lex.proofs.directives.Directives.release.Given as goal

abbrev pub invariant-loop-line : goal.invariant-loop-line
invariant-loop-line l =
    let state : DirectiveState = record {
      reading = l.fn.self.reader;
      waiting = [];
      lines = map written l.fn.self.lines.items ++ map (standing l.within) (map written l.yielded);
      fault = l.fn.self.fault;
    } in
    shown_directives l.self ≡ state
