use Rattle.std.proofs.Common.{◌≡◌, ◌≤◌, ◌+◌, ◌-◌, take, drop, []}
use Rattle.fort_lex.specs.Rows.{lines_from}
use Rattle.fort_lex.specs.Machine.{lines_taken, new_pass}
use Rattle.fort_lex.specs.Shown.{shown_pass}
use Rattle.fort_lex.proofs.pass.go_over.Given as goal

abbrev pub invariant-loop-i : goal.invariant-loop-i
invariant-loop-i l =
    (l.start ≤ l.i) × (l.number ≤ l.i + 1)
    × (lines_taken l.file l.mode l.number (shown_pass l.pass) (lines_from (take (l.i - l.start) (drop l.start l.text)) (drop l.i l.text))
    ≡ lines_taken l.file l.mode 1 new_pass (lines_from [] l.text))
