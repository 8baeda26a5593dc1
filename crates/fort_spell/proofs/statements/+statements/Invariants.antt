use Rattle.std.proofs.Common.{map, drop}
use Rattle.fort_spell.specs.Statements.{arm_rows, case_rows, else_if_rows, print_arm, print_case, stmts_rows}
use Rattle.fort_spell.specs.Stream.{Left, rows_shown}
use Rattle.fort_spell.proofs.statements.«+statements».Given as goal

abbrev pub invariant-put_body-loop-stmt : goal.invariant-put_body-loop-stmt
invariant-put_body-loop-stmt g l = Left rows_shown l.fn.so_far l.so_far (g.S.Sink.taken l.fn.sink) (g.S.Sink.taken l.sink) (g.S.Sink.faults l.fn.sink) (g.S.Sink.faults l.sink) (stmts_rows l.fn.body l.fn.indent) (stmts_rows (drop l.stmt-index l.body) l.fn.indent)

abbrev pub invariant-put_arms-loop-arm : goal.invariant-put_arms-loop-arm
invariant-put_arms-loop-arm g l = Left rows_shown l.fn.so_far l.so_far (g.S.Sink.taken l.fn.sink) (g.S.Sink.taken l.sink) (g.S.Sink.faults l.fn.sink) (g.S.Sink.faults l.sink) (arm_rows (map print_arm l.fn.arms) l.fn.indent) (else_if_rows (map print_arm (drop l.arm-index l.rest)) l.fn.indent)

abbrev pub invariant-put_cases-loop-case : goal.invariant-put_cases-loop-case
invariant-put_cases-loop-case g l = Left rows_shown l.fn.so_far l.so_far (g.S.Sink.taken l.fn.sink) (g.S.Sink.taken l.sink) (g.S.Sink.faults l.fn.sink) (g.S.Sink.faults l.sink) (case_rows (map print_case l.fn.cases) l.fn.indent) (case_rows (map print_case (drop l.case-index l.cases)) l.fn.indent)
