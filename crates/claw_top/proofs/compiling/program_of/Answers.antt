use Rattle.std.proofs.Common.{rules, length}
use Rattle.claw_top.specs.Sources.{HaveProgramStop}
use Rattle.claw_top.specs.Outcome.{bytes_of}
use Rattle.claw_top.proofs.Judging.{nests_as_source, stops_of, stops_read}
use Rattle.claw_top.proofs.compiling.program_of.Goals as goal

-- src/compiling.rt
pub returns-in_err-program-clause-stop : goal.returns-in_err-program-clause-stop
returns-in_err-program-clause-stop c =
    let stopped : HaveProgramStop (length c.args.sources.now) c.args.lines.now c.in_err-program.field-0.0 =
    stops_read (length c.args.sources.now) c.args.lines.now c.in_err-program.field-0.0 c.requires.in_files c.in_err-program.ensures in
    search (rules, stopped, c.from_residual.ensures)

pub judge-requires : goal.judge-requires
judge-requires c = record { nested = nests_as_source (bytes_of c.args.sources.now) c.args.lines.now c.in_ok-program.program c.requires.lines c.in_ok-program.ensures }

pub returns-clause-stop : goal.returns-clause-stop
returns-clause-stop c =
    stops_of (length c.args.sources.now) c.args.lines.now c.in_ok-program.program c.judge.result c.requires.in_files c.in_ok-program.ensures c.judge.ensures.stop
