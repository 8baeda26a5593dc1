use Rattle.std.proofs.Common.{◌≡◌, ◌≤◌, ◌+◌, length, take}
use Rattle.claw_top.specs.Limits.{total_length}
use Rattle.claw_top.specs.Outcome.{bytes_of}
use Rattle.claw_top.specs.Sources.{HaveLines, AreBefore}
use Rattle.claw_top.proofs.compiling.all_lines.Given as goal

abbrev pub invariant-loop-source : goal.invariant-loop-source
invariant-loop-source l = record {
  file : l.file ≡ l.source-index;
  lines : HaveLines (bytes_of (take l.source-index l.sources)) l.all;
  in_files : AreBefore l.source-index l.all;
  few : length l.all ≤ total_length (bytes_of (take l.source-index l.sources)) + l.source-index;
}
