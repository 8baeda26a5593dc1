use Rattle.std.proofs.Common.{rules, ◌+◌, ◌≤◌, take, length, sym, subst, ap, arith, List, ℕ}
use Rattle.fort_tree.specs.declared.statement.Line.{Line}
use Rattle.claw_top.specs.Limits.{total_length}
use Rattle.claw_top.specs.Outcome.{bytes_of}
use Rattle.fort_tree.specs.declared.choice.Mode.TheVariants.{Source}
use Rattle.fort_lex.specs.Lines.{IsFirstTextFault}
use Rattle.claw_top.specs.Sources.{HasLines, HaveLines, HaveTextStop, AreBefore}
use Rattle.claw_top.proofs.Collecting.{next-lines, next-before, next-few, stops, one-length}
use Rattle.claw_top.proofs.compiling.all_lines.Goals as goal

-- src/compiling.rt
pub lines-requires : goal.lines-requires
lines-requires c =
    let most = one-length c.args.sources.now c.loop-source.source-index c.source-item.result c.loop-source-test.true c.source-item.is in
    let small = c.requires.small in
    let same = ap (λ (x : List ℕ). length x) c.as_slice.ensures.value in
    omega (arith, most, small, same)

pub loop-source-preserved : goal.loop-source-preserved
loop-source-preserved c =
    let new = c.in_ok-lines.ensures.ok in
    let before = c.loop-source.invariant in
    let lines : HasLines c.loop-source.file c.source-item.result.items new.0 =
    subst (λ text. HasLines c.loop-source.file text new.0) c.as_slice.ensures.value new.2 in
    record {
      file = ap (λ n. n + 1) before.file;
      lines = subst (HaveLines (bytes_of (take (c.loop-source.source-index + 1) c.args.sources.now))) (sym new.1)
          (next-lines c.args.sources.now c.loop-source.source-index c.loop-source.file c.source-item.result c.loop-source.all new.0 c.loop-source-test.true c.source-item.is
          before.file before.lines lines);
      in_files = subst (AreBefore (c.loop-source.source-index + 1)) (sym new.1)
          (next-before c.loop-source.source-index c.loop-source.file c.source-item.result.items c.loop-source.all new.0 before.file before.in_files lines);
      few = subst (λ (ls : List Line). length ls ≤ total_length (bytes_of (take (c.loop-source.source-index + 1) c.args.sources.now)) + (c.loop-source.source-index + 1)) (sym new.1)
          (next-few c.args.sources.now c.loop-source.source-index c.loop-source.file c.source-item.result c.loop-source.all new.0 c.loop-source-test.true c.source-item.is before.few lines);
    }

pub returns-in_err-lines-clause-stop : goal.returns-in_err-lines-clause-stop
returns-in_err-lines-clause-stop c =
    let stopped : HaveTextStop (bytes_of c.args.sources.now) c.in_err-lines.field-0.0 =
    stops c.args.sources.now c.loop-source.source-index c.loop-source.file c.source-item.result c.loop-source.all c.in_err-lines.field-0.0 c.loop-source-test.true c.source-item.is
    c.loop-source.invariant.file c.loop-source.invariant.lines
    (λ fault is. subst (λ text. IsFirstTextFault c.loop-source.file Source text fault) c.as_slice.ensures.value (c.in_err-lines.ensures.fault fault is)) in
    search (rules, stopped, c.from_residual.ensures)
