use Rattle.std.proofs.Common.{arith}
use Rattle.fort_units.proofs.AddLaws.{has_first, nests_so, few_so, is_program}
use Rattle.fort_units.proofs.reading.read.Goals as goal

pub nested-requires-clause-few : goal.nested-requires-clause-few
nested-requires-clause-few c =
    omega (
      arith,
      c.requires,
      few_so c.args.lines.now c.in_ok-gathered.gathered c.mode_of-mode.result c.items.result.now c.in_ok-nesting.nesting c.in_ok-gathered.ensures c.mode_of-mode.ensures c.items.ensures
          c.in_ok-nesting.ensures c.in-None.ensures,
    )

pub nested-requires-clause-nest : goal.nested-requires-clause-nest
nested-requires-clause-nest c =
    nests_so c.args.lines.now c.in_ok-gathered.gathered c.mode_of-mode.result c.items.result.now c.in_ok-nesting.nesting c.in_ok-gathered.ensures c.mode_of-mode.ensures c.items.ensures
    c.in_ok-nesting.ensures c.in-None.ensures

pub returns-in-Some : goal.returns-in-Some
returns-in-Some c =
    has_first c.args.lines.now c.in_ok-gathered.gathered c.mode_of-mode.result c.items.result.now c.in_ok-nesting.nesting c.in-Some.fault c.in_ok-gathered.ensures c.mode_of-mode.ensures c.items.ensures
    c.in_ok-nesting.ensures c.in-Some.ensures

pub returns-in_ok-nested-in-None : goal.returns-in_ok-nested-in-None
returns-in_ok-nested-in-None c =
    is_program c.args.lines.now c.in_ok-gathered.gathered c.mode_of-mode.result c.items.result.now c.in_ok-nesting.nesting c.in_ok-nested-in-None.field-0 c.in_ok-gathered.ensures c.mode_of-mode.ensures
    c.items.ensures c.in_ok-nesting.ensures c.in-None.ensures c.in_ok-nested-in-None.ensures
