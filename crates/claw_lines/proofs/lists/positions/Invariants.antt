use Rattle.std.proofs.Common.{◌≡◌, [], length}
use Rattle.claw_lines.specs.Items.{position_item}
use Rattle.claw_lines.specs.Steps.{listed_from}
use Rattle.claw_lines.proofs.lists.positions.Given as goal

abbrev pub invariant-loop-token : goal.invariant-loop-token
invariant-loop-token l = listed_from (position_item l.word) l.positions l.left ≡ listed_from (position_item l.word) [] l.tokens

abbrev pub decreases-loop-token : goal.decreases-loop-token
decreases-loop-token l = length l.left
