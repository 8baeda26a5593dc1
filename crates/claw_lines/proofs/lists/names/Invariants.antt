use Rattle.std.proofs.Common.{◌≡◌, [], length}
use Rattle.claw_lines.specs.Items.{free_item}
use Rattle.claw_lines.specs.Steps.{listed_from}
use Rattle.claw_lines.proofs.lists.names.Given as goal

abbrev pub invariant-loop-token : goal.invariant-loop-token
invariant-loop-token l = listed_from (free_item l.word) l.names l.left ≡ listed_from (free_item l.word) [] l.tokens

abbrev pub decreases-loop-token : goal.decreases-loop-token
decreases-loop-token l = length l.left
