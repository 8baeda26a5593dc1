use Rattle.std.proofs.Common.{◌≡◌, [], drop}
use Rattle.numbered_graph.specs.Graphs.{firsts_after}
use Rattle.numbered_graph.proofs.numbers.distinct.Given as goal

abbrev pub invariant-loop-number : goal.invariant-loop-number
invariant-loop-number l = firsts_after l.set.keys (drop l.number-index l.numbers) ≡ firsts_after [] l.numbers
