use Rattle.std.proofs.Common.{◌≡◌, [], subst, Option, MatchOption}
use Rattle.fort_names.specs.declared.least.At.{At}
use Rattle.fort_names.specs.FoundAt.{found_of}
use Rattle.sound_programs.specs.Faults.{faults_of_calls, IsLeast}
use Rattle.sound_programs.specs.Placing.{placed}
use Rattle.call_graph.specs.CallGraphs.{IsCallGraph}
use Rattle.call_graph.proofs.Graphing.{is_graph_of}
use Rattle.call_graph.proofs.graphs.graph_of.Goals as goal

-- src/graphs.rt
pub returns-in-None-clause-graph : goal.returns-in-None-clause-graph
returns-in-None-clause-graph c =
    let calls = c.in_ok-calls.calls in
    let faults = faults_of_calls (placed calls.file.now) in
    let sound : faults ≡ [] = subst (λ (o : Option At). MatchOption o (faults ≡ []) (λ at. IsLeast faults (found_of at))) c.in-None.is c.in_ok-at.ensures in
    subst (λ f. IsCallGraph f c.into_graph.result) c.in_ok-calls.ensures.file
    (is_graph_of calls c.in_ok-calls.ensures.calls sound c.into_graph.result c.into_graph.ensures.order c.into_graph.ensures.callees)

pub returns-in-Some-clause-stop : goal.returns-in-Some-clause-stop
returns-in-Some-clause-stop c =
    let faults = faults_of_calls (placed c.in_ok-calls.calls.file.now) in
    let least : IsLeast faults (found_of c.in-Some.at) = subst (λ (o : Option At). MatchOption o (faults ≡ []) (λ at. IsLeast faults (found_of at))) c.in-Some.is c.in_ok-at.ensures in
    (found_of c.in-Some.at, subst (λ f. IsLeast (faults_of_calls (placed f)) (found_of c.in-Some.at)) c.in_ok-calls.ensures.file least, c.new.ensures)
