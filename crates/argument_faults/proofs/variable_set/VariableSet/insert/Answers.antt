use Rattle.std.proofs.Common.{ap, ◌∙◌}
use Rattle.argument_faults.specs.ModuleNames.{pair_of, pairs, with_variable}
use Rattle.argument_faults.proofs.Marked.{pairs_with}
use Rattle.argument_faults.proofs.variable_set.VariableSet.insert.Goals as goal

-- src/variable_set.rt
pub returns : goal.returns
returns c =
    ap pairs c.in_ok-insert.ensures.keys ∙ pairs_with c.self.inside.variables.keys c.args.variable ∙ ap (λ l. with_variable l (pair_of c.args.variable)) c.self.view_is
