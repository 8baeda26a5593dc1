use Rattle.std.proofs.Common.{sym, ap, ◌∙◌}
use Rattle.std.specs.Prelude.{position}
use Rattle.sound_programs.specs.ArgumentFaults.{same_pair}
use Rattle.fort_names.proofs.Places.{position_map}
use Rattle.argument_faults.specs.ModuleNames.{pair_of}
use Rattle.argument_faults.proofs.variable_set.VariableSet.place.Goals as goal

-- src/variable_set.rt
pub returns : goal.returns
returns c =
    c.get_index_of.ensures.index ∙ sym (position_map (same_pair (pair_of c.args.variable.now)) pair_of c.self.inside.variables.keys) ∙ ap (position (same_pair (pair_of c.args.variable.now))) c.self.view_is
