use Rattle.std.proofs.Common.{◌≡◌, ◌++◌, drop, map}
use Rattle.sound_programs.specs.Walks as walks
use Rattle.unit_steps.proofs.names.note_listed.Given as goal

abbrev pub invariant-loop-name : goal.invariant-loop-name
invariant-loop-name l = l.into.items ++ map (λ x. walks.named x l.at) (drop l.name-index l.names) ≡ l.fn.into.items ++ map (λ x. walks.named x l.at) l.names
