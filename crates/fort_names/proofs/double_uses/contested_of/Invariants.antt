use Rattle.std.proofs.Common.{◌≡◌, [], drop}
use Rattle.fort_names.specs.Using.{contested_from}
use Rattle.fort_names.proofs.double_uses.contested_of.Given as goal

abbrev pub invariant-loop-name : goal.invariant-loop-name
invariant-loop-name l = contested_from l.shared l.names (drop l.name-index l.given) ≡ contested_from l.shared [] l.fn.given
