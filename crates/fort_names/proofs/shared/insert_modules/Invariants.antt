use Rattle.std.proofs.Common.{◌≡◌, drop}
use Rattle.fort_names.specs.Sharing.{with_modules}
use Rattle.fort_names.proofs.shared.insert_modules.Given as goal

abbrev pub invariant-loop-one : goal.invariant-loop-one
invariant-loop-one l = with_modules l.names (drop l.one-index l.modules) ≡ with_modules l.fn.names l.fn.modules
