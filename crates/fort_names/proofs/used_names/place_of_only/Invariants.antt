use Rattle.std.proofs.Common.{◌≡◌, drop}
use Rattle.sound_programs.specs.Scopes.{place_of_only}
use Rattle.fort_names.proofs.used_names.place_of_only.Given as goal

abbrev pub invariant-loop-named : goal.invariant-loop-named
invariant-loop-named l = place_of_only (drop l.named-index l.only) l.name l.place ≡ place_of_only l.fn.only l.name l.place
