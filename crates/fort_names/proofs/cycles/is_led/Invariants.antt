use Rattle.sound_programs.specs.Links.{leads_within}
use Rattle.fort_names.specs.Circles.{AreThose}
use Rattle.fort_names.proofs.cycles.is_led.Given as goal

abbrev pub invariant-loop-round : goal.invariant-loop-round
invariant-loop-round l = AreThose l.names (λ x. leads_within l.links l._round x l.to)
