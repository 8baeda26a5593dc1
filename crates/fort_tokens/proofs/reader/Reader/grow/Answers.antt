use Rattle.std.proofs.Common.{sym, ap, ◌∙◌, subst}
use Rattle.fort_tokens.specs.Standing.{HasShape}
use Rattle.fort_tokens.specs.Machine.{goes_on}
use Rattle.fort_tokens.proofs.Standings.{has_shape-more}
use Rattle.fort_tokens.proofs.reader.Reader.grow.Goals as goal

pub invariant_of-self-2 : goal.invariant_of-self-2
invariant_of-self-2 c = subst (HasShape c.args.shape) (sym c.in_ok-push.ensures.ok)
    (has_shape-more c.self.inside.shape c.args.shape c.self.inside.text c.args.c.byte c.self.invariant
    (ap (λ r. goes_on r.shape r.text c.args.c.byte) c.self.view_is ∙ c.requires.goes_on))
