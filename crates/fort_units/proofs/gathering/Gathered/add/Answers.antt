use Rattle.std.proofs.Common.{arith}
use Rattle.std.proofs.lemmas.List.{nil_from_length}
use Rattle.fort_units.proofs.AddLaws.{adds_nothing}
use Rattle.fort_units.proofs.gathering.Gathered.add.Goals as goal

pub returns-then-len-eq0 : goal.returns-then-len-eq0
returns-then-len-eq0 c = adds_nothing c.args.line.now c.args.self.now c.if-line.false (nil_from_length c.args.line.now.tokens (omega (arith, c.len.ensures, c.if-len-eq0.true)))
