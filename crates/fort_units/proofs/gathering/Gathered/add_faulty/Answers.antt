use Rattle.fort_units.specs.Program.{item_of_sketch}
use Rattle.fort_units.proofs.AddLaws.{on_ok, adds_faulty, sketched}
use Rattle.fort_units.proofs.gathering.Gathered.add_faulty.Goals as goal

pub returns : goal.returns
returns c =
    on_ok c.add_sketch.result c.add_sketch.ensures.items c.add_sketch.ensures.forms c.add_sketch.ensures.least
    (λ i f l. adds_faulty c.args.line.now c.args.self.now c.add_sketch.new.self c.args.fault (item_of_sketch c.args.line.now.at c.in_ok-sort.sort) c.requires.statement c.requires.faulty
    (sketched c.args.line.now c.in_ok-sort.sort c.in_ok-sort.ensures) i f l)
