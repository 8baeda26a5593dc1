use Rattle.fort_units.proofs.AddLaws.{on_ok, adds_whole}
use Rattle.fort_units.proofs.gathering.Gathered.add_statement_line.Goals as goal

pub returns-in-Ok : goal.returns-in-Ok
returns-in-Ok c =
    on_ok c.add_statement.result c.add_statement.ensures.items c.add_statement.ensures.forms c.add_statement.ensures.least
    (λ i f l. adds_whole c.args.line.now c.args.self.now c.add_statement.new.self c.in-Ok.statement c.requires.statement c.in-Ok.ensures i f l)

pub add_faulty-requires-clause-faulty : goal.add_faulty-requires-clause-faulty
add_faulty-requires-clause-faulty c = rw c.in-Err-Fault.field-0-is at c.in-Err-Fault.ensures
