use Rattle.fort_units.proofs.AddLaws.{on_ok, adds_directives, adds_unread}
use Rattle.fort_units.proofs.gathering.Gathered.add_directive_line.Goals as goal

pub returns-in-Ok : goal.returns-in-Ok
returns-in-Ok c =
    on_ok c.add_directives.result c.add_directives.ensures.items c.add_directives.ensures.forms c.add_directives.ensures.least
    (λ i f l. adds_directives c.args.line.now c.args.self.now c.add_directives.new.self c.in-Ok.directives c.requires c.in-Ok.ensures i f l)

pub returns-in-Err-Fault : goal.returns-in-Err-Fault
returns-in-Err-Fault c =
    let no_form = rw c.in-Err-Fault.field-0-is at c.in-Err-Fault.ensures in
    on_ok c.add_unread.result c.add_unread.ensures.items c.add_unread.ensures.forms c.add_unread.ensures.least
    (λ i f l. adds_unread c.args.line.now c.args.self.now c.add_unread.new.self c.in-Err-Fault.fault c.requires no_form.0 no_form.1 i f l)
