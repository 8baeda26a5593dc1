use Rattle.std.proofs.Common.{◌∙◌}
use Rattle.std.proofs.lemmas.List.{length-map}
use Rattle.fort_tables.specs.Order.{texts}
use Rattle.claw_lines.proofs.Texts.{found_holds}
use Rattle.claw_lines.proofs.taking.holds.Goals as goal

pub returns : goal.returns
returns g c =
    c.is_some.ensures ∙ found_holds (texts c.args.table.now.words.now) c.args.text.now _ c.find.result (length-map c.args.table.now.words.now _ ∙ c.args.table.now.count) c.find.ensures
