use Rattle.std.proofs.Common.{Bool, List, map, ap, ◌∙◌}
use Rattle.fort_tree.specs.declared.unit.Use.{Use}
use Rattle.claw_meaning.specs.Plain.{plain_unit}
use Rattle.scalar_units.specs.Units.{is_header}
use Rattle.scalar_units.specs.Unbuilt.{unless, noted, of_decls, of_marks, of_body}
use Rattle.scalar_units.proofs.Firsts.{five_parts}
use Rattle.scalar_units.proofs.unbuilt.note_unit.Goals as goal

-- src/unbuilt.rt
pub returns : goal.returns
returns c =
    let u = c.args.unit.now in
    five_parts (unless (is_header (plain_unit u)) u.at) (map (λ line. line.at) u.uses) (of_decls u u.decls) (of_marks u u.marks) (of_body u u.body)
    c.args.least c.note_unless-least.result c.note_uses-least.result c.note_decls-least.result c.note_marks-least.result c.note_body.result
    (c.note_unless-least.ensures ∙ ap (λ (b : Bool). noted (unless b u.at) c.args.least) c.is_header.ensures)
    (c.note_uses-least.ensures ∙ ap (λ (l : List Use). noted (map (λ line. line.at) l) c.note_unless-least.result) c.items.ensures)
    c.note_decls-least.ensures c.note_marks-least.ensures c.note_body.ensures
