use Rattle.std.proofs.Common.{length, ap, ◌∙◌}
use Rattle.fort_tree.specs.declared.fault.Code.TheVariants.{E31}
use Rattle.fort_names.proofs.Bucketing.{as_many}
use Rattle.fort_names.proofs.DeclaredAre.{all_noted}
use Rattle.fort_names.proofs.declarations.note_declared_twice.Goals as goal

-- src/declarations.rt
pub note_modules-requires : goal.note_modules-requires
note_modules-requires c = ap length (c.as_slice.ensures.value ∙ c.in_ok-lists.ensures) ∙ as_many 0 c.items-modules.result.now c.items-units.result.now

pub returns : goal.returns
returns c =
    all_noted c.args.file.now E31 c.args.shared.now c.in_ok-contested.contested c.in_ok-lists.lists.items c.as_slice.result.now c.items-modules.result.now c.items-units.result.now
    c.args.least.now c.note_modules.new.least c.note_units.new.least c.note_headers.new.least
    c.requires c.in_ok-contested.ensures c.in_ok-lists.ensures c.as_slice.ensures.value c.items-modules.ensures c.items-units.ensures
    c.in_ok-note_modules.ensures c.in_ok-note_units.ensures c.in_ok-note_headers.ensures
