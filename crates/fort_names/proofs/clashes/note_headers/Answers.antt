use Rattle.fort_tree.specs.declared.fault.Code.TheVariants.{E31}
use Rattle.fort_names.proofs.HeadersAre.{headers_are}
use Rattle.fort_names.proofs.clashes.note_headers.Goals as goal

-- src/clashes.rt
pub returns : goal.returns
returns c =
    headers_are E31 c.args.file.now c.items.result.now c.items-2.result.now c.in_ok-names.names.items c.as_slice.result.now c.args.least.now c.note_seconds.new.least
    c.items.ensures c.items-2.ensures c.in_ok-names.ensures c.as_slice.ensures.value c.in_ok-_firsts.ensures.noted
