use Rattle.std.proofs.Common.{sym, append_assoc}
use Rattle.fort_tree.specs.Report.{access_text}
use Rattle.fort_spell.proofs.Streams.{put_both, put_as}
use Rattle.fort_spell.proofs.reporting.put_clash.Goals as goal

pub returns : goal.returns
returns g c = put_as _ _ (put_both _ _ c.put_access-so_far.ensures c.put_access.ensures)
    (λ k. sym (append_assoc (access_text c.args.fault.now.first) (access_text c.args.fault.now.second) k))
