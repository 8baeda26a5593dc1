use Rattle.std.proofs.Common.{rules, codes, ◌++◌}
use Rattle.outside.specs.Taken.{TookPrefix}
use Rattle.outside.proofs.Puts.{OnErr-map, OnOk-map, Took-three, TookPrefix-longer, second_of_three, third_of_three}
use Rattle.claw_top.specs.Answer.{cannot_read}
use Rattle.claw_top.proofs.reporting.put_unreadable.Goals as goal

pub returns-in_err-put_all-clause-part : goal.returns-in_err-put_all-clause-part
returns-in_err-put_all-clause-part g c =
    let part : TookPrefix (g.S.Sink.taken c.args.sink.now) (g.S.Sink.taken c.put_all.new.sink) (cannot_read c.args.name.now).1
    = TookPrefix-longer _ _ (codes "cannot read ") (c.args.name.now ++ codes "\n") c.in_err-put_all.ensures.part in
    search rules

pub returns-in_err-put_all-2-clause-part : goal.returns-in_err-put_all-2-clause-part
returns-in_err-put_all-2-clause-part g c =
    let part : TookPrefix (g.S.Sink.taken c.args.sink.now) (g.S.Sink.taken c.put_all-2.new.sink) (cannot_read c.args.name.now).1
    = second_of_three _ _ _ (codes "cannot read ") c.args.name.now (codes "\n") c.in_ok-put_all.ensures.took
    (rw c.as_bytes.ensures.value at c.in_err-put_all-2.ensures.part) in
    search rules

pub returns-clause-took : goal.returns-clause-took
returns-clause-took g c = OnOk-map c.put_all-3.result
    (Took-three _ _ _ _ (codes "cannot read ") c.args.name.now (codes "\n") c.in_ok-put_all.ensures.took
    (rw c.as_bytes.ensures.value at c.in_ok-put_all-2.ensures.took))
    c.put_all-3.ensures.took

pub returns-clause-part : goal.returns-clause-part
returns-clause-part g c = OnErr-map c.put_all-3.result
    (third_of_three _ _ _ _ (codes "cannot read ") c.args.name.now (codes "\n") c.in_ok-put_all.ensures.took
    (rw c.as_bytes.ensures.value at c.in_ok-put_all-2.ensures.took))
    c.put_all-3.ensures.part
