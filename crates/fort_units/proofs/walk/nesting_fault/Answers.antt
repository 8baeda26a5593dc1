use Rattle.std.proofs.Common.{◌∙◌, sym, subst, None}
use Rattle.std.proofs.lemmas.List.{at_drop_all}
use Rattle.fort_units.specs.Passing.{noted, faults_from, faults, FirstOf}
use Rattle.fort_units.proofs.Noting.{noted_first}
use Rattle.fort_units.proofs.Going.{pass_more}
use Rattle.fort_units.proofs.walk.nesting_fault.Goals as goal

pub loop-item-preserved : goal.loop-item-preserved
loop-item-preserved c =
    pass_more c.args.mode c.loop-item.around c.pass_on.new.around c.loop-item.least.first c.pass_on.new.least.first c.args.items.now c.loop-item.item-index c.item-item.result
    (noted None (faults c.args.mode c.args.items.now)) c.loop-item-test.true c.item-item.is c.in_ok-pass_on.ensures.around c.in_ok-pass_on.ensures.noted c.loop-item.invariant

pub returns : goal.returns
returns c =
    subst (λ first. FirstOf first (faults c.args.mode c.args.items.now))
    (sym (c.end_file.ensures ∙ sym (at_drop_all (λ is. noted c.loop-item.least.first (faults_from c.args.mode c.loop-item.around is)) c.args.items.now c.loop-item.item-index c.loop-item-test.false) ∙ c.loop-item.invariant))
    (noted_first (faults c.args.mode c.args.items.now))
